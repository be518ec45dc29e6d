use Rattle.std.proofs.Common.{refl}
use Rattle.amqp_endpoint_fitting.proofs.Handing.{history-hands}
use Rattle.amqp_endpoint_fitting.proofs.laws.what_leaves_fits_throughout.Goals as goal

pub returns : goal.returns
returns g c = λ limit start end steps history sends ends waits least read.
    history-hands g.R.LinkRelay.gives ((start.fields).channel).0 limit steps start end least history refl sends ends
    waits.each read
