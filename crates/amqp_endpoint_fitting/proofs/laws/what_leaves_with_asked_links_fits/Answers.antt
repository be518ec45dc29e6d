use Rattle.std.proofs.Common.{refl}
use Rattle.amqp_endpoint_fitting.proofs.Asked.{asking-gives}
use Rattle.amqp_endpoint_fitting.proofs.laws.what_leaves_with_asked_links_fits.Goals as goal

pub returns : goal.returns
returns g c = λ limit start end steps frames history replies sends ends waits least hands read.
    asking-gives g.R.LinkRelay.gives (((start.session).fields).channel).0 limit replies steps start end frames least
    history refl sends ends waits.each hands read
