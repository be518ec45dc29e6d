use Rattle.amqp_endpoint_fitting.proofs.Handing.{step-hands, whole-hands}
use Rattle.amqp_endpoint_fitting.proofs.laws.what_leaves_fits.Goals as goal

pub returns-clause-within : goal.returns-clause-within
returns-clause-within g c = λ limit old new step does sends waits least read.
    step-hands g.R.LinkRelay.gives limit step old new least does sends waits.each read

pub returns-clause-whole : goal.returns-clause-whole
returns-clause-whole g c = λ limit old new step does sends ends waits least read.
    whole-hands g.R.LinkRelay.gives limit step old new least does sends ends waits.each read
