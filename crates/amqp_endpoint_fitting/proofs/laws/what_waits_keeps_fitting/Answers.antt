use Rattle.amqp_endpoint_fitting.proofs.Handing.{step-channel, step-waits}
use Rattle.amqp_endpoint_fitting.proofs.laws.what_waits_keeps_fitting.Goals as goal

pub returns-clause-fits : goal.returns-clause-fits
returns-clause-fits g c = λ limit old new step does sends waits.
    record {
      each =
          step-waits g.R.LinkRelay.gives ((old.fields).channel).0 limit step old new does sends waits.each;
    }

pub returns-clause-channel : goal.returns-clause-channel
returns-clause-channel g c = λ old new step does. step-channel g.R.LinkRelay.gives step old new does
