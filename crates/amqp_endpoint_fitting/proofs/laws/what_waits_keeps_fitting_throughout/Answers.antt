use Rattle.amqp_endpoint_fitting.proofs.Handing.{history-channel, history-waits}
use Rattle.amqp_endpoint_fitting.proofs.laws.what_waits_keeps_fitting_throughout.Goals as goal

pub returns-clause-fits : goal.returns-clause-fits
returns-clause-fits g c = λ limit start end steps history sends waits.
    record {
      each =
          history-waits g.R.LinkRelay.gives ((start.fields).channel).0 limit steps start end history sends waits.each;
    }

pub returns-clause-channel : goal.returns-clause-channel
returns-clause-channel g c = λ start end steps history. history-channel g.R.LinkRelay.gives steps start end history
