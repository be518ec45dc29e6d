use Rattle.amqp_endpoint_fitting.proofs.Asked.{asking-channel, asking-waits}
use Rattle.amqp_endpoint_fitting.proofs.laws.what_waits_with_asked_links_keeps_fitting.Goals as goal

pub returns-clause-fits : goal.returns-clause-fits
returns-clause-fits g c = λ limit start end steps history replies sends waits.
    record {
      each =
          asking-waits g.R.LinkRelay.gives (((start.session).fields).channel).0 limit replies steps start end history
          sends waits.each;
    }

pub returns-clause-channel : goal.returns-clause-channel
returns-clause-channel g c = λ start end steps history. asking-channel g.R.LinkRelay.gives steps start end history
