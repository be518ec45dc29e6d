use Rattle.amqp_endpoint_messages.proofs.Numbers.{no-more-runs}
use Rattle.amqp_endpoint_messages.proofs.outcome_laws.no_more_runs_than_deliveries.Goals as goal

pub returns : goal.returns
returns g c = no-more-runs g.R.LinkRelay.gives
