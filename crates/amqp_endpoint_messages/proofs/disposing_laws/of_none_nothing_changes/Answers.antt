use Rattle.amqp_endpoint_messages.proofs.Nothing.{none-disposed}
use Rattle.amqp_endpoint_messages.proofs.disposing_laws.of_none_nothing_changes.Goals as goal

pub returns : goal.returns
returns c = none-disposed
