use Rattle.amqp_link_base.proofs.Limits.{never-refused}
use Rattle.amqp_link_base.proofs.flow_laws.no_message_is_refused.Goals as goal

pub returns : goal.returns
returns c = never-refused
