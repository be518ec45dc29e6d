use Rattle.amqp_endpoint_attached.proofs.Fitting.{reply_plain}
use Rattle.amqp_endpoint_attached.proofs.laws.a_reply_has_no_properties.Goals as goal

pub returns : goal.returns
returns c = reply_plain
