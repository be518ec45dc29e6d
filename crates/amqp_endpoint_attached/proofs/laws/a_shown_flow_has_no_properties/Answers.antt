use Rattle.std.proofs.Common.{refl}
use Rattle.amqp_endpoint_attached.proofs.laws.a_shown_flow_has_no_properties.Goals as goal

pub returns : goal.returns
returns c = λ handle receiver. refl
