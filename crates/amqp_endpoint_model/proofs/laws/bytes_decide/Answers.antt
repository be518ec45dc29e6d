use Rattle.amqp_endpoint_model.proofs.BytesDecide.{bytes_decide}
use Rattle.amqp_endpoint_model.proofs.laws.bytes_decide.Goals as goal

pub returns : goal.returns
returns g c = λ limit one other a b same. bytes_decide g.S.SessionRelay.does limit one other a b same
