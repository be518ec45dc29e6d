use Rattle.amqp_endpoint_model.proofs.Decides.{step-decides}
use Rattle.amqp_endpoint_model.proofs.laws.step_decides.Goals as goal

pub returns : goal.returns
returns g c = λ old call a b m n law one other has have.
    step-decides g.S.SessionRelay.does law old call a b m n one other has have
