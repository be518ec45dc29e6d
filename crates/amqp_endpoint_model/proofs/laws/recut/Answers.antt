use Rattle.amqp_endpoint_model.proofs.Decides.{recut}
use Rattle.amqp_endpoint_model.proofs.laws.recut.Goals as goal

pub returns : goal.returns
returns g c = λ old calls calls2 told told2 end end2 law run run2 same has have.
    recut g.S.SessionRelay.does law old calls calls2 told told2 end end2 run run2 same has have
