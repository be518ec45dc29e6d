use Rattle.amqp_endpoint_model.proofs.Recuts.{joined-run}
use Rattle.amqp_endpoint_model.proofs.laws.uncut.Goals as goal

pub returns : goal.returns
returns g c = λ old calls told end run memory.
    (joined-run g.S.SessionRelay.does old calls told end run memory).run
