use Rattle.amqp_endpoint_model.proofs.LimitLaws.{limit_kept}
use Rattle.amqp_endpoint_model.proofs.laws.limit_kept.Goals as goal

pub returns : goal.returns
returns g c = λ sessions settings calls told end ok run.
    limit_kept g.S.SessionRelay.does sessions settings calls told end ok run
