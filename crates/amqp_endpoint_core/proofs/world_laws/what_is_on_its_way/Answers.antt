use Rattle.amqp_endpoint_core.proofs.OnTheWay.{on_its_way}
use Rattle.amqp_endpoint_core.proofs.world_laws.what_is_on_its_way.Goals as goal

pub returns : goal.returns
returns g c = λ end a b start new steps told is_new run.
    on_its_way g.S.SessionRelay.does end a b start new steps told is_new run
