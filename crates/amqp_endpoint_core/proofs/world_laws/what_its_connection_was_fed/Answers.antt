use Rattle.amqp_endpoint_core.proofs.Connections.{fed_to_its_connection}
use Rattle.amqp_endpoint_core.proofs.world_laws.what_its_connection_was_fed.Goals as goal

pub returns : goal.returns
returns g c = λ end a b start new steps told is_new run.
    fed_to_its_connection g.S.SessionRelay.does end a b start new steps told is_new run
