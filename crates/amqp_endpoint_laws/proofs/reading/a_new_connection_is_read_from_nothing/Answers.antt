use Rattle.amqp_endpoint_laws.proofs.Beginning.{anew-agrees, anew-stands, steps-known}
use Rattle.amqp_endpoint_laws.proofs.reading.a_new_connection_is_read_from_nothing.Goals as goal

pub returns-clause-known : goal.returns-clause-known
returns-clause-known g c = λ start end steps h k. steps-known steps start end h k

pub returns-clause-anew : goal.returns-clause-anew
returns-clause-anew g c = λ s known off live routes.
    (anew-stands s known off live routes, anew-agrees s known off live routes)
