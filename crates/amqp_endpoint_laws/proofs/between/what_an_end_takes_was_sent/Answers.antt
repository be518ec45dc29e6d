use Rattle.amqp_endpoint_laws.proofs.Joining.{between}
use Rattle.amqp_endpoint_laws.proofs.between.what_an_end_takes_was_sent.Goals as goal

pub returns : goal.returns
returns g c = λ a b start new steps told accepted_a accepted_b is_new run.
    between g.S.SessionRelay.does a b start new steps told accepted_a accepted_b is_new run
