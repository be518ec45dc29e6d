use Rattle.amqp_endpoint_laws.proofs.SessionsKept.{go-on}
use Rattle.amqp_endpoint_laws.proofs.laws.sessions_have_a_history.Goals as goal

pub returns : goal.returns
returns c = λ old end calls told run. go-on old end calls told run
