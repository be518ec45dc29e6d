use Rattle.amqp_session_frames.proofs.Routing.{found, ended, not_ended}
use Rattle.amqp_session_frames.proofs.connection_laws.routes_last_from_begin_to_end.Goals as goal

pub returns-clause-found : goal.returns-clause-found
returns-clause-found c = found

pub returns-clause-ended : goal.returns-clause-ended
returns-clause-ended c = ended

pub returns-clause-not_found : goal.returns-clause-not_found
returns-clause-not_found c = not_ended
