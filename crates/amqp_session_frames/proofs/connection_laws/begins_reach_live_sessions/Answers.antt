use Rattle.amqp_session_frames.proofs.Living.{reached, not_reached}
use Rattle.amqp_session_frames.proofs.connection_laws.begins_reach_live_sessions.Goals as goal

pub returns-clause-reached : goal.returns-clause-reached
returns-clause-reached c = reached

pub returns-clause-not_found : goal.returns-clause-not_found
returns-clause-not_found c = not_reached
