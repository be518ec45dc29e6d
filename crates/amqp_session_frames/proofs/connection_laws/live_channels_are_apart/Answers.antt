use Rattle.amqp_session_frames.proofs.Living.{live_allowed, live_apart, live_within}
use Rattle.amqp_session_frames.proofs.connection_laws.live_channels_are_apart.Goals as goal

pub returns-clause-apart : goal.returns-clause-apart
returns-clause-apart c = live_apart

pub returns-clause-within : goal.returns-clause-within
returns-clause-within c = live_within

pub returns-clause-allowed : goal.returns-clause-allowed
returns-clause-allowed c = live_allowed
