use Rattle.amqp_session_frames.proofs.FrameLaws.{frame_piece}
use Rattle.amqp_session_frames.proofs.laws.frame_is_as_long_as_it_says.Goals as goal

pub returns : goal.returns
returns c = frame_piece
