use Rattle.amqp_session_frames.proofs.FrameLaws.{frame_same}
use Rattle.amqp_session_frames.proofs.laws.bytes_are_one_frame.Goals as goal

pub returns : goal.returns
returns c = frame_same
