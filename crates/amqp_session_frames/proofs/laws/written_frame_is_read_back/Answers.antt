use Rattle.amqp_session_frames.proofs.FrameLaws.{frame_written}
use Rattle.amqp_session_frames.proofs.laws.written_frame_is_read_back.Goals as goal

pub returns : goal.returns
returns c = frame_written
