use Rattle.amqp_session_frames.proofs.ReadingLaws.{texts_read}
use Rattle.amqp_session_frames.proofs.laws.written_frames_are_read_back.Goals as goal

pub returns : goal.returns
returns c = texts_read
