use Rattle.amqp_session_frames.proofs.ReadingLaws.{Reads-texts}
use Rattle.amqp_session_frames.proofs.laws.taken_frames_were_sent.Goals as goal

pub returns : goal.returns
returns c = Reads-texts
