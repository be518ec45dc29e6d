use Rattle.amqp_session_frames.proofs.ReadingLaws.{Reads-front}
use Rattle.amqp_session_frames.proofs.laws.front_reads_a_front.Goals as goal

pub returns : goal.returns
returns c = Reads-front
