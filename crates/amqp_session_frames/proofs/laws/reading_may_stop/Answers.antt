use Rattle.amqp_session_frames.proofs.ReadingLaws.{Reads-take}
use Rattle.amqp_session_frames.proofs.laws.reading_may_stop.Goals as goal

pub returns : goal.returns
returns c = Reads-take
