use Rattle.amqp_session_frames.proofs.ReadingLaws.{Reads-append}
use Rattle.amqp_session_frames.proofs.laws.reading_goes_on.Goals as goal

pub returns : goal.returns
returns c = Reads-append
