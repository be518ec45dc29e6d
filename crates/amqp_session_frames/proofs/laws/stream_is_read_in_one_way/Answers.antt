use Rattle.amqp_session_frames.proofs.ReadingLaws.{Reads-unique}
use Rattle.amqp_session_frames.proofs.laws.stream_is_read_in_one_way.Goals as goal

pub returns : goal.returns
returns c = Reads-unique
