use Rattle.amqp_session_frames.proofs.ReadingLaws.{partial-texts}
use Rattle.amqp_session_frames.proofs.laws.part_of_a_frame_is_no_text.Goals as goal

pub returns : goal.returns
returns c = partial-texts
