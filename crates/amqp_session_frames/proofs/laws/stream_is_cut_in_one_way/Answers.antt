use Rattle.amqp_session_frames.proofs.CuttingLaws.{cut_same}
use Rattle.amqp_session_frames.proofs.laws.stream_is_cut_in_one_way.Goals as goal

pub returns : goal.returns
returns c = cut_same
