use Rattle.amqp_session_frames.proofs.Measuring.{open_unsized}
use Rattle.amqp_session_frames.proofs.encoder.FrameEncoder.holds_open.Goals as goal

pub returns-in-Err-clause-no : goal.returns-in-Err-clause-no
returns-in-Err-clause-no c is channel = open_unsized c.args.self.now channel c.args.opening.now
    c.in-Err.ensures.refused.1
