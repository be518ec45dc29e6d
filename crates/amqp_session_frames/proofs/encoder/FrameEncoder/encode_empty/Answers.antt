use Rattle.std.proofs.Common.{◌≤◌, arith, refl}
use Rattle.amqp_session_frames.proofs.Refusing.{empty_is}
use Rattle.amqp_session_frames.proofs.Writing.{one_written, one_within}
use Rattle.amqp_session_frames.proofs.encoder.FrameEncoder.encode_empty.Goals as goal

pub returns-clause-text : goal.returns-clause-text
returns-clause-text c =
    let least : 4 ≤ c.args.self.now = omega (arith, c.self.invariant, c.self.view_is) in
    let piece = empty_is c.args.self.now c.args.channel _ _ _ least c.in_ok-head.ensures.ok c.new.ensures refl in
    one_written c.args.self.now _ _ _ piece c.one_piece.ensures

pub returns-clause-limit : goal.returns-clause-limit
returns-clause-limit c =
    let least : 4 ≤ c.args.self.now = omega (arith, c.self.invariant, c.self.view_is) in
    let piece = empty_is c.args.self.now c.args.channel _ _ _ least c.in_ok-head.ensures.ok c.new.ensures refl in
    one_within c.args.self.now _ _ _ piece c.one_piece.ensures
