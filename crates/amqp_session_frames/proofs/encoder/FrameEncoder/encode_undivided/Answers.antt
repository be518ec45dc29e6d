use Rattle.std.proofs.Common.{arith, subst, List, [], ◌∷◌, ℕ}
use Rattle.std.specs.Int.{w16, to_be_bytes}
use Rattle.std.proofs.lemmas.Result.{IfOk-weaker}
use Rattle.serde_amqp_item.specs.Canon.{canon}
use Rattle.amqp_session_frames.specs.Sizes.{IsOnePiece}
use Rattle.amqp_session_frames.proofs.Writing.{fitting}
use Rattle.amqp_session_frames.proofs.encoder.FrameEncoder.encode_undivided.Goals as goal

pub returns-then-fits-clause-text : goal.returns-then-fits-clause-text
returns-then-fits-clause-text g c =
    let fits = c.fits.ensures.yes c.if-fits.true in
    IfOk-weaker c.write_whole.result _ _ (λ v w. fitting c.args.self.now c.args.channel c.in_ok-size.size (canon (g.P.Serialize.item c.args.performative.now)) [] v c.in_ok-size.ensures.size (omega (arith, fits, c.body_room.ensures)) (subst (λ (payload : List ℕ). IsOnePiece (canon (g.P.Serialize.item c.args.performative.now)) (2 ∷ 0 ∷ to_be_bytes w16 c.args.channel) payload v) c.new.ensures w)) c.write_whole.ensures.ok
