use Rattle.std.proofs.Common.{◌∷◌, ℕ, List, ap, arith, length, refl, subst}
use Rattle.std.specs.Int.{to_be_bytes, w16}
use Rattle.std.proofs.lemmas.Result.{IfOk-weaker, IfErr-weaker, err_from_is_err_and}
use Rattle.serde_amqp_item.specs.Canon.{canon}
use Rattle.amqp_session_performatives.specs.Transfer.{transfer_item}
use Rattle.amqp_session_frames.specs.Sizes.{IsOnePiece}
use Rattle.amqp_session_performatives.specs.declared.performative.Performative.TheVariants as performing
use Rattle.amqp_session_frames.specs.declared.frame.FrameBody.TheVariants.{Transfer as TransferBody}
use Rattle.amqp_session_frames.proofs.Refusing.{overflows, parts_refused, too_long}
use Rattle.amqp_session_frames.proofs.Writing.{fitting, whole_within, whole_written}
use Rattle.amqp_session_frames.proofs.encoder.FrameEncoder.encode_transfer.Goals as goal

pub returns-in_err-size-clause-refused : goal.returns-in_err-size-clause-refused
returns-in_err-size-clause-refused c =
    let p = err_from_is_err_and c.from_residual.result c.from_residual.ensures.1 in
    rw (p.1, p.2, c.in_err-size.ensures.refused.0) (too_long c.args.self.now c.args.channel c.args.transfer.now c.args.payload.now c.in_err-size.ensures.refused.1)

pub returns-then-fits-clause-text : goal.returns-then-fits-clause-text
returns-then-fits-clause-text c =
    let fits = c.fits.ensures.yes c.if-fits.true in
    IfOk-weaker c.write_whole.result _ _ (λ v w. whole_written c.args.self.now (record { channel = c.args.channel; body = TransferBody c.args.transfer.now c.args.payload.now }) (performing.Transfer c.args.transfer.now) v refl (fitting c.args.self.now c.args.channel c.in_ok-size.size (canon (transfer_item c.args.transfer.now)) c.args.payload.now v c.in_ok-size.ensures.size (omega (arith, fits, c.body_room.ensures, c.len.ensures.value)) (subst (λ (l : List ℕ). IsOnePiece (canon (transfer_item c.args.transfer.now)) (2 ∷ 0 ∷ to_be_bytes w16 c.args.channel) l v) c.in_ok-clone.ensures.cases w))) c.write_whole.ensures.ok

pub returns-then-fits-clause-limit : goal.returns-then-fits-clause-limit
returns-then-fits-clause-limit c =
    let fits = c.fits.ensures.yes c.if-fits.true in
    IfOk-weaker c.write_whole.result _ _ (λ v w. whole_within c.args.self.now (record { channel = c.args.channel; body = TransferBody c.args.transfer.now c.args.payload.now }) (performing.Transfer c.args.transfer.now) v refl (fitting c.args.self.now c.args.channel c.in_ok-size.size (canon (transfer_item c.args.transfer.now)) c.args.payload.now v c.in_ok-size.ensures.size (omega (arith, fits, c.body_room.ensures, c.len.ensures.value)) (subst (λ (l : List ℕ). IsOnePiece (canon (transfer_item c.args.transfer.now)) (2 ∷ 0 ∷ to_be_bytes w16 c.args.channel) l v) c.in_ok-clone.ensures.cases w))) c.write_whole.ensures.ok

pub encode_parts-requires : goal.encode_parts-requires
encode_parts-requires c =
    overflows c.args.self.now c.in_ok-size.size (length c.in_ok-clone-2.field-0) c.args.transfer.now c.in_ok-size.ensures.size (omega (arith, c.fits.ensures.no c.if-fits.false, c.body_room.ensures, c.len.ensures.value, ap length c.in_ok-clone-2.ensures.cases))

pub returns-clause-refused : goal.returns-clause-refused
returns-clause-refused c =
    let over = overflows c.args.self.now c.in_ok-size.size (length c.args.payload.now) c.args.transfer.now c.in_ok-size.ensures.size (omega (arith, c.fits.ensures.no c.if-fits.false, c.body_room.ensures, c.len.ensures.value)) in
    IfErr-weaker c.encode_parts.result _ _ (λ e r. parts_refused c.args.self.now c.args.channel c.args.transfer.now c.args.payload.now e over r) c.encode_parts.ensures.refused
