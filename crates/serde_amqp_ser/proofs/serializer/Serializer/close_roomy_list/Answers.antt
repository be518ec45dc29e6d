use Rattle.std.proofs.Common.{[], ◌∷◌, sym, ◌∙◌, arith, ap, refl}
use Rattle.std.proofs.lemmas.Result.{err_from_is_err_and}
use Rattle.serde_amqp_ser.specs.Written.{Written, extended, inside}
use Rattle.serde_amqp_ser.proofs.Grown.{keeps_once, keeps_same, keeps_as}
use Rattle.serde_amqp_ser.proofs.Listed.{closing, listed_text}
use Rattle.serde_amqp_ser.proofs.Roomy.{roomy_empty, roomy_full, roomy_kept, roomy_narrow, roomy_wide}
use Rattle.serde_amqp_ser.proofs.serializer.Serializer.close_roomy_list.Goals as goal

pub returns-in_default-clause-kept : goal.returns-in_default-clause-kept
returns-in_default-clause-kept g c = λ v xs h. roomy_kept g.W.Sink.begins _ _ _ _ xs h

pub returns-in_err-put-clause-kept : goal.returns-in_err-put-clause-kept
returns-in_err-put-clause-kept g c = rw (← c.self.view_is) λ v xs h.
    keeps_same _ _ (c.in_err-put.ensures.err ∙ c.back_to.ensures v (roomy_kept g.W.Sink.begins _ _ _ _ xs h) h.begun)

pub returns-then-len-eq0-clause-ok : goal.returns-then-len-eq0-clause-ok
returns-then-len-eq0-clause-ok g c = rw (← c.self.view_is) λ v xs h n.
    let back = c.back_to.ensures v (roomy_kept g.W.Sink.begins _ _ _ _ xs h) h.begun in
    roomy_empty g.W.Sink.begins (g.W.Sink.written v) _ _ _ _ c.in-Some.len xs _ (rw (← c.self.view_is) at c.requires) h
    (λ u t e s. sym c.in-Some.is ∙ c.content_len.ensures u t e s) c.if-len-eq0.true
    (c.in_ok-put.ensures.ok ∙ ap (λ (w : Written). extended w (0x45 ∷ [])) back)

pub returns-then-len-eq0-clause-kept : goal.returns-then-len-eq0-clause-kept
returns-then-len-eq0-clause-kept g c = rw (← c.self.view_is) λ v xs h.
    let back = c.back_to.ensures v (roomy_kept g.W.Sink.begins _ _ _ _ xs h) h.begun in
    keeps_once _ _ (0x45 ∷ []) (c.in_ok-put.ensures.ok ∙ ap (λ (w : Written). extended w (0x45 ∷ [])) back)

pub returns-in_default-try_from-clause-kept : goal.returns-in_default-try_from-clause-kept
returns-in_default-try_from-clause-kept g c = λ v xs h. roomy_kept g.W.Sink.begins _ _ _ _ xs h

pub returns-in_default-try_from-clause-refused : goal.returns-in_default-try_from-clause-refused
returns-in_default-try_from-clause-refused g c = rw (← c.self.view_is) λ v xs h n d.
    absurd (roomy_full g.W.Sink.begins _ _ _ _ c.in-Some.len c.args.count xs h
    (λ u t e s. sym c.in-Some.is ∙ c.content_len.ensures u t e s) c.if-len-lt255.true n
    (omega (arith, c.in_default-try_from.ensures)))

pub returns-in_default-checked_add-clause-kept : goal.returns-in_default-checked_add-clause-kept
returns-in_default-checked_add-clause-kept g c = λ v xs h. roomy_kept g.W.Sink.begins _ _ _ _ xs h

pub returns-in_err-close-clause-kept : goal.returns-in_err-close-clause-kept
returns-in_err-close-clause-kept g c = rw (← c.self.view_is) λ v xs h. keeps_as _ _ _ (roomy_kept g.W.Sink.begins _ _ _ _ xs h)
    c.in_err-close.ensures.err

pub returns-in_err-close-clause-refused : goal.returns-in_err-close-clause-refused
returns-in_err-close-clause-refused g c = rw (← c.self.view_is) λ v xs h n.
    let p = err_from_is_err_and c.from_residual-in_err-close.result c.from_residual-in_err-close.ensures.1 in
    let t = listed_text (inside g.W.Sink.begins (extended (g.W.Sink.written v) h.room)) _ xs h.items in
    rw (p.1, p.2) (closing _ g.W.Sink.begins (extended (g.W.Sink.written v) h.room) _ t.0 c.args.content _
    c.in_err-close.ensures.refused t.2 h.inner)

pub returns-then-len-lt255-clause-ok : goal.returns-then-len-lt255-clause-ok
returns-then-len-lt255-clause-ok g c = rw (← c.self.view_is) λ v xs h n.
    roomy_narrow g.W.Sink.begins (g.W.Sink.written v) _ (g.W.Sink.written c.join.new.self) _ _ _ c.in-Some.len _ _ xs
    _ (rw (← c.self.view_is) at c.requires) h (λ u t e s. sym c.in-Some.is ∙ c.content_len.ensures u t e s) c.if-len-eq0.false
    c.if-len-lt255.true refl (n ∙ sym c.in-Ok.ensures.1) c.join.ensures c.overwrite.ensures

pub returns-clause-ok : goal.returns-clause-ok
returns-clause-ok g c = rw (← c.self.view_is) λ v xs h n.
    roomy_wide g.W.Sink.begins (g.W.Sink.written v) _ (g.W.Sink.written c.close.new.self) _ _ _ c.in-Some.len
    c.in-Some-checked_add.size c.args.count _ _ _ _ _ _ _ _ xs _ (rw (← c.self.view_is) at c.requires) h
    (λ u t e s. sym c.in-Some.is ∙ c.content_len.ensures u t e s) (omega (arith, c.if-len-lt255.false))
    (omega (arith, c.in-Some-checked_add.ensures)) (omega (arith, c.in-Some-checked_add.ensures)) n refl refl
    (rw (c.to_be_bytes.ensures, c.to_be_bytes-2.ensures) at c.in_ok-close.ensures.ok)
    (rw c.to_be_bytes.ensures at c.overwrite-2.ensures)
