use Rattle.std.proofs.Common.{◌≡◌, ◌≤◌, ◌+◌, ◌<◌, ◌^◌, sym, ◌∙◌, length, arith}
use Rattle.std.proofs.lemmas.Result.{err_from_is_err_and}
use Rattle.serde_amqp_item.specs.Canon.{alone}
use Rattle.serde_amqp_ser.specs.Puts.{place_of}
use Rattle.serde_amqp_ser.proofs.Listed.{closing}
use Rattle.serde_amqp_ser.proofs.Counted.{alone_is, fits_some, counted_at}
use Rattle.serde_amqp_ser.proofs.serializer.Serializer.close_counted.Goals as goal
use Rattle.serde_amqp_ser.proofs.serializer.Serializer.close_counted.Goals.{in-False+else-len-lt255, in_default-element}

pub returns-clause-refused : goal.returns-clause-refused
returns-clause-refused g c = rw (← c.self.view_is) λ v content e s n.
    let f = fits_some (length content) c.in-Some.len (sym (c.content_len.ensures v content e s) ∙ c.in-Some.is) in
    let long : place_of c.self.inside.element ≡ alone → 255 ≤ length content = elim c.match-self.branch [
      | in-False+else-len-lt255 w ↦ λ p. omega (arith, f.0, w.if-len-lt255.false)
      | in_default-element w ↦ λ p. absurd (w.in_default-element.not-False (alone_is c.self.inside.element p))
    ] in
    let size : length content + 4 ≡ c.in-Some-Ok.size = omega (arith, f.0, c.in-Some-Ok.ensures) in
    let fits : c.in-Some-Ok.size < 2 ^ 32 = omega (arith, c.in-Some-Ok.ensures) in
    let refused = rw (← c.self.view_is) at c.close_wide.ensures.refused in
    rw (counted_at (place_of c.self.inside.element) c.args.narrow c.args.wide c.args.count c.in-Some-Ok.size content long size fits) (rw c.in-Some-Ok.ensures'.1 at (refused v content e s))

pub returns-in_err-close-clause-refused : goal.returns-in_err-close-clause-refused
returns-in_err-close-clause-refused g c = rw (← c.self.view_is) λ w content e s n.
    let p = err_from_is_err_and c.from_residual.result c.from_residual.ensures.1 in
    rw (p.1, p.2) (closing _ g.W.Sink.begins w _ content c.args.start _ c.in_err-close.ensures.refused e s)
