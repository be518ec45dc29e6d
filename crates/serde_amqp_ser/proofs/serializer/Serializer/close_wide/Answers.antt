use Rattle.std.proofs.Common.{ap}
use Rattle.std.proofs.lemmas.Result.{err_from_is_err_and}
use Rattle.serde_amqp_ser.specs.Puts.{place_of}
use Rattle.serde_amqp_ser.proofs.Listed.{closing}
use Rattle.serde_amqp_ser.proofs.Heads.{closed_alone, closed_first, closed_next}
use Rattle.serde_amqp_ser.proofs.serializer.Serializer.close_wide.Goals as goal

pub returns-in_ok-close-in-False-clause-ok : goal.returns-in_ok-close-in-False-clause-ok
returns-in_ok-close-in-False-clause-ok g c = rw (← c.self.view_is) λ w content e s.
    closed_alone w _ _ c.args.code _ (ap place_of c.in-False.is) (rw (c.to_be_bytes.ensures, c.to_be_bytes-2.ensures) at (c.in_ok-close-in-False.ensures.ok w content e s))

pub returns-in_ok-close-in-FirstElement-clause-ok : goal.returns-in_ok-close-in-FirstElement-clause-ok
returns-in_ok-close-in-FirstElement-clause-ok g c = rw (← c.self.view_is) λ w content e s.
    closed_first w _ _ c.args.code _ (ap place_of c.in-FirstElement.is) (rw (c.to_be_bytes.ensures, c.to_be_bytes-2.ensures) at (c.in_ok-close-in-FirstElement.ensures.ok w content e s))

pub returns-in_ok-close-in-OtherElement-clause-ok : goal.returns-in_ok-close-in-OtherElement-clause-ok
returns-in_ok-close-in-OtherElement-clause-ok g c = rw (← c.self.view_is) λ w content e s.
    closed_next w _ _ c.in-OtherElement.first c.args.code _ (ap place_of c.in-OtherElement.is) c.if-first-code.false (rw (c.to_be_bytes.ensures, c.to_be_bytes-2.ensures) at (c.in_ok-close-in-OtherElement.ensures.ok w content e s))

pub returns-in_err-close-in-False-clause-refused : goal.returns-in_err-close-in-False-clause-refused
returns-in_err-close-in-False-clause-refused g c = rw (← c.self.view_is) λ w content e s.
    let p = err_from_is_err_and c.from_residual.result c.from_residual.ensures.1 in
    rw (p.1, p.2) (closing _ g.W.Sink.begins w _ content c.args.start _ c.in_err-close-in-False.ensures.refused e s)

pub returns-in_err-close-in-FirstElement-clause-refused : goal.returns-in_err-close-in-FirstElement-clause-refused
returns-in_err-close-in-FirstElement-clause-refused g c = rw (← c.self.view_is) λ w content e s.
    let p = err_from_is_err_and c.from_residual-in_err-close-in-FirstElement.result c.from_residual-in_err-close-in-FirstElement.ensures.1 in
    rw (p.1, p.2) (closing _ g.W.Sink.begins w _ content c.args.start _ c.in_err-close-in-FirstElement.ensures.refused e s)

pub returns-in_err-close-in-OtherElement-clause-refused : goal.returns-in_err-close-in-OtherElement-clause-refused
returns-in_err-close-in-OtherElement-clause-refused g c = rw (← c.self.view_is) λ w content e s.
    let p = err_from_is_err_and c.from_residual-in_err-close-in-OtherElement.result c.from_residual-in_err-close-in-OtherElement.ensures.1 in
    rw (p.1, p.2) (closing _ g.W.Sink.begins w _ content c.args.start _ c.in_err-close-in-OtherElement.ensures.refused e s)
