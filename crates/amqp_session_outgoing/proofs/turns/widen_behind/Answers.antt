use Rattle.std.proofs.Common.{◌≡◌, ◌+◌, ◌-◌, length, arith, sym, ap, ◌∙◌, refl}
use Rattle.amqp_session_outgoing.specs.Frames.{last_room}
use Rattle.amqp_session_outgoing.specs.declared.frames.Outbound.{Outbound}
use Rattle.amqp_session_outgoing.proofs.Joining.{last-room-is, on_ok}
use Rattle.amqp_session_outgoing.proofs.turns.widen_behind.Goals as goal

pub returns-in-Some-clause-ok : goal.returns-in-Some-clause-ok
returns-in-Some-clause-ok g c =
    let some = c.in-Some.ensures.some.0 refl in
    let room : last_room c.args.count c.args.units.now ≡ length c.in-Some.last.now.behind + c.args.count =
    last-room-is c.args.count c.args.units.now (length c.args.units.now - 1) c.in-Some.last.now (omega (arith, some)) ∙ ap (λ (u : Outbound _ _). length u.behind + c.args.count) (sym c.in-Some.ensures.lookup) in
    on_ok c.widen.result (λ fits. omega (arith, room, fits, c.len.ensures)) c.widen.ensures.ok

pub returns-in-Some-clause-enough : goal.returns-in-Some-clause-enough
returns-in-Some-clause-enough g c = λ fits.
    let some = c.in-Some.ensures.some.0 refl in
    let room : last_room c.args.count c.args.units.now ≡ length c.in-Some.last.now.behind + c.args.count =
    last-room-is c.args.count c.args.units.now (length c.args.units.now - 1) c.in-Some.last.now (omega (arith, some)) ∙ ap (λ (u : Outbound _ _). length u.behind + c.args.count) (sym c.in-Some.ensures.lookup) in
    c.widen.ensures.enough (omega (arith, room, fits, c.len.ensures))

pub returns-in-Some-clause-kept : goal.returns-in-Some-clause-kept
returns-in-Some-clause-kept g c = λ fits.
    let some = c.in-Some.ensures.some.0 refl in
    let room : last_room c.args.count c.args.units.now ≡ length c.in-Some.last.now.behind + c.args.count =
    last-room-is c.args.count c.args.units.now (length c.args.units.now - 1) c.in-Some.last.now (omega (arith, some)) ∙ ap (λ (u : Outbound _ _). length u.behind + c.args.count) (sym c.in-Some.ensures.lookup) in
    c.widen.ensures.kept (omega (arith, room, fits, c.len.ensures))
