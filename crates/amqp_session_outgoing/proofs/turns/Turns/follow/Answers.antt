use Rattle.std.proofs.Common.{arith, rules, refl, sym, ap, subst, ◌∙◌, ◌≡◌, ◌<◌, ◌^◌, length, List}
use Rattle.amqp_session_outgoing.specs.Queues.{Lists, Queues, held_in, firsts_in, frames_in, followed}
use Rattle.amqp_session_outgoing.specs.Fields.{waiting_at, EachShort}
use Rattle.amqp_session_outgoing.specs.Spots.{spot_of}
use Rattle.amqp_session_outgoing.specs.declared.frames.Outbound.{Outbound}
use Rattle.amqp_session_outgoing.proofs.Joining.{held-followed, trailed-length}
use Rattle.amqp_session_outgoing.proofs.Numbering.{firsts-followed}
use Rattle.amqp_session_outgoing.proofs.Counting.{frames-few, frames-followed, short-followed}
use Rattle.amqp_session_outgoing.proofs.Standing.{queue-of, noted-there}
use Rattle.amqp_session_outgoing.proofs.Changing.{followed-noted, noted-changed, waits-after, len-after, room-after}
use Rattle.amqp_session_outgoing.proofs.Changing.{room-noted, waits-noted, waits-unnoted}
use Rattle.amqp_session_outgoing.proofs.turns.Turns.follow.Goals as goal

pub returns-in_default-clause-ok : goal.returns-in_default-clause-ok
returns-in_default-clause-ok g c = (
  waits-unnoted c.self.inside.queues c.self.inside.turn.items (spot_of c.self.inside.spots) (c.args.handle).0
      (c.args.self.now).queues c.self.invariant.noted (sym c.in_default.is ∙ c.get.ensures)
      (ap (λ (s : Lists _ _). s.queues) c.self.view_is),
  refl,
  refl,
)

pub returns-in_err-follow-clause-fits : goal.returns-in_err-follow-clause-fits
returns-in_err-follow-clause-fits g c = λ fits.
    let q = queue-of c.self.inside.queues c.in-Some.spot
    (noted-there c.self.inside.queues c.self.inside.turn.items (spot_of c.self.inside.spots) (c.args.handle).0
    c.in-Some.spot c.self.invariant.noted c.in-Some.ensures) in
    let room = room-noted 1 c.self.inside.queues c.self.inside.turn.items (spot_of c.self.inside.spots)
    (c.args.handle).0 c.in-Some.spot q.0 (c.args.self.now).queues c.self.invariant.noted
    c.in-Some.ensures q.1 (ap (λ (s : Lists _ _). s.queues) c.self.view_is) in
    absurd (omega (arith, fits, room, c.in_err-follow.ensures.refused q.0 q.1))

pub returns-in_err-follow-clause-at_once : goal.returns-in_err-follow-clause-at_once
returns-in_err-follow-clause-at_once g c = λ none.
    let some = waits-noted c.self.inside.queues c.self.inside.turn.items (spot_of c.self.inside.spots)
    (c.args.handle).0 c.in-Some.spot (c.args.self.now).queues c.self.invariant.noted c.self.invariant.waits
    c.in-Some.ensures (ap (λ (s : Lists _ _). s.queues) c.self.view_is) in
    absurd (omega (arith, some, ap (λ (units : List (Outbound _ _)). length units) none))

pub overflow_add-self : goal.overflow_add-self
overflow_add-self g c =
    let small : c.self.inside.held < 2 ^ 64 = search rules in
    omega (
      arith,
      c.self.invariant.framed,
      frames-few (waiting_at c.self.inside.queues c.self.inside.turn.items)
          c.self.invariant.short (omega (arith, c.self.invariant.counted, small)),
    )

pub invariant_of-self-2 : goal.invariant_of-self-2
invariant_of-self-2 g c =
    let old = waiting_at c.self.inside.queues c.self.inside.turn.items in
    let e : waiting_at c.follow.new.queues c.self.inside.turn.items ≡ followed (c.args.handle).0 c.args.frame old =
    followed-noted c.self.inside.queues c.follow.new.queues c.self.inside.turn.items (spot_of c.self.inside.spots)
    (c.args.handle).0 c.in-Some.spot c.args.frame c.self.invariant.noted c.in-Some.ensures
    c.in_ok-follow.ensures.ok in
    let q = queue-of c.self.inside.queues c.in-Some.spot
    (noted-there c.self.inside.queues c.self.inside.turn.items (spot_of c.self.inside.spots) (c.args.handle).0
    c.in-Some.spot c.self.invariant.noted c.in-Some.ensures) in
    let room = room-noted 1 c.self.inside.queues c.self.inside.turn.items (spot_of c.self.inside.spots)
    (c.args.handle).0 c.in-Some.spot q.0 old c.self.invariant.noted c.in-Some.ensures q.1 refl in
    let waits = waits-noted c.self.inside.queues c.self.inside.turn.items (spot_of c.self.inside.spots)
    (c.args.handle).0 c.in-Some.spot old c.self.invariant.noted c.self.invariant.waits c.in-Some.ensures refl in
    let len = len-after c.self.inside.queues c.follow.new.queues c.in-Some.spot _ c.in_ok-follow.ensures.ok in
    let kept = room-after c.self.inside.queues c.follow.new.queues c.in-Some.spot _ c.in_ok-follow.ensures.ok in
    record {
      counted = c.self.invariant.counted ∙ sym (ap (λ queues. held_in queues) e ∙ held-followed _ _ _);
      waits = waits-after c.self.inside.queues c.follow.new.queues c.in-Some.spot _ c.in_ok-follow.ensures.ok
          (λ units some. omega (arith, some, trailed-length c.args.frame units)) c.self.invariant.waits;
      total = c.self.invariant.total;
      fits = c.self.invariant.fits;
      place = c.self.invariant.place;
      stands = omega (arith, c.self.invariant.stands, len, kept);
      framed = omega (
        arith,
        c.self.invariant.framed,
        ap (λ queues. frames_in queues) e,
        frames-followed (c.args.handle).0 c.args.frame old waits,
      );
      short = subst (λ queues. EachShort queues) (sym e)
          (short-followed (c.args.handle).0 c.args.frame old c.self.invariant.short
          (omega (arith, room, c.in_ok-follow.ensures.short q.0 q.1)));
      noted = noted-changed c.self.inside.queues c.follow.new.queues c.self.inside.turn.items
          (spot_of c.self.inside.spots) c.in-Some.spot _ c.in_ok-follow.ensures.ok c.self.invariant.noted;
      notes = c.self.invariant.notes;
    }

pub returns-clause-ok : goal.returns-clause-ok
returns-clause-ok g c =
    let view = ap (λ (s : Lists _ _). s.queues) c.self.view_is in (
      waits-noted c.self.inside.queues c.self.inside.turn.items (spot_of c.self.inside.spots) (c.args.handle).0
          c.in-Some.spot (c.args.self.now).queues c.self.invariant.noted c.self.invariant.waits c.in-Some.ensures view,
      followed-noted c.self.inside.queues c.follow.new.queues c.self.inside.turn.items (spot_of c.self.inside.spots)
          (c.args.handle).0 c.in-Some.spot c.args.frame c.self.invariant.noted c.in-Some.ensures
          c.in_ok-follow.ensures.ok ∙ ap (λ (qs : Queues _ _). followed (c.args.handle).0 c.args.frame qs) view,
    )

pub returns-clause-held : goal.returns-clause-held
returns-clause-held g c =
    ap (λ queues. held_in queues)
    (followed-noted c.self.inside.queues c.follow.new.queues c.self.inside.turn.items (spot_of c.self.inside.spots)
    (c.args.handle).0 c.in-Some.spot c.args.frame c.self.invariant.noted c.in-Some.ensures
    c.in_ok-follow.ensures.ok)
    ∙ held-followed _ _ _ ∙ ap (λ (s : Lists _ _). held_in s.queues) c.self.view_is

pub returns-clause-firsts : goal.returns-clause-firsts
returns-clause-firsts g c =
    ap (λ queues. firsts_in queues)
    (followed-noted c.self.inside.queues c.follow.new.queues c.self.inside.turn.items (spot_of c.self.inside.spots)
    (c.args.handle).0 c.in-Some.spot c.args.frame c.self.invariant.noted c.in-Some.ensures
    c.in_ok-follow.ensures.ok)
    ∙ firsts-followed _ _ _ ∙ ap (λ (s : Lists _ _). firsts_in s.queues) c.self.view_is

pub returns-clause-at_once : goal.returns-clause-at_once
returns-clause-at_once g c = λ none.
    let some = waits-noted c.self.inside.queues c.self.inside.turn.items (spot_of c.self.inside.spots)
    (c.args.handle).0 c.in-Some.spot (c.args.self.now).queues c.self.invariant.noted c.self.invariant.waits
    c.in-Some.ensures (ap (λ (s : Lists _ _). s.queues) c.self.view_is) in
    absurd (omega (arith, some, ap (λ (units : List (Outbound _ _)). length units) none))
