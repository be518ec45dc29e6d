use Rattle.std.proofs.Common.{◌≡◌, ◌≤◌, rules, arith, ap, sym, subst, ◌∙◌, length, vec_len, IsSome}
use Rattle.amqp_session_outgoing.specs.Frames.{sent_count}
use Rattle.amqp_session_outgoing.specs.Queues.{frames_in, room_behind}
use Rattle.amqp_session_outgoing.specs.History.{RefusesBatch}
use Rattle.amqp_session_core.specs.Batch.{Transfers}
use Rattle.amqp_session_core.specs.Flowing.{Sending}
use Rattle.amqp_session_core.specs.State.{State, link_at}
use Rattle.amqp_session_core.specs.Frames.{Left}
use Rattle.amqp_session_core.specs.Refusals.{RefusesTransfers}
use Rattle.amqp_session_core.proofs.Batches.{whole-alone, whole-count, refuses}
use Rattle.amqp_session_core.proofs.session.Session.on_outgoing_transfer.Goals.{then-hand_out, else-hand_out}
use Rattle.amqp_session_core.proofs.session.Session.on_outgoing_transfer.Goals as goal

pub returns-in-Err-clause-err : goal.returns-in-Err-clause-err
returns-in-Err-clause-err g c =
    let here = subst (λ (b : Transfers). RefusesBatch c.self.inside.outgoing b c.in-Err.error) c.batch.view_is c.in-Err.ensures.err in
    let there = subst (λ (o : Sending). RefusesBatch o c.args.batch.now c.in-Err.error) (ap (λ (s : State _). s.outgoing) c.self.view_is) here in
    let live : IsSome (link_at c.args.self.now (c.args.handle).0) = search rules in
    subst (λ e. RefusesTransfers c.args.self.now (c.args.handle).0 c.args.batch.now e) (sym c.refusal.ensures)
    (refuses c.args.self.now (c.args.handle).0 c.args.batch.now c.in-Err.error live there)

pub hand_out-requires : goal.hand_out-requires
hand_out-requires g c =
    let none = ap (λ (l : Left). sent_count l) (c.in_ok-make_room.ensures.sent ∙ c.self.invariant.empty) in
    omega (arith, none, whole-count c.batch.inside.transfers.items c.batch.invariant, ap (λ (b : Transfers). length b) c.batch.view_is, c.in_ok-accept.ensures.frames, c.in_ok-make_room.ensures.out_room)

pub invariant_of-self-then-hand_out : goal.invariant_of-self-then-hand_out
invariant_of-self-then-hand_out g c =
    let zero : vec_len c.self.inside.sent ≡ 0 = search rules in
    record {
      empty = search rules;
      room = omega (arith, zero, c.in_ok-make_room.ensures.sent_len, c.in_ok-accept.ensures.used_room, c.in_ok-accept.ensures.held, c.in_ok-accept.ensures.capacity, c.self.invariant.room, c.in_ok-make_room.ensures.capacity, c.in_ok-make_room.ensures.sent_room, ap (λ (b : Transfers). length b) c.batch.view_is, c.hand_out.ensures.capacity);
      open_window = search rules;
    }

pub invariant_of-self-else-hand_out : goal.invariant_of-self-else-hand_out
invariant_of-self-else-hand_out g c =
    let zero : vec_len c.self.inside.sent ≡ 0 = search rules in
    record {
      empty = search rules;
      room = omega (arith, zero, c.in_ok-make_room.ensures.sent_len, c.in_ok-accept.ensures.used_room, c.in_ok-accept.ensures.held, c.in_ok-accept.ensures.capacity, c.self.invariant.room, c.in_ok-make_room.ensures.capacity, c.in_ok-make_room.ensures.sent_room, ap (λ (b : Transfers). length b) c.batch.view_is, c.hand_out.ensures.capacity);
      open_window = search rules;
    }

pub returns-clause-behind : goal.returns-clause-behind
returns-clause-behind g c =
    let old = ap (λ (s : State _). s.outgoing) c.self.view_is in
    let new : (c.if-hand_out.self).outgoing ≡ c.accept.new.self =
    elim c.if-hand_out.branch [
      | then-hand_out w ↦ ap (λ (s : State _). s.outgoing) w.self-is
      | else-hand_out w ↦ ap (λ (s : State _). s.outgoing) w.self-is
    ] in
    λ count most fits enough.
    subst (λ (o : Sending). room_behind (c.args.handle).0 count o.queues ≤ most) (sym new)
    (c.in_ok-accept.ensures.behind count most (whole-alone c.batch.inside.transfers.items c.batch.invariant)
    (subst (λ (o : Sending). room_behind (c.args.handle).0 count o.queues ≤ most) (sym old) fits) enough)

pub returns-clause-frames : goal.returns-clause-frames
returns-clause-frames g c =
    let none = ap (λ (l : Left). sent_count l) (c.in_ok-make_room.ensures.sent ∙ c.self.invariant.empty) in
    let old = ap (λ (s : State _). frames_in (s.outgoing).queues) c.self.view_is in
    let new : (c.if-hand_out.self).outgoing ≡ c.accept.new.self =
    elim c.if-hand_out.branch [
      | then-hand_out w ↦ ap (λ (s : State _). s.outgoing) w.self-is
      | else-hand_out w ↦ ap (λ (s : State _). s.outgoing) w.self-is
    ] in
    let waits = ap (λ (s : Sending). frames_in s.queues) new in
    omega (arith, none, old, waits, whole-count c.batch.inside.transfers.items c.batch.invariant, ap (λ (b : Transfers). length b) c.batch.view_is, c.in_ok-accept.ensures.frames, c.in_ok-make_room.ensures.out_len, c.hand_out.ensures.count)
