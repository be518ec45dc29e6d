use Rattle.std.proofs.Common.{◌+◌, ◌≤◌, List, None, Option, Some, length, arith, refl, sym, subst, ◌∙◌}
use Rattle.std.specs.Vec.{vec_capacity, vec_len}
use Rattle.std.specs.VecDeque.{deque_capacity, deque_len}
use Rattle.amqp_session_outgoing.specs.Queues.{frames_in, room_behind}
use Rattle.amqp_session_outgoing.specs.State as sending
use Rattle.amqp_session_core.specs.declared.batch.BehindFrame.{BehindFrame}
use Rattle.amqp_session_core.specs.declared.batch.TransferFrame.{TransferFrame}
use Rattle.amqp_link_sender.specs.declared.sending_on.PreparedSendOn.{PreparedSendOn}
use Rattle.amqp_endpoint_attached.specs.Linked.{Linked}
use Rattle.amqp_endpoint_attached.proofs.There.{is_there_in}
use Rattle.amqp_endpoint_messages.specs.GoingOn.{AreOnReady, HasCreditThen, HasPlaceBehind, count_on}
use Rattle.amqp_endpoint_messages.specs.SendingOn.{AreReadyOn, DoesCredited}
use Rattle.amqp_endpoint_messages.specs.declared.going_on.OnReady.{OnReady}
use Rattle.amqp_endpoint_messages.specs.declared.sending_on.FlowReady.{FlowReady}
use Rattle.amqp_endpoint_messages.proofs.Attached.{attached, attached-not, no-copies, still-there}
use Rattle.amqp_endpoint_messages.proofs.Credited.{credited-none}
use Rattle.amqp_endpoint_messages.proofs.KeptTaken.{credit-behind, has-room-on, may-go-on, none-left, place-behind}
use Rattle.amqp_endpoint_messages.proofs.KeptTaken.{some-left}
use Rattle.amqp_endpoint_messages.proofs.going_on.go_on_attached.Goals as goal

pub tell_first-requires : goal.tell_first-requires
tell_first-requires c = omega (arith, c.requires.tells)

pub give_up-stopped-requires-clause-there : goal.give_up-stopped-requires-clause-there
give_up-stopped-requires-clause-there c =
    is_there_in c.tell_first.new.session.session c.args.ready.closing.handle (c.tell_first.ensures.there c.requires.there)

pub give_up-stopped-requires-clause-room : goal.give_up-stopped-requires-clause-room
give_up-stopped-requires-clause-room c =
    subst
    (λ (o : sending.State TransferFrame BehindFrame). length c.args.ready.giving.batches.items ≤ o.room)
    (sym c.tell_first.ensures.waiting) (omega (arith, c.requires.sends.room))

pub give_up-stopped-requires-clause-spare : goal.give_up-stopped-requires-clause-spare
give_up-stopped-requires-clause-spare c =
    subst
    (λ (o : sending.State TransferFrame BehindFrame).
    deque_len c.args.out.now + (frames_in o.queues + o.room) + 1 ≤ deque_capacity c.args.out.now)
    (sym c.tell_first.ensures.waiting) (omega (arith, c.requires.sends.spare))

pub close_for-requires-clause-there : goal.close_for-requires-clause-there
close_for-requires-clause-there c =
    still-there c.tell_first.new.session.session c.give_up-stopped.new.session c.args.ready.closing.handle
    c.give_up-stopped.ensures.links (c.tell_first.ensures.there c.requires.there)

pub close_for-requires-clause-place : goal.close_for-requires-clause-place
close_for-requires-clause-place c =
    c.give_up-stopped.ensures.place c.args.ready.closing.place c.requires.sends.place.some
    (subst
    (λ (o : sending.State TransferFrame BehindFrame).
    room_behind c.args.ready.closing.handle.0 1 o.queues ≤ c.args.ready.closing.place)
    (sym c.tell_first.ensures.waiting) c.requires.sends.place.serves)

pub close_for-requires-clause-spare : goal.close_for-requires-clause-spare
close_for-requires-clause-spare c =
    let all = subst
    (λ (o : sending.State TransferFrame BehindFrame).
    deque_len c.args.out.now + (frames_in o.queues + o.room) + 2 ≤ deque_capacity c.args.out.now)
    (sym c.tell_first.ensures.waiting) c.requires.sends.spare in
    omega (arith, all, c.give_up-stopped.ensures.spare)

pub close_for-requires-clause-tells : goal.close_for-requires-clause-tells
close_for-requires-clause-tells c =
    omega (arith, c.requires.tells, c.tell_first.ensures.few, c.tell_first.ensures.capacity)

pub take_kept-requires-clause-there : goal.take_kept-requires-clause-there
take_kept-requires-clause-there c =
    is_there_in c.give_up-stopped.new.session c.args.ready.closing.handle
    (still-there c.tell_first.new.session.session c.give_up-stopped.new.session c.args.ready.closing.handle
    c.give_up-stopped.ensures.links (c.tell_first.ensures.there c.requires.there))

pub take_kept-requires-clause-place : goal.take_kept-requires-clause-place
take_kept-requires-clause-place c =
    omega (
      arith,
      c.parted-parts.ensures.place,
      c.give_up-stopped.ensures.place c.args.ready.closing.place c.requires.sends.place.some
          (subst
          (λ (o : sending.State TransferFrame BehindFrame).
          room_behind c.args.ready.closing.handle.0 1 o.queues ≤ c.args.ready.closing.place)
          (sym c.tell_first.ensures.waiting) c.requires.sends.place.serves),
    )

pub take_kept-requires-clause-room : goal.take_kept-requires-clause-room
take_kept-requires-clause-room c =
    let all = subst
    (λ (o : sending.State TransferFrame BehindFrame).
    deque_len c.args.out.now + (frames_in o.queues + o.room) + 2 ≤ deque_capacity c.args.out.now)
    (sym c.tell_first.ensures.waiting) c.requires.sends.spare in
    omega (arith, all, c.give_up-stopped.ensures.spare)

pub send_on-requires-clause-may : goal.send_on-requires-clause-may
send_on-requires-clause-may c =
    let closing = c.args.ready.closing in
    let left =
    some-left closing c.args.ready.on c.in-Some-flow.ready (sym c.parted-parts.ensures.ready ∙ c.in-Some-flow.is) in
    let given : Linked = record c.tell_first.new.session { session = c.give_up-stopped.new.session } in
    may-go-on closing c.args.ready.on c.in-Some-flow.ready left c.args.kept given c.take_kept.new.session
    c.give_up-stopped.new.out.items c.take_kept.new.out.items c.take_kept.ensures.takes
    (credit-behind c.args.kept closing.handle left.its closing.count c.args.session.now c.tell_first.new.session
    c.give_up-stopped.new.session
    (subst (λ (o : Option OnReady). HasCreditThen c.args.kept closing.handle o c.args.session.now) left.on_is
    c.requires.credit)
    c.tell_first.ensures.tells c.give_up-stopped.ensures.links)
    c.requires.tagged

pub send_on-requires-clause-sends : goal.send_on-requires-clause-sends
send_on-requires-clause-sends c =
    let closing = c.args.ready.closing in
    let left =
    some-left closing c.args.ready.on c.in-Some-flow.ready (sym c.parted-parts.ensures.ready ∙ c.in-Some-flow.is) in
    let given : Linked = record c.tell_first.new.session { session = c.give_up-stopped.new.session } in
    let behind = subst (λ (o : Option OnReady). HasPlaceBehind c.args.session.now closing.handle o) left.on_is
    c.requires.sends.behind in
    let all = subst
    (λ (o : sending.State TransferFrame BehindFrame).
    deque_len c.args.out.now + (frames_in o.queues + o.room) + 2 ≤ deque_capacity c.args.out.now)
    (sym c.tell_first.ensures.waiting) c.requires.sends.spare in
    let room = subst
    (λ (o : sending.State TransferFrame BehindFrame).
    length c.args.ready.giving.batches.items + count_on c.args.ready.on ≤ o.room)
    (sym c.tell_first.ensures.waiting) c.requires.sends.room in
    has-room-on closing c.args.ready.on c.in-Some-flow.ready left c.args.kept given c.take_kept.new.session
    c.give_up-stopped.new.out.items c.take_kept.new.out.items c.take_kept.ensures.takes
    (deque_len c.give_up-stopped.new.out) (deque_len c.take_kept.new.out) (deque_capacity c.take_kept.new.out)
    c.give_up-stopped.new.out.ok.0 c.take_kept.new.out.ok.0
    (omega (arith, room, c.give_up-stopped.ensures.room))
    (omega (arith, all, c.give_up-stopped.ensures.spare, c.take_kept.ensures.capacity))
    (omega (arith, behind.0))
    (place-behind closing.handle left.its c.tell_first.new.session.session c.give_up-stopped.new.session behind.0
    (subst
    (λ (o : sending.State TransferFrame BehindFrame). room_behind closing.handle.0 2 o.queues ≤ left.its.place)
    (sym c.tell_first.ensures.waiting) behind.1)
    c.give_up-stopped.ensures.place)

pub send_on-requires-clause-tells : goal.send_on-requires-clause-tells
send_on-requires-clause-tells c =
    let left =
    some-left c.args.ready.closing c.args.ready.on c.in-Some-flow.ready
    (sym c.parted-parts.ensures.ready ∙ c.in-Some-flow.is) in
    subst
    (λ (f : FlowReady).
    vec_len c.tell_first.new.events + (f.closing.count + 1) ≤ vec_capacity c.tell_first.new.events)
    (sym left.flow_is)
    (omega (arith, c.requires.tells, c.tell_first.ensures.few, c.tell_first.ensures.capacity))

pub returns-in-Some-flow : goal.returns-in-Some-flow
returns-in-Some-flow c = λ limit aborts ons made.
    let closing = c.args.ready.closing in
    let flow = c.in-Some-flow.ready in
    let left =
    some-left closing c.args.ready.on flow (sym c.parted-parts.ensures.ready ∙ c.in-Some-flow.is) in
    let given : Linked = record c.tell_first.new.session { session = c.give_up-stopped.new.session } in
    let on : AreReadyOn limit closing.handle ons left.its.sending =
    subst (λ (o : Option OnReady). AreOnReady limit closing.handle ons o) left.on_is made.on in
    let credited =
    subst
    (λ (f : FlowReady).
    DoesCredited limit f.closing.session f.closing.count f.closing.handle f.closing.why ons c.take_kept.new.session
    c.take_kept.new.out.items c.tell_first.new.events.items c.send_on.new.session c.send_on.new.out.items
    c.send_on.new.events.items)
    left.flow_is
    (c.send_on.ensures limit ons
    (subst (λ (f : FlowReady). AreReadyOn limit f.closing.handle ons f.sending) (sym left.flow_is) on)) in
    attached limit closing.session closing.count closing.handle closing.why aborts c.args.kept
    c.args.ready.giving.batches.items c.args.ready.giving.all_fit made.giving c.args.session.now
    c.tell_first.new.session given c.args.out.now.items c.give_up-stopped.new.out.items c.args.events.now.items
    c.tell_first.new.events.items c.give_up-stopped.result c.tell_first.ensures.tells
    (c.tell_first.ensures.told None (no-copies closing.count _ c.new.ensures.items))
    c.give_up-stopped.ensures.hands refl None c.in-None.ensures refl ons c.take_kept.new.session c.send_on.new.session
    c.take_kept.new.out.items c.send_on.new.out.items c.send_on.new.events.items c.take_kept.ensures.takes credited

pub returns-in-None-flow : goal.returns-in-None-flow
returns-in-None-flow c = λ limit aborts ons made.
    let closing = c.args.ready.closing in
    let given : Linked = record c.tell_first.new.session { session = c.give_up-stopped.new.session } in
    let none = none-left closing c.args.ready.on (sym c.parted-parts.ensures.ready ∙ c.in-None-flow.is) in
    let credited =
    subst
    (λ (l : List PreparedSendOn).
    DoesCredited limit closing.session closing.count closing.handle closing.why l c.take_kept.new.session
    c.take_kept.new.out.items c.tell_first.new.events.items c.take_kept.new.session c.take_kept.new.out.items
    c.tell_first.new.events.items)
    (sym (subst (λ (o : Option OnReady). AreOnReady limit closing.handle ons o) none made.on))
    (credited-none limit closing.session closing.count closing.handle closing.why c.take_kept.new.session
    c.take_kept.new.out.items c.tell_first.new.events.items) in
    attached limit closing.session closing.count closing.handle closing.why aborts c.args.kept
    c.args.ready.giving.batches.items c.args.ready.giving.all_fit made.giving c.args.session.now
    c.tell_first.new.session given c.args.out.now.items c.give_up-stopped.new.out.items c.args.events.now.items
    c.tell_first.new.events.items c.give_up-stopped.result c.tell_first.ensures.tells
    (c.tell_first.ensures.told None (no-copies closing.count _ c.new.ensures.items))
    c.give_up-stopped.ensures.hands refl None c.in-None.ensures refl ons c.take_kept.new.session
    c.take_kept.new.session c.take_kept.new.out.items c.take_kept.new.out.items c.tell_first.new.events.items
    c.take_kept.ensures.takes credited

pub returns-in-Some : goal.returns-in-Some
returns-in-Some c = λ limit aborts ons made.
    let closing = c.args.ready.closing in
    let given : Linked = record c.tell_first.new.session { session = c.give_up-stopped.new.session } in
    attached-not limit closing.session closing.count closing.handle closing.why aborts c.args.kept
    c.args.ready.giving.batches.items c.args.ready.giving.all_fit made.giving c.args.session.now
    c.tell_first.new.session given c.args.out.now.items c.give_up-stopped.new.out.items c.args.events.now.items
    c.tell_first.new.events.items c.give_up-stopped.result c.tell_first.ensures.tells
    (c.tell_first.ensures.told None (no-copies closing.count _ c.new.ensures.items))
    c.give_up-stopped.ensures.hands refl (Some c.in-Some.error) c.in-Some.ensures c.in-Some.error ons
    c.close_for.new.session c.close_for.new.out.items c.close_for.new.events.items refl c.close_for.ensures
