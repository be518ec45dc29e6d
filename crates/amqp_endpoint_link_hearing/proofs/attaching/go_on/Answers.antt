use Rattle.std.proofs.Common.{[], IsSome, subst, sym, ◌∙◌}
use Rattle.std.specs.VecDeque.{deque_capacity, deque_len}
use Rattle.amqp_endpoint_attached.specs.Linked.{Linked, end_at}
use Rattle.amqp_endpoint_messages.specs.GoingOn.{HasRoomToSend}
use Rattle.amqp_endpoint_link_hearing.proofs.AttachReadied.{attached-goes, attached-on, attached-rests, closing-fits}
use Rattle.amqp_endpoint_link_hearing.proofs.AttachReadied.{credit-alone, ready-alone, tagged-alone}
use Rattle.amqp_endpoint_link_hearing.proofs.Lent.{behind-talk, end-lent, none-lent}
use Rattle.amqp_endpoint_link_hearing.proofs.attaching.go_on.Goals as goal

pub unreachable-requires : goal.unreachable-requires
unreachable-requires c =
    absurd (none-lent c.args.talk.now c.args.ready.closing.session c.args.ready.closing.handle
    c.in_default.ensures.value c.requires.serves.there)

pub go_on_attached-requires-clause-there : goal.go_on_attached-requires-clause-there
go_on_attached-requires-clause-there c =
    subst (λ (s : Linked). IsSome (end_at s c.args.ready.closing.handle)) (sym c.deref_mut.ensures.value)
    (end-lent c.args.talk.now c.args.ready.closing.session c.args.ready.closing.handle c.in-Some.live.now
    c.in-Some.ensures.value c.requires.serves.there)

pub go_on_attached-requires-clause-sends : goal.go_on_attached-requires-clause-sends
go_on_attached-requires-clause-sends c =
    subst
    (λ (s : Linked).
    HasRoomToSend c.args.ready s (deque_len c.args.out.now) (deque_capacity c.args.out.now))
    (sym c.deref_mut.ensures.value) (c.requires.serves.sends c.in-Some.live.now (sym c.in-Some.ensures.value))

pub go_on_attached-requires-clause-bare : goal.go_on_attached-requires-clause-bare
go_on_attached-requires-clause-bare c = c.requires.serves.bare

pub go_on_attached-requires-clause-credit : goal.go_on_attached-requires-clause-credit
go_on_attached-requires-clause-credit c =
    credit-alone c.args.ready c.requires.serves.none c.deref_mut.result.now

pub go_on_attached-requires-clause-tagged : goal.go_on_attached-requires-clause-tagged
go_on_attached-requires-clause-tagged c = tagged-alone c.args.ready c.requires.serves.none

pub returns-clause-does : goal.returns-clause-does
returns-clause-does c = λ limit aborts made.
    attached-on c.args.ready.closing.session c.args.ready.closing.count c.args.ready.closing.handle
    c.args.ready.closing.why c.requires.serves.why c.args.talk.now
    c.in-Some.live.now c.in-Some.ensures.value c.deref_mut.result.now c.go_on_attached.new.session
    c.deref_mut.ensures.value c.args.out.now.items c.go_on_attached.new.out.items c.args.events.now.items
    c.go_on_attached.new.events.items limit aborts
    (c.go_on_attached.ensures limit aborts []
    (ready-alone c.args.ready c.requires.serves.none limit aborts made))

pub returns-clause-goes : goal.returns-clause-goes
returns-clause-goes c = λ limit aborts made least.
    attached-goes limit c.args.ready.closing.session c.args.ready.closing.count c.args.ready.closing.handle aborts
    c.args.talk.now
    (behind-talk c.args.talk.now c.args.ready.closing.session c.in-Some.live.now c.go_on_attached.new.session)
    c.args.out.now.items c.go_on_attached.new.out.items c.args.events.now.items c.go_on_attached.new.events.items
    c.len-from.result
    (attached-on c.args.ready.closing.session c.args.ready.closing.count c.args.ready.closing.handle
    c.args.ready.closing.why c.requires.serves.why c.args.talk.now
    c.in-Some.live.now c.in-Some.ensures.value c.deref_mut.result.now c.go_on_attached.new.session
    c.deref_mut.ensures.value c.args.out.now.items c.go_on_attached.new.out.items c.args.events.now.items
    c.go_on_attached.new.events.items limit aborts
    (c.go_on_attached.ensures limit aborts []
    (ready-alone c.args.ready c.requires.serves.none limit aborts made)))
    (closing-fits limit c.args.ready.closing.handle c.handle_is_read.ensures least)
    (c.len-from.ensures ∙ c.args.out.now.ok.0) c.frames_are_read.ensures

pub returns-clause-rests : goal.returns-clause-rests
returns-clause-rests c = λ limit aborts made.
    attached-rests limit c.args.ready.closing.session c.args.ready.closing.count c.args.ready.closing.handle aborts
    c.args.talk.now
    (behind-talk c.args.talk.now c.args.ready.closing.session c.in-Some.live.now c.go_on_attached.new.session)
    c.args.out.now.items c.go_on_attached.new.out.items c.args.events.now.items c.go_on_attached.new.events.items
    (attached-on c.args.ready.closing.session c.args.ready.closing.count c.args.ready.closing.handle
    c.args.ready.closing.why c.requires.serves.why c.args.talk.now
    c.in-Some.live.now c.in-Some.ensures.value c.deref_mut.result.now c.go_on_attached.new.session
    c.deref_mut.ensures.value c.args.out.now.items c.go_on_attached.new.out.items c.args.events.now.items
    c.go_on_attached.new.events.items limit aborts
    (c.go_on_attached.ensures limit aborts []
    (ready-alone c.args.ready c.requires.serves.none limit aborts made)))
