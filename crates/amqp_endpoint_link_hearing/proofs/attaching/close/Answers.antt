use Rattle.std.proofs.Common.{◌≤◌, [], IsSome, subst, sym, ◌∙◌}
use Rattle.amqp_session_outgoing.specs.Queues.{room_behind}
use Rattle.amqp_endpoint_attached.specs.Linked.{Linked, end_at}
use Rattle.amqp_endpoint_link_hearing.proofs.AttachReadied.{closed-goes, closed-on, closed-rests, closing-fits}
use Rattle.amqp_endpoint_link_hearing.proofs.Lent.{behind-talk, end-lent, none-lent}
use Rattle.amqp_endpoint_link_hearing.proofs.attaching.close.Goals as goal

pub unreachable-requires : goal.unreachable-requires
unreachable-requires c =
    absurd (none-lent c.args.talk.now c.args.closing.session c.args.closing.handle c.in_default.ensures.value
    c.requires.closes.there)

pub close_for-requires-clause-there : goal.close_for-requires-clause-there
close_for-requires-clause-there c =
    subst (λ (s : Linked). IsSome (end_at s c.args.closing.handle)) (sym c.deref_mut.ensures.value)
    (end-lent c.args.talk.now c.args.closing.session c.args.closing.handle c.in-Some.live.now c.in-Some.ensures.value
    c.requires.closes.there)

pub close_for-requires-clause-place : goal.close_for-requires-clause-place
close_for-requires-clause-place c =
    subst
    (λ (s : Linked). room_behind c.args.closing.handle.0 1 s.session.outgoing.queues ≤ c.args.closing.place)
    (sym c.deref_mut.ensures.value) (c.requires.closes.place c.in-Some.live.now (sym c.in-Some.ensures.value)).serves

pub close_for-requires-clause-spare : goal.close_for-requires-clause-spare
close_for-requires-clause-spare c = c.requires.closes.spare

pub returns-clause-does : goal.returns-clause-does
returns-clause-does c =
    closed-on c.args.closing.session c.args.closing.count c.args.closing.handle c.args.closing.why c.requires.closes.why
    c.args.talk.now
    c.in-Some.live.now c.in-Some.ensures.value c.deref_mut.result.now c.close_for.new.session
    c.deref_mut.ensures.value c.args.out.now.items c.close_for.new.out.items c.args.events.now.items
    c.close_for.new.events.items c.args.error c.close_for.ensures

pub returns-clause-goes : goal.returns-clause-goes
returns-clause-goes c = λ limit least.
    closed-goes limit c.args.closing.session c.args.closing.count c.args.closing.handle [] c.args.talk.now
    (behind-talk c.args.talk.now c.args.closing.session c.in-Some.live.now c.close_for.new.session)
    c.args.out.now.items c.close_for.new.out.items c.args.events.now.items c.close_for.new.events.items
    c.args.error c.len-from.result
    (closed-on c.args.closing.session c.args.closing.count c.args.closing.handle c.args.closing.why
    c.requires.closes.why c.args.talk.now
    c.in-Some.live.now c.in-Some.ensures.value c.deref_mut.result.now c.close_for.new.session
    c.deref_mut.ensures.value c.args.out.now.items c.close_for.new.out.items c.args.events.now.items
    c.close_for.new.events.items c.args.error c.close_for.ensures)
    (closing-fits limit c.args.closing.handle c.handle_is_read.ensures least)
    (c.len-from.ensures ∙ c.args.out.now.ok.0) c.frames_are_read.ensures

pub returns-clause-rests : goal.returns-clause-rests
returns-clause-rests c =
    closed-rests 0 c.args.closing.session c.args.closing.count c.args.closing.handle [] c.args.talk.now
    (behind-talk c.args.talk.now c.args.closing.session c.in-Some.live.now c.close_for.new.session)
    c.args.out.now.items c.close_for.new.out.items c.args.events.now.items c.close_for.new.events.items
    c.args.error
    (closed-on c.args.closing.session c.args.closing.count c.args.closing.handle c.args.closing.why
    c.requires.closes.why c.args.talk.now
    c.in-Some.live.now c.in-Some.ensures.value c.deref_mut.result.now c.close_for.new.session
    c.deref_mut.ensures.value c.args.out.now.items c.close_for.new.out.items c.args.events.now.items
    c.close_for.new.events.items c.args.error c.close_for.ensures)
