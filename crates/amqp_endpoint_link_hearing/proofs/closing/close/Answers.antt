use Rattle.std.proofs.Common.{sym, subst, ◌∙◌}
use Rattle.std.specs.Prelude.{◌≤◌}
use Rattle.amqp_session_outgoing.specs.Queues.{room_behind}
use Rattle.amqp_endpoint_attached.specs.Linked.{Linked}
use Rattle.amqp_endpoint_link_hearing.specs.InSession.{Closes}
use Rattle.amqp_endpoint_link_hearing.proofs.Lent.{behind-talk, closed-goes, closed-rests, hands-on, none-lent}
use Rattle.amqp_endpoint_link_hearing.proofs.closing.close.Goals as goal

pub unreachable-requires : goal.unreachable-requires
unreachable-requires c =
    absurd (none-lent c.args.talk.now c.args.session c.args.handle c.in_default.ensures.value c.requires.there)

pub close_in-requires-clause-place : goal.close_in-requires-clause-place
close_in-requires-clause-place c =
    subst (λ (s : Linked). room_behind c.args.handle.0 1 s.session.outgoing.queues ≤ c.args.closing.place)
    (sym c.deref_mut.ensures.value)
    (c.requires.place c.in-Some.session.now (sym c.in-Some.ensures.value)).room

pub returns-clause-closed : goal.returns-clause-closed
returns-clause-closed c =
    hands-on (Closes c.args.closing.error c.args.handle) c.args.talk.now c.args.session c.in-Some.session.now
    c.in-Some.ensures.value c.deref_mut.result.now c.close_in.new.session c.deref_mut.ensures.value
    c.args.out.now.items c.close_in.new.out.items c.close_in.ensures.closed

pub returns-clause-goes : goal.returns-clause-goes
returns-clause-goes c limit least =
    closed-goes c.args.talk.now c.args.session c.args.handle c.args.closing.error
    (behind-talk c.args.talk.now c.args.session c.in-Some.session.now c.close_in.new.session)
    c.args.out.now.items c.close_in.new.out.items limit c.len-from.result c.args.closing.place
    (hands-on (Closes c.args.closing.error c.args.handle) c.args.talk.now c.args.session c.in-Some.session.now
    c.in-Some.ensures.value c.deref_mut.result.now c.close_in.new.session c.deref_mut.ensures.value
    c.args.out.now.items c.close_in.new.out.items c.close_in.ensures.closed)
    (c.len-from.ensures ∙ c.args.out.now.ok.0) c.frames_are_read.ensures c.requires.place least

pub returns-clause-rests : goal.returns-clause-rests
returns-clause-rests c =
    closed-rests c.args.talk.now c.args.session c.args.handle c.args.closing.error
    (behind-talk c.args.talk.now c.args.session c.in-Some.session.now c.close_in.new.session)
    c.args.out.now.items c.close_in.new.out.items
    (hands-on (Closes c.args.closing.error c.args.handle) c.args.talk.now c.args.session c.in-Some.session.now
    c.in-Some.ensures.value c.deref_mut.result.now c.close_in.new.session c.deref_mut.ensures.value
    c.args.out.now.items c.close_in.new.out.items c.close_in.ensures.closed)
