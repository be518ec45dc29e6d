use Rattle.std.proofs.Common.{◌++◌, List, ap, sym, subst, ◌∙◌}
use Rattle.amqp_endpoint_model.specs.declared.event.Event.{Event}
use Rattle.amqp_endpoint_attached.specs.Linked.{Linked, end_at}
use Rattle.std.specs.Prelude.{IsSome, ◌≤◌}
use Rattle.amqp_session_outgoing.specs.Queues.{room_behind}
use Rattle.amqp_endpoint_link_hearing.specs.Detaching.{TellsAndParts}
use Rattle.amqp_endpoint_link_hearing.proofs.Leavings.{parted-goes, parted-rests, told-there}
use Rattle.amqp_endpoint_link_hearing.proofs.Lent.{behind-talk, end-lent, hands-on, none-lent}
use Rattle.amqp_endpoint_link_hearing.proofs.leaving.part.Goals as goal

pub unreachable-requires : goal.unreachable-requires
unreachable-requires c =
    absurd (none-lent c.args.talk.now c.args.session c.args.handle c.in_default.ensures.value c.requires.there)

pub tell_and_part-left-requires-clause-there : goal.tell_and_part-left-requires-clause-there
tell_and_part-left-requires-clause-there c =
    subst (λ (s : Linked). IsSome (end_at s c.args.handle)) (sym c.deref_mut.ensures.value)
    (end-lent c.args.talk.now c.args.session c.args.handle c.in-Some.session.now c.in-Some.ensures.value
    c.requires.there)

pub tell_and_part-left-requires-clause-place : goal.tell_and_part-left-requires-clause-place
tell_and_part-left-requires-clause-place c =
    subst (λ (s : Linked). room_behind c.args.handle.0 1 s.session.outgoing.queues ≤ c.args.answer.place)
    (sym c.deref_mut.ensures.value)
    (c.requires.place c.in-Some.session.now (sym c.in-Some.ensures.value)).room

pub returns-clause-parted : goal.returns-clause-parted
returns-clause-parted c =
    hands-on
    (TellsAndParts c.args.count c.args.handle c.args.answers c.args.answer.closed c.args.answer.error
    c.tell_and_part-left.result)
    c.args.talk.now c.args.session c.in-Some.session.now c.in-Some.ensures.value c.deref_mut.result.now
    c.tell_and_part-left.new.session c.deref_mut.ensures.value c.args.out.now.items c.tell_and_part-left.new.out.items
    c.tell_and_part-left.ensures.parted

pub returns-clause-goes : goal.returns-clause-goes
returns-clause-goes c least =
    parted-goes c.args.talk.now c.args.session c.args.handle c.args.count c.args.answers c.args.answer.closed
    c.args.answer.error c.tell_and_part-left.result
    (behind-talk c.args.talk.now c.args.session c.in-Some.session.now c.tell_and_part-left.new.session)
    c.args.out.now.items c.tell_and_part-left.new.out.items c.args._limit c.len-from.result c.args.answer.place
    (hands-on
    (TellsAndParts c.args.count c.args.handle c.args.answers c.args.answer.closed c.args.answer.error
    c.tell_and_part-left.result)
    c.args.talk.now c.args.session c.in-Some.session.now c.in-Some.ensures.value c.deref_mut.result.now
    c.tell_and_part-left.new.session c.deref_mut.ensures.value c.args.out.now.items c.tell_and_part-left.new.out.items
    c.tell_and_part-left.ensures.parted)
    (c.len-from.ensures ∙ c.args.out.now.ok.0) c.frames_are_read.ensures c.requires.place least

pub returns-clause-rests : goal.returns-clause-rests
returns-clause-rests c =
    parted-rests c.args.talk.now c.args.session c.args.handle c.args.count c.args.answers c.args.answer.closed
    c.args.answer.error c.tell_and_part-left.result
    (behind-talk c.args.talk.now c.args.session c.in-Some.session.now c.tell_and_part-left.new.session)
    c.args.out.now.items c.tell_and_part-left.new.out.items
    (hands-on
    (TellsAndParts c.args.count c.args.handle c.args.answers c.args.answer.closed c.args.answer.error
    c.tell_and_part-left.result)
    c.args.talk.now c.args.session c.in-Some.session.now c.in-Some.ensures.value c.deref_mut.result.now
    c.tell_and_part-left.new.session c.deref_mut.ensures.value c.args.out.now.items c.tell_and_part-left.new.out.items
    c.tell_and_part-left.ensures.parted)

pub returns-clause-told : goal.returns-clause-told
returns-clause-told c error copies =
    c.tell_and_part-left.ensures.told error copies
    ∙ ap (λ (l : List Event). c.args.events.now.items ++ l)
    (told-there c.args.talk.now c.args.session c.args.handle c.in-Some.session.now c.deref_mut.result.now c.args.count
    error c.in-Some.ensures.value c.deref_mut.ensures.value)
