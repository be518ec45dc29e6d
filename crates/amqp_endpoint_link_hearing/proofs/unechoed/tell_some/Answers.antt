use Rattle.std.proofs.Common.{List, None, ◌++◌, ap, subst, sym, ◌∙◌}
use Rattle.amqp_session_types.specs.declared.error.Error.{Error}
use Rattle.amqp_endpoint_model.specs.declared.event.Event.{Event}
use Rattle.amqp_endpoint_messages.specs.All.{AreCopies}
use Rattle.amqp_endpoint_link_hearing.proofs.Barrings.{lent-tells, some-goes, some-rests}
use Rattle.amqp_endpoint_link_hearing.proofs.Leavings.{no-copies, told-there}
use Rattle.amqp_endpoint_link_hearing.proofs.Lent.{behind-talk}
use Rattle.amqp_endpoint_link_hearing.proofs.unechoed.tell_some.Goals as goal

pub returns-clause-tells : goal.returns-clause-tells
returns-clause-tells c =
    lent-tells c.args.talk.now c.args.session c.in-Some.session.now c.in-Some.ensures.value c.deref_mut.result.now
    c.tell_first.new.session c.deref_mut.ensures.value c.args.count c.args.handle c.tell_first.ensures.tells

pub returns-clause-told : goal.returns-clause-told
returns-clause-told c =
    c.tell_first.ensures.told None
    (subst (λ (l : List Error). AreCopies None c.args.count l) (sym c.new.ensures.items) (no-copies c.args.count))
    ∙ ap (λ (l : List Event). c.args.events.now.items ++ l)
    (told-there c.args.talk.now c.args.session c.args.handle c.in-Some.session.now c.deref_mut.result.now c.args.count
    None c.in-Some.ensures.value c.deref_mut.ensures.value)

pub returns-clause-goes : goal.returns-clause-goes
returns-clause-goes c limit out =
    some-goes c.args.talk.now
    (behind-talk c.args.talk.now c.args.session c.in-Some.session.now c.tell_first.new.session) c.args.session
    c.args.handle c.args.count limit out
    (lent-tells c.args.talk.now c.args.session c.in-Some.session.now c.in-Some.ensures.value c.deref_mut.result.now
    c.tell_first.new.session c.deref_mut.ensures.value c.args.count c.args.handle c.tell_first.ensures.tells)

pub returns-clause-rests : goal.returns-clause-rests
returns-clause-rests c out =
    some-rests c.args.talk.now
    (behind-talk c.args.talk.now c.args.session c.in-Some.session.now c.tell_first.new.session) c.args.session
    c.args.handle c.args.count out
    (lent-tells c.args.talk.now c.args.session c.in-Some.session.now c.in-Some.ensures.value c.deref_mut.result.now
    c.tell_first.new.session c.deref_mut.ensures.value c.args.count c.args.handle c.tell_first.ensures.tells)
