use Rattle.std.proofs.Common.{refl, ◌∙◌}
use Rattle.amqp_endpoint_messages.specs.Echoing.{going}
use Rattle.amqp_endpoint_link_hearing.proofs.Dispositions.{echoed-can, echoed-goes, echoed-waits, tells-on}
use Rattle.amqp_endpoint_link_hearing.proofs.Lent.{behind-talk}
use Rattle.amqp_endpoint_link_hearing.proofs.disposing.tell_and_echo.Goals as goal

pub returns-clause-done : goal.returns-clause-done
returns-clause-done c =
    tells-on c.args.reached.now c.args.echoes.state (going c.args.limit c.args.echoes.state c.args.runs.now)
    c.args.talk.now c.args.session c.in-Some.session.now c.in-Some.ensures.value c.deref_mut.result.now
    c.deref_mut-2.result.now c.send_echoes.new.session c.deref_mut.ensures.value c.args.out.now.items
    c.send_echoes.new.out.items c.args.events.now.items c.tell_reached.new.events.items
    (c.deref_mut-2.ensures.value ∙ c.tell_reached.ensures.behind) c.send_echoes.ensures.sent
    c.send_echoes.ensures.rest c.send_echoes.ensures.added c.tell_reached.ensures.told

pub returns-clause-keeps : goal.returns-clause-keeps
returns-clause-keeps c made ready =
    echoed-can c.args.reached.now c.args.echoes.state (going c.args.limit c.args.echoes.state c.args.runs.now)
    c.args.talk.now c.args.session
    (behind-talk c.args.talk.now c.args.session c.in-Some.session.now c.send_echoes.new.session)
    c.args.out.now.items c.send_echoes.new.out.items c.args.events.now.items c.tell_reached.new.events.items
    (tells-on c.args.reached.now c.args.echoes.state (going c.args.limit c.args.echoes.state c.args.runs.now)
    c.args.talk.now c.args.session c.in-Some.session.now c.in-Some.ensures.value c.deref_mut.result.now
    c.deref_mut-2.result.now c.send_echoes.new.session c.deref_mut.ensures.value c.args.out.now.items
    c.send_echoes.new.out.items c.args.events.now.items c.tell_reached.new.events.items
    (c.deref_mut-2.ensures.value ∙ c.tell_reached.ensures.behind) c.send_echoes.ensures.sent
    c.send_echoes.ensures.rest c.send_echoes.ensures.added c.tell_reached.ensures.told)
    made ready

pub returns-clause-goes : goal.returns-clause-goes
returns-clause-goes c =
    echoed-goes c.args.reached.now c.args.echoes.state (going c.args.limit c.args.echoes.state c.args.runs.now)
    c.args.talk.now c.args.session
    (behind-talk c.args.talk.now c.args.session c.in-Some.session.now c.send_echoes.new.session)
    c.args.out.now.items c.send_echoes.new.out.items c.args.events.now.items c.tell_reached.new.events.items
    (tells-on c.args.reached.now c.args.echoes.state (going c.args.limit c.args.echoes.state c.args.runs.now)
    c.args.talk.now c.args.session c.in-Some.session.now c.in-Some.ensures.value c.deref_mut.result.now
    c.deref_mut-2.result.now c.send_echoes.new.session c.deref_mut.ensures.value c.args.out.now.items
    c.send_echoes.new.out.items c.args.events.now.items c.tell_reached.new.events.items
    (c.deref_mut-2.ensures.value ∙ c.tell_reached.ensures.behind) c.send_echoes.ensures.sent
    c.send_echoes.ensures.rest c.send_echoes.ensures.added c.tell_reached.ensures.told)
    c.args.limit c.args.runs.now c.ranges.limit.fits refl

pub returns-clause-waits : goal.returns-clause-waits
returns-clause-waits c most within =
    echoed-waits c.args.reached.now c.args.echoes.state (going c.args.limit c.args.echoes.state c.args.runs.now)
    c.args.talk.now c.args.session
    (behind-talk c.args.talk.now c.args.session c.in-Some.session.now c.send_echoes.new.session)
    c.args.out.now.items c.send_echoes.new.out.items c.args.events.now.items c.tell_reached.new.events.items
    (tells-on c.args.reached.now c.args.echoes.state (going c.args.limit c.args.echoes.state c.args.runs.now)
    c.args.talk.now c.args.session c.in-Some.session.now c.in-Some.ensures.value c.deref_mut.result.now
    c.deref_mut-2.result.now c.send_echoes.new.session c.deref_mut.ensures.value c.args.out.now.items
    c.send_echoes.new.out.items c.args.events.now.items c.tell_reached.new.events.items
    (c.deref_mut-2.ensures.value ∙ c.tell_reached.ensures.behind) c.send_echoes.ensures.sent
    c.send_echoes.ensures.rest c.send_echoes.ensures.added c.tell_reached.ensures.told)
    most within
