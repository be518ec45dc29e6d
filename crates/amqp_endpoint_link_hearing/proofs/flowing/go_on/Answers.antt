use Rattle.std.proofs.Common.{◌∷◌, subst, ◌∙◌}
use Rattle.std.specs.VecDeque.{deque_capacity, deque_len}
use Rattle.amqp_endpoint_attached.specs.Linked.{Linked}
use Rattle.amqp_endpoint_messages.specs.SendingOn.{HasRoomToGoOn, MayGoOn}
use Rattle.amqp_endpoint_link_hearing.proofs.AttachReadied.{closing-fits}
use Rattle.amqp_endpoint_link_hearing.proofs.FlowReadied.{is-to-go-on, lent-value, none-goes-on, none-serves}
use Rattle.amqp_endpoint_link_hearing.proofs.FlowReadied.{sends-on-by, sent-goes, sent-rests, serves-on}
use Rattle.amqp_endpoint_link_hearing.proofs.flowing.go_on.Goals as goal

pub returns-in_default-clause-does : goal.returns-in_default-clause-does
returns-in_default-clause-does c = λ limit session named to.
    none-goes-on limit session named c.args.talk.now c.args.ready to c.in_default.is c.args.out.now.items
    c.args.events.now.items

pub unreachable-requires : goal.unreachable-requires
unreachable-requires c =
    absurd
    (none-serves c.args.talk.now _ _ c.args.ready c.requires.serves c.in-Some.ready c.in-Some.is
    c.in_default-live_mut.ensures.value)

pub send_on-requires-clause-may : goal.send_on-requires-clause-may
send_on-requires-clause-may c =
    subst (λ (s : Linked). MayGoOn c.in-Some.ready s)
    (lent-value c.args.talk.now _ _ c.args.ready c.requires.serves c.in-Some.ready c.in-Some.is
    c.in-Some-live_mut.session.now c.deref_mut.result.now c.in-Some-live_mut.ensures.value c.deref_mut.ensures.value)
    (serves-on c.args.talk.now _ _ c.args.ready c.requires.serves c.in-Some.ready c.in-Some.is).may

pub send_on-requires-clause-sends : goal.send_on-requires-clause-sends
send_on-requires-clause-sends c =
    subst
    (λ (s : Linked). HasRoomToGoOn c.in-Some.ready 1 s (deque_len c.args.out.now) (deque_capacity c.args.out.now))
    (lent-value c.args.talk.now _ _ c.args.ready c.requires.serves c.in-Some.ready c.in-Some.is
    c.in-Some-live_mut.session.now c.deref_mut.result.now c.in-Some-live_mut.ensures.value c.deref_mut.ensures.value)
    (serves-on c.args.talk.now _ _ c.args.ready c.requires.serves c.in-Some.ready c.in-Some.is).room

pub returns-clause-does : goal.returns-clause-does
returns-clause-does c = λ limit session named to.
    let is = is-to-go-on limit session named c.args.talk.now c.args.ready to c.in-Some.ready c.in-Some.is in
    sends-on-by limit session named c.args.talk.now c.args.ready to c.in-Some.ready c.in-Some.is
    c.in-Some-live_mut.session.now c.deref_mut.result.now c.send_on.new.session c.in-Some-live_mut.ensures.value
    c.deref_mut.ensures.value c.args.out.now.items c.send_on.new.out.items c.args.events.now.items
    c.send_on.new.events.items (c.send_on.ensures limit (is.first ∷ is.others) is.on)

pub returns-clause-goes : goal.returns-clause-goes
returns-clause-goes c = λ limit session named to least.
    let is = is-to-go-on limit session named c.args.talk.now c.args.ready to c.in-Some.ready c.in-Some.is in
    sent-goes limit session named c.args.talk.now c.args.ready to c.in-Some.ready c.in-Some.is
    c.in-Some-live_mut.session.now c.deref_mut.result.now c.send_on.new.session c.in-Some-live_mut.ensures.value
    c.deref_mut.ensures.value c.args.out.now.items c.send_on.new.out.items c.args.events.now.items
    c.send_on.new.events.items (c.send_on.ensures limit (is.first ∷ is.others) is.on) c.len-from.result
    (closing-fits limit c.in-Some.ready.closing.handle c.handle_is_read.ensures least)
    (c.len-from.ensures ∙ c.args.out.now.ok.0) c.frames_are_read.ensures

pub returns-clause-rests : goal.returns-clause-rests
returns-clause-rests c = λ limit session named to.
    let is = is-to-go-on limit session named c.args.talk.now c.args.ready to c.in-Some.ready c.in-Some.is in
    sent-rests limit session named c.args.talk.now c.args.ready to c.in-Some.ready c.in-Some.is
    c.in-Some-live_mut.session.now c.deref_mut.result.now c.send_on.new.session c.in-Some-live_mut.ensures.value
    c.deref_mut.ensures.value c.args.out.now.items c.send_on.new.out.items c.args.events.now.items
    c.send_on.new.events.items (c.send_on.ensures limit (is.first ∷ is.others) is.on)
