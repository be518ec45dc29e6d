use Rattle.std.proofs.Common.{ℕ, ◌+◌, List, arith, refl, subst, sym, ◌∙◌}
use Rattle.std.specs.Vec.{vec_capacity, vec_len}
use Rattle.std.specs.VecDeque.{deque_capacity, deque_len}
use Rattle.amqp_session_performatives.specs.declared.attach.Attach.{Attach}
use Rattle.amqp_session_performatives.specs.declared.session_frame.SessionFrame.{SessionFrame}
use Rattle.amqp_endpoint_links.specs.declared.hearing.LinkPerformative.TheVariants as said
use Rattle.amqp_endpoint_conversation.proofs.Goings.{goes-on, rests-on}
use Rattle.amqp_endpoint_messages.specs.MadeReady.{HasRoomToTell}
use Rattle.amqp_endpoint_model.specs.declared.event.Event.{Event}
use Rattle.amqp_endpoint_linking.specs.Handed.{Tells}
use Rattle.amqp_endpoint_link_hearing.specs.Attaching.{BecomesBy}
use Rattle.amqp_endpoint_link_hearing.specs.Naming.{IsNamedOn}
use Rattle.amqp_endpoint_link_hearing.specs.Readied.{Readies, Serves, count_of}
use Rattle.amqp_endpoint_link_hearing.proofs.AttachReadied.{placed-on}
use Rattle.amqp_endpoint_link_hearing.proofs.AttachServes.{becomes-opened, serves-for, to-do-for}
use Rattle.amqp_endpoint_link_hearing.proofs.Attaches.{attach-bars, attach-fails, attach-heard, attach-taken, room-goes}
use Rattle.amqp_endpoint_link_hearing.proofs.Attaches.{room-rests}
use Rattle.amqp_endpoint_link_hearing.proofs.Lent.{goes-same}
use Rattle.amqp_endpoint_link_hearing.proofs.Plain.{answers-plain}
use Rattle.amqp_endpoint_link_hearing.proofs.Refusals.{bars, fails, heard-kept, kept}
use Rattle.amqp_endpoint_link_hearing.proofs.attaching.hear_attach.Goals as goal

pub make_ready-requires : goal.make_ready-requires
make_ready-requires c =
    placed-on c.args.talk.now c.args.channel c.named_on-named.result c.in_ok-closing.closing c.in_ok-closing.ensures

pub returns-in_err-ready-clause-goes : goal.returns-in_err-ready-clause-goes
returns-in_err-ready-clause-goes c least =
    goes-same c.args.limit c.args.talk.now c.make_ready.new.talk c.args.out.now.items c.make_ready.new.out.items
    c.in_err-ready.ensures.kept c.make_ready.ensures.out

pub attach_heard-requires-clause-serves : goal.attach_heard-requires-clause-serves
attach_heard-requires-clause-serves c =
    subst
    (λ o. Serves c.hear.new.talk c.attach_of-took.result c.named_on-named.result (deque_len o) (deque_capacity o)
    c.in_ok-ready.ready)
    (sym (c.in-Ok.ensures.untouched refl))
    (serves-for c.args.limit c.make_ready.new.talk c.args.channel c.make_ready.new.out.items c.args.attach _ _
    c.in_ok-ready.ready c.hear.new.talk c.hear.new.out.items c.named_on-named.result c.in-Ok.heard
    c.attach_of-took.result c.attach_of-took.ensures
    (subst
    (λ (it : Attach). Readies c.args.limit c.make_ready.new.talk c.args.channel c.named_on-named.result it
    (deque_len c.make_ready.new.out) (deque_capacity c.make_ready.new.out) c.in_ok-ready.ready)
    c.deref-2.ensures
    (c.in_ok-ready.ensures.ready c.args.channel c.named_on-named.result c.in_ok-closing.ensures))
    c.in-Ok.ensures.step)

pub attach_heard-requires-clause-tells : goal.attach_heard-requires-clause-tells
attach_heard-requires-clause-tells c =
    subst
    (λ (n : ℕ). HasRoomToTell n (vec_len c.make_room_to_tell.new.events + 1)
    (vec_capacity c.make_room_to_tell.new.events))
    (c.count_in.ensures ∙ sym c.in_ok-ready.ensures.counts) c.in_ok-make_room_to_tell.ensures.room

pub refuse-requires : goal.refuse-requires
refuse-requires c = omega (arith, c.in_ok-make_room_to_tell.ensures.room)

pub returns-in-Ok-clause-ok : goal.returns-in-Ok-clause-ok
returns-in-Ok-clause-ok c =
    attach-heard c.args.talk.now c.args.links.now c.args.channel c.args.attach c.named_on-named.result
    (subst
    (λ (it : Attach). IsNamedOn c.args.talk.now c.args.links.now c.args.channel it c.named_on-named.result)
    c.deref.ensures c.named_on-named.ensures)
    c.make_ready.new.talk
    (c.in_ok-ready.ensures.made c.args.channel c.named_on-named.result c.in_ok-closing.ensures) c.args.limit
    c.attach_heard.new.talk c.args.links.now c.args.out.now.items c.make_ready.new.out.items
    c.attach_heard.new.out.items c.args.events.now.items c.make_room_to_tell.new.events.items
    c.attach_heard.new.events.items c.make_ready.ensures.out c.make_room_to_tell.ensures.same
    (attach-taken c.named_on-named.result c.make_ready.new.talk c.args.links.now c.args.limit c.args.channel
    c.args.attach c.make_ready.new.out.items c.hear.new.out.items c.hear.new.talk
    (heard-kept c.make_ready.new.talk (said.Attach c.args.attach c.named_on-named.result) c.make_ready.new.out.items
    c.hear.new.talk c.hear.new.out.items refl c.args.channel c.in-Ok.heard c.in-Ok.ensures.step)
    c.in-Ok.heard c.in-Ok.ensures.step c.attach_of-took.result c.attach_of-took.ensures
    (count_of c.in_ok-ready.ready) c.attach_heard.new.talk c.args.links.now c.make_room_to_tell.new.events.items
    c.attach_heard.new.events.items c.attach_heard.new.out.items refl
    (λ frames events.
    becomes-opened c.args.limit c.make_ready.new.talk c.args.channel c.make_ready.new.out.items c.args.attach _ _
    c.in_ok-ready.ready c.hear.new.talk c.hear.new.out.items frames events c.attach_heard.new.talk
    c.named_on-named.result c.in-Ok.heard
    (subst
    (λ (it : Attach). Readies c.args.limit c.make_ready.new.talk c.args.channel c.named_on-named.result it
    (deque_len c.make_ready.new.out) (deque_capacity c.make_ready.new.out) c.in_ok-ready.ready)
    c.deref-2.ensures
    (c.in_ok-ready.ensures.ready c.args.channel c.named_on-named.result c.in_ok-closing.ensures))
    c.in-Ok.ensures.step)
    (subst
    (λ (attach : Attach).
    Tells (λ (frames : List SessionFrame) (events : List Event).
    BecomesBy c.args.limit (count_of c.in_ok-ready.ready) c.attach_of-took.result c.named_on-named.result
    c.hear.new.talk attach frames events c.attach_heard.new.talk)
    c.hear.new.out.items c.make_room_to_tell.new.events.items c.attach_heard.new.out.items
    c.attach_heard.new.events.items)
    c.in_ok-asked.ensures.cases
    (c.attach_heard.ensures.becomes c.args.limit
    (to-do-for c.args.limit c.make_ready.new.talk c.args.channel c.make_ready.new.out.items c.args.attach _ _
    c.in_ok-ready.ready c.hear.new.talk c.hear.new.out.items c.named_on-named.result c.in-Ok.heard
    c.attach_of-took.result c.attach_of-took.ensures
    (subst
    (λ (it : Attach). Readies c.args.limit c.make_ready.new.talk c.args.channel c.named_on-named.result it
    (deque_len c.make_ready.new.out) (deque_capacity c.make_ready.new.out) c.in_ok-ready.ready)
    c.deref-2.ensures
    (c.in_ok-ready.ensures.ready c.args.channel c.named_on-named.result c.in_ok-closing.ensures))
    c.in-Ok.ensures.step))))

pub returns-in-Ok-clause-goes : goal.returns-in-Ok-clause-goes
returns-in-Ok-clause-goes c least =
    goes-on c.args.limit c.args.talk.now c.make_ready.new.talk c.attach_heard.new.talk c.args.out.now.items
    c.make_ready.new.out.items c.attach_heard.new.out.items
    (room-goes c.args.limit c.named_on-named.result c.args.talk.now c.args.channel c.make_ready.new.talk
    c.args.out.now.items c.make_ready.new.out.items c.make_ready.ensures.out
    (c.in_ok-ready.ensures.made c.args.channel c.named_on-named.result c.in_ok-closing.ensures))
    (goes-on c.args.limit c.make_ready.new.talk c.hear.new.talk c.attach_heard.new.talk c.make_ready.new.out.items
    c.hear.new.out.items c.attach_heard.new.out.items (c.hear.ensures.goes c.args.limit answers-plain)
    (c.attach_heard.ensures.goes c.args.limit
    (to-do-for c.args.limit c.make_ready.new.talk c.args.channel c.make_ready.new.out.items c.args.attach _ _
    c.in_ok-ready.ready c.hear.new.talk c.hear.new.out.items c.named_on-named.result c.in-Ok.heard
    c.attach_of-took.result c.attach_of-took.ensures
    (subst
    (λ (it : Attach). Readies c.args.limit c.make_ready.new.talk c.args.channel c.named_on-named.result it
    (deque_len c.make_ready.new.out) (deque_capacity c.make_ready.new.out) c.in_ok-ready.ready)
    c.deref-2.ensures
    (c.in_ok-ready.ensures.ready c.args.channel c.named_on-named.result c.in_ok-closing.ensures))
    c.in-Ok.ensures.step)
    least))

pub returns-in-Ok-clause-rests : goal.returns-in-Ok-clause-rests
returns-in-Ok-clause-rests c =
    rests-on c.args.talk.now c.make_ready.new.talk c.attach_heard.new.talk c.args.out.now.items
    c.make_ready.new.out.items c.attach_heard.new.out.items
    (room-rests c.named_on-named.result c.args.talk.now c.args.channel c.make_ready.new.talk
    c.args.out.now.items c.make_ready.new.out.items c.make_ready.ensures.out
    (c.in_ok-ready.ensures.made c.args.channel c.named_on-named.result c.in_ok-closing.ensures))
    (rests-on c.make_ready.new.talk c.hear.new.talk c.attach_heard.new.talk c.make_ready.new.out.items
    c.hear.new.out.items c.attach_heard.new.out.items c.hear.ensures.rests
    (c.attach_heard.ensures.rests c.args.limit
    (to-do-for c.args.limit c.make_ready.new.talk c.args.channel c.make_ready.new.out.items c.args.attach _ _
    c.in_ok-ready.ready c.hear.new.talk c.hear.new.out.items c.named_on-named.result c.in-Ok.heard
    c.attach_of-took.result c.attach_of-took.ensures
    (subst
    (λ (it : Attach). Readies c.args.limit c.make_ready.new.talk c.args.channel c.named_on-named.result it
    (deque_len c.make_ready.new.out) (deque_capacity c.make_ready.new.out) c.in_ok-ready.ready)
    c.deref-2.ensures
    (c.in_ok-ready.ensures.ready c.args.channel c.named_on-named.result c.in_ok-closing.ensures))
    c.in-Ok.ensures.step)))

pub returns-in-Ok-refuse-clause-ok : goal.returns-in-Ok-refuse-clause-ok
returns-in-Ok-refuse-clause-ok c =
    attach-heard c.args.talk.now c.args.links.now c.args.channel c.args.attach c.named_on-named.result
    (subst
    (λ (it : Attach). IsNamedOn c.args.talk.now c.args.links.now c.args.channel it c.named_on-named.result)
    c.deref.ensures c.named_on-named.ensures)
    c.make_ready.new.talk
    (c.in_ok-ready.ensures.made c.args.channel c.named_on-named.result c.in_ok-closing.ensures) c.args.limit
    c.hear.new.talk c.refuse.new.links c.args.out.now.items c.make_ready.new.out.items
    c.hear.new.out.items c.args.events.now.items c.make_room_to_tell.new.events.items
    c.refuse.new.events.items c.make_ready.ensures.out c.make_room_to_tell.ensures.same
    (attach-fails c.named_on-named.result c.make_ready.new.talk c.args.links.now c.args.limit c.args.channel
    c.args.attach c.make_ready.new.out.items c.hear.new.out.items c.hear.new.talk c.refuse.new.links
    c.make_room_to_tell.new.events.items c.refuse.new.events.items
    (fails c.make_ready.new.talk c.args.channel (said.Attach c.args.attach c.named_on-named.result)
    c.make_ready.new.out.items c.hear.new.talk c.hear.new.out.items (c.hear.ensures.goes 0 answers-plain)
    c.args.links.now c.refuse.new.links c.make_room_to_tell.new.events.items c.refuse.new.events.items
    c.in-Err.refusal c.in-Err.ensures.step c.in-Ok-refuse.ensures))

pub returns-in-Ok-refuse-clause-goes : goal.returns-in-Ok-refuse-clause-goes
returns-in-Ok-refuse-clause-goes c least =
    goes-on c.args.limit c.args.talk.now c.make_ready.new.talk c.hear.new.talk c.args.out.now.items
    c.make_ready.new.out.items c.hear.new.out.items
    (room-goes c.args.limit c.named_on-named.result c.args.talk.now c.args.channel c.make_ready.new.talk
    c.args.out.now.items c.make_ready.new.out.items c.make_ready.ensures.out
    (c.in_ok-ready.ensures.made c.args.channel c.named_on-named.result c.in_ok-closing.ensures))
    (c.hear.ensures.goes c.args.limit answers-plain)

pub returns-in-Ok-refuse-clause-rests : goal.returns-in-Ok-refuse-clause-rests
returns-in-Ok-refuse-clause-rests c =
    rests-on c.args.talk.now c.make_ready.new.talk c.hear.new.talk c.args.out.now.items
    c.make_ready.new.out.items c.hear.new.out.items
    (room-rests c.named_on-named.result c.args.talk.now c.args.channel c.make_ready.new.talk
    c.args.out.now.items c.make_ready.new.out.items c.make_ready.ensures.out
    (c.in_ok-ready.ensures.made c.args.channel c.named_on-named.result c.in_ok-closing.ensures))
    c.hear.ensures.rests

pub returns-clause-err : goal.returns-clause-err
returns-clause-err c =
    attach-bars c.args.talk.now c.args.links.now c.args.channel c.args.attach c.named_on-named.result
    (subst
    (λ (it : Attach). IsNamedOn c.args.talk.now c.args.links.now c.args.channel it c.named_on-named.result)
    c.deref.ensures c.named_on-named.ensures)
    c.make_ready.new.talk
    (c.in_ok-ready.ensures.made c.args.channel c.named_on-named.result c.in_ok-closing.ensures) c.hear.new.talk
    c.in-Err-refuse.error
    (bars c.make_ready.new.talk c.args.channel (said.Attach c.args.attach c.named_on-named.result)
    c.make_ready.new.out.items c.hear.new.talk c.hear.new.out.items (c.hear.ensures.goes 0 answers-plain)
    c.args.links.now c.refuse.new.links c.make_room_to_tell.new.events.items c.refuse.new.events.items
    c.in-Err.refusal c.in-Err-refuse.error c.in-Err.ensures.step c.in-Err-refuse.ensures)

pub returns-clause-kept : goal.returns-clause-kept
returns-clause-kept c =
    let same =
    kept c.make_ready.new.talk c.args.channel (said.Attach c.args.attach c.named_on-named.result)
    c.make_ready.new.out.items c.hear.new.talk c.hear.new.out.items (c.hear.ensures.goes 0 answers-plain)
    c.args.links.now c.refuse.new.links c.make_room_to_tell.new.events.items c.refuse.new.events.items
    c.in-Err.refusal c.in-Err-refuse.error refl c.in-Err.ensures.step c.in-Err-refuse.ensures in (
      same.0,
      same.1 ∙ c.make_ready.ensures.out,
      same.2 ∙ c.make_room_to_tell.ensures.same,
    )

pub returns-clause-goes : goal.returns-clause-goes
returns-clause-goes c least =
    goes-on c.args.limit c.args.talk.now c.make_ready.new.talk c.hear.new.talk c.args.out.now.items
    c.make_ready.new.out.items c.hear.new.out.items
    (room-goes c.args.limit c.named_on-named.result c.args.talk.now c.args.channel c.make_ready.new.talk
    c.args.out.now.items c.make_ready.new.out.items c.make_ready.ensures.out
    (c.in_ok-ready.ensures.made c.args.channel c.named_on-named.result c.in_ok-closing.ensures))
    (c.hear.ensures.goes c.args.limit answers-plain)

pub returns-clause-rests : goal.returns-clause-rests
returns-clause-rests c =
    rests-on c.args.talk.now c.make_ready.new.talk c.hear.new.talk c.args.out.now.items
    c.make_ready.new.out.items c.hear.new.out.items
    (room-rests c.named_on-named.result c.args.talk.now c.args.channel c.make_ready.new.talk
    c.args.out.now.items c.make_ready.new.out.items c.make_ready.ensures.out
    (c.in_ok-ready.ensures.made c.args.channel c.named_on-named.result c.in_ok-closing.ensures))
    c.hear.ensures.rests
