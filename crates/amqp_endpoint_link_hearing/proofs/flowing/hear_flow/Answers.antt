use Rattle.std.proofs.Common.{List, arith, drop, subst, sym, ◌∙◌}
use Rattle.std.specs.VecDeque.{deque_capacity, deque_len}
use Rattle.amqp_session_performatives.specs.declared.session_frame.SessionFrame.{SessionFrame}
use Rattle.amqp_endpoint_links.specs.declared.hearing.LinkPerformative.TheVariants as said
use Rattle.amqp_endpoint_conversation.specs.Going.{Goes, Rests}
use Rattle.amqp_endpoint_conversation.proofs.Goings.{goes-on, rests-on}
use Rattle.amqp_endpoint_link_hearing.proofs.FlowReadied.{can-be-readied, may-goes, may-rests}
use Rattle.amqp_endpoint_link_hearing.proofs.FlowServes.{serves-behind, to-go-on}
use Rattle.amqp_endpoint_link_hearing.proofs.Flows.{back, flow-bars, flow-fails, flow-heard, flow-taken}
use Rattle.amqp_endpoint_link_hearing.proofs.Flows.{goes-back, grown, rests-back}
use Rattle.amqp_endpoint_link_hearing.proofs.Lent.{goes-same}
use Rattle.amqp_endpoint_link_hearing.proofs.Plain.{answers-plain}
use Rattle.amqp_endpoint_link_hearing.proofs.Refusals.{bars, ended, fails}
use Rattle.amqp_endpoint_link_hearing.proofs.Releases.{stands-on}
use Rattle.amqp_endpoint_link_hearing.proofs.flowing.hear_flow.Goals as goal

pub make_ready-requires : goal.make_ready-requires
make_ready-requires c =
    can-be-readied c.args.talk.now c.args.channel c.args.flow c.in_ok-planned.planned c.in_ok-planned.ensures

pub returns-in_err-ready-clause-goes : goal.returns-in_err-ready-clause-goes
returns-in_err-ready-clause-goes c least =
    goes-same c.args.limit c.args.talk.now c.make_ready.new.talk c.args.out.now.items c.make_ready.new.out.items
    c.in_err-ready.ensures.kept c.make_ready.ensures.out

pub let_go-requires : goal.let_go-requires
let_go-requires c =
    stands-on c.make_ready.new.talk c.args.channel c.make_ready.new.out.items (said.Flow c.args.flow) c.in-Ok.heard
    c.session_of.result c.session_of.ensures c.hear.new.talk c.hear.new.out.items c.in-Ok.ensures.step

pub go_on-requires-clause-serves : goal.go_on-requires-clause-serves
go_on-requires-clause-serves c =
    serves-behind c.make_ready.new.talk c.args.channel c.make_ready.new.out.items c.args.flow c.hear.new.talk
    c.hear.new.out.items (drop c.len-from.result c.hear.new.out.items) c.let_go.new.talk c.args.links.now
    c.let_go.new.links c.args.limit (deque_len c.make_ready.new.out) (deque_capacity c.make_ready.new.out)
    c.in-Ok.heard c.session_of.result c.session_of.ensures c.in-Ok.ensures.step c.let_go.ensures.leave
    c.in_ok-ready.ready (c.in_ok-ready.ensures.ready c.args.channel c.args.flow c.in_ok-planned.ensures)
    (deque_len c.hear.new.out) (deque_capacity c.hear.new.out)
    (omega (
      arith,
      c.make_ready.new.out.ok.0,
      c.hear.new.out.ok.0,
      grown c.make_ready.new.out.items c.hear.new.out.items (c.hear.ensures.goes 0 answers-plain).frames
          (c.hear.ensures.goes 0 answers-plain).queued,
    ))
    c.in-Ok.ensures.capacity c.in-Ok.ensures.room

pub go_on-requires-clause-tells : goal.go_on-requires-clause-tells
go_on-requires-clause-tells c =
    omega (arith, c.in_ok-make_room_to_tell.ensures.room, c.count_in.ensures, c.in_ok-ready.ensures.counts)

pub refuse-requires : goal.refuse-requires
refuse-requires c = omega (arith, c.in_ok-make_room_to_tell.ensures.room)

pub returns-in-Ok-clause-ok : goal.returns-in-Ok-clause-ok
returns-in-Ok-clause-ok c =
    flow-heard c.args.talk.now c.args.channel c.args.flow c.make_ready.new.talk
    (c.in_ok-ready.ensures.made c.args.channel c.args.flow c.in_ok-planned.ensures) c.args.links.now
    c.let_go.new.links c.args.limit c.go_on.new.talk c.args.out.now.items c.make_ready.new.out.items
    c.go_on.new.out.items c.args.events.now.items c.make_room_to_tell.new.events.items c.go_on.new.events.items
    c.make_ready.ensures.out c.make_room_to_tell.ensures.same
    (flow-taken c.make_ready.new.talk c.args.links.now c.let_go.new.links c.args.limit c.args.channel c.args.flow
    c.make_ready.new.out.items c.in-Ok.heard c.session_of.result c.session_of.ensures c.hear.new.talk
    c.hear.new.out.items c.in-Ok.ensures.step (c.hear.ensures.goes 0 answers-plain) c.len-from.result
    (c.len-from.ensures ∙ c.make_ready.new.out.ok.0) c.let_go.new.talk c.let_go.ensures.leave c.go_on.new.talk
    c.go_on.new.out.items c.make_room_to_tell.new.events.items c.go_on.new.events.items
    (c.go_on.ensures.does c.args.limit c.session_of.result c.args.flow.handle
    (to-go-on c.make_ready.new.talk c.args.channel c.make_ready.new.out.items c.args.flow c.hear.new.talk
    c.hear.new.out.items (drop c.len-from.result c.hear.new.out.items) c.let_go.new.talk c.args.links.now
    c.let_go.new.links c.args.limit (deque_len c.make_ready.new.out) (deque_capacity c.make_ready.new.out)
    c.in-Ok.heard c.session_of.result c.session_of.ensures c.in-Ok.ensures.step c.let_go.ensures.leave
    c.in_ok-ready.ready (c.in_ok-ready.ensures.ready c.args.channel c.args.flow c.in_ok-planned.ensures))))

pub returns-in-Ok-clause-goes : goal.returns-in-Ok-clause-goes
returns-in-Ok-clause-goes c least =
    goes-on c.args.limit c.args.talk.now c.make_ready.new.talk c.go_on.new.talk c.args.out.now.items
    c.make_ready.new.out.items c.go_on.new.out.items
    (may-goes c.args.limit c.args.talk.now c.args.channel c.make_ready.new.talk c.args.out.now.items
    c.make_ready.new.out.items c.make_ready.ensures.out
    (c.in_ok-ready.ensures.made c.args.channel c.args.flow c.in_ok-planned.ensures))
    (goes-on c.args.limit c.make_ready.new.talk c.hear.new.talk c.go_on.new.talk c.make_ready.new.out.items
    c.hear.new.out.items c.go_on.new.out.items (c.hear.ensures.goes c.args.limit answers-plain)
    (goes-on c.args.limit c.hear.new.talk c.let_go.new.talk c.go_on.new.talk c.hear.new.out.items
    c.hear.new.out.items c.go_on.new.out.items (c.let_go.ensures.goes c.args.limit)
    (c.go_on.ensures.goes c.args.limit c.session_of.result c.args.flow.handle
    (to-go-on c.make_ready.new.talk c.args.channel c.make_ready.new.out.items c.args.flow c.hear.new.talk
    c.hear.new.out.items (drop c.len-from.result c.hear.new.out.items) c.let_go.new.talk c.args.links.now
    c.let_go.new.links c.args.limit (deque_len c.make_ready.new.out) (deque_capacity c.make_ready.new.out)
    c.in-Ok.heard c.session_of.result c.session_of.ensures c.in-Ok.ensures.step c.let_go.ensures.leave
    c.in_ok-ready.ready (c.in_ok-ready.ensures.ready c.args.channel c.args.flow c.in_ok-planned.ensures))
    least)))

pub returns-in-Ok-clause-rests : goal.returns-in-Ok-clause-rests
returns-in-Ok-clause-rests c =
    rests-on c.args.talk.now c.make_ready.new.talk c.go_on.new.talk c.args.out.now.items c.make_ready.new.out.items
    c.go_on.new.out.items
    (may-rests c.args.talk.now c.args.channel c.make_ready.new.talk c.args.out.now.items
    c.make_ready.new.out.items c.make_ready.ensures.out
    (c.in_ok-ready.ensures.made c.args.channel c.args.flow c.in_ok-planned.ensures))
    (rests-on c.make_ready.new.talk c.hear.new.talk c.go_on.new.talk c.make_ready.new.out.items
    c.hear.new.out.items c.go_on.new.out.items c.hear.ensures.rests
    (rests-on c.hear.new.talk c.let_go.new.talk c.go_on.new.talk c.hear.new.out.items c.hear.new.out.items
    c.go_on.new.out.items c.let_go.ensures.rests
    (c.go_on.ensures.rests c.args.limit c.session_of.result c.args.flow.handle
    (to-go-on c.make_ready.new.talk c.args.channel c.make_ready.new.out.items c.args.flow c.hear.new.talk
    c.hear.new.out.items (drop c.len-from.result c.hear.new.out.items) c.let_go.new.talk c.args.links.now
    c.let_go.new.links c.args.limit (deque_len c.make_ready.new.out) (deque_capacity c.make_ready.new.out)
    c.in-Ok.heard c.session_of.result c.session_of.ensures c.in-Ok.ensures.step c.let_go.ensures.leave
    c.in_ok-ready.ready (c.in_ok-ready.ensures.ready c.args.channel c.args.flow c.in_ok-planned.ensures)))))

pub returns-in-Ok-refuse-clause-ok : goal.returns-in-Ok-refuse-clause-ok
returns-in-Ok-refuse-clause-ok c =
    flow-heard c.args.talk.now c.args.channel c.args.flow c.make_ready.new.talk
    (c.in_ok-ready.ensures.made c.args.channel c.args.flow c.in_ok-planned.ensures) c.args.links.now
    c.refuse.new.links c.args.limit c.hear.new.talk c.args.out.now.items c.make_ready.new.out.items
    c.hear.new.out.items c.args.events.now.items c.make_room_to_tell.new.events.items c.refuse.new.events.items
    c.make_ready.ensures.out c.make_room_to_tell.ensures.same
    (flow-fails c.make_ready.new.talk c.args.links.now c.refuse.new.links c.args.limit c.args.channel c.args.flow
    c.make_ready.new.out.items c.hear.new.talk c.hear.new.out.items c.make_room_to_tell.new.events.items
    c.refuse.new.events.items
    (fails c.make_ready.new.talk c.args.channel (said.Flow c.args.flow) c.make_ready.new.out.items c.hear.new.talk
    c.hear.new.out.items (c.hear.ensures.goes 0 answers-plain) c.args.links.now c.refuse.new.links
    c.make_room_to_tell.new.events.items c.refuse.new.events.items c.in-Err.refusal c.in-Err.ensures.step
    c.in-Ok-refuse.ensures))

pub returns-in-Ok-refuse-clause-goes : goal.returns-in-Ok-refuse-clause-goes
returns-in-Ok-refuse-clause-goes c least =
    goes-on c.args.limit c.args.talk.now c.make_ready.new.talk c.hear.new.talk c.args.out.now.items
    c.make_ready.new.out.items c.hear.new.out.items
    (may-goes c.args.limit c.args.talk.now c.args.channel c.make_ready.new.talk c.args.out.now.items
    c.make_ready.new.out.items c.make_ready.ensures.out
    (c.in_ok-ready.ensures.made c.args.channel c.args.flow c.in_ok-planned.ensures))
    (c.hear.ensures.goes c.args.limit answers-plain)

pub returns-in-Ok-refuse-clause-rests : goal.returns-in-Ok-refuse-clause-rests
returns-in-Ok-refuse-clause-rests c =
    rests-on c.args.talk.now c.make_ready.new.talk c.hear.new.talk c.args.out.now.items c.make_ready.new.out.items
    c.hear.new.out.items
    (may-rests c.args.talk.now c.args.channel c.make_ready.new.talk c.args.out.now.items
    c.make_ready.new.out.items c.make_ready.ensures.out
    (c.in_ok-ready.ensures.made c.args.channel c.args.flow c.in_ok-planned.ensures))
    c.hear.ensures.rests

pub returns-clause-err : goal.returns-clause-err
returns-clause-err c =
    flow-bars c.args.talk.now c.args.channel c.args.flow c.make_ready.new.talk
    (c.in_ok-ready.ensures.made c.args.channel c.args.flow c.in_ok-planned.ensures) c.hear.new.talk
    c.in-Err-refuse.error
    (bars c.make_ready.new.talk c.args.channel (said.Flow c.args.flow) c.make_ready.new.out.items c.hear.new.talk
    c.hear.new.out.items (c.hear.ensures.goes 0 answers-plain) c.args.links.now c.refuse.new.links
    c.make_room_to_tell.new.events.items c.refuse.new.events.items c.in-Err.refusal c.in-Err-refuse.error
    c.in-Err.ensures.step c.in-Err-refuse.ensures)

pub returns-clause-kept : goal.returns-clause-kept
returns-clause-kept c =
    let goes = c.hear.ensures.goes 0 answers-plain in
    let is =
    ended c.make_ready.new.talk c.args.channel (said.Flow c.args.flow) c.make_ready.new.out.items c.hear.new.talk
    c.hear.new.out.items goes c.args.links.now c.refuse.new.links c.make_room_to_tell.new.events.items
    c.refuse.new.events.items c.in-Err.refusal c.in-Err-refuse.error c.in-Err-refuse.ensures in (
      is.1,
      c.truncate.ensures.items
          ∙ back c.make_ready.new.out.items c.hear.new.out.items goes.frames c.len-from.result
          (c.len-from.ensures ∙ c.make_ready.new.out.ok.0) goes.queued
          ∙ c.make_ready.ensures.out,
      is.2 ∙ c.make_room_to_tell.ensures.same,
    )

pub returns-clause-goes : goal.returns-clause-goes
returns-clause-goes c least =
    subst (λ (o : List SessionFrame). Goes c.args.limit c.args.talk.now c.hear.new.talk c.args.out.now.items o)
    (sym c.truncate.ensures.items)
    (goes-on c.args.limit c.args.talk.now c.make_ready.new.talk c.hear.new.talk c.args.out.now.items
    c.make_ready.new.out.items _
    (may-goes c.args.limit c.args.talk.now c.args.channel c.make_ready.new.talk c.args.out.now.items
    c.make_ready.new.out.items c.make_ready.ensures.out
    (c.in_ok-ready.ensures.made c.args.channel c.args.flow c.in_ok-planned.ensures))
    (goes-back c.make_ready.new.talk c.hear.new.talk c.make_ready.new.out.items c.hear.new.out.items
    c.len-from.result (c.len-from.ensures ∙ c.make_ready.new.out.ok.0) c.args.limit
    (c.hear.ensures.goes c.args.limit answers-plain)))

pub returns-clause-rests : goal.returns-clause-rests
returns-clause-rests c =
    subst (λ (o : List SessionFrame). Rests c.args.talk.now c.hear.new.talk c.args.out.now.items o)
    (sym c.truncate.ensures.items)
    (rests-on c.args.talk.now c.make_ready.new.talk c.hear.new.talk c.args.out.now.items
    c.make_ready.new.out.items _
    (may-rests c.args.talk.now c.args.channel c.make_ready.new.talk c.args.out.now.items
    c.make_ready.new.out.items c.make_ready.ensures.out
    (c.in_ok-ready.ensures.made c.args.channel c.args.flow c.in_ok-planned.ensures))
    (rests-back c.make_ready.new.talk c.hear.new.talk c.make_ready.new.out.items c.hear.new.out.items
    c.len-from.result (c.len-from.ensures ∙ c.make_ready.new.out.ok.0) (c.hear.ensures.goes 0 answers-plain)
    c.hear.ensures.rests))
