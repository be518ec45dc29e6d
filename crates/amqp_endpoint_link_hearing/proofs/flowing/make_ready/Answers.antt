use Rattle.std.proofs.Common.{Option, ap, inl, refl, sym, ◌∙◌}
use Rattle.std.specs.VecDeque.{deque_capacity, deque_len}
use Rattle.amqp_endpoint_link_hearing.proofs.FlowReadied.{counted-on, each-on, none-lives, place-lent, readied}
use Rattle.amqp_endpoint_link_hearing.proofs.FlowReadied.{room-made, unready}
use Rattle.amqp_endpoint_link_hearing.proofs.Lent.{unlent-talk}
use Rattle.amqp_endpoint_link_hearing.specs.ReadyOn.{count_in}
use Rattle.amqp_endpoint_link_hearing.specs.declared.flowing.Planned.{Planned}
use Rattle.amqp_endpoint_link_hearing.proofs.flowing.make_ready.Goals as goal

pub returns-in_default-clause-ready : goal.returns-in_default-clause-ready
returns-in_default-clause-ready c = λ channel flow plans.
    unready c.args.talk.now channel flow c.args.planned plans c.in_default.is

pub returns-in_default-clause-counts : goal.returns-in_default-clause-counts
returns-in_default-clause-counts c = ap (λ (o : Option Planned). count_in o) (sym c.in_default.is)

pub returns-in_default-clause-made : goal.returns-in_default-clause-made
returns-in_default-clause-made c = λ channel flow plans. inl refl

pub unreachable-requires : goal.unreachable-requires
unreachable-requires c =
    absurd
    (none-lives c.args.talk.now c.args.planned c.requires c.in-Some.planned
    c.in-Some.is c.in_default-live_mut.ensures.value)

pub make_flow_ready-requires-clause-place : goal.make_flow_ready-requires-clause-place
make_flow_ready-requires-clause-place c =
    place-lent c.args.talk.now c.args.planned c.requires c.in-Some.planned
    c.in-Some.is c.in-Some-live_mut.session.now c.deref_mut.result.now c.in-Some-live_mut.ensures.value
    c.deref_mut.ensures.value

pub make_flow_ready-requires-clause-are : goal.make_flow_ready-requires-clause-are
make_flow_ready-requires-clause-are c =
    each-on c.args.talk.now c.args.planned c.requires c.in-Some.planned
    c.in-Some.is

pub returns-in-Ok-clause-ready : goal.returns-in-Ok-clause-ready
returns-in-Ok-clause-ready c = λ channel flow plans.
    readied c.args.talk.now channel flow c.args.planned plans
    c.in-Some.planned c.in-Some.is c.in-Some-live_mut.session.now
    c.deref_mut.result.now c.make_flow_ready.new.session c.in-Some-live_mut.ensures.value c.deref_mut.ensures.value
    c.in-Ok.ensures.made c.args.limit (deque_len c.make_flow_ready.new.out) (deque_capacity c.make_flow_ready.new.out)
    c.in-Ok.ready c.in-Ok.ensures.closing c.in-Ok.ensures.ready c.in-Ok.ensures.tagged c.in-Ok.ensures.sends

pub returns-in-Ok-clause-counts : goal.returns-in-Ok-clause-counts
returns-in-Ok-clause-counts c =
    counted-on c.in-Some.planned c.args.planned c.in-Some.is c.in-Ok.ready
    c.in-Ok.ensures.closing

pub returns-in-Ok-clause-made : goal.returns-in-Ok-clause-made
returns-in-Ok-clause-made c = λ channel flow plans.
    room-made c.args.talk.now channel flow c.args.planned plans
    c.in-Some.planned c.in-Some.is c.in-Some-live_mut.session.now
    c.deref_mut.result.now c.make_flow_ready.new.session c.in-Some-live_mut.ensures.value c.deref_mut.ensures.value
    c.in-Ok.ensures.made

pub returns-in-Err-clause-kept : goal.returns-in-Err-clause-kept
returns-in-Err-clause-kept c =
    unlent-talk c.args.talk.now c.in-Some.planned.closing.session c.in-Some-live_mut.session.now
    c.make_flow_ready.new.session c.in-Some-live_mut.ensures.value
    (c.in-Err.ensures.kept ∙ c.deref_mut.ensures.value)
