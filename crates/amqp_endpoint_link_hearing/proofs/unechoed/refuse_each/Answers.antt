use Rattle.std.proofs.Common.{List, arith, ap, length}
use Rattle.amqp_endpoint_conversation.proofs.Goings.{goes-on, rests-on}
use Rattle.amqp_endpoint_link_hearing.specs.Unechoed.{told_most}
use Rattle.amqp_endpoint_link_hearing.specs.declared.unechoed.Closing.{Closing}
use Rattle.amqp_endpoint_link_hearing.proofs.Barrings.{can-first, can-rest, left-behind}
use Rattle.amqp_endpoint_link_hearing.proofs.unechoed.refuse_each.Goals as goal

pub refuse_if-requires-clause-can : goal.refuse_if-requires-clause-can
refuse_if-requires-clause-can c =
    can-first c.loop-closing.talk c.args.session c.in-Some.closing c.next.new.self.rest.items
    c.loop-closing.rest.rest.items c.in-Some.ensures.items c.loop-closing.invariant.can

pub refuse_if-requires-clause-spare : goal.refuse_if-requires-clause-spare
refuse_if-requires-clause-spare c = omega (
  arith,
  c.loop-closing.invariant.spare,
  ap length c.in-Some.ensures.items,
)

pub refuse_if-requires-clause-room : goal.refuse_if-requires-clause-room
refuse_if-requires-clause-room c = omega (
  arith,
  c.loop-closing.invariant.room,
  ap told_most c.in-Some.ensures.items,
)

pub loop-closing-preserved : goal.loop-closing-preserved
loop-closing-preserved c =
    let rest : List Closing = c.next.new.self.rest.items in
    let left : List Closing = c.loop-closing.rest.rest.items in
    record {
      ends = λ new out told later.
          c.loop-closing.invariant.ends new out told
          (left-behind c.args.session c.args.barred.now c.args.reached.now c.in-Some.closing rest left
          c.in-Some.ensures.items c.loop-closing.talk c.refuse_if.new.talk new c.loop-closing.out.items
          c.refuse_if.new.out.items out c.loop-closing.events.items c.refuse_if.new.events.items told
          c.refuse_if.ensures.refuses later);
      can =
          can-rest c.loop-closing.talk c.refuse_if.new.talk c.args.session c.in-Some.closing rest left
          c.in-Some.ensures.items c.refuse_if.ensures.keeps c.loop-closing.invariant.can;
      spare = omega (
        arith,
        c.loop-closing.invariant.spare,
        ap length c.in-Some.ensures.items,
        c.refuse_if.ensures.added,
        c.refuse_if.ensures.capacity,
      );
      room = omega (
        arith,
        c.loop-closing.invariant.room,
        ap told_most c.in-Some.ensures.items,
        c.refuse_if.ensures.few,
        c.refuse_if.ensures.events_capacity,
      );
      goes = λ limit least.
          goes-on limit _ c.loop-closing.talk c.refuse_if.new.talk _ c.loop-closing.out.items
          c.refuse_if.new.out.items (c.loop-closing.invariant.goes limit least)
          (c.refuse_if.ensures.goes limit least);
      rests =
          rests-on _ c.loop-closing.talk c.refuse_if.new.talk _ c.loop-closing.out.items c.refuse_if.new.out.items
          c.loop-closing.invariant.rests c.refuse_if.ensures.rests;
    }
