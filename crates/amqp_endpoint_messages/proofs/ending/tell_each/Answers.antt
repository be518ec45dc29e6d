use Rattle.std.proofs.Common.{◌<◌, ◌++◌, ◌-◌, ◌∙◌, ℕ, arith, drop, subst, sym, take}
use Rattle.amqp_endpoint_messages.specs.All.{all_told, with_ended}
use Rattle.amqp_endpoint_messages.proofs.Telling.{left-test, state-step, told-step}
use Rattle.amqp_endpoint_messages.proofs.ending.tell_each.Goals as goal

pub loop-left-preserved : goal.loop-left-preserved
loop-left-preserved c =
    record {
      room = omega (
        arith,
        c.loop-left.invariant.room,
        c.loop-left-test.true,
        c.tell.ensures.len,
        c.tell.ensures.capacity,
      );
      few = omega (
        arith,
        c.loop-left.invariant.few,
        c.loop-left-test.true,
        c.tell.ensures.len,
      );
      capacity = c.tell.ensures.capacity ∙ c.loop-left.invariant.capacity;
      state =
          state-step c.loop-left.left (c.loop-left.left - 1) (left-test c.loop-left.left c.loop-left-test.true)
          c.in-Some.tag c.in-Some.resolution c.loop-left.sender c.take_resolved.new.self
          (with_ended c.args.sender.now (drop c.args.count c.args.sender.now.messages.resolved))
          c.in-Some.ensures.first c.loop-left.invariant.state;
      told = λ error copies.
          told-step c.args.number error c.next.result c.loop-left.left (c.loop-left.left - 1)
          (left-test c.loop-left.left c.loop-left-test.true) c.in-Some.tag c.in-Some.resolution c.loop-left.sender
          c.take_resolved.new.self c.loop-left.each.rest.items c.next.new.self.rest.items
          c.result_of-became.result c.loop-left.events.items c.tell.new.events.items
          (c.args.events.now.items
          ++ all_told c.args.number error (take c.args.count c.args.sender.now.messages.resolved))
          c.in-Some.ensures.first c.next.ensures.items
          (λ some. c.next.ensures.variant.1 (subst (λ (n : ℕ). 0 < n) (sym c.loop-left.each.rest.ok.0) some))
          c.result_of-became.ensures c.tell.ensures.told (c.loop-left.invariant.told error copies);
    }
