use Rattle.std.proofs.Common.{◌≡◌, ◌+◌, ◌∷◌, List, length, arith, ap, ◌∙◌}
use Rattle.amqp_session_outgoing.specs.declared.frames.Outbound.{Outbound}
use Rattle.amqp_session_outgoing.proofs.Passing.{passes-more}
use Rattle.amqp_session_outgoing.proofs.outgoing.send_all.Goals as goal

pub loop-unit-preserved : goal.loop-unit-preserved
loop-unit-preserved g c =
    let popped : c.loop-unit.batch.items ≡ c.in-Some.unit ∷ c.pop_front.new.self.items = c.in-Some.ensures.items in
    let fewer : length c.loop-unit.batch.items ≡ length c.pop_front.new.self.items + 1 = omega (arith, ap (λ (us : List (Outbound _ _)). length us) popped) in
    record {
      run = λ s small fits. passes-more s _ _ c.loop-unit.out.items _ c.loop-unit.next c.loop-unit.next_delivery _ c.loop-unit.unsettled.table _ c.give_number-delivery.result c.args.handle c.in-Some.unit c.pop_front.new.self.items c.loop-unit.batch.items
          popped c.push_reserved.ensures.items c.give_number-delivery.ensures.number c.give_number-delivery.ensures.next c.give_number-delivery.ensures.registered small (c.loop-unit.invariant.run s small fits);
      len = omega (arith, c.loop-unit.invariant.len, fewer, c.push_reserved.ensures.len);
      capacity = c.push_reserved.ensures.capacity ∙ c.loop-unit.invariant.capacity;
      room = omega (arith, fewer, c.loop-unit.invariant.room, c.give_number-delivery.ensures.room);
      used = omega (arith, fewer, c.loop-unit.invariant.used, c.give_number-delivery.ensures.room);
    }
