use Rattle.std.proofs.Common.{◌<◌, ℕ, Option, length, map, refl, arith, subst}
use Rattle.amqp_endpoint_model.specs.State.{text_of}
use Rattle.amqp_endpoint_core.specs.Queue.{AppendedIn}
use Rattle.amqp_endpoint_core.proofs.BatchLaws.{batch_all, batch_filled, batch_more, batch_room, next_there, next_waits}
use Rattle.amqp_endpoint_core.proofs.BatchLaws.{next_within}
use Rattle.amqp_endpoint_core.proofs.batch.append_first.Goals as goal

pub append_to-requires-clause-within : goal.append_to-requires-clause-within
append_to-requires-clause-within g c =
    let there : c.loop-next.count < length c.args.waiting.now.items = omega
    (arith, c.args.waiting.now.ok.0, c.in-Some.ensures.variant.0 refl) in
    next_within g.W.Waits.waits c.args.limit c.args.waiting.now.items c.loop-next.count c.in-Some.next.now
    c.requires.within there c.in-Some.ensures.lookup

pub returns-in_default-2-clause-fills : goal.returns-in_default-2-clause-fills
returns-in_default-2-clause-fills g c =
    let s = c.loop-next in
    let next = c.in-Some.next.now in
    let items = c.args.waiting.now.items in
    let waits = g.W.Waits.waits in
    let there : s.count < length items = omega (arith, c.args.waiting.now.ok.0, c.in-Some.ensures.variant.0 refl) in
    let P : Option ℕ → Type 0 = λ left.
    AppendedIn s.room (text_of (waits next)) left s.bytes.items c.append_to.new.bytes.items in
    let (longer, same) = subst P c.in_default-2.is c.in_ok-left.ensures.ok in
    batch_filled (map waits items) s.count (waits next) (next_there waits items s.count there)
    (next_waits waits items s.count next there c.in-Some.ensures.lookup) c.args.most s.room c.args.bytes.now.items
    s.bytes.items c.append_to.new.bytes.items s.invariant.room longer s.invariant.appended same

pub loop-next-preserved : goal.loop-next-preserved
loop-next-preserved g c =
    let s = c.loop-next in
    let next = c.in-Some.next.now in
    let items = c.args.waiting.now.items in
    let waits = g.W.Waits.waits in
    let there : s.count < length items = omega (arith, c.args.waiting.now.ok.0, c.in-Some.ensures.variant.0 refl) in
    let P : Option ℕ → Type 0 = λ left.
    AppendedIn s.room (text_of (waits next)) left s.bytes.items c.append_to.new.bytes.items in
    let (takes, appended) = subst P c.in-Some-2.is c.in_ok-left.ensures.ok in
    let is = next_waits waits items s.count next there c.in-Some.ensures.lookup in
    let longer = next_there waits items s.count there in
    record {
      there = omega (arith, there);
      room =
          batch_room (map waits items) s.count (waits next) longer is c.args.most s.room c.in-Some-2.left
          s.invariant.room takes;
      appended =
          batch_more (map waits items) s.count (waits next) longer is c.args.bytes.now.items s.bytes.items
          c.append_to.new.bytes.items s.invariant.appended appended;
    }
