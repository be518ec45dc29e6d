use Rattle.std.proofs.Common.{ℕ, ◌<◌, ◌≡◌, ◌∙◌, ◌++◌, ◌∷◌, [], ap, arith, length, sym, List, Some}
use Rattle.std.specs.Prelude.{slice_index_or}
use Rattle.amqp_session_types.specs.declared.handles.OutputHandle.{OutputHandle}
use Rattle.slab.specs.Slab.{get}
use Rattle.amqp_session_outgoing.proofs.Changing.{counts-more}
use Rattle.amqp_session_outgoing.proofs.turns.counts.Goals as goal

pub loop-i-preserved : goal.loop-i-preserved
loop-i-preserved g c =
    let turn = c.args.turn.now.items in
    let lt : c.loop-i.i < length turn = omega arith in
    let here : get c.args.queues.now (slice_index_or turn c.loop-i.i c.index.result.now)
    ≡ Some c.index-queue.result.now =
    ap (λ spot. get c.args.queues.now spot) (sym c.index.ensures) ∙ c.index-queue.ensures in
    let queue = c.index-queue.result.now in
    record {
      end = c.loop-i.invariant.end;
      items = c.push_reserved.ensures.items
          ∙ ap (λ (n : ℕ). c.loop-i.counts.items ++ (queue.handle, n) ∷ []) c.len-in-loop-i.ensures
          ∙ ap (λ (counts : List (OutputHandle × ℕ)). counts ++ (queue.handle, length queue.units) ∷ [])
          c.loop-i.invariant.items
          ∙ sym (counts-more c.args.queues.now turn c.loop-i.i c.index.result.now queue lt here);
      len = omega (arith, c.push_reserved.ensures.len, c.loop-i.invariant.len);
      room = omega (arith, c.push_reserved.ensures.capacity, c.loop-i.invariant.room);
    }
