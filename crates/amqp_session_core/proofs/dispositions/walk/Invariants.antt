use Rattle.std.proofs.Common.{◌≡◌, ◌+◌, ◌≤◌, take, length, All}
use Rattle.smallvec.specs.SmallVec.{small_vec_len}
use Rattle.amqp_session_core.specs.Disposing.{Walked}
use Rattle.amqp_session_core.proofs.dispositions.walk.Given as goal

abbrev pub invariant-loop-number : goal.invariant-loop-number
invariant-loop-number g l = record {
  walked : Walked g.R.LinkRelay.gives.disposes l.disposition l.deliveries.table (take l.number-index l.numbers) l.fn.links.slots l.echoed.items l.links.slots;
  rest : l.links ≡ record l.fn.links { slots = l.links.slots };
  each : All (λ s. s ≡ l.disposition.state) l.states.items;
  enough : small_vec_len l.states + l.number-index ≡ length l.numbers;
  count : small_vec_len l.echoed ≤ l.number-index;
  room : l.echoed.capacity ≡ l.fn.echoed.capacity;
}
