use Rattle.std.proofs.Common.{◌≡◌, ◌+◌, ◌<◌, ◌≤◌, ◌^◌, length, vec_len, vec_capacity}
use Rattle.amqp_session_outgoing.specs.Range.{ahead}
use Rattle.amqp_session_outgoing.specs.State.{State, with_alone}
use Rattle.amqp_session_outgoing.proofs.Passing.{Passes}
use Rattle.amqp_session_outgoing.proofs.outgoing.send_all.Given as goal

abbrev pub invariant-loop-unit : goal.invariant-loop-unit
invariant-loop-unit g l = record {
  run : (s : State _ _) → s.window_width < 2 ^ 32 → ahead l.initial.next s.window_base + length l.initial.batch.items ≤ s.window_width
      → Passes s (with_alone s l.initial.next l.initial.next_delivery l.initial.unsettled.table (l.handle).0 l.initial.batch.items) l.initial.out.items l.out.items l.next l.next_delivery l.unsettled.table (l.handle).0 l.batch.items;
  len : vec_len l.out + length l.batch.items ≡ vec_len l.initial.out + length l.initial.batch.items;
  capacity : vec_capacity l.out ≡ vec_capacity l.initial.out;
  room : length l.batch.items ≤ l.unsettled.room;
  used : l.initial.unsettled.room + length l.batch.items ≤ l.unsettled.room + length l.initial.batch.items;
}

abbrev pub decreases-loop-unit : goal.decreases-loop-unit
decreases-loop-unit g l = length l.batch.items
