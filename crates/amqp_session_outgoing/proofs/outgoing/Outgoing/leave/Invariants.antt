use Rattle.std.proofs.Common.{◌≡◌, ◌+◌, ◌≤◌, vec_len, vec_capacity}
use Rattle.amqp_session_outgoing.specs.Queues.{held_in}
use Rattle.amqp_session_outgoing.specs.State.{Leaving}
use Rattle.amqp_session_outgoing.proofs.outgoing.Outgoing.leave.Given as goal

abbrev pub invariant-loop-self : goal.invariant-loop-self
invariant-loop-self g l = record {
  run : Leaving l.initial.self l.initial.out.items l.self l.out.items;
  room : vec_len l.out + held_in l.self.queues ≤ vec_capacity l.out;
  kept : l.self.room ≡ l.initial.self.room;
  total : vec_len l.out + held_in l.self.queues ≡ vec_len l.initial.out + held_in l.initial.self.queues;
  capacity : vec_capacity l.out ≡ vec_capacity l.initial.out;
}

abbrev pub decreases-loop-self : goal.decreases-loop-self
decreases-loop-self g l = held_in l.self.queues
