use Rattle.std.proofs.Common.{ℕ, ◌<◌, ◌≤◌}
use Rattle.amqp_session_outgoing.specs.Queues.{firsts_in}
use Rattle.amqp_session_outgoing.specs.History.{IsFree}
use Rattle.amqp_session_outgoing.proofs.outgoing.Outgoing.admits.Given as goal

abbrev pub invariant-loop-others : goal.invariant-loop-others
invariant-loop-others g l = record {
  low : firsts_in l.self.queues ≤ l.others;
  free : (k : ℕ) → firsts_in l.self.queues ≤ k → k < l.others → IsFree l.self k;
}
