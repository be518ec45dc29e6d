use Rattle.std.proofs.Common.{◌≤◌, ◌-◌, length, max}
use Rattle.amqp_session_outgoing.specs.Nodes.{AreFree}
use Rattle.amqp_session_outgoing.proofs.nodes.fill.Given as goal

abbrev pub invariant-loop-nodes : goal.invariant-loop-nodes
invariant-loop-nodes g l = record {
  free : AreFree l.nodes;
  low : length l.initial.nodes ≤ length l.nodes;
  high : length l.nodes ≤ max (length l.initial.nodes) l.count;
}

abbrev pub decreases-loop-nodes : goal.decreases-loop-nodes
decreases-loop-nodes g l = l.count - length l.nodes
