use Rattle.std.proofs.Common.{◌≡◌, ◌++◌}
use Rattle.amqp_endpoint_core.specs.Turns.{AnswersAll}
use Rattle.amqp_endpoint_core.proofs.turning.react_to.Given as goal

abbrev pub invariant-loop-event : goal.invariant-loop-event
invariant-loop-event g l = record {
  answers : AnswersAll g.P.Program.reacts l.fn.program l.fn.endpoint l.yielded l.program l.endpoint;
  in_order : l.fn.events.items ≡ l.yielded ++ l.event-iterator.rest.items;
}
