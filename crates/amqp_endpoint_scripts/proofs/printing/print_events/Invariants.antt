use Rattle.std.proofs.Common.{◌≡◌, ◌++◌, drop}
use Rattle.std.specs.Prelude.{string_bytes}
use Rattle.amqp_endpoint_scripts.specs.Printed.{events_text}
use Rattle.amqp_endpoint_scripts.proofs.printing.print_events.Given as goal

abbrev pub invariant-loop-event : goal.invariant-loop-event
invariant-loop-event l =
    string_bytes l.text ++ events_text l.line l.end (drop l.event-index l.events) ≡ string_bytes l.fn.text
    ++ events_text l.line l.end l.events
