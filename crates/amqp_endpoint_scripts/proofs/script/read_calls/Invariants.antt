use Rattle.std.proofs.Common.{◌≡◌, map, drop}
use Rattle.amqp_endpoint_scripts.specs.Script.{one_steps}
use Rattle.amqp_endpoint_scripts.specs.Parsed.{given_of, line_of}
use Rattle.amqp_endpoint_scripts.proofs.Readings.{behind_calls}
use Rattle.amqp_endpoint_scripts.proofs.script.read_calls.Given as goal

abbrev pub invariant-loop-line : goal.invariant-loop-line
invariant-loop-line l =
    behind_calls l.numbers.items l.calls.items (one_steps (given_of l.given) (map line_of (drop l.line-index l.lines)))
    ≡ one_steps (given_of l.given) (map line_of l.lines)
