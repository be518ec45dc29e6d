use Rattle.std.proofs.Common.{◌≡◌, map, drop}
use Rattle.amqp_endpoint_scripts.specs.Script.{two_steps}
use Rattle.amqp_endpoint_scripts.specs.Parsed.{given_of, line_of}
use Rattle.amqp_endpoint_scripts.proofs.Readings.{behind_steps}
use Rattle.amqp_endpoint_scripts.proofs.script.read_steps.Given as goal

abbrev pub invariant-loop-line : goal.invariant-loop-line
invariant-loop-line l =
    behind_steps l.numbers.items l.steps.items
    (two_steps (given_of l.given_a) (given_of l.given_b) (map line_of (drop l.line-index l.lines)))
    ≡ two_steps (given_of l.given_a) (given_of l.given_b) (map line_of l.lines)
