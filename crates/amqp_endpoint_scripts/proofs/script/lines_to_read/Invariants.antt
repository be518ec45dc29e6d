use Rattle.std.proofs.Common.{◌≡◌, ◌++◌, ◌+◌, map, drop}
use Rattle.amqp_endpoint_scripts.specs.Script.{lines_from}
use Rattle.amqp_endpoint_scripts.specs.Parsed.{line_of}
use Rattle.amqp_endpoint_scripts.proofs.script.lines_to_read.Given as goal

abbrev pub invariant-loop-index : goal.invariant-loop-index
invariant-loop-index l = map line_of l.lines.items ++ lines_from (l.index + 1) (map (λ t. t.now) (drop l.index l.texts)) ≡ lines_from 1 (map (λ t. t.now) l.texts)
