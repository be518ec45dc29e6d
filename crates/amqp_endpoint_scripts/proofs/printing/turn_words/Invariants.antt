use Rattle.std.proofs.Common.{◌≡◌, ◌++◌, drop}
use Rattle.std.specs.Prelude.{string_bytes}
use Rattle.amqp_endpoint_scripts.specs.Printed.{turn_words}
use Rattle.amqp_endpoint_scripts.proofs.printing.turn_words.Given as goal

abbrev pub invariant-loop-link : goal.invariant-loop-link
invariant-loop-link l = string_bytes l.words ++ turn_words (drop l.link-index l.turn) ≡ turn_words l.turn
