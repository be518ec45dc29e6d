use Rattle.std.proofs.Common.{◌≡◌, ◌++◌, map}
use Rattle.std.specs.Prelude.{string_bytes}
use Rattle.std.specs.Iterator.Adapters.{zip_first, zip_second}
use Rattle.std.specs.Slice.Iter.{iter_rest}
use Rattle.amqp_endpoint_model.specs.Said.{told}
use Rattle.amqp_endpoint_scripts.specs.Printed.{printed}
use Rattle.amqp_endpoint_scripts.proofs.printing.print_replies.Given as goal

abbrev pub invariant-loop-line : goal.invariant-loop-line
invariant-loop-line l = string_bytes l.text ++ printed (iter_rest (zip_first l.line-iterator)) (map told (iter_rest (zip_second l.line-iterator))) ≡ printed l.lines (map told l.replies)
