use Rattle.std.proofs.Common.{◌≡◌, ◌++◌, map}
use Rattle.std.specs.Prelude.{string_bytes}
use Rattle.std.specs.Iterator.Adapters.{zip_first, zip_second}
use Rattle.std.specs.Slice.Iter.{iter_rest}
use Rattle.amqp_endpoint_core.specs.WorldSaid.{world_told}
use Rattle.amqp_endpoint_scripts.specs.Printed.{world_printed}
use Rattle.amqp_endpoint_scripts.proofs.printing.print_world.Given as goal

abbrev pub invariant-loop-line : goal.invariant-loop-line
invariant-loop-line l =
    string_bytes l.text
    ++ world_printed (iter_rest (zip_first (zip_first l.line-iterator)))
    (iter_rest (zip_second (zip_first l.line-iterator)))
    (map world_told (iter_rest (zip_second l.line-iterator)))
    ≡ world_printed l.lines l.steps (map world_told l.replies)
