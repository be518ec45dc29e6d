use Rattle.std.proofs.Common.{◌≡◌, ◌≤◌, ◌+◌, ◌++◌, length}
use Rattle.std.specs.Prelude.{map, All}
use Rattle.std.specs.List.{concat}
use Rattle.std.specs.Int.{div_ceil}
use Rattle.amqp_session_core.specs.Batch.{Transfers}
use Rattle.amqp_link_sender.specs.Splitting.{bytes_of, some_left}
use Rattle.amqp_link_sender.proofs.Pushing.{AreSoFar}
use Rattle.amqp_link_sender.proofs.splitting.push_rest.Given as goal

abbrev pub invariant-loop-alloc : goal.invariant-loop-alloc
invariant-loop-alloc l = record {
  added : Transfers;
  joined : l.batch ≡ l.fn.batch ++ added;
  later : AreSoFar l.handle (some_left l.rest) added;
  bytes : concat (map bytes_of added) ++ l.rest ≡ l.fn.payload;
  within : All (λ u. length (bytes_of u) ≤ l.room) added;
  count : length added + div_ceil (length l.rest) l.room ≡ div_ceil (length l.fn.payload) l.room;
}

abbrev pub decreases-loop-alloc : goal.decreases-loop-alloc
decreases-loop-alloc l = length l.rest
