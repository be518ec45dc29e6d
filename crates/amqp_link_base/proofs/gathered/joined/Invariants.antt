use Rattle.std.proofs.Common.{◌≡◌, ◌++◌, take, drop}
use Rattle.std.specs.List.{concat}
use Rattle.amqp_link_base.proofs.gathered.joined.Given as goal

abbrev pub invariant-loop-piece : goal.invariant-loop-piece
invariant-loop-piece l = l.all.items ++ take l.left (concat (drop l.piece-index l.pieces)) ≡ take l.kept (concat l.pieces)
