use Rattle.std.proofs.Common.{take}
use Rattle.std.specs.List.{concat}
use Rattle.amqp_link_base.specs.Scans.{Scanned}
use Rattle.amqp_link_base.proofs.gathered.scan_of.Given as goal

abbrev pub invariant-loop-piece : goal.invariant-loop-piece
invariant-loop-piece l = Scanned l.scan (concat (take l.piece-index l.pieces))
