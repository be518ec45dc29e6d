use Rattle.std.proofs.Common.{◌≡◌, ◌+◌, length, take}
use Rattle.std.specs.List.{concat}
use Rattle.std.specs.Vec.{vec_capacity}
use Rattle.amqp_link_base.proofs.gathered.cut.Given as goal

abbrev pub invariant-loop-i : goal.invariant-loop-i
invariant-loop-i l = record {
  same : l.pieces.items ≡ l.fn.pieces.items;
  end : l.i-end ≡ length l.pieces.items;
  room : vec_capacity l.pieces ≡ vec_capacity l.fn.pieces;
  left : length (concat (take l.i l.pieces.items)) + l.left ≡ l.n;
}
