use Rattle.std.proofs.Common.{◌≡◌, ℕ, List, ◌++◌, ap, ◌∙◌, take, min, arith}
use Rattle.std.specs.List.{concat}
use Rattle.amqp_link_base.proofs.Pieces.{join-more, join-end}
use Rattle.amqp_link_base.proofs.gathered.joined.Goals as goal

pub loop-piece-preserved : goal.loop-piece-preserved
loop-piece-preserved c =
    join-more c.args.pieces.now c.loop-piece.piece-index c.loop-piece.left c.min-n.result c.loop-piece.all.items c.piece-item.result (take c.min-n.result c.as_slice.result.now) c.extend_from_slice.new.self.items
    (take c.args.kept (concat c.args.pieces.now)) c.loop-piece-test.true c.piece-item.is (c.min-n.ensures ∙ ap (λ (k : ℕ). min c.loop-piece.left k) c.len.ensures.value)
    (ap (λ (l : List ℕ). take c.min-n.result l) c.as_slice.ensures) c.in_ok-extend_from_slice.ensures.items
    c.loop-piece.invariant

pub returns-in-Ok : goal.returns-in-Ok
returns-in-Ok c =
    let front : c.loop-piece.all.items ≡ take c.args.kept (concat c.args.pieces.now) =
    join-end c.args.pieces.now c.loop-piece.piece-index c.loop-piece.left c.loop-piece.all.items (take c.args.kept (concat c.args.pieces.now)) (omega arith) c.loop-piece.invariant in
    c.in-Ok.ensures.ok ∙ c.in_ok-extend_from_slice-2.ensures.items
    ∙ ap (λ (l : List ℕ). l ++ c.deref.result.now) front
    ∙ ap (λ (l : List ℕ). take c.args.kept (concat c.args.pieces.now) ++ l) c.deref.ensures
