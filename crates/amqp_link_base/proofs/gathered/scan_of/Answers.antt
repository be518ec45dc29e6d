use Rattle.std.proofs.Common.{◌≡◌, ◌+◌, ◌≤◌, ℕ, List, ◌++◌, take, ap, sym, ◌∙◌, arith, length, length-append, subst}
use Rattle.std.specs.List.{concat}
use Rattle.amqp_link_base.specs.Scans.{Scanned}
use Rattle.amqp_link_base.proofs.Pieces.{concat-take, front-short}
use Rattle.amqp_link_base.proofs.gathered.scan_of.Goals as goal

pub take-requires : goal.take-requires
take-requires c =
    let i : ℕ = c.loop-piece.piece-index in
    let more : concat (take i c.args.pieces.now) ++ c.deref.result.now ≡ concat (take (i + 1) c.args.pieces.now) =
    ap (λ (l : List ℕ). concat (take i c.args.pieces.now) ++ l) (c.deref.ensures ∙ c.piece-item.is) ∙ sym (concat-take c.args.pieces.now i c.piece-item.result c.loop-piece-test.true) in
    let short : length (concat (take (i + 1) c.args.pieces.now)) ≤ length (concat c.args.pieces.now) = front-short c.args.pieces.now (i + 1) in
    omega (arith, ap (λ (l : List ℕ). length l) more, length-append (concat (take i c.args.pieces.now)) c.deref.result.now, c.loop-piece.invariant.size)

pub loop-piece-preserved : goal.loop-piece-preserved
loop-piece-preserved c =
    let i : ℕ = c.loop-piece.piece-index in
    let more : concat (take i c.args.pieces.now) ++ c.deref.result.now ≡ concat (take (i + 1) c.args.pieces.now) =
    ap (λ (l : List ℕ). concat (take i c.args.pieces.now) ++ l) (c.deref.ensures ∙ c.piece-item.is) ∙ sym (concat-take c.args.pieces.now i c.piece-item.result c.loop-piece-test.true) in
    let P : List ℕ → Type 0 = λ l. Scanned c.take.new.self l in
    subst P more (c.take.ensures.scanned (concat (take i c.args.pieces.now)) c.loop-piece.invariant)
