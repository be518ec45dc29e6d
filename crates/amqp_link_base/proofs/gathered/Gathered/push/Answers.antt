use Rattle.std.proofs.Common.{◌≡◌, ℕ, List, [], ◌∷◌, ◌++◌, ap, ◌∙◌, arith, length, length-append}
use Rattle.std.specs.List.{concat}
use Rattle.amqp_link_base.proofs.Pieces.{concat-push}
use Rattle.amqp_link_base.proofs.gathered.Gathered.push.Goals as goal

-- the bytes with the piece
joined : (c : goal.After-push_reserved) → concat c.push_reserved.new.self.items ≡ concat c.self.inside.pieces.items ++ c.args.piece
joined c =
    ap (λ (l : List (List ℕ)). concat l) (c.push_reserved.ensures.items ∙ ap (λ (l : List (List ℕ)). l ++ c.args.piece ∷ []) c.in_ok-reserve.ensures.items)
    ∙ concat-push c.self.inside.pieces.items c.args.piece

pub invariant_of-self-2 : goal.invariant_of-self-2
invariant_of-self-2 c =
    let count = ap (λ (l : List ℕ). length l) (joined c) ∙ length-append (concat c.self.inside.pieces.items) c.args.piece in
    let before = ap (λ (l : List ℕ). length l) c.self.view_is in
    (omega (arith, count, c.self.invariant.0, c.len.ensures.value), omega (arith, c.self.invariant.0, c.len.ensures.value, before, c.requires))

pub returns-clause-ok : goal.returns-clause-ok
returns-clause-ok c = joined c ∙ ap (λ (l : List ℕ). l ++ c.args.piece) c.self.view_is
