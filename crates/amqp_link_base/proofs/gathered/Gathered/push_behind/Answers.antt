use Rattle.std.proofs.Common.{◌≡◌, ℕ, List, ◌++◌, ap, ◌∙◌, take, arith, length, length-append, length-take}
use Rattle.std.specs.List.{concat}
use Rattle.amqp_link_base.proofs.Pieces.{concat-push}
use Rattle.amqp_link_base.proofs.gathered.Gathered.push_behind.Goals as goal

pub push_reserved-requires : goal.push_reserved-requires
push_reserved-requires c = c.cut.ensures.room (omega (arith, c.in_ok-reserve.ensures.ok))

-- the first bytes with the piece
joined : (c : goal.After-push_reserved) → concat c.push_reserved.new.self.items ≡ take c.args.kept c.args.self.now ++ c.args.next
joined c =
    ap (λ (l : List (List ℕ)). concat l) c.push_reserved.ensures.items ∙ concat-push c.cut.new.pieces.items c.args.next
    ∙ ap (λ (l : List ℕ). l ++ c.args.next) (c.cut.ensures.bytes ∙ ap (λ (l : List (List ℕ)). take c.args.kept (concat l)) c.in_ok-reserve.ensures.items ∙ ap (λ (l : List ℕ). take c.args.kept l) c.self.view_is)

pub invariant_of-self-2 : goal.invariant_of-self-2
invariant_of-self-2 c =
    let count = ap (λ (l : List ℕ). length l) (joined c) ∙ length-append (take c.args.kept c.args.self.now) c.args.next in
    let before = ap (λ (l : List ℕ). length l) c.self.view_is in
    let kept = length-take c.args.kept c.args.self.now in (
      omega (arith, count, kept, before, c.self.invariant.0, c.min.ensures, c.len.ensures.value),
      omega (arith, kept, before, c.self.invariant.0, c.min.ensures, c.len.ensures.value, c.requires),
    )

pub returns-clause-ok : goal.returns-clause-ok
returns-clause-ok c = joined c
