use Rattle.std.proofs.Common.{ap, subst, ℕ, ◌+◌, ◌≡◌, ◌∙◌, ◌++◌, [], ◌∷◌, Some, List, length, length-append, nat_eq, suc, arith}
use Rattle.std.specs.Map.{lookup}
use Rattle.indexmap.proofs.CallerLemmas.{insert_entry-new}
use Rattle.amqp_endpoint_tables.specs.Spread.{AreGiven, Slots, beside, spread}
use Rattle.amqp_endpoint_tables.proofs.Beside.{beside-push, none-beside, pushed}
use Rattle.amqp_endpoint_tables.proofs.Spreading.{given-next, length-spread, spread-next}
use Rattle.amqp_endpoint_tables.proofs.numbered.Numbered.push.Goals as goal

pub overflow_add-self : goal.overflow_add-self
overflow_add-self g c =
    omega (
      arith,
      length-spread c.self.inside.next (beside c.self.inside.places.entries c.self.inside.live.items),
      ap (λ (s : Slots _). length s.items) c.self.view_is,
      c.requires.next,
    )

pub invariant_of-self : goal.invariant_of-self
invariant_of-self g c =
    let n = c.self.inside.next in
    let ps = c.self.inside.places.entries in
    let xs = c.self.inside.live.items in
    let es = beside ps xs in
    let ys = c.push_reserved.new.self.items in
    let none = c.self.invariant.0.past n (omega arith) in
    let numbers = c.put_number.ensures.entries
    ∙ insert_entry-new nat_eq c.self.inside.places n tt (none-beside (nat_eq n) ps xs c.self.invariant.1 none) in
    let qs = c.put_number.new.places.entries in
    let fs = (λ j. beside (numbers j) (c.push_reserved.ensures.items j))
    ∙ beside-push ps xs (n, tt) c.args.item c.self.invariant.1 in
    let up : suc n ≡ n + 1 = omega arith in (
      subst (λ (m : ℕ). AreGiven m (beside qs ys)) up
          (given-next n es (beside qs ys) (Some c.args.item)
          (λ q. ap (λ (l : List (ℕ × _)). lookup (nat_eq q) l) fs ∙ pushed es n c.args.item none q) c.self.invariant.0),
      omega (
        arith,
        ap (λ (l : List _). length l) c.push_reserved.ensures.items,
        length-append xs (c.args.item ∷ []),
        ap (λ (l : List (ℕ × _)). length l) numbers,
        length-append ps ((n, tt) ∷ []),
        c.self.invariant.1,
      ),
    )

pub returns-clause-items : goal.returns-clause-items
returns-clause-items g c =
    let n = c.self.inside.next in
    let ps = c.self.inside.places.entries in
    let xs = c.self.inside.live.items in
    let es = beside ps xs in
    let ys = c.push_reserved.new.self.items in
    let qs = c.put_number.new.places.entries in
    let none = c.self.invariant.0.past n (omega arith) in
    let numbers = c.put_number.ensures.entries
    ∙ insert_entry-new nat_eq c.self.inside.places n tt (none-beside (nat_eq n) ps xs c.self.invariant.1 none) in
    let fs = (λ j. beside (numbers j) (c.push_reserved.ensures.items j))
    ∙ beside-push ps xs (n, tt) c.args.item c.self.invariant.1 in
    ap (λ (m : ℕ). spread m (beside qs ys)) (omega arith)
    ∙ spread-next n es (beside qs ys) c.args.item
    (λ q. ap (λ (l : List (ℕ × _)). lookup (nat_eq q) l) fs ∙ pushed es n c.args.item none q)
    ∙ ap (λ (s : Slots _). s.items ++ Some c.args.item ∷ []) c.self.view_is
