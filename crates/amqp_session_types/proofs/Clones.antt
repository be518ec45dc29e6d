-- A clone equals what it was cloned from.
use Rattle.std.proofs.Common.{◌≡◌, ℕ, List, [], ◌∷◌, Option, Some, None, ◌∙◌, ap, refl}
use Rattle.std.specs.List.{AllZip}

-- the pairs of a map
pub pairs_cloned : (ps qs : List (List ℕ × List ℕ)) → AllZip (λ p q. (q.0 ≡ p.0) × (q.1 ≡ p.1)) ps qs → qs ≡ ps
pairs_cloned [] [] z = refl
pairs_cloned [] (q ∷ qs) z = absurd z
pairs_cloned (p ∷ ps) [] z = absurd z
pairs_cloned (p ∷ ps) (q ∷ qs) z =
    let first : q ≡ p = ap (λ x. (x, q.1)) z.0.0 ∙ ap (λ x. (p.0, x)) z.0.1 in
    ap (λ x. x ∷ qs) first ∙ ap (λ xs. p ∷ xs) (pairs_cloned ps qs z.1)

-- several names
pub names_cloned : (xs ys : List (List ℕ)) → AllZip (λ x y. y ≡ x) xs ys → ys ≡ xs
names_cloned [] [] z = refl
names_cloned [] (y ∷ ys) z = absurd z
names_cloned (x ∷ xs) [] z = absurd z
names_cloned (x ∷ xs) (y ∷ ys) z = ap (λ i. i ∷ ys) z.0 ∙ ap (λ is. x ∷ is) (names_cloned xs ys z.1)

-- an optional value, as the clone of an `Option` says it
pub option_cloned : {X : Type 0} (P : X → X → Type 0) → ((x y : X) → P x y → y ≡ x) → (o p : Option X) → (elim o as (λ x. Option X → Type 0) [ None ↦ λ x. elim x as (λ y. Type 0) [ None ↦ Unit {0} | Some z ↦ ⊥ ] | Some z ↦ λ x. elim x as (λ y. Type 0) [ None ↦ ⊥ | Some y ↦ P z y ] ]) p → p ≡ o
option_cloned P one None None h = refl
option_cloned P one None (Some y) h = absurd h
option_cloned P one (Some x) None h = absurd h
option_cloned P one (Some x) (Some y) h = ap (λ z. Some z) (one x y h)

pub ruleset clones = (pairs_cloned, names_cloned)
