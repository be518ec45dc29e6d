-- What is so of the pairs of each map.
use Rattle.std.proofs.Common.{◌≡◌, ◌<◌, ℕ, zero, suc, Bool, false, List, [], ◌∷◌, slice_get, Some, subst, refl, arith}
use Rattle.std.specs.List.{AllByRecursion, AllZip, IsDistinct}
use Rattle.std.specs.Map.{keys_of}
use Rattle.serde_amqp_values.specs.Pairs.{KeysApart}

one_of : {K V : Type 0} (P : K → Type 0) (ps : List (K × V)) (j : ℕ) (q : K × V) → AllByRecursion P (keys_of ps) → slice_get ps j ≡ Some q → P q.0
one_of P [] j q a e = absurd cc
one_of {K} {V} P (p ∷ ps) zero q a e =
    let same : p ≡ q = cc in
    subst (λ (r : K × V). P r.0) same a.0
one_of P (p ∷ ps) (suc j) q a e = one_of P ps j q a.1 e

pub places_apart : {K V : Type 0} (same : K → K → Bool) (ps : List (K × V)) (i j : ℕ) (p q : K × V) → KeysApart same ps → i < j → slice_get ps i ≡ Some p → slice_get ps j ≡ Some q → same p.0 q.0 ≡ false
unfolding IsDistinct
places_apart same [] i j p q d l e f = absurd cc
places_apart same (r ∷ ps) i zero p q d l e f = absurd (omega arith)
places_apart {K} {V} same (r ∷ ps) zero (suc j) p q d l e f =
    let first : r ≡ p = cc in
    subst (λ (s : K × V). same s.0 q.0 ≡ false) first (one_of (λ x. same r.0 x ≡ false) ps j q d.0 f)
places_apart same (r ∷ ps) (suc i) (suc j) p q d l e f = places_apart same ps i j p q d.1 (omega arith) e f

pub clones_equal : {K V : Type 0} (C : K → K → Type 0) (D : V → V → Type 0) → ((x y : K) → C x y → y ≡ x) → ((x y : V) → D x y → y ≡ x) → (ps qs : List (K × V)) → AllZip (λ p q. C p.0 q.0 × D p.1 q.1) ps qs → qs ≡ ps
clones_equal C D c d [] [] z = refl
clones_equal C D c d [] (q ∷ qs) z = absurd z
clones_equal C D c d (p ∷ ps) [] z = absurd z
clones_equal C D c d (p ∷ ps) (q ∷ qs) z = λ i. (c p.0 q.0 z.0.0 i, d p.1 q.1 z.0.1 i) ∷ clones_equal C D c d ps qs z.1 i
