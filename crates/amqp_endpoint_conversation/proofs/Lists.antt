-- Lists of places, where one is put.
use Rattle.std.proofs.Common.{◌≡◌, ◌≢◌, ℕ, zero, suc, List, [], ◌∷◌, Some, refl, ap, slice_get, slice_set}
use Rattle.std.proofs.lemmas.Option.{none-some}

module _ {X : Type 0} where
  pub get-same : (xs : List X) (i : ℕ) (x v : X) → slice_get xs i ≡ Some x → slice_get (slice_set xs i v) i ≡ Some v
  get-same [] i x v e = absurd (none-some _ e)
  get-same (y ∷ ys) zero x v e = refl
  get-same (y ∷ ys) (suc i) x v e = get-same ys i x v e

  pub get-other : (xs : List X) (i k : ℕ) (v : X) → k ≢ i → slice_get (slice_set xs i v) k ≡ slice_get xs k
  get-other [] i k v ne = refl
  get-other (y ∷ ys) zero zero v ne = absurd (ne refl)
  get-other (y ∷ ys) zero (suc k) v ne = refl
  get-other (y ∷ ys) (suc i) zero v ne = refl
  get-other (y ∷ ys) (suc i) (suc k) v ne = get-other ys i k v (λ e. ne (ap suc e))
