-- Sessions that are lent: one that stays as it was, and one that is changed.
use Rattle.std.proofs.Common.{◌≡◌, ℕ, zero, suc, List, [], ◌∷◌, Option, Some, None, refl, sym, ap, ◌∙◌, slice_get}
use Rattle.std.proofs.Common.{slice_set, slice_index_or, false}
use Rattle.std.proofs.lemmas.List.{set-get_or}
use Rattle.std.proofs.lemmas.Option.{none-some, same_Some, get_or_from_slice_get}
use Rattle.amqp_endpoint_tables.specs.declared.place.PeerEnd.TheVariants.{Missing}
use Rattle.amqp_endpoint_tables.specs.declared.place.Place.{Place}
use Rattle.amqp_endpoint_tables.specs.declared.place.Place.TheVariants.{Asked, Live, Ending, Over}
use Rattle.amqp_endpoint_tables.specs.Lends.{set_live}
use Rattle.amqp_endpoint_tables.specs.State.{State, live_at, live_of, with_live}

module _ {A S : Type 0} (s : State A S) (n : ℕ) (x : S) where
  pub unlent : live_at s n ≡ Some x → set_live s n x ≡ s
  unlent live = by (slice_get s.places n) refl live
    where
      by : (o : Option (Place A S)) → slice_get s.places n ≡ o → live_of o ≡ Some x → set_live s n x ≡ s
      by None e q = absurd (none-some _ q)
      by (Some (Asked c a)) e q = absurd (none-some _ q)
      by (Some (Live c y)) e q =
          let here = get_or_from_slice_get s.places n (Live c y) (Over Missing false) e in
          let same : Live c x ≡ slice_index_or s.places n (Over Missing false) =
          ap (λ (z : S). Live c z) (sym (same_Some _ _ q)) ∙ sym here in
          ap (λ (ps : List (Place A S)). record s { places = ps })
          (ap (λ (p : Place A S). slice_set s.places n (with_live p x)) here
          ∙ ap (λ (p : Place A S). slice_set s.places n p) same
          ∙ set-get_or s.places n (Over Missing false))
      by (Some (Ending c own_end)) e q = absurd (none-some _ q)
      by (Some (Over p c)) e q = absurd (none-some _ q)

get-same : {X : Type 0} (xs : List X) (i : ℕ) (x v : X) → slice_get xs i ≡ Some x
    → slice_get (slice_set xs i v) i ≡ Some v
get-same [] i x v e = absurd (none-some _ e)
get-same (y ∷ ys) zero x v e = refl
get-same (y ∷ ys) (suc i) x v e = get-same ys i x v e

-- a session that is lent and changed stands there changed
module _ {A S : Type 0} (s : State A S) (n : ℕ) (x : S) where
  pub lives : (y : S) → live_at s n ≡ Some y → live_at (set_live s n x) n ≡ Some x
  lives y live = by (slice_get s.places n) refl live
    where
      by : (o : Option (Place A S)) → slice_get s.places n ≡ o → live_of o ≡ Some y → live_at (set_live s n x) n
          ≡ Some x
      by None e q = absurd (none-some _ q)
      by (Some (Asked c a)) e q = absurd (none-some _ q)
      by (Some (Live c z)) e q =
          let here = get_or_from_slice_get s.places n (Live c z) (Over Missing false) e in
          ap live_of
          (get-same s.places n (Live c z) (with_live (slice_index_or s.places n (Over Missing false)) x) e)
          ∙ ap (λ (p : Place A S). live_of (Some (with_live p x))) here
      by (Some (Ending c own_end)) e q = absurd (none-some _ q)
      by (Some (Over p c)) e q = absurd (none-some _ q)
