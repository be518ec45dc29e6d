-- A session that is lent and stays as it was.
use Rattle.std.proofs.Common.{◌≡◌, ℕ, List, Option, Some, None, false, refl, sym, ap, ◌∙◌, slice_get, slice_set}
use Rattle.std.proofs.Common.{slice_index_or}
use Rattle.std.proofs.lemmas.List.{set-get_or}
use Rattle.std.proofs.lemmas.Option.{none-some, same_Some, get_or_from_slice_get}
use Rattle.amqp_endpoint_tables.specs.declared.place.PeerEnd.TheVariants.{Missing}
use Rattle.amqp_endpoint_tables.specs.declared.place.Place.{Place}
use Rattle.amqp_endpoint_tables.specs.declared.place.Place.TheVariants.{Asked, Live, Ending, Over}
use Rattle.amqp_endpoint_tables.specs.Lends.{set_live}
use Rattle.amqp_endpoint_tables.specs.State.{State, live_at, live_of, with_live}

module _ {A S : Type 0} (s : State A S) (n : ℕ) (x : S) where
  pub unlent : live_at s n ≡ Some x → set_live s n x ≡ s
  unlent live = by (slice_get s.places n) refl live
    where
      by : (o : Option (Place A S)) → slice_get s.places n ≡ o → live_of o ≡ Some x → set_live s n x ≡ s
      by None e q = absurd (none-some _ q)
      by (Some (Asked c a)) e q = absurd (none-some _ q)
      by (Some (Live c y)) e q =
          let here = get_or_from_slice_get s.places n (Live c y) (Over Missing false) e in
          let same : Live c x ≡ slice_index_or s.places n (Over Missing false) =
          ap (λ (z : S). Live c z) (sym (same_Some _ _ q)) ∙ sym here in
          ap (λ (ps : List (Place A S)). record s { places = ps })
          (ap (λ (p : Place A S). slice_set s.places n (with_live p x)) here
          ∙ ap (λ (p : Place A S). slice_set s.places n p) same
          ∙ set-get_or s.places n (Over Missing false))
      by (Some (Ending c own_end)) e q = absurd (none-some _ q)
      by (Some (Over p c)) e q = absurd (none-some _ q)
