-- Tables of channels, and lists of places, where one is put or taken.
use Rattle.std.proofs.Common.{◌≡◌, ◌≢◌, ◌⊎◌, inl, inr, ℕ, Bool, true, false, cond, List, Option, Some, None, is_some, Ok, Bor, option_copied, refl, sym, ap, subst, ◌∙◌, ◌==◌, ◌<◌, ◌≤◌, length, slice_get, slice_set, slice_index_or, true≢false}
use Rattle.std.proofs.lemmas.Option.{none-some, slice_get_cases, slice_get-get_or, get_or_from_slice_get}
use Rattle.std.proofs.lemmas.Bool.Decides.{eqb_tells}
use Rattle.std.specs.Cmp.{nat_cmp_total, unsigned_tied}
use Rattle.std.specs.Ordering.{nat_cmp}
use Rattle.std.specs.FinMap as map
use Rattle.std.specs.FinMap.{same_map, nat_cmp-IsAntisymmetric, get-insert, get-remove}
use Rattle.amqp_session_types.specs.declared.channels.OutgoingChannel.{OutgoingChannel}
use Rattle.amqp_session_frames.specs.State as channels
use Rattle.amqp_session_frames.specs.State.{Table}
use Rattle.amqp_session_frames.specs.Steps.{AllocateSession, DeallocateSession}
use Rattle.amqp_endpoint_tables.specs.declared.place.PeerEnd.TheVariants.{Missing}
use Rattle.amqp_endpoint_tables.specs.declared.place.Place.{Place}
use Rattle.amqp_endpoint_tables.specs.declared.place.Place.TheVariants.{Over}
use Rattle.amqp_endpoint_tables.specs.Lends.{set_asked, set_live}
use Rattle.amqp_endpoint_tables.specs.State.{State, asked_at, asked_of, live_at, live_of, place_at, with_asked}
use Rattle.amqp_endpoint_tables.specs.State.{with_live}

pub get-put : (t : Table) (key q v : ℕ) → map.get (map.insert t key v) q ≡ cond (q == key) (Some v) (map.get t q)
get-put t key q v = get-insert nat_cmp_total t key v q ∙ ap (λ (b : Bool). cond b (Some v) (map.get t q)) (unsigned_tied q key)

pub get-take : (t : Table) (key q : ℕ) → map.get (map.remove t key) q ≡ cond (q == key) None (map.get t q)
get-take t key q = get-remove nat_cmp_total t key q ∙ ap (λ (b : Bool). cond b None (map.get t q)) (unsigned_tied q key)

same_tables : (t u : Table) → ((q : ℕ) → map.get t q ≡ map.get u q) → t ≡ u
same_tables t u is = same_map nat_cmp_total nat_cmp-IsAntisymmetric t u is

same : (k : ℕ) → (k == k) ≡ true
same k = by (eqb_tells k k)
  where
    by : (((k == k) ≡ true) × (k ≡ k)) ⊎ (((k == k) ≡ false) × (k ≢ k)) → (k == k) ≡ true
    by (inl p) = p.0
    by (inr p) = absurd (p.1 refl)

-- nothing is taken away where nothing stands
pub absent : (t : Table) (key : ℕ) → map.get t key ≡ None → t ≡ map.remove t key
absent t key none = same_tables t (map.remove t key) (λ q. by q (eqb_tells q key) ∙ sym (get-take t key q))
  where
    by : (q : ℕ) → (((q == key) ≡ true) × (q ≡ key)) ⊎ (((q == key) ≡ false) × (q ≢ key))
        → map.get t q ≡ cond (q == key) None (map.get t q)
    by q (inl p) = ap (map.get t) p.1 ∙ none ∙ sym (ap (λ (b : Bool). cond b None (map.get t q)) p.0)
    by q (inr p) = sym (ap (λ (b : Bool). cond b None (map.get t q)) p.0)

-- what was put where nothing stood is taken away again
pub undone : (t : Table) (key v : ℕ) → map.get t key ≡ None → map.remove (map.insert t key v) key ≡ t
undone t key v none =
    same_tables (map.remove (map.insert t key v) key) t
    (λ q.
    get-take (map.insert t key v) key q ∙ ap (λ (o : Option ℕ). cond (q == key) None o) (get-put t key q v)
    ∙ by q (eqb_tells q key))
  where
    by : (q : ℕ) → (((q == key) ≡ true) × (q ≡ key)) ⊎ (((q == key) ≡ false) × (q ≢ key))
        → cond (q == key) None (cond (q == key) (Some v) (map.get t q)) ≡ map.get t q
    by q (inl p) =
        ap (λ (b : Bool). cond b None (cond b (Some v) (map.get t q))) p.0 ∙ sym none ∙ sym (ap (map.get t) p.1)
    by q (inr p) = ap (λ (b : Bool). cond b None (cond b (Some v) (map.get t q))) p.0

-- a channel that is forgotten, whether one was there or not
pub forgotten : (old new : Table) (key : ℕ) (had : Option ℕ) → had ≡ map.get old key
    → (had ≡ None → new ≡ old) → (((v : ℕ) × (had ≡ Some v)) → new ≡ map.remove old key) → new ≡ map.remove old key
forgotten old new key None is none some = none refl ∙ absent old key (sym is)
forgotten old new key (Some v) is none some = some (v, refl)

-- a channel that was given, and was taken back at once
module _ (old mid back : channels.State) (number : ℕ) (outgoing : OutgoingChannel) where
  pub untaken : AllocateSession old number (Ok outgoing) mid → DeallocateSession mid outgoing.0 (map.get mid.live outgoing.0) back
      → (is_some (map.get mid.live outgoing.0) ≡ true → back.offered ≡ outgoing.0) → back ≡ old
  untaken (open_, below, is_offered, vacant, given) taken offers =
      back_is ∙ ap (λ (m : channels.State). record m { live = map.remove m.live outgoing.0; offered = back.offered }) given
      ∙ ap (λ (l : Table). record old { live = l; offered = back.offered }) lives
      ∙ ap (λ (o : ℕ). record old { offered = o }) (offers (ap is_some had) ∙ is_offered)
    where
      had : map.get mid.live outgoing.0 ≡ Some number
      had =
          ap (λ (m : channels.State). map.get m.live outgoing.0) given
          ∙ ap (λ (k : ℕ). map.get (map.insert old.live old.offered number) k) is_offered
          ∙ get-put old.live old.offered old.offered number
          ∙ ap (λ (b : Bool). cond b (Some number) (map.get old.live old.offered)) (same old.offered)

      back_is : back ≡ record mid { live = map.remove mid.live outgoing.0; offered = back.offered }
      back_is = subst (λ (o : Option ℕ). DeallocateSession mid outgoing.0 o back) had taken

      lives : map.remove (map.insert old.live old.offered number) outgoing.0 ≡ old.live
      lives =
          ap (λ (k : ℕ). map.remove (map.insert old.live old.offered number) k) is_offered
          ∙ undone old.live old.offered number vacant

-- the place at a number, where something of it is known
module _ {A S : Type 0} (s : State A S) (n : ℕ) (x : Place A S) (at : x ≡ slice_index_or s.places n x) where
  within : is_some (place_at s n) ≡ true → slice_get s.places n ≡ Some x
  within some = by (slice_get_cases s.places n).1
    where
      by : ((y : Place A S) × (n < length s.places) × (slice_get s.places n ≡ Some y) × (slice_index_or s.places n y ≡ y))
          ⊎ ((length s.places ≤ n) × (slice_get s.places n ≡ None)) → slice_get s.places n ≡ Some x
      by (inl (y, lt, e, _)) = slice_get-get_or s.places n x lt ∙ ap Some (sym at)
      by (inr (le, none)) = absurd (true≢false (sym some ∙ ap is_some none))

  default_is : slice_get s.places n ≡ Some x → slice_index_or s.places n (Over Missing false) ≡ x
  default_is e = get_or_from_slice_get s.places n x (Over Missing false) e

  pub lent_live : slice_get s.places n ≡ Some x → (w : S)
      → record s { places = slice_set s.places n (with_live x w) } ≡ set_live s n w
  lent_live e w = ap (λ (p : Place A S). record s { places = slice_set s.places n (with_live p w) }) (sym (default_is e))

  pub lent_asked : slice_get s.places n ≡ Some x → (w : A)
      → record s { places = slice_set s.places n (with_asked x w) } ≡ set_asked s n w
  lent_asked e w = ap (λ (p : Place A S). record s { places = slice_set s.places n (with_asked p w) }) (sym (default_is e))

  pub place_of_live : (r : Option (Bor S)) → option_copied r ≡ live_at s n → is_some r ≡ true → slice_get s.places n ≡ Some x
  place_of_live None e some = absurd (true≢false (sym some))
  place_of_live (Some l) e some = within (by (place_at s n) e)
    where
      by : (o : Option (Place A S)) → Some l.now ≡ live_of o → is_some o ≡ true
      by None q = absurd (none-some _ (sym q))
      by (Some p) q = refl

  pub place_of_asked : (r : Option (Bor A)) → option_copied r ≡ asked_at s n → is_some r ≡ true → slice_get s.places n ≡ Some x
  place_of_asked None e some = absurd (true≢false (sym some))
  place_of_asked (Some l) e some = within (by (place_at s n) e)
    where
      by : (o : Option (Place A S)) → Some l.now ≡ asked_of o → is_some o ≡ true
      by None q = absurd (none-some _ (sym q))
      by (Some p) q = refl
