-- A session that is lent and stays as it was.
use Rattle.std.specs.Prelude.{IfOk, OnOk}
use Rattle.std.proofs.Common.{◌≡◌, ℕ, zero, suc, Option, Some, None, Result, Ok, Err, refl, sym, ap, ◌∙◌, List, [], ◌∷◌, slice_get, slice_set, slice_index_or, false}
use Rattle.std.proofs.lemmas.List.{set-get_or}
use Rattle.std.proofs.lemmas.Option.{none-some, same_Some, get_or_from_slice_get}
use Rattle.amqp_session_types.specs.declared.channels.IncomingChannel.{IncomingChannel}
use Rattle.amqp_session_types.specs.declared.channels.OutgoingChannel.{OutgoingChannel}
use Rattle.amqp_endpoint_tables.specs.declared.place.PeerEnd.TheVariants.{Missing}
use Rattle.amqp_endpoint_tables.specs.declared.place.Place.{Place}
use Rattle.amqp_endpoint_tables.specs.declared.place.Place.TheVariants.{Asked, Live, Ending, Over}
use Rattle.amqp_endpoint_tables.specs.Lends.{set_asked, set_live}
use Rattle.amqp_endpoint_tables.specs.State.{State, asked_at, asked_of, live_at, live_of, with_asked, with_live}
use Rattle.amqp_endpoint_tables.specs.Steps.{Accepts, Step}

module _ {A S : Type 0} (s : State A S) (n : ℕ) (x : S) where
  pub unlent : live_at s n ≡ Some x → set_live s n x ≡ s
  unlent live = by (slice_get s.places n) refl live
    where
      by : (o : Option (Place A S)) → slice_get s.places n ≡ o → live_of o ≡ Some x → set_live s n x ≡ s
      by None e q = absurd (none-some _ q)
      by (Some (Asked c a)) e q = absurd (none-some _ q)
      by (Some (Live c y)) e q =
          let here = get_or_from_slice_get s.places n (Live c y) (Over Missing false) e in
          let same : Live c x ≡ slice_index_or s.places n (Over Missing false) =
          ap (λ (z : S). Live c z) (sym (same_Some _ _ q)) ∙ sym here in
          ap (λ (ps : List (Place A S)). record s { places = ps })
          (ap (λ (p : Place A S). slice_set s.places n (with_live p x)) here
          ∙ ap (λ (p : Place A S). slice_set s.places n p) same
          ∙ set-get_or s.places n (Over Missing false))
      by (Some (Ending c own_end)) e q = absurd (none-some _ q)
      by (Some (Over p c)) e q = absurd (none-some _ q)

get-same : {X : Type 0} (xs : List X) (i : ℕ) (x v : X) → slice_get xs i ≡ Some x → slice_get (slice_set xs i v) i ≡ Some v
get-same [] i x v e = absurd (none-some _ e)
get-same (y ∷ ys) zero x v e = refl
get-same (y ∷ ys) (suc i) x v e = get-same ys i x v e

-- a session that is lent and changed stands there changed
module _ {A S : Type 0} (s : State A S) (n : ℕ) (x : S) where
  pub lives : (y : S) → live_at s n ≡ Some y → live_at (set_live s n x) n ≡ Some x
  lives y live = by (slice_get s.places n) refl live
    where
      by : (o : Option (Place A S)) → slice_get s.places n ≡ o → live_of o ≡ Some y → live_at (set_live s n x) n
          ≡ Some x
      by None e q = absurd (none-some _ q)
      by (Some (Asked c a)) e q = absurd (none-some _ q)
      by (Some (Live c z)) e q =
          let here = get_or_from_slice_get s.places n (Live c z) (Over Missing false) e in
          ap live_of
          (get-same s.places n (Live c z) (with_live (slice_index_or s.places n (Over Missing false)) x) e)
          ∙ ap (λ (p : Place A S). live_of (Some (with_live p x))) here
      by (Some (Ending c own_end)) e q = absurd (none-some _ q)
      by (Some (Over p c)) e q = absurd (none-some _ q)

-- one that is asked for and lent, and stays as it was
module _ {A S : Type 0} (s : State A S) (n : ℕ) (x : A) where
  pub unasked : asked_at s n ≡ Some x → set_asked s n x ≡ s
  unasked asked = by (slice_get s.places n) refl asked
    where
      by : (o : Option (Place A S)) → slice_get s.places n ≡ o → asked_of o ≡ Some x → set_asked s n x ≡ s
      by None e q = absurd (none-some _ q)
      by (Some (Asked c y)) e q =
          let here = get_or_from_slice_get s.places n (Asked c y) (Over Missing false) e in
          let same : Asked c x ≡ slice_index_or s.places n (Over Missing false) =
          ap (λ (z : A). Asked c z) (sym (same_Some _ _ q)) ∙ sym here in
          ap (λ (ps : List (Place A S)). record s { places = ps })
          (ap (λ (p : Place A S). slice_set s.places n (with_asked p x)) here
          ∙ ap (λ (p : Place A S). slice_set s.places n p) same
          ∙ set-get_or s.places n (Over Missing false))
      by (Some (Live c y)) e q = absurd (none-some _ q)
      by (Some (Ending c own_end)) e q = absurd (none-some _ q)
      by (Some (Over p c)) e q = absurd (none-some _ q)

-- what is known of a session that was accepted
module _ {A S : Type 0} (old : State A S) (number : ℕ) (incoming : IncomingChannel) (asked : A) (outgoing : OutgoingChannel)
    (session : S) (new : State A S) (step : Step old (Accepts number incoming asked outgoing session) new) where
  pub was_asked : (wanted : A) → asked_at old number ≡ Some wanted → wanted ≡ asked
  was_asked wanted e = same_Some _ _ (sym e ∙ ap asked_of step.0)

  pub is_live : live_at new number ≡ Some session
  is_live =
      ap (λ (s : State A S). live_at s number) step.2
      ∙ ap live_of (get-same old.places number (Asked incoming asked) (Live outgoing session) step.0)

  pub has_channel : (channel : OutgoingChannel) → channel.0 ≡ old.connection.offered → channel ≡ outgoing
  has_channel channel e = ap (λ (n : ℕ). record { 0 = n }) (e ∙ sym (((step.1).given).2))

-- a channel is told by its number
pub numbered : (channel : OutgoingChannel) (n : ℕ) → channel.0 ≡ n → channel ≡ record { 0 = n }
numbered channel n e = ap (λ (k : ℕ). record { 0 = k }) e

-- what holds of an answer that is no refusal
pub answered : {X E : Type 0} (P Q : X → Type 0) (W : Type 0) → ((x : X) → Q x → W → P x) → (r : Result X E)
    → IfOk r Q → OnOk r W → IfOk r P
answered P Q W gives (Ok x) of also = gives x of also
answered P Q W gives (Err e) of also = tt

pub answered_so : {X E : Type 0} (P Q : X → Type 0) → ((x : X) → Q x → P x) → (r : Result X E) → IfOk r Q → IfOk r P
answered_so P Q gives (Ok x) of = gives x of
answered_so P Q gives (Err e) of = tt
