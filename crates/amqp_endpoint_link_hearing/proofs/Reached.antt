-- As a session changes that has begun, each channel of the peer reaches the one that it reached.
use Rattle.std.proofs.Common.{◌≡◌, ◌==◌, ℕ, Bool, true, false, Option, Some, None, ap, refl, sym, ◌∙◌}
use Rattle.std.specs.FinMap as map
use Rattle.amqp_endpoint_linking.specs.Linking.{Session, Sessions, Stood}
use Rattle.amqp_endpoint_tables.specs.State.{asked_in, first_of, place_at, reached, routed_in, when_asked}
use Rattle.amqp_endpoint_tables.specs.State.{with_channel, with_live}
use Rattle.amqp_endpoint_tables.specs.Steps.{ChangesLive, Step}
use Rattle.amqp_endpoint_tables.specs.declared.place.Place.TheVariants.{Asked, Live, Ending, Over}
use Rattle.amqp_endpoint_tables.proofs.Owning.{at}

-- a place where a session stands is of the same kind as another one stands there
same-channel : (k : ℕ) (stood : Stood) (after : Session)
    → with_channel k (Some (with_live stood after)) ≡ with_channel k (Some stood)
same-channel k (Live channel s) after = refl
same-channel k (Asked channel a) after = refl
same-channel k (Ending channel own_end) after = refl
same-channel k (Over peer_end complete) after = refl

same-asked : (k : ℕ) (stood : Stood) (after : Session)
    → when_asked k (Some (with_live stood after)) ≡ when_asked k (Some stood)
same-asked k (Live channel s) after = refl
same-asked k (Asked channel a) after = refl
same-asked k (Ending channel own_end) after = refl
same-asked k (Over peer_end complete) after = refl

-- a session changes, and each channel reaches the one that it reached
module _ (number : ℕ) (before after : Session) (old new : Sessions)
    (s : Step old (ChangesLive number before after) new) where
  place-alike : {X : Type 0} (f : Option Stood → X)
      → ((stood : Stood) → f (Some (with_live stood after)) ≡ f (Some stood)) → (n : ℕ)
      → f (place_at new n) ≡ f (place_at old n)
  place-alike f same n = by (n == number) refl
    where
      by : (b : Bool) → (n == number) ≡ b → f (place_at new n) ≡ f (place_at old n)
      by true e =
          let (stood, was, lives, becomes) = (at n old (ChangesLive number before after) new s).about e in
          ap f becomes ∙ same stood ∙ sym (ap f was)
      by false e = ap f ((at n old (ChangesLive number before after) new s).other e)

  routed-alike : (o : Option ℕ) → routed_in new o ≡ routed_in old o
  routed-alike None = refl
  routed-alike (Some k) =
      place-alike (λ (p : Option Stood). with_channel k p) (λ stood. same-channel k stood after) k

  asked-alike : (o : Option ℕ) → asked_in new o ≡ asked_in old o
  asked-alike None = refl
  asked-alike (Some k) = place-alike (λ (p : Option Stood). when_asked k p) (λ stood. same-asked k stood after) k

  pub reached-alike : (channel : ℕ) → reached new channel ≡ reached old channel
  reached-alike channel =
      let routed : Option ℕ = map.get old.connection.routes channel in
      let asked : Option ℕ = map.get old.asked channel in
      ap
      (λ (x : Sessions).
      first_of (routed_in new (map.get x.connection.routes channel)) (asked_in new (map.get x.asked channel))) s.1
      ∙ ap (λ (o : Option ℕ). first_of o (asked_in new asked)) (routed-alike routed)
      ∙ ap (λ (o : Option ℕ). first_of (routed_in old routed) o) (asked-alike asked)
