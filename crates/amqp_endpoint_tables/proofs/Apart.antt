-- No two sessions have one outgoing channel.
use Rattle.std.proofs.Common.{◌≡◌, ◌≢◌, ◌⊎◌, inl, inr, ℕ, Bool, true, false, cond, List, [], ◌∷◌, Option, Some, None, refl, sym, ap, subst, ◌∙◌, ◌==◌}
use Rattle.std.proofs.lemmas.Bool.Decides.{eqb_tells}
use Rattle.std.proofs.lemmas.Option.{none-some, same_Some}
use Rattle.std.specs.FinMap as map
use Rattle.amqp_session_types.specs.declared.channels.OutgoingChannel.{OutgoingChannel}
use Rattle.amqp_session_frames.specs.State as channels
use Rattle.amqp_session_frames.specs.State.{Table}
use Rattle.amqp_session_frames.specs.Steps.{DeallocateSession}
use Rattle.amqp_endpoint_tables.specs.declared.place.Place.{Place}
use Rattle.amqp_endpoint_tables.specs.declared.place.Place.TheVariants.{Asked, Live, Ending, Over}
use Rattle.amqp_endpoint_tables.specs.State.{State, channel_at, channel_in, channel_of, ended_place, finished_place}
use Rattle.amqp_endpoint_tables.specs.State.{fresh, place_at, told_place, with_asked, with_live}
use Rattle.amqp_endpoint_tables.specs.Steps.{Act, Step, History, ChangesConnection, Begins, Asks, Accepts}
use Rattle.amqp_endpoint_tables.specs.Steps.{TakesBegin, TakesEnd, Ends, Finishes, TellsEnd, ChangesAsked}
use Rattle.amqp_endpoint_tables.specs.Steps.{ChangesLive}
use Rattle.amqp_endpoint_tables.specs.Own.{KeepsChannels}
use Rattle.amqp_endpoint_tables.proofs.Places.{get-put, get-take}
use Rattle.amqp_endpoint_tables.proofs.Owning.{at, same_number, other_number}

pub split : {X : Type 0} (b : Bool) → (b ≡ true → X) → (b ≡ false → X) → X
split true t f = t refl
split false t f = f refl

module _ {A S : Type 0} where
  -- the session that has a channel stands under it
  abbrev pub Each : State A S → Type 0
  Each s = (n : ℕ) (c : OutgoingChannel) → channel_at s n ≡ Some c → map.get s.connection.live c.0 ≡ Some n

  pub apart : (s : State A S) → Each s → (m n : ℕ) (c : OutgoingChannel) → channel_at s m ≡ Some c → channel_at s n ≡ Some c → m ≡ n
  apart s each m n c had has = same_Some _ _ (sym (each m c had) ∙ each n c has)

  module _ (old new : State A S) (each : Each old) where
    kept : new.connection.live ≡ old.connection.live
        → ((n : ℕ) (c : OutgoingChannel) → channel_at new n ≡ Some c → channel_at old n ≡ Some c) → Each new
    kept is back n c e = ap (λ (t : Table). map.get t c.0) is ∙ each n c (back n c e)

    given : (number channel : ℕ) → map.get old.connection.live channel ≡ None
        → new.connection.live ≡ map.insert old.connection.live channel number
        → ((n : ℕ) (c : OutgoingChannel) → channel_at new n ≡ Some c
        → ((n ≡ number) × (c.0 ≡ channel)) ⊎ (channel_at old n ≡ Some c)) → Each new
    given number channel vacant is back n c e =
        ap (λ (t : Table). map.get t c.0) is ∙ get-put old.connection.live channel c.0 number
        ∙ by (eqb_tells c.0 channel) (back n c e)
      where
        by : (((c.0 == channel) ≡ true) × (c.0 ≡ channel)) ⊎ (((c.0 == channel) ≡ false) × (c.0 ≢ channel))
            → ((n ≡ number) × (c.0 ≡ channel)) ⊎ (channel_at old n ≡ Some c)
            → cond (c.0 == channel) (Some number) (map.get old.connection.live c.0) ≡ Some n
        by (inl p) (inl q) = ap (λ (b : Bool). cond b (Some number) (map.get old.connection.live c.0)) p.0 ∙ ap Some (sym q.0)
        by (inl p) (inr q) = absurd (none-some _ (sym vacant ∙ sym (ap (map.get old.connection.live) p.1) ∙ each n c q))
        by (inr p) (inl q) = absurd (p.1 q.1)
        by (inr p) (inr q) = ap (λ (b : Bool). cond b (Some number) (map.get old.connection.live c.0)) p.0 ∙ each n c q

    taken : (number : ℕ) (channel : OutgoingChannel) → channel_at old number ≡ Some channel
        → new.connection.live ≡ map.remove old.connection.live channel.0
        → ((n : ℕ) (c : OutgoingChannel) → channel_at new n ≡ Some c → (channel_at old n ≡ Some c) × (n ≢ number)) → Each new
    taken number channel had is back n c e =
        let was = back n c e in
        ap (λ (t : Table). map.get t c.0) is ∙ get-take old.connection.live channel.0 c.0
        ∙ by was (eqb_tells c.0 channel.0)
      where
        by : (channel_at old n ≡ Some c) × (n ≢ number)
            → (((c.0 == channel.0) ≡ true) × (c.0 ≡ channel.0)) ⊎ (((c.0 == channel.0) ≡ false) × (c.0 ≢ channel.0))
            → cond (c.0 == channel.0) None (map.get old.connection.live c.0) ≡ Some n
        by was (inl p) =
            absurd (was.1 (same_Some _ _ (sym (each n c was.0) ∙ ap (map.get old.connection.live) p.1 ∙ each number channel had)))
        by was (inr p) = ap (λ (b : Bool). cond b None (map.get old.connection.live c.0)) p.0 ∙ each n c was.0

    -- a channel that stands under its session is taken back
    freed : (number : ℕ) (channel : OutgoingChannel) (mid : channels.State) → channel_at old number ≡ Some channel
        → mid.live ≡ old.connection.live
        → DeallocateSession mid channel.0 (map.get mid.live channel.0) new.connection
        → new.connection.live ≡ map.remove old.connection.live channel.0
    freed number channel mid had same back =
        let stands = ap (λ (t : Table). map.get t channel.0) same ∙ each number channel had in
        let is = subst (λ (o : Option ℕ). DeallocateSession mid channel.0 o new.connection) stands back in
        ap (λ (c : channels.State). c.live) is ∙ ap (λ (t : Table). map.remove t channel.0) same

  pub told_same : (stood : Place A S) → channel_of (told_place stood) ≡ channel_of stood
  told_same (Asked c a) = refl
  told_same (Live c s) = refl
  told_same (Ending c own_end) = refl
  told_same (Over p c) = refl

  pub live_same : (stood : Place A S) (after : S) → channel_of (with_live stood after) ≡ channel_of stood
  live_same (Asked c a) after = refl
  live_same (Live c s) after = refl
  live_same (Ending c own_end) after = refl
  live_same (Over p c) after = refl

  pub asked_same : (stood : Place A S) (after : A) → channel_of (with_asked stood after) ≡ channel_of stood
  asked_same (Asked c a) after = refl
  asked_same (Live c s) after = refl
  asked_same (Ending c own_end) after = refl
  asked_same (Over p c) after = refl

  -- what a place is behind a step that is about another session, or changes no channel
  else_is : (n : ℕ) (old : State A S) (step : Act A S) (new : State A S) (c : OutgoingChannel)
      → place_at new n ≡ place_at old n
      → channel_at new n ≡ Some c → channel_at old n ≡ Some c
  else_is n old step new c is e = sym (ap channel_in is) ∙ e

  step_keeps : (old : State A S) (step : Act A S) (new : State A S) → KeepsChannels (step ∷ []) → Step old step new
      → Each old → Each new
  step_keeps old (ChangesConnection before after) new (k, _) s each =
      kept old new each
      (ap (λ (x : State A S). x.connection.live) s.1 ∙ k ∙ ap (λ (x : channels.State). x.live) s.0)
      (λ n c e. else_is n old (ChangesConnection before after) new c ((at n old (ChangesConnection before after) new s).other refl) e)
  step_keeps old (Begins number channel session) new k s each =
      given old new each number old.connection.offered (s.0).3 (ap (λ (x : channels.State). x.live) (s.0).4)
      (λ n c e.
      let found = at n old (Begins number channel session) new s in
      split (n == number)
      (λ here. inl (same_number n number here, ap (λ (x : OutgoingChannel). x.0) (same_Some _ _ (sym e ∙ ap channel_in (found.about here).1)) ∙ (s.0).2))
      (λ apart. inr (else_is n old (Begins number channel session) new c (found.other apart) e)))
  step_keeps old (Asks number channel asked) new k s each =
      kept old new each (ap (λ (x : State A S). x.connection.live) s.2)
      (λ n c e.
      let found = at n old (Asks number channel asked) new s in
      split (n == number)
      (λ here. absurd (none-some _ (sym (ap channel_in (found.about here).1) ∙ e)))
      (λ apart. else_is n old (Asks number channel asked) new c (found.other apart) e))
  step_keeps old (Accepts number incoming asked outgoing session) new k s each =
      let gives = (s.1).given in
      given old new each number old.connection.offered gives.3
      (ap (λ (x : channels.State). x.live) (s.1).led ∙ ap (λ (x : channels.State). x.live) gives.4)
      (λ n c e.
      let found = at n old (Accepts number incoming asked outgoing session) new s in
      split (n == number)
      (λ here. inl (same_number n number here, ap (λ (x : OutgoingChannel). x.0) (same_Some _ _ (sym e ∙ ap channel_in (found.about here).1)) ∙ gives.2))
      (λ apart. inr (else_is n old (Accepts number incoming asked outgoing session) new c (found.other apart) e)))
  step_keeps old (TakesBegin number channel begin) new k s each =
      kept old new each (ap (λ (x : channels.State). x.live) (s.0).1)
      (λ n c e. else_is n old (TakesBegin number channel begin) new c ((at n old (TakesBegin number channel begin) new s).other refl) e)
  step_keeps old (TakesEnd number channel end stood) new k s each = by stood s
    where
      gone : (stood : Place A S) (s : Step old (TakesEnd number channel end stood) new) (n : ℕ) (c : OutgoingChannel)
          → channel_at new n ≡ Some c → (channel_at old n ≡ Some c) × (n ≢ number)
      gone stood s n c e =
          let found = at n old (TakesEnd number channel end stood) new s in
          split (n == number)
          (λ here. absurd (none-some _ (sym (over stood) ∙ sym (ap channel_in (found.about here).1) ∙ e)))
          (λ apart. (else_is n old (TakesEnd number channel end stood) new c (found.other apart) e, other_number n number apart))
        where
          over : (stood : Place A S) → channel_of (ended_place stood) ≡ None
          over (Asked c a) = refl
          over (Live c l) = refl
          over (Ending c own_end) = refl
          over (Over p c) = refl

      by : (stood : Place A S) → Step old (TakesEnd number channel end stood) new → Each new
      by (Asked c a) s = kept old new each (ap (λ (x : State A S). x.connection.live) (s.2).1) (λ n c e. (gone _ s n c e).0)
      by (Live c l) s =
          let had = ap channel_in s.1 in let back = (s.2).0 in
          taken old new each number c had
          (freed old new each number c back.mid had (ap (λ (x : channels.State). x.live) (back.ended).1) back.back) (gone _ s)
      by (Ending c own_end) s =
          let had = ap channel_in s.1 in let back = (s.2).0 in
          taken old new each number c had
          (freed old new each number c back.mid had (ap (λ (x : channels.State). x.live) (back.ended).1) back.back) (gone _ s)
      by (Over p c) s = absurd s.2
  step_keeps old (Ends number channel session own_end) new k s each =
      kept old new each (ap (λ (x : State A S). x.connection.live) s.1)
      (λ n c e.
      let found = at n old (Ends number channel session own_end) new s in
      split (n == number)
      (λ here. ap channel_in (found.about here).0 ∙ sym (ap channel_in (found.about here).1) ∙ e)
      (λ apart. else_is n old (Ends number channel session own_end) new c (found.other apart) e))
  step_keeps old (Finishes number stood) new k s each = by stood s
    where
      gone : (stood : Place A S) (s : Step old (Finishes number stood) new) (n : ℕ) (c : OutgoingChannel)
          → channel_at new n ≡ Some c → (channel_at old n ≡ Some c) × (n ≢ number)
      gone stood s n c e =
          let found = at n old (Finishes number stood) new s in
          split (n == number)
          (λ here. absurd (none-some _ (sym (over stood) ∙ sym (ap channel_in (found.about here).1) ∙ e)))
          (λ apart. (else_is n old (Finishes number stood) new c (found.other apart) e, other_number n number apart))
        where
          over : (stood : Place A S) → channel_of (finished_place stood) ≡ None
          over (Asked c a) = refl
          over (Live c l) = refl
          over (Ending c own_end) = refl
          over (Over p c) = refl

      by : (stood : Place A S) → Step old (Finishes number stood) new → Each new
      by (Asked c a) s = kept old new each (ap (λ (x : channels.State). x.live) (s.1).0) (λ n c e. (gone _ s n c e).0)
      by (Live c l) s =
          let had = ap channel_in s.0 in
          taken old new each number c had (freed old new each number c old.connection had refl (s.1).0) (gone _ s)
      by (Ending c own_end) s =
          let had = ap channel_in s.0 in
          taken old new each number c had (freed old new each number c old.connection had refl (s.1).0) (gone _ s)
      by (Over p c) s = kept old new each (ap (λ (x : channels.State). x.live) (s.1).0) (λ n c e. (gone _ s n c e).0)
  step_keeps old (TellsEnd number) new k s each =
      kept old new each (ap (λ (x : State A S). x.connection.live) s.3)
      (λ n c e.
      let found = at n old (TellsEnd number) new s in
      split (n == number)
      (λ here. let (stood, had, came, is) = found.about here in
      ap channel_in had ∙ sym (told_same stood) ∙ sym (ap channel_in is) ∙ e)
      (λ apart. else_is n old (TellsEnd number) new c (found.other apart) e))
  step_keeps old (ChangesAsked number before after) new k s each =
      kept old new each (ap (λ (x : State A S). x.connection.live) s.1)
      (λ n c e.
      let found = at n old (ChangesAsked number before after) new s in
      split (n == number)
      (λ here. let (stood, had, was, is) = found.about here in
      ap channel_in had ∙ sym (asked_same stood after) ∙ sym (ap channel_in is) ∙ e)
      (λ apart. else_is n old (ChangesAsked number before after) new c (found.other apart) e))
  step_keeps old (ChangesLive number before after) new k s each =
      kept old new each (ap (λ (x : State A S). x.connection.live) s.1)
      (λ n c e.
      let found = at n old (ChangesLive number before after) new s in
      split (n == number)
      (λ here. let (stood, had, was, is) = found.about here in
      ap channel_in had ∙ sym (live_same stood after) ∙ sym (ap channel_in is) ∙ e)
      (λ apart. else_is n old (ChangesLive number before after) new c (found.other apart) e))

  -- of a list of steps, the first and the others
  first_keeps : (step : Act A S) (steps : List (Act A S)) → KeepsChannels (step ∷ steps)
      → KeepsChannels (step ∷ []) × KeepsChannels steps
  first_keeps (ChangesConnection before after) steps k = ((k.0, tt), k.1)
  first_keeps (Begins number channel session) steps k = (tt, k)
  first_keeps (Asks number channel asked) steps k = (tt, k)
  first_keeps (Accepts number incoming asked outgoing session) steps k = (tt, k)
  first_keeps (TakesBegin number channel begin) steps k = (tt, k)
  first_keeps (TakesEnd number channel end stood) steps k = (tt, k)
  first_keeps (Ends number channel session own_end) steps k = (tt, k)
  first_keeps (Finishes number stood) steps k = (tt, k)
  first_keeps (TellsEnd number) steps k = (tt, k)
  first_keeps (ChangesAsked number before after) steps k = (tt, k)
  first_keeps (ChangesLive number before after) steps k = (tt, k)

  pub each_under : (start : State A S) (steps : List (Act A S)) (end : State A S) → KeepsChannels steps
      → History start steps end
      → Each start → Each end
  each_under start [] end k h each = subst Each (sym h) each
  each_under start (step ∷ steps) end k (mid, s, h) each =
      let (first, rest) = first_keeps step steps k in
      each_under mid steps end rest h (step_keeps start step mid first s each)

  pub begins_apart : (connection : channels.State) (end : State A S) (steps : List (Act A S)) → KeepsChannels steps
      → History (fresh connection) steps end
      → (m n : ℕ) (c : OutgoingChannel) → channel_at end m ≡ Some c → channel_at end n ≡ Some c → m ≡ n
  begins_apart connection end steps k h =
      apart end (each_under (fresh connection) steps end k h (λ n c e. absurd (none-some _ e)))
