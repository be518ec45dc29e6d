-- Whether a session has ended, by what has passed of it.
use Rattle.std.proofs.Common.{◌≡◌, ℕ, Bool, true, false, ◌&&◌, ◌||◌, List, [], ◌∷◌, Option, Some, None, refl, sym, ap}
use Rattle.std.proofs.Common.{subst, ◌∙◌}
use Rattle.amqp_session_frames.specs.State as channels
use Rattle.amqp_endpoint_tables.specs.declared.place.Place.{Place}
use Rattle.amqp_endpoint_tables.specs.declared.place.Place.TheVariants.{Asked, Live, Ending, Over}
use Rattle.amqp_endpoint_tables.specs.State.{State, ended_place, finished_place, fresh, is_complete, place_at, told_place}
use Rattle.amqp_endpoint_tables.specs.State.{with_asked, with_live}
use Rattle.amqp_endpoint_tables.specs.Steps.{Act, History, ChangesConnection, Begins, Asks, Accepts, TakesBegin}
use Rattle.amqp_endpoint_tables.specs.Steps.{TakesEnd, Ends, Finishes, TellsEnd, ChangesAsked, ChangesLive}
use Rattle.amqp_endpoint_tables.specs.Own.{PlaceHistory, PlaceStep, has_ended, has_step, loses_connection, sends_end}
use Rattle.amqp_endpoint_tables.specs.Own.{steps_of, takes_end}
use Rattle.amqp_endpoint_tables.proofs.Owning.{own}

-- nothing has passed
abbrev NonePassed : Bool → Bool → Bool → Type 0
NonePassed o p v = (o ≡ false) × (p ≡ false) × (v ≡ false)

or-false : (b : Bool) → b ≡ (b || false)
or-false true = refl
or-false false = refl

or-assoc : (a b c : Bool) → ((a || b) || c) ≡ (a || (b || c))
or-assoc true b c = refl
or-assoc false b c = refl

none-still : (o p v : Bool) → NonePassed o p v → NonePassed (o || false) (p || false) (v || false)
none-still o p v n =
    (ap (λ (b : Bool). b || false) n.0, ap (λ (b : Bool). b || false) n.1, ap (λ (b : Bool). b || false) n.2)

-- only the peer's End passes
peers-alone : (o p v : Bool) → o ≡ false → v ≡ false → false ≡ (((o || false) && (p || true)) || (v || false))
peers-alone true p v none over = let clash = none in absurd cc
peers-alone false p true none over = let clash = over in absurd cc
peers-alone false p false none over = refl

-- both pass
both-pass : (o p v : Bool) → true ≡ (((o || true) && (p || true)) || v)
both-pass true true v = refl
both-pass true false v = refl
both-pass false true v = refl
both-pass false false v = refl

-- the peer's passes behind the own one, or behind none
peers-behind : (o p v : Bool) → v ≡ false → o ≡ (((o || false) && (p || true)) || (v || false))
peers-behind true true v over = refl
peers-behind true false v over = refl
peers-behind false p false over = refl
peers-behind false p true over = let clash = over in absurd cc

-- the connection is over
connection-over : (b v : Bool) → true ≡ (b || (v || true))
connection-over true v = refl
connection-over false true = refl
connection-over false false = refl

none-ended : (o p v : Bool) → o ≡ false → v ≡ false → false ≡ ((o && p) || v)
none-ended true p v none over = let clash = none in absurd cc
none-ended false p true none over = let clash = over in absurd cc
none-ended false p false none over = refl

own-alone : (o p v : Bool) → p ≡ false → v ≡ false → false ≡ ((o && p) || v)
own-alone o true v none over = let clash = none in absurd cc
own-alone o false true none over = let clash = over in absurd cc
own-alone true false false none over = refl
own-alone false false false none over = refl

module _ {A S : Type 0} where
  -- what has passed of a session, by where it stands: the own End, the peer's, and the end of its connection
  abbrev Fits : Option (Place A S) → Bool → Bool → Bool → Type 0
  Fits None o p v = NonePassed o p v
  Fits (Some (Asked channel a)) o p v = NonePassed o p v
  Fits (Some (Live channel s)) o p v = NonePassed o p v
  Fits (Some (Ending channel own_end)) o p v = (o ≡ own_end) × (p ≡ false) × (v ≡ false)
  Fits (Some (Over peer_end complete)) o p v = complete ≡ ((o && p) || v)

  still : (x : Option (Place A S)) (o p v : Bool) → Fits x o p v → Fits x (o || false) (p || false) (v || false)
  still x o p v f =
      subst (λ (b : Bool). Fits x b (p || false) (v || false)) (or-false o)
      (subst (λ (b : Bool). Fits x o b (v || false)) (or-false p)
      (subst (λ (b : Bool). Fits x o p b) (or-false v) f))

  told-fits : (stood : Place A S) (o p v : Bool) → Fits (Some stood) o p v → Fits (Some (told_place stood)) o p v
  told-fits (Asked c a) o p v f = f
  told-fits (Live c l) o p v f = f
  told-fits (Ending c own_end) o p v f = f
  told-fits (Over peer_end complete) o p v f = f

  asked-fits : (stood : Place A S) (after : A) (o p v : Bool) → Fits (Some stood) o p v
      → Fits (Some (with_asked stood after)) o p v
  asked-fits (Asked c a) after o p v f = f
  asked-fits (Live c l) after o p v f = f
  asked-fits (Ending c own_end) after o p v f = f
  asked-fits (Over peer_end complete) after o p v f = f

  live-fits : (stood : Place A S) (after : S) (o p v : Bool) → Fits (Some stood) o p v
      → Fits (Some (with_live stood after)) o p v
  live-fits (Asked c a) after o p v f = f
  live-fits (Live c l) after o p v f = f
  live-fits (Ending c own_end) after o p v f = f
  live-fits (Over peer_end complete) after o p v f = f

  finished-fits : (stood : Place A S) (o p v : Bool)
      → Fits (Some (finished_place stood)) (o || false) (p || false) (v || true)
  finished-fits (Asked c a) o p v = connection-over ((o || false) && (p || false)) v
  finished-fits (Live c l) o p v = connection-over ((o || false) && (p || false)) v
  finished-fits (Ending c own_end) o p v = connection-over ((o || false) && (p || false)) v
  finished-fits (Over peer_end complete) o p v = connection-over ((o || false) && (p || false)) v

  -- behind a step of its own
  behind : (step : Act A S) (old new : Option (Place A S)) (o p v : Bool) → PlaceStep old step new → Fits old o p v
      → Fits new (o || sends_end step) (p || takes_end step) (v || loses_connection step)
  behind (ChangesConnection before after) old new o p v s f = absurd s
  behind (TakesBegin number channel begin) old new o p v s f = absurd s
  behind (Begins number channel session) old new o p v (was, is) f =
      subst (λ (x : Option (Place A S)). Fits x (o || false) (p || false) (v || false)) (sym is)
      (none-still o p v (subst (λ (x : Option (Place A S)). Fits x o p v) was f))
  behind (Asks number channel asked) old new o p v (was, is) f =
      subst (λ (x : Option (Place A S)). Fits x (o || false) (p || false) (v || false)) (sym is)
      (none-still o p v (subst (λ (x : Option (Place A S)). Fits x o p v) was f))
  behind (Accepts number incoming asked outgoing session) old new o p v (was, is) f =
      subst (λ (x : Option (Place A S)). Fits x (o || false) (p || false) (v || false)) (sym is)
      (none-still o p v (subst (λ (x : Option (Place A S)). Fits x o p v) was f))
  behind (TakesEnd number channel end (Asked c a)) old new o p v (was, is) f =
      let n : NonePassed o p v = subst (λ (x : Option (Place A S)). Fits x o p v) was f in
      subst (λ (x : Option (Place A S)). Fits x (o || false) (p || true) (v || false)) (sym is)
      (peers-alone o p v n.0 n.2)
  behind (TakesEnd number channel end (Live c l)) old new o p v (was, is) f =
      subst (λ (x : Option (Place A S)). Fits x (o || true) (p || true) (v || false)) (sym is)
      (both-pass o p (v || false))
  behind (TakesEnd number channel end (Ending c own_end)) old new o p v (was, is) f =
      let n : (o ≡ own_end) × (p ≡ false) × (v ≡ false) =
      subst (λ (x : Option (Place A S)). Fits x o p v) was f in
      subst (λ (x : Option (Place A S)). Fits x (o || false) (p || true) (v || false)) (sym is)
      (sym n.0 ∙ peers-behind o p v n.2)
  behind (TakesEnd number channel end (Over peer_end complete)) old new o p v (was, is) f =
      subst (λ (x : Option (Place A S)). Fits x (o || false) (p || false) (v || false)) (sym is)
      (still (Some (Over peer_end complete)) o p v (subst (λ (x : Option (Place A S)). Fits x o p v) was f))
  behind (Ends number channel session own_end) old new o p v (was, is) f =
      let n : NonePassed o p v = subst (λ (x : Option (Place A S)). Fits x o p v) was f in
      subst (λ (x : Option (Place A S)). Fits x (o || own_end) (p || false) (v || false)) (sym is)
      (ap (λ (b : Bool). b || own_end) n.0, ap (λ (b : Bool). b || false) n.1, ap (λ (b : Bool). b || false) n.2)
  behind (Finishes number stood) old new o p v (was, is) f =
      subst (λ (x : Option (Place A S)). Fits x (o || false) (p || false) (v || true)) (sym is)
      (finished-fits stood o p v)
  behind (TellsEnd number) old new o p v (stood, was, came, is) f =
      subst (λ (x : Option (Place A S)). Fits x (o || false) (p || false) (v || false)) (sym is)
      (still (Some (told_place stood)) o p v
      (told-fits stood o p v (subst (λ (x : Option (Place A S)). Fits x o p v) was f)))
  behind (ChangesAsked number before after) old new o p v (stood, was, at, is) f =
      subst (λ (x : Option (Place A S)). Fits x (o || false) (p || false) (v || false)) (sym is)
      (still (Some (with_asked stood after)) o p v
      (asked-fits stood after o p v (subst (λ (x : Option (Place A S)). Fits x o p v) was f)))
  behind (ChangesLive number before after) old new o p v (stood, was, at, is) f =
      subst (λ (x : Option (Place A S)). Fits x (o || false) (p || false) (v || false)) (sym is)
      (still (Some (with_live stood after)) o p v
      (live-fits stood after o p v (subst (λ (x : Option (Place A S)). Fits x o p v) was f)))

  -- and behind all of them
  behind-all : (steps : List (Act A S)) (start end : Option (Place A S)) (o p v : Bool) → PlaceHistory start steps end
      → Fits start o p v
      → Fits end (o || has_step sends_end steps) (p || has_step takes_end steps) (v || has_step loses_connection steps)
  behind-all [] start end o p v same f =
      subst (λ (x : Option (Place A S)). Fits x (o || false) (p || false) (v || false)) (sym same)
      (still start o p v f)
  behind-all (step ∷ steps) start end o p v (mid, s, h) f =
      subst
      (λ (b : Bool). Fits end b (p || (takes_end step || has_step takes_end steps))
      (v || (loses_connection step || has_step loses_connection steps)))
      (or-assoc o (sends_end step) (has_step sends_end steps))
      (subst
      (λ (b : Bool). Fits end ((o || sends_end step) || has_step sends_end steps) b
      (v || (loses_connection step || has_step loses_connection steps)))
      (or-assoc p (takes_end step) (has_step takes_end steps))
      (subst
      (λ (b : Bool). Fits end ((o || sends_end step) || has_step sends_end steps)
      ((p || takes_end step) || has_step takes_end steps) b)
      (or-assoc v (loses_connection step) (has_step loses_connection steps))
      (behind-all steps mid end (o || sends_end step) (p || takes_end step) (v || loses_connection step) h
      (behind step start mid o p v s f))))

  complete-by : (x : Option (Place A S)) (o p v : Bool) → Fits x o p v → is_complete x ≡ ((o && p) || v)
  complete-by None o p v n = none-ended o p v n.0 n.2
  complete-by (Some (Asked c a)) o p v n = none-ended o p v n.0 n.2
  complete-by (Some (Live c l)) o p v n = none-ended o p v n.0 n.2
  complete-by (Some (Ending c own_end)) o p v n = own-alone o p v n.1 n.2
  complete-by (Some (Over peer_end complete)) o p v f = f

  pub ended : (n : ℕ) (connection : channels.State) (end : State A S) (steps : List (Act A S))
      → History (fresh connection) steps end → is_complete (place_at end n) ≡ has_ended (steps_of n steps)
  ended n connection end steps h =
      complete-by (place_at end n) (has_step sends_end (steps_of n steps)) (has_step takes_end (steps_of n steps))
      (has_step loses_connection (steps_of n steps))
      (behind-all (steps_of n steps) None (place_at end n) false false false (own n (fresh connection) steps end h)
      (refl, refl, refl))
