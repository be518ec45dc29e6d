-- What holds in each session that has begun: what steps of the sessions keep so, and of their connection.
use Rattle.std.proofs.Common.{◌≡◌, ℕ, zero, suc, List, [], ◌∷◌, ◌++◌, Option, Some, None, Result, Ok, Err, sym, ap, subst, ◌∙◌, slice_get, slice_set, slice_index_or, false, Bool}
use Rattle.std.specs.FinMap as map
use Rattle.std.specs.Prelude.{⊤}
use Rattle.std.proofs.lemmas.Option.{none-some, same_Some}
use Rattle.amqp_session_types.specs.declared.channels.IncomingChannel.{IncomingChannel}
use Rattle.amqp_session_types.specs.declared.channels.OutgoingChannel.{OutgoingChannel}
use Rattle.amqp_session_types.specs.declared.refusals.TryEndError.{TryEndError}
use Rattle.amqp_session_performatives.specs.declared.begin.Begin.{Begin}
use Rattle.amqp_session_performatives.specs.declared.end.End.{End}
use Rattle.amqp_session_frames.specs.State as channels
use Rattle.amqp_session_frames.specs.Steps.{DeallocateSession}
use Rattle.amqp_endpoint_tables.specs.declared.place.PeerEnd.TheVariants.{Missing}
use Rattle.amqp_endpoint_tables.specs.declared.place.Place.{Place}
use Rattle.amqp_endpoint_tables.specs.declared.place.Place.TheVariants.{Asked, Live, Ending, Over}
use Rattle.amqp_endpoint_tables.specs.State.{State, ended_place, live_of, told_place, with_asked, with_live}
use Rattle.amqp_endpoint_tables.specs.Steps.{Step, Accepts, Asks, Begins, ChangesAsked, ChangesLive, EndTold, Ends}
use Rattle.amqp_endpoint_tables.specs.Steps.{GivesChannel, TakesBegin, TakesChannelBack, TakesEnd}
use Rattle.amqp_endpoint_model.specs.Relay.{StandsStill}

-- a connection that is as another was stands still, and so on
pub still-same : (old new : channels.State) → new ≡ old → StandsStill old new
still-same old new is =
    record {
      state = ap (λ (c : channels.State). c.local_state) is;
      opening = ap (λ (c : channels.State). c.local_open) is;
    }

pub still-on : (old mid new : channels.State) → StandsStill old mid → StandsStill mid new → StandsStill old new
still-on old mid new a b = record { state = b.state ∙ a.state; opening = b.opening ∙ a.opening }

-- an outgoing channel that is taken back, if a session has it
pub still-back : (old new : channels.State) (channel : ℕ) (had : Option ℕ) → DeallocateSession old channel had new
    → StandsStill old new
still-back old new channel None is = still-same old new is
still-back old new channel (Some number) is =
    record {
      state = ap (λ (c : channels.State). c.local_state) is;
      opening = ap (λ (c : channels.State). c.local_open) is;
    }

both-back : (old new : channels.State) (incoming : IncomingChannel) (end : End) (number : ℕ)
    (outgoing : OutgoingChannel) → TakesChannelBack old incoming end number outgoing new → StandsStill old new
both-back old new incoming end number outgoing t =
    let given = still-back t.mid new outgoing.0 (map.get (t.mid).live outgoing.0) t.back in
    record {
      state = given.state ∙ ap (λ (c : channels.State). c.local_state) (t.ended).1;
      opening = given.opening ∙ ap (λ (c : channels.State). c.local_open) (t.ended).1;
    }

channel-given : (old new : channels.State) (incoming : IncomingChannel) (number : ℕ) (outgoing : OutgoingChannel)
    → GivesChannel old incoming number outgoing new → StandsStill old new
channel-given old new incoming number outgoing g =
    record {
      state =
          ap (λ (c : channels.State). c.local_state) g.led ∙ ap (λ (c : channels.State). c.local_state) (g.given).4;
      opening =
          ap (λ (c : channels.State). c.local_open) g.led ∙ ap (λ (c : channels.State). c.local_open) (g.given).4;
    }

module _ {A S : Type 0} (P : S → Type 0) where
  -- it holds of the session that has begun at a place
  abbrev pub HoldsAt : Place A S → Type 0
  HoldsAt place = (session : S) → live_of (Some place) ≡ Some session → P session

  -- of each that has begun at one of these places
  abbrev pub HoldsIn : List (Place A S) → Type 0
  HoldsIn places = (number : ℕ) (session : S) → live_of (slice_get places number) ≡ Some session → P session

  put : (places : List (Place A S)) (i : ℕ) (x : Place A S) → HoldsIn places → HoldsAt x
      → HoldsIn (slice_set places i x)
  put [] i x all at n session live = all n session live
  put (y ∷ ys) zero x all at zero session live = at session live
  put (y ∷ ys) zero x all at (suc n) session live = all (suc n) session live
  put (y ∷ ys) (suc i) x all at zero session live = all zero session live
  put (y ∷ ys) (suc i) x all at (suc n) session live = put ys i x (λ k. all (suc k)) at n session live

  push : (places : List (Place A S)) (x : Place A S) → HoldsIn places → HoldsAt x → HoldsIn (places ++ x ∷ [])
  push [] x all at zero session live = at session live
  push [] x all at (suc n) session live = absurd (none-some _ live)
  push (y ∷ ys) x all at zero session live = all zero session live
  push (y ∷ ys) x all at (suc n) session live = push ys x (λ k. all (suc k)) at n session live

  -- a session that changed at a place
  changed : (place : Place A S) (after : S) → P after → HoldsAt (with_live place after)
  changed (Asked c a) after holds session live = absurd (none-some _ live)
  changed (Live c s) after holds session live = subst P (same_Some _ _ live) holds
  changed (Ending c own_end) after holds session live = absurd (none-some _ live)
  changed (Over p c) after holds session live = absurd (none-some _ live)

  asked-changed : (place : Place A S) (after : A) → HoldsAt place → HoldsAt (with_asked place after)
  asked-changed (Asked c a) after at session live = absurd (none-some _ live)
  asked-changed (Live c s) after at session live = at session live
  asked-changed (Ending c own_end) after at session live = absurd (none-some _ live)
  asked-changed (Over p c) after at session live = absurd (none-some _ live)

  told-changed : (place : Place A S) → HoldsAt place → HoldsAt (told_place place)
  told-changed (Asked c a) at session live = at session live
  told-changed (Live c s) at session live = at session live
  told-changed (Ending c own_end) at session live = at session live
  told-changed (Over p c) at session live = absurd (none-some _ live)

  stands : (places : List (Place A S)) (i : ℕ) → HoldsIn places
      → HoldsAt (slice_index_or places i (Over Missing false))
  stands [] i all session live = absurd (none-some _ live)
  stands (y ∷ ys) zero all session live = all zero session live
  stands (y ∷ ys) (suc i) all session live = stands ys i (λ k. all (suc k)) session live

  ended : (stood : Place A S) → HoldsAt (ended_place stood)
  ended (Asked c a) session live = absurd (none-some _ live)
  ended (Live c s) session live = absurd (none-some _ live)
  ended (Ending c own_end) session live = absurd (none-some _ live)
  ended (Over p c) session live = absurd (none-some _ live)

  -- what held of each goes on to hold, and the connection stands
  pub record Keeps (old new : State A S) : Type 0 where
    pub holds : HoldsIn old.places → HoldsIn new.places
    pub still : StandsStill old.connection new.connection

  pub stays : (old new : State A S) → new ≡ old → Keeps old new
  stays old new is =
      record {
        holds = λ all. subst (λ (s : State A S). HoldsIn s.places) (sym is) all;
        still = still-same old.connection new.connection (ap (λ (s : State A S). s.connection) is);
      }

  pub on : (old mid new : State A S) → Keeps old mid → Keeps mid new → Keeps old new
  on old mid new a b =
      record {
        holds = λ all. b.holds (a.holds all);
        still = still-on old.connection mid.connection new.connection a.still b.still;
      }

  -- the places are these
  placed : (old new : State A S) (places : List (Place A S)) → new.places ≡ places
      → (HoldsIn old.places → HoldsIn places) → StandsStill old.connection new.connection → Keeps old new
  placed old new places is keeps still =
      record { holds = λ all. subst HoldsIn (sym is) (keeps all); still = still }

  -- they alone change
  moved : (old new : State A S) (places : List (Place A S)) → new.places ≡ places
      → new.connection ≡ old.connection → (HoldsIn old.places → HoldsIn places) → Keeps old new
  moved old new places is same keeps =
      placed old new places is keeps (still-same old.connection new.connection same)

  pub begins : (old new : State A S) (number : ℕ) (channel : OutgoingChannel) (session : S) → P session
      → Step old (Begins number channel session) new → Keeps old new
  begins old new number channel session holds s =
      placed old new (old.places ++ Live channel session ∷ []) (ap (λ (x : State A S). x.places) s.2)
      (λ all. push old.places (Live channel session) all (λ other live. subst P (same_Some _ _ live) holds))
      (record {
        state = ap (λ (c : channels.State). c.local_state) (s.0).4;
        opening = ap (λ (c : channels.State). c.local_open) (s.0).4;
      })

  pub accepts : (old new : State A S) (number : ℕ) (incoming : IncomingChannel) (asked : A)
      (outgoing : OutgoingChannel) (session : S) → P session
      → Step old (Accepts number incoming asked outgoing session) new → Keeps old new
  accepts old new number incoming asked outgoing session holds s =
      placed old new (slice_set old.places number (Live outgoing session)) (ap (λ (x : State A S). x.places) s.2)
      (λ all. put old.places number (Live outgoing session) all (λ other live. subst P (same_Some _ _ live) holds))
      (channel-given old.connection new.connection incoming number outgoing s.1)

  pub asks : (old new : State A S) (number : ℕ) (channel : IncomingChannel) (asked : A)
      → Step old (Asks number channel asked) new → Keeps old new
  asks old new number channel asked s =
      moved old new (old.places ++ Asked channel asked ∷ []) (ap (λ (x : State A S). x.places) s.2)
      (ap (λ (x : State A S). x.connection) s.2)
      (λ all. push old.places (Asked channel asked) all (λ session live. absurd (none-some _ live)))

  pub takes_begin : (old new : State A S) (number : ℕ) (channel : IncomingChannel) (begin : Begin)
      → Step old (TakesBegin number channel begin) new → Keeps old new
  takes_begin old new number channel begin s =
      placed old new old.places (ap (λ (x : State A S). x.places) s.1) (λ all. all)
      (record {
        state = ap (λ (c : channels.State). c.local_state) (s.0).1;
        opening = ap (λ (c : channels.State). c.local_open) (s.0).1;
      })

  pub ends : (old new : State A S) (number : ℕ) (channel : OutgoingChannel) (session : S) (own_end : Bool)
      → Step old (Ends number channel session own_end) new → Keeps old new
  ends old new number channel session own_end s =
      moved old new (slice_set old.places number (Ending channel own_end)) (ap (λ (x : State A S). x.places) s.1)
      (ap (λ (x : State A S). x.connection) s.1)
      (λ all. put old.places number (Ending channel own_end) all (λ other live. absurd (none-some _ live)))

  pub changes_asked : (old new : State A S) (number : ℕ) (before after : A)
      → Step old (ChangesAsked number before after) new → Keeps old new
  changes_asked old new number before after s =
      let stood = slice_index_or old.places number (Over Missing false) in
      moved old new (slice_set old.places number (with_asked stood after)) (ap (λ (x : State A S). x.places) s.1)
      (ap (λ (x : State A S). x.connection) s.1)
      (λ all. put old.places number (with_asked stood after) all
      (asked-changed stood after (stands old.places number all)))

  pub changes_live : (old new : State A S) (number : ℕ) (before after : S)
      → Step old (ChangesLive number before after) new → (P before → P after) → Keeps old new
  changes_live old new number before after s keeps =
      let stood = slice_index_or old.places number (Over Missing false) in
      moved old new (slice_set old.places number (with_live stood after)) (ap (λ (x : State A S). x.places) s.1)
      (ap (λ (x : State A S). x.connection) s.1)
      (λ all. put old.places number (with_live stood after) all (changed stood after (keeps (all number before s.0))))

  pub takes_end : (old new : State A S) (number : ℕ) (channel : IncomingChannel) (end : End) (stood : Place A S)
      → Step old (TakesEnd number channel end stood) new → Keeps old new
  takes_end old new number channel end (Asked c a) s =
      moved old new (slice_set old.places number (ended_place (Asked c a))) (ap (λ (x : State A S). x.places) (s.2).1)
      (ap (λ (x : State A S). x.connection) (s.2).1)
      (λ all. put old.places number (ended_place (Asked c a)) all (ended (Asked c a)))
  takes_end old new number channel end (Live c l) s =
      placed old new (slice_set old.places number (ended_place (Live c l))) (ap (λ (x : State A S). x.places) (s.2).1)
      (λ all. put old.places number (ended_place (Live c l)) all (ended (Live c l)))
      (both-back old.connection new.connection channel end number c (s.2).0)
  takes_end old new number channel end (Ending c own_end) s =
      placed old new (slice_set old.places number (ended_place (Ending c own_end))) (ap (λ (x : State A S). x.places) (s.2).1)
      (λ all. put old.places number (ended_place (Ending c own_end)) all (ended (Ending c own_end)))
      (both-back old.connection new.connection channel end number c (s.2).0)
  takes_end old new number channel end (Over p c) s = absurd s.2

  pub tells_end : (old new : State A S) (number : ℕ) (r : Result ⊤ TryEndError) → EndTold old number r new
      → Keeps old new
  tells_end old new number (Ok u) (stood, had, came, is) =
      moved old new (slice_set old.places number (told_place stood)) (ap (λ (x : State A S). x.places) is)
      (ap (λ (x : State A S). x.connection) is)
      (λ all. put old.places number (told_place stood) all
      (told-changed stood (λ session live. all number session (ap live_of had ∙ live))))
  tells_end old new number (Err e) s = stays old new s.1
