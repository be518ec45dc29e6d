-- What happens to one of the sessions: the words in which laws on histories are said.
use Rattle.std.specs.Prelude.{◌≡◌, ℕ, ◌==◌, ◌&&◌, ◌||◌, List, [], ◌∷◌, Bool, true, false, Option, Some, None, if◌then◌else◌}
use Rattle.amqp_session_frames.specs.State as channels
use Rattle.amqp_endpoint_tables.specs.declared.place.PeerEnd.TheVariants.{Received}
use Rattle.amqp_endpoint_tables.specs.declared.place.Place.{Place}
use Rattle.amqp_endpoint_tables.specs.declared.place.Place.TheVariants.{Asked, Live, Ending, Over}
use Rattle.amqp_endpoint_tables.specs.State.{State, asked_of, channel_of, ended_place, finished_place, live_of}
use Rattle.amqp_endpoint_tables.specs.State.{peer_end_of, told_place, with_asked, with_live}
use Rattle.amqp_endpoint_tables.specs.Steps.{Act, ChangesConnection, Begins, Asks, Accepts, TakesBegin, TakesEnd}
use Rattle.amqp_endpoint_tables.specs.Steps.{Ends, Finishes, TellsEnd, ChangesAsked, ChangesLive}

module _ {A S : Type 0} where
  -- whether a step is about the session with this number
  abbrev pub is_about : ℕ → Act A S → Bool
  is_about n (ChangesConnection before after) = false
  is_about n (Begins number channel session) = n == number
  is_about n (Asks number channel asked) = n == number
  is_about n (Accepts number incoming asked outgoing session) = n == number
  is_about n (TakesBegin number channel begin) = false
  is_about n (TakesEnd number channel end stood) = n == number
  is_about n (Ends number channel session own_end) = n == number
  is_about n (Finishes number stood) = n == number
  is_about n (TellsEnd number) = n == number
  is_about n (ChangesAsked number before after) = n == number
  is_about n (ChangesLive number before after) = n == number

  -- the steps that are about it, in order
  abbrev pub steps_of : ℕ → List (Act A S) → List (Act A S)
  steps_of n [] = []
  steps_of n (step ∷ steps) = if is_about n step then step ∷ steps_of n steps else steps_of n steps

  -- what a step does to where its session stands: one that is over has no step but those that keep it so
  abbrev pub PlaceStep : Option (Place A S) → Act A S → Option (Place A S) → Type 0
  PlaceStep old (ChangesConnection before after) new = ⊥
  PlaceStep old (Begins number channel session) new = (old ≡ None) × (new ≡ Some (Live channel session))
  PlaceStep old (Asks number channel asked) new = (old ≡ None) × (new ≡ Some (Asked channel asked))
  PlaceStep old (Accepts number incoming asked outgoing session) new =
      (old ≡ Some (Asked incoming asked)) × (new ≡ Some (Live outgoing session))
  PlaceStep old (TakesBegin number channel begin) new = ⊥
  PlaceStep old (TakesEnd number channel end stood) new = (old ≡ Some stood) × (new ≡ Some (ended_place stood))
  PlaceStep old (Ends number channel session own_end) new = (old ≡ Some (Live channel session)) × (new ≡ Some (Ending channel own_end))
  PlaceStep old (Finishes number stood) new = (old ≡ Some stood) × (new ≡ Some (finished_place stood))
  PlaceStep old (TellsEnd number) new =
      (stood : Place A S) × (old ≡ Some stood) × (peer_end_of (Some stood) ≡ Received) × (new ≡ Some (told_place stood))
  PlaceStep old (ChangesAsked number before after) new =
      (stood : Place A S) × (old ≡ Some stood) × (asked_of (Some stood) ≡ Some before)
      × (new ≡ Some (with_asked stood after))
  PlaceStep old (ChangesLive number before after) new =
      (stood : Place A S) × (old ≡ Some stood) × (live_of (Some stood) ≡ Some before)
      × (new ≡ Some (with_live stood after))

  abbrev pub PlaceHistory : Option (Place A S) → List (Act A S) → Option (Place A S) → Type 0
  PlaceHistory start [] end = end ≡ start
  PlaceHistory start (step ∷ steps) end =
      (mid : Option (Place A S)) × PlaceStep start step mid × PlaceHistory mid steps end

  -- an own End passes: of one that ends here by an End, or as the answer to the peer's (part 2, 2.5.2)
  abbrev pub sends_end : Act A S → Bool
  sends_end (Ends number channel session own_end) = own_end
  sends_end (TakesEnd number channel end (Live outgoing session)) = true
  sends_end step = false

  -- the peer's End passes, which comes once
  abbrev pub takes_end : Act A S → Bool
  takes_end (TakesEnd number channel end (Over peer_end complete)) = false
  takes_end (TakesEnd number channel end stood) = true
  takes_end step = false

  -- the connection is over
  abbrev pub loses_connection : Act A S → Bool
  loses_connection (Finishes number stood) = true
  loses_connection step = false

  -- one of these steps is such
  abbrev pub has_step : (Act A S → Bool) → List (Act A S) → Bool
  has_step is [] = false
  has_step is (step ∷ steps) = is step || has_step is steps

  -- both End passed, or the connection is over
  abbrev pub has_ended : List (Act A S) → Bool
  has_ended steps = (has_step sends_end steps && has_step takes_end steps) || has_step loses_connection steps

  -- the owner gives and takes no channel of the connection's itself
  abbrev pub KeepsChannels : List (Act A S) → Type 0
  KeepsChannels [] = Unit {0}
  KeepsChannels (ChangesConnection before after ∷ steps) = (after.live ≡ before.live) × KeepsChannels steps
  KeepsChannels (step ∷ steps) = KeepsChannels steps
