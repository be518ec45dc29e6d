-- What happens in a session, one thing after another, and how links take turns.
use Rattle.std.specs.Prelude.{◌≡◌, ℕ, ◌+◌, ◌<◌, ◌==◌, List, [], ◌∷◌, ◌++◌, length, Some, None, if◌then◌else◌}
use Rattle.amqp_session_outgoing.specs.History.{Act, TakesWindow, SetsWindow, Accepts, Refuses, Follows, Reserves}
use Rattle.amqp_session_outgoing.specs.History.{Settles, SettlesRange, Forgets, Fails}
use Rattle.amqp_session_outgoing.specs.declared.frames.Outbound.{Outbound}
use Rattle.amqp_session_outgoing.specs.declared.frames.Sent.{Sent}

-- a batch of a link is accepted, another frame of a link waits, or a transfer leaves
pub data Event (T F : Type 0) : Type 0 where
  In : (handle : ℕ) (batch : List (Outbound T F)) → Event T F
  Behind : (handle : ℕ) (frame : F) → Event T F
  Out : (sent : Sent T F) → Event T F

module _ {T F : Type 0} where
  abbrev pub outs : List (Sent T F) → List (Event T F)
  outs [] = []
  outs (s ∷ left) = Out s ∷ outs left

  abbrev pub events_in : Act T F → List (Event T F)
  events_in (TakesWindow base width left) = outs left
  events_in (SetsWindow base width) = []
  events_in (Accepts handle [] left) = []
  events_in (Accepts handle (u ∷ us) left) = In handle.0 (u ∷ us) ∷ outs left
  events_in (Refuses batch error) = []
  events_in (Follows handle frame None) = Behind handle.0 frame ∷ []
  events_in (Follows handle frame (Some left)) = []
  events_in (Reserves count) = []
  events_in (Settles number) = []
  events_in (SettlesRange range) = []
  events_in (Forgets handle) = []
  events_in Fails = []

  abbrev pub events_of : List (Act T F) → List (Event T F)
  events_of [] = []
  events_of (step ∷ steps) = events_in step ++ events_of steps

  -- how many transfers of a link were accepted
  abbrev pub accepted_count : ℕ → List (Event T F) → ℕ
  accepted_count link [] = 0
  accepted_count link (In handle batch ∷ events) =
      (if handle == link then length batch else 0) + accepted_count link events
  accepted_count link (Behind handle frame ∷ events) = accepted_count link events
  accepted_count link (Out s ∷ events) = accepted_count link events

  -- how many transfers a link sent
  abbrev pub turns_of : ℕ → List (Event T F) → ℕ
  turns_of link [] = 0
  turns_of link (In handle batch ∷ events) = turns_of link events
  turns_of link (Behind handle frame ∷ events) = turns_of link events
  turns_of link (Out s ∷ events) = if (s.handle).0 == link then turns_of link events + 1 else turns_of link events

  -- after these events a transfer of the link waits
  abbrev pub Waits : ℕ → List (Event T F) → Type 0
  Waits link past = turns_of link past < accepted_count link past

  -- after these events, and after each that follows, a transfer of the link waits
  abbrev pub WaitsThroughout : ℕ → List (Event T F) → List (Event T F) → Type 0
  WaitsThroughout link past [] = Waits link past
  WaitsThroughout link past (e ∷ events) = Waits link past × WaitsThroughout link (past ++ e ∷ []) events

  -- after these events one transfer of the link leaves, and after those between them the next. The link waits from the
  -- one to the other
  pub record Successive (link : ℕ) (events before between : List (Event T F)) : Type 0 where
    pub one : Sent T F
    pub next : Sent T F
    pub later : List (Event T F)
    pub splits : events ≡ before ++ (Out one ∷ (between ++ (Out next ∷ later)))
    pub one_is : (one.handle).0 ≡ link
    pub next_is : (next.handle).0 ≡ link
    pub no_other : turns_of link between ≡ 0
    pub waits : WaitsThroughout link (before ++ Out one ∷ []) between
