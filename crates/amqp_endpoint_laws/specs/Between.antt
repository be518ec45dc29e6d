-- What the two ends of a world did, and which frames passed between them by that (part 2, 2.2, 2.3).
use Rattle.std.specs.Prelude.{◌≡◌, Bool, true, false, ℕ, List, [], ◌∷◌, ◌++◌, Some, flat_map, map}
use Rattle.amqp_session_frames.specs.Cutting.{joined}
use Rattle.amqp_session_frames.specs.Text.{AllWithinCaps, texts}
use Rattle.amqp_session_frames.specs.declared.frame.Frame.{Frame}
use Rattle.amqp_endpoint_model.specs.declared.phase.Phase.{Phase}
use Rattle.amqp_endpoint_model.specs.declared.phase.Phase.TheVariants.{Greeting, Running, Over}
use Rattle.amqp_endpoint_model.specs.Relay.{Relations}
use Rattle.amqp_endpoint_model.specs.State.{Waiting, is_unconnected, protocol_header, text_of, the_frame, the_header}
use Rattle.amqp_endpoint_laws.specs.Deeds.{Deed, IsDone, done_since, fed_since, pulled_since, queued_by, taken_by}
use Rattle.amqp_endpoint_laws.specs.Deeds.{told_since}
use Rattle.amqp_endpoint_laws.specs.CallsDone.{calls_done, events_told}
use Rattle.amqp_endpoint_core.specs.declared.step.End.{End}
use Rattle.amqp_endpoint_core.specs.declared.step.Step.{Step}
use Rattle.amqp_endpoint_core.specs.EndHistory.{calls_at, told_at}
use Rattle.amqp_endpoint_core.specs.WorldSaid.{WorldTold}
use Rattle.amqp_endpoint_core.specs.WorldState.{Way, WorldState, other, state_at, way_from}

-- the frame that waits, if it is one
abbrev pub frame_in : Waiting → List Frame
frame_in the_header = []
frame_in (the_frame frame) = frame ∷ []

-- the frames that deeds queue, in order
abbrev pub sent_by : List Deed → List Frame
sent_by deeds = flat_map frame_in (queued_by deeds)

-- the peer's header, as long as it is awaited (part 2, 2.2)
abbrev pub awaited : Phase → List ℕ
awaited Greeting = protocol_header
awaited phase = []

-- bytes that an end was fed and from which it took no frame: those that wait for the rest of one. Where its connection
-- is over it took none of whatever came behind the last
abbrev pub IsHeld : Phase → List ℕ → List ℕ → Type 0
IsHeld Over rest held = Unit {0}
IsHeld phase rest held = held ≡ rest

module _ {S : Type 0} where
  -- the texts of these frames, behind the header where it is awaited, are what the receiving end holds, then what is
  -- on its way, and then what the sending end has queued still
  pub record AreOnTheWay (way : Way S) (frames : List Frame) : Type 0 where
    pub text : List ℕ
    pub are : texts frames ≡ Some text
    pub held : List ℕ
    pub is_held : IsHeld way.to.phase way.to.rest held
    pub whole : awaited way.to.phase ++ text ≡ held ++ (way.stream ++ joined (map text_of way.from.queue))

  -- the frames that were taken are a beginning of those that were sent, one for one and in order, and the others are on
  -- the way: none, where the receiving end reads on, nothing is on its way, and nothing is queued
  pub record AreTakenInOrder (way : Way S) (sent taken : List Frame) : Type 0 where
    pub others : List Frame
    pub begins : sent ≡ taken ++ others
    pub left : AreOnTheWay way others
    pub all : way.to.phase ≡ Running → way.stream ≡ [] → way.from.queue ≡ [] → others ≡ []

  -- what the sending end queued is its header, and behind it frames alone, which are taken in order where no list in
  -- them is longer than may be read
  pub record PassInOrder (way : Way S) (sending receiving : List Deed) : Type 0 where
    pub headed : queued_by sending ≡ the_header ∷ map the_frame (sent_by sending)
    pub taken : AllWithinCaps (sent_by sending) → AreTakenInOrder way (sent_by sending) (taken_by receiving)

  -- by the deeds of both ends on their latest connections frames pass in order; where the sending end's is cut off,
  -- none was taken, and nothing is on its way
  abbrev pub Pass : Bool → Way S → List Deed → List Deed → Type 0
  Pass true way sending receiving = (taken_by receiving ≡ []) × (way.stream ≡ [])
  Pass false way sending receiving = PassInOrder way sending receiving

module _ {S : Type 0} (does : Relations S) where
  -- what an end of a world did, in the run of its own that it has
  abbrev pub DoneAt : End → WorldState S → List Step → List WorldTold → WorldState S → Type 0
  DoneAt end start steps told new =
      IsDone does (state_at end start).settings.max_frame_size (state_at end start).sessions
      (pulled_since [] (calls_at end [] steps told) (told_at end steps told))
      (fed_since [] (calls_at end [] steps told) (told_at end steps told))
      (told_since [] (calls_at end [] steps told) (told_at end steps told))
      (done_since [] (calls_at end [] steps told) (told_at end steps told)) (events_told (told_at end steps told))
      (calls_done (calls_at end [] steps told) (told_at end steps told)) (state_at end new)

  -- both ends did such deeds, by which frames pass to each end that has a connection
  pub record Between (start : WorldState S) (steps : List Step) (told : List WorldTold) (new : WorldState S) : Type 0
    where
      pub done : (end : End) → DoneAt end start steps told new
      pub pass :
          (end : End) → is_unconnected (state_at end new).phase ≡ false
          → Pass (is_unconnected (state_at (other end) new).phase) (way_from (other end) new)
          (done (other end)).since (done end).since
