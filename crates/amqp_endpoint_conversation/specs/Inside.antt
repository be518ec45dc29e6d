-- What is done inside of a session that has begun, and which frames of its links are handed out by it (part 2, 2.5.6).
use Rattle.std.specs.Prelude.{◌≡◌, ℕ, List, [], ◌∷◌, ◌++◌, Bool, true, false, if◌then◌else◌, is_some}
use Rattle.amqp_session_performatives.specs.declared.session_frame.SessionFrame.{SessionFrame}
use Rattle.amqp_session_performatives.specs.declared.session_frame.SessionFrameBody.{SessionFrameBody}
use Rattle.amqp_session_performatives.specs.declared.session_frame.SessionFrameBody.TheVariants.{Attach, Begin, Detach}
use Rattle.amqp_session_performatives.specs.declared.session_frame.SessionFrameBody.TheVariants.{End, Flow, Transfer}
use Rattle.amqp_session_core.specs.Batch.{Transfers}
use Rattle.amqp_session_core.specs.History.{History}
use Rattle.amqp_session_core.specs.Relay.{Relations}
use Rattle.amqp_session_core.specs.State.{State}
use Rattle.amqp_session_core.specs.Steps.{SendsTransfers, SetsWindow, Act, TakesBegin, TakesFlow}
use Rattle.amqp_endpoint_fitting.specs.Handed.{handed_of}

abbrev pub is_transfer : SessionFrameBody → Bool
is_transfer (Transfer transfer payload) = true
is_transfer body = false

-- the transfers among frames, in order
abbrev pub transfers_in : List SessionFrame → List SessionFrame
transfers_in [] = []
transfers_in (frame ∷ frames) = if is_transfer frame.body then frame ∷ transfers_in frames else transfers_in frames

-- a frame by which a link says something behind all that it said before: a transfer, its Flow or its Detach. A Flow
-- that names no link is the session's, and an Attach and a Disposition leave at once (part 2, 2.7.4)
abbrev pub is_of_link : SessionFrameBody → Bool
is_of_link (Transfer transfer payload) = true
is_of_link (Flow flow) = is_some flow.handle
is_of_link (Detach detach) = true
is_of_link body = false

-- what links say so among frames, in order
abbrev pub said_in : List SessionFrame → List SessionFrame
said_in [] = []
said_in (frame ∷ frames) = if is_of_link frame.body then frame ∷ said_in frames else said_in frames

-- by which no session begins or ends, and no link attaches
abbrev pub IsPlain : SessionFrameBody → Type 0
IsPlain (Begin begin) = ⊥
IsPlain (Attach attach) = ⊥
IsPlain (End end) = ⊥
IsPlain body = Unit {0}

-- frames on this channel, no Begin, no Attach and no End among them
abbrev pub AreOn : ℕ → List SessionFrame → Type 0
AreOn channel [] = Unit {0}
AreOn channel (frame ∷ frames) = (frame.channel ≡ channel) × IsPlain frame.body × AreOn channel frames

module _ {R A T D : Type 0} where
  -- a step by which the peer's window stays as it is
  abbrev pub SetsNoWindow : Act R A T D → Type 0
  SetsNoWindow (TakesBegin channel begin base left frames) = ⊥
  SetsNoWindow (TakesFlow flow told reply base left frames) = ⊥
  SetsNoWindow (SetsWindow flow base) = ⊥
  SetsNoWindow step = Unit {0}

  abbrev pub SetNoWindow : List (Act R A T D) → Type 0
  SetNoWindow [] = Unit {0}
  SetNoWindow (step ∷ steps) = SetsNoWindow step × SetNoWindow steps

-- transfers that a session accepts to be sent, in order: each batch with the own handle of its link
abbrev pub Batches : Type 0
Batches = List (ℕ × Transfers)

module _ {R A T D : Type 0} where
  abbrev pub accepted_in : Act R A T D → Batches
  accepted_in (SendsTransfers handle batch left frames) = (handle.0, batch) ∷ []
  accepted_in step = []

  abbrev pub accepted_of : List (Act R A T D) → Batches
  accepted_of [] = []
  accepted_of (step ∷ steps) = accepted_in step ++ accepted_of steps

module _ {R A T D : Type 0} (gives : Relations R A T D) where
  -- a session goes on by steps of its own, by which its peer's window stays as it is and which accept these transfers.
  -- What is handed out is on its channel, and what links say among it is said by these steps
  pub record AcceptsInside (accepted : Batches) (old : State R) (frames : List SessionFrame) (new : State R) : Type 0
    where
      pub steps : List (Act R A T D)
      pub history : History gives old steps new
      pub still : SetNoWindow steps
      pub accepts : accepted_of steps ≡ accepted
      pub says : said_in frames ≡ said_in (handed_of steps)
      pub on : AreOn ((old.fields).channel).0 frames

  -- it accepts none
  abbrev pub DoneInside : State R → List SessionFrame → State R → Type 0
  DoneInside old frames new = AcceptsInside [] old frames new
