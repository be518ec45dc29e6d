-- What sessions keep by all that they do (part 2, 2.5).
use Rattle.std.specs.Prelude.{◌≡◌, ℕ, List, [], ◌∷◌, ◌++◌}
use Rattle.amqp_session_performatives.specs.declared.session_frame.SessionFrame.{SessionFrame}
use Rattle.amqp_session_frames.specs.declared.frame.FrameBody.{FrameBody}
use Rattle.amqp_session_frames.specs.State as channels
use Rattle.amqp_endpoint_model.specs.declared.call.Call.{Call}
use Rattle.amqp_endpoint_model.specs.declared.error.EndpointError.{EndpointError}
use Rattle.amqp_endpoint_model.specs.declared.event.Event.{Event}
use Rattle.amqp_endpoint_model.specs.declared.event.Event.TheVariants.{Opened, Closed}
use Rattle.amqp_endpoint_model.specs.declared.call.Call.TheVariants.{Begin, AcceptBegin}
use Rattle.amqp_endpoint_model.specs.declared.phase.Phase.{Phase}
use Rattle.amqp_endpoint_model.specs.declared.phase.Phase.TheVariants.{Unconnected, Greeting, Running}
use Rattle.amqp_endpoint_model.specs.Relay.{Relations}
use Rattle.amqp_endpoint_model.specs.Said.{Said}
use Rattle.amqp_endpoint_model.specs.Step.{anew}
use Rattle.amqp_endpoint_laws.specs.CallsDone.{events_of}
use Rattle.amqp_endpoint_laws.specs.Telling.{tag_given}

-- this is so of them in each phase where it was so before, behind each thing that they do without telling anything: as
-- their connection goes on, or begins anew, by a frame that is refused, with the own Close, and with the end of the
-- connection, whichever phase that leads to
pub record KeepsSilent {S : Type 0} (does : Relations S) (P : Phase → S → Type 0) : Type 0 where
  pub moved : (phase : Phase) (s : S) (connection : channels.State) → connection.live ≡ (does.connection s).live
      → P phase s → P phase (does.moved s connection)
  pub renewed : (s : S) → P Unconnected s → P Greeting (anew does s)
  pub runs : (phase : Phase) (s : S) → P phase s → P Running s
  pub refused : (phase : Phase) (old new : S) (limit channel : ℕ) (said : FrameBody) (e : EndpointError)
      → does.refuses old limit channel said e new → P phase old → P phase new
  pub closed : (phase : Phase) (old new : S) → does.closes old new → P phase old → P phase new
  pub finished : (phase to : Phase) (old new : S) → does.finishes old new → P phase old → P to new

-- the peer's Open and Close are told by the connection itself
abbrev pub IsOfConnection : Event → Type 0
IsOfConnection (Opened o) = Unit {0}
IsOfConnection (Closed c) = Unit {0}
IsOfConnection event = ⊥

-- a session begins only while frames are read (part 2, 2.4.5)
abbrev pub MayDo : Phase → Call → Type 0
MayDo phase Begin = phase ≡ Running
MayDo phase (AcceptBegin channel) = phase ≡ Running
MayDo phase call = Unit {0}

-- this is so of them and of what was told so far, the events and the tags of messages: also by a frame that is taken,
-- by a call, and by what the connection tells
pub record Keeps {S : Type 0} (does : Relations S) (P : List Event → List (List ℕ) → Phase → S → Type 0) : Type 0 where
  pub silent : (seen : List Event) (tags : List (List ℕ)) → KeepsSilent does (P seen tags)
  pub told : (seen : List Event) (tags : List (List ℕ)) (event : Event) (phase : Phase) (s : S) → IsOfConnection event
      → P seen tags phase s → P (seen ++ event ∷ []) tags phase s
  pub taken : (seen : List Event) (tags : List (List ℕ)) (phase : Phase) (old new : S) (limit channel : ℕ)
      (said : FrameBody) (frames : List SessionFrame) (events : List Event)
      → does.takes old limit channel said frames events new → P seen tags phase old
      → P (seen ++ events) tags phase new
  pub called : (seen : List Event) (tags : List (List ℕ)) (phase : Phase) (old new : S) (limit : ℕ) (call : Call)
      (answer : Said) (frames : List SessionFrame) → MayDo phase call
      → does.calls old limit call answer frames new → P seen tags phase old
      → P (seen ++ events_of answer) (tags ++ tag_given answer) phase new
