-- What is done for the link that took a Transfer, in its session (part 2, 2.5.6, 2.7.5).
use Rattle.std.specs.Prelude.{◌≡◌, ℕ, ◌+◌, ◌-◌, ◌<◌, ◌^◌, List, [], ◌++◌, true, Option, Some, None, IsSome}
use Rattle.std.specs.Prelude.{option_to_list}
use Rattle.amqp_session_types.specs.declared.error.Error.{Error}
use Rattle.amqp_session_types.specs.declared.channels.IncomingChannel.{IncomingChannel}
use Rattle.amqp_session_types.specs.declared.handles.OutputHandle.{OutputHandle}
use Rattle.amqp_session_performatives.specs.declared.session_frame.SessionFrame.{SessionFrame}
use Rattle.amqp_session_performatives.specs.declared.transfer.Transfer.{Transfer}
use Rattle.amqp_session_core.specs.State.{reached}
use Rattle.amqp_session_core.specs.declared.incoming.TransferTaken.{TransferTaken}
use Rattle.amqp_link_types.specs.declared.link_error.LinkError.TheVariants.{ReceiverTransfer}
use Rattle.amqp_link_types.specs.declared.refusals.ReceiverTransferError.{ReceiverTransferError}
use Rattle.amqp_link_receiver.specs.declared.answer.Message.{Message}
use Rattle.amqp_link_receiver.specs.declared.answer.Told.{Told}
use Rattle.amqp_link_receiver.specs.declared.answer.Told.TheVariants as told
use Rattle.amqp_endpoint_fitting.specs.Read.{IsRead}
use Rattle.amqp_endpoint_tables.specs.State.{live_at}
use Rattle.amqp_endpoint_model.specs.declared.error.EndpointError.{EndpointError}
use Rattle.amqp_endpoint_model.specs.declared.error.EndpointError.TheVariants.{Memory}
use Rattle.amqp_endpoint_model.specs.declared.event.Event.{Event}
use Rattle.amqp_endpoint_model.specs.State.{error_of, fits, frame_of}
use Rattle.amqp_endpoint_linking.specs.Linking.{Link, Session, Talk}
use Rattle.amqp_endpoint_link_hearing.specs.Attaching.{refused_told}
use Rattle.amqp_endpoint_link_hearing.specs.InSession.{ChangesEnd, Closes, GoesOn, name_of}
use Rattle.amqp_endpoint_link_hearing.specs.Leaving.{HasPlace}
use Rattle.amqp_endpoint_link_hearing.specs.Naming.{link_of}
use Rattle.amqp_endpoint_link_hearing.specs.Reached.{completes_of, link_on, recounted}
use Rattle.amqp_endpoint_link_hearing.specs.Transferring.{ComesToNothing, RemembersUnless, condition_of, message_told}
use Rattle.amqp_endpoint_link_hearing.specs.declared.leaving.Answer.{Answer}
use Rattle.amqp_endpoint_link_hearing.specs.declared.reaching.Counts.{Counts}

-- the own handle of the link that a handle of the peer's reaches in a session that has begun (part 2, 2.6.2)
abbrev pub reached_in : Option Session → ℕ → Option ℕ
reached_in None input = None
reached_in (Some session) input = reached session.value.session input

abbrev pub reached_of : Talk → ℕ → ℕ → Option ℕ
reached_of talk session input = reached_in (live_at talk.sessions session) input

-- a number is left where the link has a message
abbrev pub HasNumber : Told → ℕ → Type 0
HasNumber (told.Message message) given = given < 2 ^ 64 - 1
HasNumber other given = Unit {0}

abbrev pub HasNumberIn : Option (ℕ × TransferTaken Told) → ℕ → Type 0
HasNumberIn (Some (session, took)) given = HasNumber took.told given
HasNumberIn None given = Unit {0}

-- the link that the peer's handle reaches has a message, which is handed out under the next number
pub record HandsBy (message : Message) (given : ℕ) (old : Talk) (session input : ℕ) (events : List Event) (new : Talk)
    : Type 0 where
  pub left : given < 2 ^ 64 - 1
  pub handle : OutputHandle
  pub reaches : reached_of old session input ≡ Some handle.0
  pub link : Link
  pub there : link_of old session handle ≡ Some link
  pub remembers : RemembersUnless message.settled handle message.delivery_tag given old session new
  pub tells : events ≡ message_told link.number given handle message

-- this is told of a link that is closed for a fault
abbrev pub fault_told : ℕ → ℕ → ReceiverTransferError → List Event
fault_told session link error = refused_told session link (ReceiverTransfer error)

-- the link's Detach is made ready, and says the fault's condition
pub record IsClosing (talk : Talk) (session : ℕ) (handle : OutputHandle) (error : ReceiverTransferError)
    (answer : Answer) : Type 0 where
  pub says : answer.error ≡ Some (error_of (name_of (condition_of error)))
  pub place : (s : Session) → live_at talk.sessions session ≡ Some s
      → HasPlace s.value handle true answer.error answer.place

-- it is closed by it, and this is told
pub record IsClosedFor (old : Talk) (session : ℕ) (handle : OutputHandle) (why : Option Error)
    (error : ReceiverTransferError) (frames : List SessionFrame) (events : List Event) (new : Talk) : Type 0 where
  pub link : Link
  pub there : link_of old session handle ≡ Some link
  pub closes : GoesOn (Closes why handle frames) old session new
  pub tells : events ≡ fault_told session link.number error

-- that is the link that the peer's handle reaches, and the Detach says the fault's condition
pub record ClosesBy (error : ReceiverTransferError) (old : Talk) (session input : ℕ) (frames : List SessionFrame)
    (events : List Event) (new : Talk) : Type 0 where
  pub handle : OutputHandle
  pub reaches : reached_of old session input ≡ Some handle.0
  pub closed :
      IsClosedFor old session handle (Some (error_of (name_of (condition_of error)))) error frames events new

-- what is done for what the link tells
abbrev pub DoneFor : Told → ℕ → Talk → ℕ → ℕ → List SessionFrame → List Event → Talk → ℕ → Type 0
DoneFor (told.Message message) given old session input frames events new given_new =
    HandsBy message given old session input events new × (frames ≡ []) × (given_new ≡ given + 1)
DoneFor (told.Refused error) given old session input frames events new given_new =
    ClosesBy error old session input frames events new × (given_new ≡ given)
DoneFor other given old session input frames events new given_new =
    ComesToNothing given old frames events new given_new

-- behind that goes the Flow of the session
pub record TakenBy (took : TransferTaken Told) (given : ℕ) (old : Talk) (session input : ℕ)
    (frames : List SessionFrame) (events : List Event) (new : Talk) (given_new : ℕ) : Type 0 where
  pub own : List SessionFrame
  pub done : DoneFor took.told given old session input own events new given_new
  pub sent : frames ≡ own ++ option_to_list took.flow

abbrev pub TakenIn : Option (ℕ × TransferTaken Told) → ℕ → Talk → ℕ → List SessionFrame → List Event → Talk → ℕ
    → Type 0
TakenIn (Some (session, took)) given old input frames events new given_new =
    TakenBy took given old session input frames events new given_new
TakenIn None given old input frames events new given_new = ComesToNothing given old frames events new given_new

-- the link that the peer's handle reaches has its counts of before again
pub record HasBack (counts : Counts) (old : Talk) (session input : ℕ) (new : Talk) : Type 0 where
  pub handle : OutputHandle
  pub reaches : reached_of old session input ≡ Some handle.0
  pub there : IsSome (link_of old session handle)
  pub back : GoesOn (ChangesEnd (recounted counts) handle) old session new

-- a link is to be closed, and there is no memory for its Detach
abbrev pub FailsFor : Told → Counts → Talk → ℕ → ℕ → EndpointError → Talk → Type 0
FailsFor (told.Refused error) counts old session input e new = (e ≡ Memory) × HasBack counts old session input new
FailsFor other counts old session input e new = ⊥

abbrev pub FailsIn : Option (ℕ × TransferTaken Told) → Counts → Talk → ℕ → EndpointError → Talk → Type 0
FailsIn (Some (session, took)) counts old input e new = FailsFor took.told counts old session input e new
FailsIn None counts old input e new = ⊥

-- a number is left where the link that a Transfer reaches would hand out a message for it
abbrev pub MayBeNumbered : Talk → ℕ → IncomingChannel → Transfer → List ℕ → Type 0
MayBeNumbered talk given channel it payload =
    completes_of (link_on talk channel it.handle.0) it payload ≡ true → given < 2 ^ 64 - 1

-- the Flow of the session fits every peer's limit, once its numbers are read
abbrev pub FlowFits : Option SessionFrame → Type 0
FlowFits None = Unit {0}
FlowFits (Some flow) = IsRead flow → fits 512 (frame_of flow) ≡ true

-- the link that took it is there, and the Flow fits
abbrev pub StandsIn : Talk → ℕ → Option (ℕ × TransferTaken Told) → Type 0
StandsIn talk input (Some (session, took)) = IsSome (reached_of talk session input) × FlowFits took.flow
StandsIn talk input None = Unit {0}
