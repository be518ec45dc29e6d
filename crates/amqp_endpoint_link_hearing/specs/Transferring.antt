-- The peer's Transfer (part 2, 2.5.6, 2.6.12, 2.7.5).
use Rattle.std.specs.Prelude.{◌≡◌, ◌⊎◌, ℕ, ◌+◌, ◌-◌, ◌<◌, ◌^◌, Bool, true, false, List, [], ◌∷◌, ◌++◌}
use Rattle.std.specs.Prelude.{Option, Some, None, Ok, option_to_list}
use Rattle.amqp_session_types.specs.declared.channels.IncomingChannel.{IncomingChannel}
use Rattle.amqp_session_types.specs.declared.handles.OutputHandle.{OutputHandle}
use Rattle.amqp_session_performatives.specs.declared.session_frame.SessionFrame.{SessionFrame}
use Rattle.amqp_session_performatives.specs.declared.transfer.Transfer.{Transfer}
use Rattle.amqp_session_core.specs.State.{reached}
use Rattle.amqp_session_core.specs.Steps.{Changes, Step}
use Rattle.amqp_session_core.specs.declared.incoming.TransferTaken.{TransferTaken}
use Rattle.amqp_link_types.specs.declared.link_error.LinkError.TheVariants.{ReceiverTransfer}
use Rattle.amqp_link_types.specs.declared.refusals.ReceiverTransferError.{ReceiverTransferError}
use Rattle.amqp_link_types.specs.declared.refusals.ReceiverTransferError.TheVariants as fault
use Rattle.amqp_link_message.specs.Making.{bare}
use Rattle.amqp_link_message.specs.declared.delivery.Delivery.{Delivery}
use Rattle.amqp_link_message.specs.declared.raw.Raw.{Raw}
use Rattle.amqp_link_receiver.specs.declared.answer.Message.{Message}
use Rattle.amqp_link_receiver.specs.declared.answer.Told.{Told}
use Rattle.amqp_link_receiver.specs.declared.answer.Told.TheVariants as told
use Rattle.amqp_link_receiver.specs.Disposing.{message_numbered}
use Rattle.amqp_link.specs.declared.end.End.{End}
use Rattle.amqp_link.specs.declared.end.End.TheVariants.{Receiver, Sender}
use Rattle.amqp_endpoint_links.specs.declared.hearing.LinkPerformative.TheVariants as said
use Rattle.amqp_endpoint_links.specs.declared.hearing.PerformativeTaken.TheVariants as taken
use Rattle.amqp_endpoint_conversation.specs.declared.hearing.Heard.TheVariants.{Live}
use Rattle.amqp_endpoint_tables.specs.State.{live_at}
use Rattle.amqp_endpoint_model.specs.declared.error.EndpointError.{EndpointError}
use Rattle.amqp_endpoint_model.specs.declared.error.EndpointError.TheVariants.{Memory, NumbersUsedUp}
use Rattle.amqp_endpoint_model.specs.declared.event.Event.{Event}
use Rattle.amqp_endpoint_model.specs.declared.event.Event.TheVariants as event
use Rattle.amqp_endpoint_model.specs.State.{error_of}
use Rattle.amqp_endpoint_attached.specs.Linked.{Linked, gives}
use Rattle.amqp_endpoint_linking.specs.Linking.{Link, Links, Session, Talk}
use Rattle.amqp_endpoint_link_hearing.specs.Attaching.{refused_told}
use Rattle.amqp_endpoint_link_hearing.specs.InSession.{ChangesEnd, Closes, GoesOn, name_of}
use Rattle.amqp_endpoint_link_hearing.specs.Naming.{link_of}
use Rattle.amqp_endpoint_link_hearing.specs.Reached.{completes_of, link_on}
use Rattle.amqp_endpoint_link_hearing.specs.Saying.{Answers, FailsBySaid, LinkHeard, RefusesSaid}
use Rattle.amqp_endpoint_link_hearing.specs.declared.closing.Condition.{Condition}
use Rattle.amqp_endpoint_link_hearing.specs.declared.closing.Condition.TheVariants as condition

-- the session of the link that took it, what the link tells, and the Flow of the session that it makes due
abbrev pub transfer_of : LinkHeard → Option (ℕ × TransferTaken Told)
transfer_of (Live session (taken.Transfer it)) = Some (session, it)
transfer_of heard = None

-- a message as it is handed out (part 2, 2.6.12, 2.7.5): on the own handle of its link, with what its transfers said of
-- it, and with its bytes as they came
abbrev pub delivery_of : OutputHandle → Message → Delivery Raw
delivery_of handle message =
    record {
      handle = record { 0 = handle.0 };
      delivery_id = message.delivery_id;
      delivery_tag = message.delivery_tag;
      message_format = message.message_format;
      rcv_settle_mode = message.rcv_settle_mode;
      message = bare (record { 0 = message.payload });
    }

-- a message that came whole by the link with this number is told under a number of its own, settled as its sender
-- settled it
abbrev pub message_told : ℕ → ℕ → OutputHandle → Message → List Event
message_told link number handle message =
    event.Message (record {
      link = link;
      message = number;
      delivery = delivery_of handle message;
      settled = message.settled;
    })
    ∷ []

-- a receiving link remembers the number of its message with this tag; by a sending one no message comes
abbrev pub remembering : End → List ℕ → ℕ → End
remembering (Receiver link) tag number = Receiver (message_numbered link tag number)
remembering (Sender link) tag number = Sender link

-- the link with this own handle remembers it
abbrev pub Remembers : OutputHandle → List ℕ → ℕ → Linked → Linked → Type 0
Remembers handle tag number = ChangesEnd (λ end. remembering end tag number) handle

-- of a message that its sender settled it remembers nothing, since that isn't to be disposed of (part 2, 2.6.12)
abbrev pub RemembersUnless : Bool → OutputHandle → List ℕ → ℕ → Talk → ℕ → Talk → Type 0
RemembersUnless true handle tag number old session new = new ≡ old
RemembersUnless false handle tag number old session new = GoesOn (Remembers handle tag number) old session new

-- a message came whole by the link that the peer's handle reached, and a number is left: it is told under the next one,
-- which the link remembers unless the message is settled
pub record HandsOver (old : Talk) (given : ℕ) (it : Transfer) (session : ℕ) (message : Message) (mid : Talk)
    (frames : List SessionFrame) (events : List Event) (new : Talk) (given_new : ℕ) : Type 0 where
  pub left : given < 2 ^ 64 - 1
  pub stood : Session
  pub live : live_at old.sessions session ≡ Some stood
  pub handle : OutputHandle
  pub reaches : reached stood.value.session it.handle.0 ≡ Some handle.0
  pub link : Link
  pub there : link_of mid session handle ≡ Some link
  pub remembers : RemembersUnless message.settled handle message.delivery_tag given mid session new
  pub silent : frames ≡ []
  pub tells : events ≡ message_told link.number given handle message
  pub counted : given_new ≡ given + 1

-- what the Detach of a link says that is closed for this fault (part 2, 2.8.15, 2.8.18)
abbrev pub condition_of : ReceiverTransferError → Condition
condition_of fault.TransferLimitExceeded = condition.TransferLimitExceeded
condition_of fault.MessageSizeExceeded = condition.MessageSizeExceeded
condition_of error = condition.NotAllowed

-- the link that the peer's handle reached refused the transfer: it is closed for this fault, and this is told
pub record ClosedBy (old : Talk) (it : Transfer) (session : ℕ) (error : ReceiverTransferError) (mid : Talk)
    (frames : List SessionFrame) (events : List Event) (new : Talk) : Type 0 where
  pub stood : Session
  pub live : live_at old.sessions session ≡ Some stood
  pub handle : OutputHandle
  pub reaches : reached stood.value.session it.handle.0 ≡ Some handle.0
  pub link : Link
  pub there : link_of mid session handle ≡ Some link
  pub closes : GoesOn (Closes (Some (error_of (name_of (condition_of error)))) handle frames) mid session new
  pub tells : events ≡ refused_told session link.number (ReceiverTransfer error)

-- nothing more comes of it
pub record ComesToNothing (given : ℕ) (mid : Talk) (frames : List SessionFrame) (events : List Event) (new : Talk)
    (given_new : ℕ) : Type 0 where
  pub silent : frames ≡ []
  pub untold : events ≡ []
  pub stays : new ≡ mid
  pub uncounted : given_new ≡ given

-- what comes of what the link tells: its message is handed out, or it is closed for its fault. Else nothing does: more
-- transfers of the delivery are to come, or its message was handed out in an earlier attachment, or the peer gave it up
abbrev pub Comes : Told → Talk → ℕ → Transfer → ℕ → Talk → List SessionFrame → List Event → Talk → ℕ → Type 0
Comes (told.Message message) old given it session mid frames events new given_new =
    HandsOver old given it session message mid frames events new given_new
Comes (told.Refused error) old given it session mid frames events new given_new =
    ClosedBy old it session error mid frames events new × (given_new ≡ given)
Comes other old given it session mid frames events new given_new =
    ComesToNothing given mid frames events new given_new

-- a link took it: what comes of what the link tells stands before the Flow of the session
pub record ByLink (old : Talk) (given : ℕ) (it : Transfer) (session : ℕ) (took : TransferTaken Told) (mid : Talk)
    (frames : List SessionFrame) (events : List Event) (new : Talk) (given_new : ℕ) : Type 0 where
  pub own : List SessionFrame
  pub comes : Comes took.told old given it session mid own events new given_new
  pub sent : frames ≡ own ++ option_to_list took.flow

-- in a session that is ending nothing comes of it
abbrev pub Becomes : Option (ℕ × TransferTaken Told) → Talk → ℕ → Transfer → Talk → List SessionFrame → List Event
    → Talk → ℕ → Type 0
Becomes (Some (session, took)) old given it mid frames events new given_new =
    ByLink old given it session took mid frames events new given_new
Becomes None old given it mid frames events new given_new = ComesToNothing given mid frames events new given_new

-- its session takes it
pub record TakesTransfer (old : Talk) (links : Links) (given : ℕ) (channel : IncomingChannel) (it : Transfer)
    (payload : List ℕ) (frames : List SessionFrame) (events : List Event) (new : Talk) (links_new : Links)
    (given_new : ℕ) : Type 0 where
  pub heard : LinkHeard
  pub mid : Talk
  pub answered : Answers old channel (said.Transfer it payload) (Ok heard) [] mid
  pub becomes : Becomes (transfer_of heard) old given it mid frames events new given_new
  pub same : links_new ≡ links

-- or it ends by its fault
pub record FailsByTransfer (old : Talk) (links : Links) (given : ℕ) (channel : IncomingChannel) (it : Transfer)
    (payload : List ℕ) (frames : List SessionFrame) (events : List Event) (new : Talk) (links_new : Links)
    (given_new : ℕ) : Type 0 where
  pub fails : FailsBySaid old links channel (said.Transfer it payload) frames events new links_new
  pub uncounted : given_new ≡ given

abbrev pub HearsTransfer : Talk → Links → ℕ → IncomingChannel → Transfer → List ℕ → List SessionFrame → List Event
    → Talk → Links → ℕ → Type 0
HearsTransfer old links given channel it payload frames events new links_new given_new =
    TakesTransfer old links given channel it payload frames events new links_new given_new
    ⊎ FailsByTransfer old links given channel it payload frames events new links_new given_new

-- the link with this own handle stands as it stood before, and all else of its session stays
pub record StandsAgain (handle : OutputHandle) (link : Link) (old new : Linked) : Type 0 where
  pub spent : Link
  pub number : spent.number ≡ link.number
  pub changed : Step gives old.session (Changes handle.0 spent link) new.session
  pub rest : new ≡ record old { session = new.session }

-- that is the link that the peer's handle reached
pub record IsPutBack (old : Talk) (it : Transfer) (session : ℕ) (mid new : Talk) : Type 0 where
  pub stood : Session
  pub live : live_at old.sessions session ≡ Some stood
  pub handle : OutputHandle
  pub reaches : reached stood.value.session it.handle.0 ≡ Some handle.0
  pub link : Link
  pub was : link_of old session handle ≡ Some link
  pub back : GoesOn (StandsAgain handle link) mid session new

-- a link refuses it, and there is no memory for its Detach: the link stands as before, as though it hadn't heard it
pub record IsUnclosed (old : Talk) (channel : IncomingChannel) (it : Transfer) (payload : List ℕ) (e : EndpointError)
    (new : Talk) : Type 0 where
  pub heard : LinkHeard
  pub mid : Talk
  pub answered : Answers old channel (said.Transfer it payload) (Ok heard) [] mid
  pub session : ℕ
  pub took : TransferTaken Told
  pub error : ReceiverTransferError
  pub by_link : transfer_of heard ≡ Some (session, took)
  pub refused : took.told ≡ told.Refused error
  pub back : IsPutBack old it session mid new
  pub is : e ≡ Memory

-- the link that it reaches would hand out a message for it, and no number is left: it isn't heard, and nothing changes
pub record IsUnnumbered (old : Talk) (given : ℕ) (channel : IncomingChannel) (it : Transfer) (payload : List ℕ)
    (e : EndpointError) (new : Talk) : Type 0 where
  pub completes : completes_of (link_on old channel it.handle.0) it payload ≡ true
  pub used_up : given ≡ 2 ^ 64 - 1
  pub is : e ≡ NumbersUsedUp
  pub stays : new ≡ old

-- it ends the connection by this
abbrev pub RefusesTransfer : Talk → ℕ → IncomingChannel → Transfer → List ℕ → EndpointError → Talk → Type 0
RefusesTransfer old given channel it payload e new =
    IsUnnumbered old given channel it payload e new
    ⊎ RefusesSaid old channel (said.Transfer it payload) e new
    ⊎ IsUnclosed old channel it payload e new
