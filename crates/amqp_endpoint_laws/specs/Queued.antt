-- What a link has queued: its transfers that passed in its session, and those that wait there (part 2, 2.5.6, 2.6.12).
use Rattle.std.specs.Prelude.{◌≡◌, ◌==◌, ℕ, Bool, List, [], ◌∷◌, ◌++◌, Option, Some, None, if◌then◌else◌, is_some, map}
use Rattle.std.specs.Prelude.{◌⊎◌, option_map, take}
use Rattle.std.specs.FinMap as tables
use Rattle.amqp_session_types.specs.declared.handles.Handle.{Handle}
use Rattle.amqp_session_types.specs.declared.handles.InputHandle.{InputHandle}
use Rattle.amqp_session_types.specs.declared.handles.OutputHandle.{OutputHandle}
use Rattle.amqp_session_frames.specs.declared.frame.FrameBody.{FrameBody}
use Rattle.amqp_session_frames.specs.declared.frame.FrameBody.TheVariants as frame_body
use Rattle.amqp_session_performatives.specs.declared.attach.Attach.{Attach}
use Rattle.amqp_session_performatives.specs.declared.flow.Flow.{Flow}
use Rattle.amqp_session_performatives.specs.declared.link_flow.LinkFlow.{LinkFlow}
use Rattle.amqp_session_performatives.specs.declared.session_frame.SessionFrame.{SessionFrame}
use Rattle.amqp_session_performatives.specs.declared.session_frame.SessionFrameBody.{SessionFrameBody}
use Rattle.amqp_session_performatives.specs.declared.session_frame.SessionFrameBody.TheVariants as body
use Rattle.amqp_session_outgoing.specs.Queues.{units_of}
use Rattle.amqp_session_core.specs.State.{State}
use Rattle.amqp_link_base.specs.Readings.{Piece, nothing, readings}
use Rattle.amqp_link_base.specs.Said.{Said}
use Rattle.amqp_link.specs.GoingOn.{sends_on_by}
use Rattle.amqp_link.specs.declared.end.End.{End}
use Rattle.amqp_link_sender.specs.Saying.{pieces_of}
use Rattle.amqp_link_sender.specs.declared.sending_on.PreparedSendOn.{PreparedSendOn}
use Rattle.amqp_endpoint_laws.specs.Deeds.{AreDone, Deed, Does, IsDeed, Takes}
use Rattle.amqp_endpoint_attached.specs.Answering.{plain}
use Rattle.amqp_endpoint_link_calls.specs.Naming.{Meets}
use Rattle.amqp_endpoint_link_hearing.specs.Flowing.{said_of_link}
use Rattle.amqp_endpoint_link_hearing.specs.Reached.{link_on}
use Rattle.amqp_endpoint_links.specs.declared.links.AskedLink.{AskedLink}
use Rattle.amqp_endpoint_messages.specs.GoingOn.{on_answered}
use Rattle.amqp_endpoint_model.specs.Said.{Said as Answer, message_sent}
use Rattle.amqp_endpoint_model.specs.declared.call.Call.{Call}
use Rattle.amqp_endpoint_model.specs.declared.call.Call.TheVariants.{Resume, Send}
use Rattle.amqp_endpoint_tables.specs.LinkState.{rest_at}
use Rattle.amqp_endpoint_tables.specs.State.{live_at}
use Rattle.amqp_endpoint.specs.Does.{linked}
use Rattle.amqp_endpoint.specs.declared.linked.LinkedSessions.{LinkedSessions}
use Rattle.amqp_endpoint_linking.specs.Linking.{Link, Session}
use Rattle.amqp_endpoint_conversation.specs.Windows.{Passing}
use Rattle.amqp_endpoint_laws.specs.Passed.{PassesIn, sent_in}

-- the transfer of a frame, where it goes by this own handle
abbrev pub piece_on : ℕ → SessionFrameBody → List Piece
piece_on handle (body.Transfer transfer payload) =
    if transfer.handle.0 == handle then record { performative = transfer; payload = payload } ∷ [] else []
piece_on handle said = []

-- the transfers among frames that go by it, in order
abbrev pub pieces_on : ℕ → List SessionFrame → List Piece
pieces_on handle [] = []
pieces_on handle (frame ∷ frames) = piece_on handle frame.body ++ pieces_on handle frames

-- those of it that wait in a session
abbrev pub pieces_waiting : {R : Type 0} → ℕ → State R → List Piece
pieces_waiting handle s = pieces_of (units_of handle s.outgoing.queues)

-- those that passed, and behind them those that wait
abbrev pub queued : OutputHandle → List Passing → State Link → List Piece
queued handle passings s = pieces_on handle.0 (sent_in passings) ++ pieces_waiting handle.0 s

-- a message as its transfers say it: the tag of its delivery, its format, whether it goes settled, and its bytes
pub record Message : Type 0 where
  pub tag : Option (List ℕ)
  pub format : Option ℕ
  pub settled : Option Bool
  pub payload : List ℕ

abbrev pub message_of : Said → Message
message_of said =
    record {
      tag = said.performative.delivery_tag;
      format = said.performative.message_format;
      settled = said.performative.settled;
      payload = said.payload;
    }

-- transfers say these messages, in order, and leave no delivery open
pub record SayMessages (pieces : List Piece) (messages : List Message) : Type 0 where
  pub whole : (readings nothing pieces).held ≡ None
  pub says : map message_of (readings nothing pieces).messages ≡ messages

-- the message that is sent by a link in a call, where it is accepted. It goes settled where its outcome is told at
-- once
abbrev pub message_done : ℕ → Call → Answer → List Message
message_done link (Send number message) (message_sent tag outcome) =
    if number == link then record {
      tag = Some tag;
      format = Some message.message_format;
      settled = Some (is_some outcome);
      payload = message.payload;
    } ∷ [] else []
message_done link call answer = []

-- those that are sent by it in calls that are done, with their answers, in order
abbrev pub messages_done : ℕ → List (Call × Answer) → List Message
messages_done link [] = []
messages_done link (did ∷ others) = message_done link did.0 did.1 ++ messages_done link others

-- and in a deed
abbrev pub message_in : ℕ → Deed → List Message
message_in link (Does limit call answer frames) = message_done link call answer
message_in link deed = []

-- and in one after the other
abbrev pub messages_by : ℕ → List Deed → List Message
messages_by link [] = []
messages_by link (deed ∷ deeds) = message_in link deed ++ messages_by link deeds

-- a message that is sent on, as its transfers say it: whole, or from where its receiver stands on (part 2, 2.6.13)
abbrev pub message_on : PreparedSendOn → Message
message_on ready =
    record {
      tag = ready.transfer.delivery_tag;
      format = ready.transfer.message_format;
      settled = ready.transfer.settled;
      payload = ready.payload;
    }

-- what a Flow lets the link with this number send on, where it names it (part 2, 2.6.7)
abbrev pub on_of : ℕ → Option Link → LinkFlow → List PreparedSendOn
on_of link None it = []
on_of link (Some named) it = if named.number == link then sends_on_by named.link it else []

abbrev pub on_named : ℕ → LinkedSessions → ℕ → Flow → Option Handle → List PreparedSendOn
on_named link old channel flow None = []
on_named link old channel flow (Some named) =
    on_of link (link_on old.talk (record { 0 = channel }) named.0) (said_of_link flow named)

abbrev pub on_by : ℕ → LinkedSessions → ℕ → FrameBody → List PreparedSendOn
on_by link old channel (frame_body.Flow flow) = on_named link old channel flow flow.handle
on_by link old channel it = []

-- what a link that attaches again sends on, where it answers the one of its name for which the peer asks in the session
-- with this number: what was kept of a Flow lets it (part 2, 2.6.3, 2.6.7)
pub record GoesOnAgain (link session : ℕ) (old : LinkedSessions) (ons : List PreparedSendOn) : Type 0 where
  pub end : End
  pub rests : rest_at old.links link ≡ Some end
  pub it : Session
  pub live : live_at old.talk.sessions session ≡ Some it
  pub input : InputHandle
  pub meets : Meets it.value.asked end (Some input)
  pub asked : AskedLink
  pub is_asked : tables.get it.value.asked input.0 ≡ Some asked
  pub are : ons ≡ on_answered end asked.attach (option_map plain asked.flow)

-- what a deed lets the link with this number send on
abbrev pub GoesOnBy : ℕ → LinkedSessions → Deed → List PreparedSendOn → Type 0
GoesOnBy link old (Takes limit frame frames events) ons = ons ≡ on_by link old frame.channel frame.body
GoesOnBy link old (Does limit (Resume number session) answer frames) ons =
    (number ≡ link) × GoesOnAgain link session old ons
GoesOnBy link old deed ons = ⊥

-- what a link says in a deed: the message that it is given, and the first so many of those that it has to send on
pub record SaysIn (link : ℕ) (old : LinkedSessions) (deed : Deed) (messages : List Message) : Type 0 where
  pub ons : List PreparedSendOn
  pub go_on : (ons ≡ []) ⊎ GoesOnBy link old deed ons
  pub count : ℕ
  pub are : messages ≡ message_in link deed ++ map message_on (take count ons)

-- and in one after the other
abbrev pub AreSaid : ℕ → LinkedSessions → List Deed → LinkedSessions → List Message → Type 0
AreSaid link old [] new messages = (new ≡ old) × (messages ≡ [])
AreSaid link old (deed ∷ deeds) new messages =
    (mid : LinkedSessions) × (these : List Message) × (rest : List Message) × IsDeed linked old deed mid
    × SaysIn link old deed these × AreSaid link mid deeds new rest × (messages ≡ these ++ rest)

-- transfers say what a link says by these deeds
pub record SayAll (link : ℕ) (old : LinkedSessions) (deeds : List Deed) (new : LinkedSessions) (pieces : List Piece)
    : Type 0 where
  pub messages : List Message
  pub are : AreSaid link old deeds new messages
  pub say : SayMessages pieces messages

-- by a deed it has nothing to send on
abbrev pub HasNoneOn : ℕ → LinkedSessions → Deed → Type 0
HasNoneOn link old deed = (ons : List PreparedSendOn) → GoesOnBy link old deed ons → ons ≡ []

-- by none of these deeds
abbrev pub NothingOn : (link : ℕ) (old : LinkedSessions) (deeds : List Deed) (new : LinkedSessions)
    (messages : List Message) → AreSaid link old deeds new messages → Type 0
NothingOn link old [] new messages said = Unit {0}
NothingOn link old (deed ∷ deeds) new messages (mid, these, rest, done, says, others, all) =
    HasNoneOn link old deed × NothingOn link mid deeds new rest others

-- the first of these frames is an Attach with this own handle and this name (part 2, 2.6.3)
pub record AttachesFirst (handle : OutputHandle) (name : List ℕ) (frames : List SessionFrame) : Type 0 where
  pub channel : ℕ
  pub attach : Attach
  pub others : List SessionFrame
  pub are : frames ≡ record { channel = channel; body = body.Attach attach } ∷ others
  pub handled : attach.handle.0 ≡ handle.0
  pub named : attach.name ≡ name

-- among these deeds is this call by which the link attached, and what passed in its session by that and since, by its
-- handle, and what waits there, says what the link says by that and since then: by calls these messages
pub record SaysSince (sessions : LinkedSessions) (deeds : List Deed) (number link : ℕ) (it : Call) (answer : Answer)
    (handle : OutputHandle) (end : LinkedSessions) (session : Session) (given : List Message) : Type 0 where
  pub before : List Deed
  pub limit : ℕ
  pub frames : List SessionFrame
  pub since : List Deed
  pub are : deeds ≡ before ++ Does limit it answer frames ∷ since
  pub old : LinkedSessions
  pub came : AreDone linked sessions before old
  pub passings : List Passing
  pub passes : PassesIn number old (Does limit it answer frames ∷ since) end passings
  pub by_calls : messages_by link since ≡ given
  pub says : SayAll link old (Does limit it answer frames ∷ since) end (queued handle passings session.value.session)
