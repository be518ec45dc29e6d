-- What is made ready for a link that answers one that the peer asks for (part 2, 2.6.3, 2.6.13).
use Rattle.std.specs.Prelude.{◌≡◌, ◌+◌, ◌<◌, ◌^◌, ℕ, List, [], All, Ok, Some}
use Rattle.std.specs.Vec.{vec_capacity, vec_len}
use Rattle.amqp_session_types.specs.declared.handles.InputHandle.{InputHandle}
use Rattle.amqp_session_types.specs.declared.handles.OutputHandle.{OutputHandle}
use Rattle.amqp_link.specs.GoingOn.{aborts_of}
use Rattle.amqp_link.specs.declared.end.End.{End}
use Rattle.amqp_link_sender.specs.declared.sending_on.PreparedSendOn.{PreparedSendOn}
use Rattle.amqp_link_unsettled.specs.declared.exchanging.Abort.{Abort}
use Rattle.amqp_endpoint_attached.specs.Answering.{IsPrepared}
use Rattle.amqp_endpoint_attached.specs.Linked.{Linked}
use Rattle.amqp_endpoint_attached.specs.Links.{offered}
use Rattle.amqp_endpoint_messages.specs.All.{open_count}
use Rattle.amqp_endpoint_messages.specs.GivingUp.{IsBare}
use Rattle.amqp_endpoint_messages.specs.GoingOn.{AreTagged, HasRoomToSend, IsReadyWith, on_planned}
use Rattle.amqp_endpoint_messages.specs.MadeReady.{HasRoomToTell, IsClosing, MadeRoom}
use Rattle.amqp_endpoint_messages.specs.declared.giving_up.Closing.{Closing}
use Rattle.amqp_endpoint_messages.specs.declared.going_on.AttachReady.{AttachReady}
use Rattle.amqp_endpoint_link_calls.specs.declared.placing.AnswerReady.{AnswerReady}
use Rattle.amqp_endpoint_link_calls.specs.declared.placing.Behind.{Behind}

-- what its Attach leaves to be done is ready, with what it is closed with, and room among so many frames and for all
-- that is told
pub record IsBehind (limit : ℕ) (s : Linked) (closing : Closing) (aborts : List Abort) (ons : List PreparedSendOn)
    (behind : Behind) (len capacity : ℕ) : Type 0 where
  pub ready : IsReadyWith limit aborts ons closing behind.ready
  pub sends : HasRoomToSend behind.ready s len capacity
  pub tells : HasRoomToTell behind.ready.closing.count (vec_len behind.events + 1) (vec_capacity behind.events)
  pub none : behind.events.items ≡ []
  pub bare : All IsBare behind.ready.giving.batches.items
  pub tagged : AreTagged behind.ready.on

-- there is room for it, and for all that is told, in a session that stands so
pub record HasRoomBehind (ready : AttachReady) (s : Linked) (behind : Behind) (len capacity : ℕ) : Type 0 where
  pub is : behind.ready ≡ ready
  pub sends : HasRoomToSend ready s len capacity
  pub tells : HasRoomToTell ready.closing.count (vec_len behind.events + 1) (vec_capacity behind.events)
  pub none : behind.events.items ≡ []

-- what a link goes by that answers the one which the peer asks for with this handle in the session with this number:
-- what it says under the handle that is offered there, and what its Attach leaves to be done; and the session has
-- room for it
pub record IsAnswerReady (limit : ℕ) (before ready : Linked) (link : End) (input : InputHandle) (session : ℕ)
    (made : AnswerReady) (len capacity : ℕ) : Type 0 where
  pub prepared : IsPrepared limit before link input made.prepared
  pub handle : OutputHandle
  pub offers : handle ≡ offered before.session
  pub short : handle.0 < 2 ^ 32
  pub closing : Closing
  pub closes : IsClosing before session handle (open_count (Some link)) closing
  pub room : MadeRoom before ready
  pub behind :
      IsBehind limit ready closing (aborts_of made.prepared.taken)
      (on_planned link (Ok made.prepared.taken) made.prepared.kept) made.behind len capacity
