-- What is made ready for a link that waits for the peer's Attach: part 2, 2.6.3, 2.6.6, 2.6.13.
use Rattle.std.specs.Prelude.{◌≡◌, ◌+◌, ◌++◌, ◌≤◌, ℕ, List, Bool, true, false, Option, Some, None, map}
use Rattle.amqp_session_types.specs.declared.error.Error.{Error}
use Rattle.amqp_session_types.specs.declared.handles.OutputHandle.{OutputHandle}
use Rattle.amqp_session_performatives.specs.declared.session_frame.SessionFrame.{SessionFrame}
use Rattle.amqp_session_outgoing.specs.Queues.{room_behind}
use Rattle.amqp_session_core.specs.Batch.{Transfers}
use Rattle.amqp_session_core.specs.Steps.{Reserves, Step}
use Rattle.amqp_link_unsettled.specs.declared.exchanging.Abort.{Abort}
use Rattle.amqp_endpoint_model.specs.State.{error_of}
use Rattle.amqp_endpoint_model.specs.Step.{not_allowed}
use Rattle.amqp_endpoint_attached.specs.Linked.{Linked, LinksIn, gives}
use Rattle.amqp_endpoint_messages.specs.GivingUp.{Closes, EachFits, abort_fits, all_fit, batch_of, fitting}
use Rattle.amqp_endpoint_messages.specs.declared.giving_up.Closing.{Closing}
use Rattle.amqp_endpoint_messages.specs.declared.giving_up.GivingUp.{GivingUp}

-- The transfers of these deliveries before the first that the peer takes no frame for, and whether it takes one for
-- each.
pub record ArePlanned (limit : ℕ) (handle : OutputHandle) (aborts : List Abort) (batches : List Transfers) (all : Bool)
    : Type 0 where
  pub these : batches ≡ map (batch_of handle) (fitting limit handle aborts)
  pub whether : all ≡ all_fit limit handle aborts
  pub fit : EachFits limit handle (fitting limit handle aborts)

abbrev pub IsMadeReady : ℕ → OutputHandle → List Abort → GivingUp → Type 0
IsMadeReady limit handle aborts giving = ArePlanned limit handle aborts giving.batches.items giving.all_fit

-- That of one of them, where the peer takes it.
abbrev pub IsPlanned : ℕ → OutputHandle → Abort → Option Transfers → Type 0
IsPlanned limit handle abort None = abort_fits limit handle abort ≡ false
IsPlanned limit handle abort (Some batch) = (batch ≡ batch_of handle abort) × (abort_fits limit handle abort ≡ true)

-- There is a place for the Detach of a link that is closed, also behind what comes to wait later.
pub record HasPlaceToClose (s : Linked) (closing : Closing) : Type 0 where
  pub some : 1 ≤ closing.place
  pub serves : room_behind closing.handle.0 1 s.session.outgoing.queues ≤ closing.place

-- That with which the link is closed that has this own handle in the session with this number, of whose messages so
-- many are open: its Detach says that it isn't allowed (2.8.15).
pub record IsClosing (s : Linked) (number : ℕ) (own : OutputHandle) (opened : ℕ) (closing : Closing) : Type 0 where
  pub is : closing ≡ record {
    session = number;
    handle = own;
    count = opened;
    why = error_of not_allowed;
    place = closing.place;
  }
  pub place : HasPlaceToClose s closing

-- There is room for what is told: the outcomes of so many messages, then one event more, and once more so many
-- outcomes.
abbrev pub HasRoomToTell : ℕ → ℕ → ℕ → Type 0
HasRoomToTell count len capacity = len + (count + (count + 1)) ≤ capacity

-- Room is made in a session, and nothing else changes.
pub record MadeRoomIn (old new : LinksIn) : Type 0 where
  pub count : ℕ
  pub reserves : Step gives old (Reserves count) new

pub record MadeRoom (old new : Linked) : Type 0 where
  pub made : MadeRoomIn old.session new.session
  pub rest : new ≡ record old { session = new.session }

-- The link is closed, where it is attached, and what is handed out goes on by its Detach, where that leaves at once.
pub record ClosesOut (handle : OutputHandle) (why : Error) (old : Linked) (out : List SessionFrame) (new : Linked)
    (out_new : List SessionFrame) : Type 0 where
  pub frames : List SessionFrame
  pub closes : Closes (Some why) handle frames old new
  pub queued : out_new ≡ out ++ frames
