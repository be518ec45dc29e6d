-- How an endpoint detaches a link of a session, and answers the peer's Detach: part 2, 2.6.4 to 2.6.6.
use Rattle.std.specs.Prelude.{◌≡◌, ℕ, List, ◌++◌, Bool, true, false, Option, Some, None, option_map, Result, Ok, Err, ⊤}
use Rattle.amqp_session_types.specs.declared.error.Error.{Error}
use Rattle.amqp_session_types.specs.declared.handles.OutputHandle.{OutputHandle}
use Rattle.amqp_session_performatives.specs.declared.detach.Detach.{Detach}
use Rattle.amqp_session_performatives.specs.declared.session_frame.SessionFrame.{SessionFrame}
use Rattle.amqp_session_core.specs.declared.batch.BehindFrame.TheVariants as behind
use Rattle.amqp_session_core.specs.Steps.{Step, Changes}
use Rattle.amqp_link_base.specs.State.{is_attached}
use Rattle.amqp_link_sender.specs.Ending as sender
use Rattle.amqp_link_receiver.specs.Ending as receiver
use Rattle.amqp_link.specs.Ends.{state_of}
use Rattle.amqp_link.specs.declared.end.End.{End}
use Rattle.amqp_link.specs.declared.end.End.TheVariants.{Sender, Receiver}
use Rattle.amqp_endpoint_model.specs.declared.error.EndpointError.{EndpointError}
use Rattle.amqp_endpoint_model.specs.declared.error.EndpointError.TheVariants.{Memory, IllegalState}
use Rattle.amqp_endpoint_attached.specs.Linked.{Linked, LinksIn, gives, end_at}
use Rattle.amqp_endpoint_attached.specs.Sent.{Sends, Says}

-- it is attached: both Attach were exchanged, and neither Detach was
abbrev pub is_there : Option End → Bool
is_there None = false
is_there (Some end) = is_attached (state_of end)

-- the own Detach is sent by either end, which closes the link or doesn't: the messages of a sending link that is closed
-- end without an outcome
abbrev pub detach_sent : End → Bool → Option End
detach_sent (Sender s) closed = option_map Sender (sender.detach_sent s closed)
detach_sent (Receiver r) closed = option_map Receiver (receiver.detach_sent r closed)

-- the own Detach of a link with this own handle, with why it is detached where that is for an error (part 2, 2.7.7)
abbrev pub own_detach : OutputHandle → Bool → Option Error → Detach
own_detach handle closed error = record { handle = record { 0 = handle.0 }; closed = closed; error = error }

-- a link of a session sends its Detach
pub record DetachesIn (old : LinksIn) (handle : OutputHandle) (closed : Bool) (new : LinksIn) : Type 0 where
  pub number : ℕ
  pub before : End
  pub after : End
  pub moved : detach_sent before closed ≡ Some after
  pub changed : Step gives old
      (Changes handle.0 (record { number = number; link = before }) (record { number = number; link = after })) new

-- an attached link is detached or closed, and its Detach is sent
pub record DetachGiven (old : Linked) (handle : OutputHandle) (closed : Bool) (error : Option Error)
    (out : List SessionFrame) (new : Linked) (out_new : List SessionFrame) : Type 0 where
  pub number : ℕ
  pub before : End
  pub after : End
  pub frames : List SessionFrame
  pub moved : detach_sent before closed ≡ Some after
  pub sent : Sends old handle (record { number = number; link = before }) (record { number = number; link = after })
      (behind.Detach (own_detach handle closed error)) frames new
  pub added : out_new ≡ out ++ frames

-- the peer's Detach is answered: the own one is sent, and the link stays
pub record DetachReplied (old : Linked) (handle : OutputHandle) (closed : Bool) (error : Option Error)
    (out : List SessionFrame) (new : Linked) (out_new : List SessionFrame) : Type 0 where
  pub frames : List SessionFrame
  pub said : Says old handle (behind.Detach (own_detach handle closed error)) frames new
  pub added : out_new ≡ out ++ frames

-- why a link isn't detached: no attached link is there, or there is no memory
abbrev pub RefusesDetach : Option End → EndpointError → Type 0
RefusesDetach link IllegalState = is_there link ≡ false
RefusesDetach link Memory = is_there link ≡ true
RefusesDetach link e = ⊥

-- how a link is detached
abbrev pub DetachAnswered : Linked → OutputHandle → Bool → Option Error → Result ⊤ EndpointError → List SessionFrame
    → Linked → List SessionFrame → Type 0
DetachAnswered old handle closed error (Ok done) out new out_new = DetachGiven old handle closed error out new out_new
DetachAnswered old handle closed error (Err e) out new out_new = RefusesDetach (end_at old handle) e
