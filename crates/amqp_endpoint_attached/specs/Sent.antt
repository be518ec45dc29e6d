-- A Flow or a Detach that is sent for a link of a session: part 2, 2.7.4, 2.7.7.
use Rattle.std.specs.Prelude.{◌≡◌, ◌⊎◌, List, [], ◌∷◌, ◌++◌, Option, option_to_list}
use Rattle.amqp_session_types.specs.declared.handles.OutputHandle.{OutputHandle}
use Rattle.amqp_session_performatives.specs.declared.session_frame.SessionFrame.{SessionFrame}
use Rattle.amqp_session_core.specs.declared.batch.BehindFrame.{BehindFrame}
use Rattle.amqp_session_core.specs.Frames.{behind_frame}
use Rattle.amqp_session_core.specs.Relay.{Relations}
use Rattle.amqp_session_core.specs.State.{State}
use Rattle.amqp_session_core.specs.Steps.{Step, Changes, SendsBehind}
use Rattle.amqp_link.specs.declared.end.End.{End}
use Rattle.amqp_endpoint_links.specs.declared.numbered.Numbered.{Numbered}
use Rattle.amqp_endpoint_attached.specs.Linked.{Linked, LinksIn, gives}

-- the owner changed the link, and a frame of it is sent, which leaves at once or waits behind the link's transfers
pub record Sends (old : Linked) (handle : OutputHandle) (before after : Numbered End) (frame : BehindFrame)
    (frames : List SessionFrame) (new : Linked) : Type 0 where
  pub mid : LinksIn
  pub changed : Step gives old.session (Changes handle.0 before after) mid
  pub left : Option BehindFrame
  pub answer : Option SessionFrame
  pub sent : Step gives mid (SendsBehind handle frame left answer) new.session
  pub frames_are : frames ≡ option_to_list answer
  pub rest : new ≡ record old { session = new.session }

-- a frame of the link is sent, and the link stays
pub record Says (old : Linked) (handle : OutputHandle) (frame : BehindFrame) (frames : List SessionFrame) (new : Linked)
    : Type 0 where
  pub left : Option BehindFrame
  pub answer : Option SessionFrame
  pub sent : Step gives old.session (SendsBehind handle frame left answer) new.session
  pub frames_are : frames ≡ option_to_list answer
  pub rest : new ≡ record old { session = new.session }

-- a frame of a link is sent, and what leaves is handed out
pub record HandsOut {R A T D : Type 0} (does : Relations R A T D) (old : State R) (handle : OutputHandle)
    (frame : BehindFrame) (out : List SessionFrame) (new : State R) (out_new : List SessionFrame) : Type 0 where
  pub left : Option BehindFrame
  pub answer : Option SessionFrame
  pub sent : Step does old (SendsBehind handle frame left answer) new
  pub added : out_new ≡ out ++ option_to_list answer

-- none leaves, or this one does, with what its session tells of itself
abbrev pub IsAtMost : Linked → BehindFrame → List SessionFrame → Type 0
IsAtMost old frame frames =
    (frames ≡ [])
    ⊎ (frames ≡ behind_frame old.session.fields old.session.outgoing.next_outgoing_id frame ∷ [])
