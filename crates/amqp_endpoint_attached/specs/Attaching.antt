-- A link attaches that the peer doesn't ask for (part 2, 2.6.3).
use Rattle.std.specs.Prelude.{◌≡◌, ℕ, ◌<◌, Bool, List, [], ◌∷◌, ◌++◌, Some, None}
use Rattle.amqp_session_types.specs.declared.handles.OutputHandle.{OutputHandle}
use Rattle.amqp_session_performatives.specs.declared.attach.Attach.{Attach}
use Rattle.amqp_session_performatives.specs.declared.session_frame.SessionFrame.{SessionFrame}
use Rattle.amqp_session_core.specs.State.{State}
use Rattle.amqp_session_core.specs.Steps.{Step, Allocates, Changes}
use Rattle.amqp_link.specs.Ends.{with_handle}
use Rattle.amqp_link.specs.declared.end.End.{End}
use Rattle.amqp_endpoint_attached.specs.Linked.{Linked, LinksIn, gives}
use Rattle.amqp_endpoint_attached.specs.Links.{Announces, FitsNoFrame, attach_frame, attach_sent, offered, with_number}
use Rattle.amqp_endpoint_attached.specs.Refusals.{IsOffered}
use Rattle.amqp_endpoint_attached.specs.declared.refusal.AttachRefusal.{AttachRefusal}
use Rattle.amqp_endpoint_attached.specs.declared.refusal.AttachRefusal.TheVariants.{HandleMaxReached, FrameTooLarge}
use Rattle.amqp_endpoint_attached.specs.declared.refusal.AttachRefusal.TheVariants.{Memory}

-- why it doesn't: no handle is offered that the peer allows, or its Attach fits no frame, or there is no memory
abbrev pub RefusesAttach : {R : Type 0} → ℕ → State R → End → AttachRefusal → Type 0
RefusesAttach limit s link HandleMaxReached = s.handle_max < s.offered
RefusesAttach limit s link FrameTooLarge = IsOffered s × FitsNoFrame limit link (offered s)
RefusesAttach limit s link Memory = IsOffered s
RefusesAttach limit s link refusal = ⊥

-- the own Attach is written of a link, which then has this handle, and sent it
pub record Sends (limit : ℕ) (link : End) (handle : OutputHandle) (attach : Attach) (new : End) : Type 0 where
  pub announces : Announces limit link handle attach
  pub sent : attach_sent (with_handle link handle) attach.incomplete_unsettled ≡ Some new

-- a link of a session sends its own Attach
pub record SendsIn (old : LinksIn) (handle : OutputHandle) (incomplete : Bool) (new : LinksIn) : Type 0 where
  pub number : ℕ
  pub before : End
  pub after : End
  pub sent : attach_sent (with_handle before handle) incomplete ≡ Some after
  pub changed : Step gives old (Changes handle.0 (with_number number before) (with_number number after)) new

-- it gets the handle that is offered, and its Attach is handed out
pub record Attaches (old : Linked) (out : List SessionFrame) (limit number : ℕ) (link : End) (handle : OutputHandle)
    (new : Linked) (out_new : List SessionFrame) : Type 0 where
  pub attach : Attach
  pub attaching : End
  pub sends : Sends limit link handle attach attaching
  pub allocates : Step gives old.session (Allocates handle.0 (with_number number attaching) None) new.session
  pub rest : new ≡ record old { session = new.session }
  pub handed : out_new ≡ out ++ attach_frame old.session attach ∷ []
