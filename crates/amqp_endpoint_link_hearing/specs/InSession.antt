-- What is done for a link in a session that has begun (part 2, 2.6.4 to 2.6.6).
use Rattle.std.specs.Prelude.{◌≡◌, ℕ, List, [], Bool, true, false, Option}
use Rattle.amqp_session_types.specs.declared.error.Error.{Error}
use Rattle.amqp_session_types.specs.declared.handles.OutputHandle.{OutputHandle}
use Rattle.amqp_session_performatives.specs.declared.session_frame.SessionFrame.{SessionFrame}
use Rattle.amqp_session_core.specs.Steps.{Step as SessionStep, Changes}
use Rattle.amqp_link.specs.declared.end.End.{End}
use Rattle.amqp_endpoint_tables.specs.Steps.{Step, ChangesLive}
use Rattle.amqp_endpoint_fitting.specs.Plain.{message_size_exceeded, transfer_limit_exceeded}
use Rattle.amqp_endpoint_model.specs.Step.{not_allowed}
use Rattle.amqp_endpoint_attached.specs.Detaching.{DetachReplied}
use Rattle.amqp_endpoint_attached.specs.Linked.{Linked, gives}
use Rattle.amqp_endpoint_attached.specs.TakenOut.{TakenOut}
use Rattle.amqp_endpoint_messages.specs.GivingUp as giving_up
use Rattle.amqp_endpoint_linking.specs.Linking.{Link, Session, Talk}
use Rattle.amqp_endpoint_link_hearing.specs.declared.closing.Condition.{Condition}
use Rattle.amqp_endpoint_link_hearing.specs.declared.closing.Condition.TheVariants as condition

-- the session with this number goes on, by what is done in it, and all else stays
pub record GoesOn (Does : Linked → Linked → Type 0) (old : Talk) (session : ℕ) (new : Talk) : Type 0 where
  pub before : Session
  pub after : Session
  pub done : Does before.value after.value
  pub stepped : Step old.sessions (ChangesLive session before after) new.sessions
  pub rest : new ≡ record old { sessions = new.sessions }

-- the end of the link with this own handle becomes this by what its owner does, and all else of its session stays
pub record ChangesEnd (becomes : End → End) (handle : OutputHandle) (old new : Linked) : Type 0 where
  pub link : Link
  pub changed :
      SessionStep gives old.session
      (Changes handle.0 link (record link { link = becomes link.link })) new.session
  pub rest : new ≡ record old { session = new.session }

-- the condition's name (part 2, 2.8.15, 2.8.18)
abbrev pub name_of : Condition → List ℕ
name_of condition.NotAllowed = not_allowed
name_of condition.TransferLimitExceeded = transfer_limit_exceeded
name_of condition.MessageSizeExceeded = message_size_exceeded

-- a link is closed here, where it is attached
abbrev pub ClosesIf : Bool → Option Error → Linked → OutputHandle → List SessionFrame → Linked → Type 0
ClosesIf there why old handle frames new = giving_up.ClosesIf there why old handle frames new

abbrev pub Closes : Option Error → OutputHandle → List SessionFrame → Linked → Linked → Type 0
Closes why handle frames old new = giving_up.Closes why handle frames old new

-- the peer's Detach is answered, where the own one hadn't gone
abbrev pub AnswersIf : Bool → Linked → OutputHandle → Bool → Option Error → List SessionFrame → Linked → Type 0
AnswersIf true old handle closed error frames new = DetachReplied old handle closed error [] new frames
AnswersIf false old handle closed error frames new = (new ≡ old) × (frames ≡ [])

-- and the link leaves its session, where nothing of it waits there
pub record Parts (handle : OutputHandle) (answers closed : Bool) (error : Option Error) (left : Option Link)
    (frames : List SessionFrame) (old new : Linked) : Type 0 where
  pub mid : Linked
  pub answered : AnswersIf answers old handle closed error frames mid
  pub out : TakenOut mid handle left new
