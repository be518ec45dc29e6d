-- How a link attaches in one of an endpoint's sessions: part 2, 2.6.3.
use Rattle.std.specs.Prelude.{◌≡◌, ℕ, max, true, List, [], ◌++◌, Option, Some, None}
use Rattle.std.specs.Global.{Box}
use Rattle.amqp_session_types.specs.declared.handles.InputHandle.{InputHandle}
use Rattle.amqp_session_performatives.specs.declared.session_frame.SessionFrame.{SessionFrame}
use Rattle.amqp_link.specs.Ends.{state_of}
use Rattle.amqp_link.specs.declared.end.End.{End}
use Rattle.amqp_endpoint_attached.specs.Answering.{Answers}
use Rattle.amqp_endpoint_attached.specs.Attaching.{Attaches}
use Rattle.amqp_endpoint_attached.specs.Linked.{Linked}
use Rattle.amqp_endpoint_attached.specs.Links.{is_at_rest}
use Rattle.amqp_endpoint_attached.specs.declared.answering.Answered.{Answered}
use Rattle.amqp_endpoint_conversation.specs.Ending.{IsMapped}
use Rattle.amqp_endpoint_messages.specs.All.{open_count}
use Rattle.amqp_endpoint_messages.specs.GivingUp.{attached_told}
use Rattle.amqp_endpoint_messages.specs.GoingOn.{AttachedAt, on_answered}
use Rattle.amqp_endpoint_messages.specs.MadeReady.{MadeRoom}
use Rattle.amqp_endpoint_model.specs.State.{error_of}
use Rattle.amqp_endpoint_model.specs.Step.{not_allowed}
use Rattle.amqp_endpoint_model.specs.declared.event.Event.{Event}
use Rattle.amqp_endpoint_tables.specs.LinkState.{rest_at}
use Rattle.amqp_endpoint_tables.specs.LinkSteps.{Enters, Holds, Step as NamesStep}
use Rattle.amqp_endpoint_tables.specs.Steps.{ChangesLive, Step}
use Rattle.amqp_endpoint_link_calls.specs.Naming.{Meets, name_of}
use Rattle.amqp_endpoint_link_calls.specs.Places.{LinkTalk, LinksBy}
use Rattle.amqp_endpoint_link_calls.specs.declared.placed.Placed.{Placed}

-- a link answers the one that the peer asks for with this handle (2.6.3): first room is made; it answers with its own
-- Attach; and it goes on as a link does that is attached at both ends, with what was kept of a Flow, and with the
-- messages that this lets it send on
pub record AnswersAsked (before : Linked) (out : List SessionFrame) (limit : ℕ) (link : End) (input : InputHandle)
    (placed : Placed) (after : Linked) (out_new : List SessionFrame) : Type 0 where
  pub ready : Linked
  pub makes_room : MadeRoom before ready
  pub answered : Answered
  pub handled : answered.handle ≡ placed.handle
  pub mid : Linked
  pub out_mid : List SessionFrame
  pub answers : Answers ready out limit placed.link link input answered mid out_mid
  pub frames : List SessionFrame
  pub behind : List Event
  pub goes :
      AttachedAt limit placed.session (open_count (Some link)) placed.handle (error_of not_allowed) answered.aborts
      answered.kept (on_answered link answers.asked.attach answered.kept) frames behind mid after
  pub queued : out_new ≡ out_mid ++ frames
  pub told : placed.events.items ≡ attached_told placed.link answered.exchange ++ behind

-- a link attaches in a session: of itself, and waits for the peer's Attach, or in answer to the one that the peer asks
-- for
abbrev pub AttachedBy : Option InputHandle → Linked → List SessionFrame → ℕ → End → Placed → Linked
    → List SessionFrame → Type 0
AttachedBy None before out limit link placed after out_new =
    Attaches before out limit placed.link link placed.handle after out_new × (placed.events.items ≡ [])
AttachedBy (Some input) before out limit link placed after out_new =
    AnswersAsked before out limit link input placed after out_new

-- it does so by whether the peer asks for it there
pub record AttachesOne (before : Linked) (out : List SessionFrame) (limit : ℕ) (link : End) (placed : Placed)
    (after : Linked) (out_new : List SessionFrame) : Type 0 where
  pub input : Option InputHandle
  pub meets : Meets before.asked link input
  pub attached : AttachedBy input before out limit link placed after out_new

-- it does so in the session with this number, and no other changes
pub record AttachesIn (old : LinkTalk) (out : List SessionFrame) (limit session : ℕ) (link : End) (placed : Placed)
    (new : LinkTalk) (out_new : List SessionFrame) : Type 0 where
  pub before : Box Linked
  pub after : Box Linked
  pub attached : AttachesOne before.value out limit link placed after.value out_new
  pub held : placed.session ≡ session
  pub stepped : Step old.sessions (ChangesLive session before after) new.sessions
  pub rest : new ≡ record old { sessions = new.sessions }

-- the links with room for one more
abbrev pub with_room : LinksBy → LinksBy
with_room links = record links { room = max links.room 1 }

-- a link attaches in a session that is mapped (2.5.5): it gets the next number, the session holds it by its own handle
-- there, and what it sends is handed out. It uses up room for one link, if there was any
pub record LinkAttaches (old : LinkTalk) (links : LinksBy) (out : List SessionFrame) (limit session : ℕ) (link : End)
    (placed : Placed) (new : LinkTalk) (links_new : LinksBy) (out_new : List SessionFrame) : Type 0 where
  pub mapped : IsMapped old session
  pub frames : List SessionFrame
  pub attaches : AttachesIn old [] limit session link placed new frames
  pub queued : out_new ≡ out ++ frames
  pub entered : NamesStep (with_room links) (Enters placed.link (name_of link) session placed.handle) links_new

-- the link with this number, which is at rest, may attach again in the session with that one, which is mapped (2.5.5,
-- 2.6.3)
pub record MayResume (talk : LinkTalk) (links : LinksBy) (number session : ℕ) (link : End) : Type 0 where
  pub mapped : IsMapped talk session
  pub rests : rest_at links number ≡ Some link
  pub state : is_at_rest (state_of link) ≡ true

-- it attaches again there: the session holds it by its own handle there, and what it sends is handed out. It keeps its
-- number
pub record LinkResumes (old : LinkTalk) (links : LinksBy) (out : List SessionFrame) (limit number session : ℕ)
    (placed : Placed) (new : LinkTalk) (links_new : LinksBy) (out_new : List SessionFrame) : Type 0 where
  pub link : End
  pub may : MayResume old links number session link
  pub frames : List SessionFrame
  pub attaches : AttachesIn old [] limit session link placed new frames
  pub queued : out_new ≡ out ++ frames
  pub numbered : placed.link ≡ number
  pub held : NamesStep links (Holds number session placed.handle link) links_new
