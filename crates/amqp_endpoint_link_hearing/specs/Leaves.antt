-- What is made ready for a link that the peer detaches, and what is done by it (part 2, 2.6.4 to 2.6.6).
use Rattle.std.specs.Prelude.{◌≡◌, ℕ, ◌+◌, List, ◌++◌, Option, Some, None, IsSome}
use Rattle.amqp_session_types.specs.declared.channels.IncomingChannel.{IncomingChannel}
use Rattle.amqp_session_performatives.specs.declared.detach.Detach.{Detach}
use Rattle.amqp_session_performatives.specs.declared.session_frame.SessionFrame.{SessionFrame}
use Rattle.amqp_session_core.specs.State as session_state
use Rattle.amqp_link_base.specs.declared.detached.Detached.{Detached}
use Rattle.amqp_endpoint_tables.specs.State.{live_at, reached}
use Rattle.amqp_endpoint_model.specs.declared.event.Event.{Event}
use Rattle.amqp_endpoint_attached.specs.Linked.{Linked, end_at}
use Rattle.amqp_endpoint_linking.specs.Linking.{Link, Links, Session, Talk}
use Rattle.amqp_endpoint_messages.specs.All.{AreCopies, told_by}
use Rattle.amqp_endpoint_link_hearing.specs.InSession.{GoesOn}
use Rattle.amqp_endpoint_link_hearing.specs.Leaving.{HasAnswer, IsLeft, repeated}
use Rattle.amqp_endpoint_link_hearing.specs.Naming.{link_of}
use Rattle.amqp_endpoint_link_hearing.specs.Detaching.{TellsAndParts, Withdraws, detached_told, ending}
use Rattle.amqp_endpoint_link_hearing.specs.declared.detaching.Ready.{Ready}

-- the answer is made for the link that the peer's handle reaches
pub record IsReady (limit : ℕ) (s : Linked) (it : Detach) (ready : Ready) : Type 0 where
  pub reaches : session_state.reached s.session it.handle.0 ≡ Some ready.handle.0
  pub closes : ready.answer.closed ≡ it.closed
  pub answers : ready.answer.error ≡ repeated limit s.session.fields.channel ready.handle it.closed it.error
  pub tells : ready.error ≡ it.error
  pub counts : ready.count ≡ ending it.closed (end_at s ready.handle)
  pub copied : AreCopies ready.error ready.count ready.copies.items
  pub place : HasAnswer limit s ready.handle ready.answer.closed ready.answer.error ready.answer.place

abbrev pub ReadyFor : ℕ → Linked → Detach → Option Ready → Type 0
ReadyFor limit s it None = session_state.reached s.session it.handle.0 ≡ None
ReadyFor limit s it (Some ready) = IsReady limit s it ready

-- in the session that the channel reaches, if that has begun
abbrev pub Prepares : ℕ → Talk → IncomingChannel → Detach → Option Ready → Type 0
Prepares limit talk channel it ready =
    (number : ℕ) (s : Session) → reached talk.sessions channel.0 ≡ Some number
    → live_at talk.sessions number ≡ Some s → ReadyFor limit s.value it ready

-- the link took the Detach, and what was made ready serves
abbrev pub StandsFor : ℕ → Talk → Option (ℕ × Detached) → Option Ready → Type 0
StandsFor limit mid (Some (session, told)) (Some ready) =
    IsSome (link_of mid session ready.handle)
    × ((s : Session) → live_at mid.sessions session ≡ Some s
    → HasAnswer limit s.value ready.handle ready.answer.closed ready.answer.error ready.answer.place)
    × AreCopies ready.error ready.count ready.copies.items
StandsFor limit mid took ready = Unit {0}

-- how many events are told at most
abbrev pub told_most : Option Ready → ℕ
told_most None = 1
told_most (Some ready) = ready.count + 1

-- it tells of its messages, is answered, and leaves its session
pub record LinkLeaves (session : ℕ) (told : Detached) (ready : Ready) (mid : Talk) (links : Links)
    (frames : List SessionFrame) (events : List Event) (new : Talk) (links_new : Links) : Type 0 where
  pub link : Link
  pub there : link_of mid session ready.handle ≡ Some link
  pub left : Option Link
  pub parts :
      GoesOn
      (TellsAndParts ready.count ready.handle told.answer ready.answer.closed ready.answer.error left frames) mid
      session new
  pub is_left : IsLeft told.closed links link.number left links_new
  pub tells : events ≡ detached_told link.number told.closed ready.error
      ++ told_by link.number ready.error ready.count link.link

abbrev pub LeavesBy : Option (ℕ × Detached) → Option Ready → Talk → Links → List SessionFrame → List Event → Talk
    → Links → Type 0
LeavesBy (Some (session, told)) (Some ready) mid links frames events new links_new =
    LinkLeaves session told ready mid links frames events new links_new
LeavesBy took ready mid links frames events new links_new = Withdraws links mid frames events new links_new
