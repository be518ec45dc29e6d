-- The peer's Detach (part 2, 2.6.4 to 2.6.6, 2.7.7).
use Rattle.std.specs.Prelude.{◌≡◌, ◌⊎◌, ℕ, List, [], ◌∷◌, ◌++◌, Bool, true, false, Option, Some, None, Ok}
use Rattle.amqp_session_types.specs.declared.channels.IncomingChannel.{IncomingChannel}
use Rattle.amqp_session_types.specs.declared.error.Error.{Error}
use Rattle.amqp_session_types.specs.declared.handles.OutputHandle.{OutputHandle}
use Rattle.amqp_session_performatives.specs.declared.detach.Detach.{Detach}
use Rattle.amqp_session_performatives.specs.declared.session_frame.SessionFrame.{SessionFrame}
use Rattle.amqp_session_core.specs.State.{link_at, reached}
use Rattle.amqp_link_base.specs.declared.detached.Detached.{Detached}
use Rattle.amqp_link.specs.declared.end.End.{End}
use Rattle.amqp_endpoint_links.specs.declared.hearing.LinkPerformative.TheVariants as said
use Rattle.amqp_endpoint_tables.specs.State.{live_at}
use Rattle.amqp_endpoint_model.specs.declared.event.Event.{Event}
use Rattle.amqp_endpoint_model.specs.declared.event.Event.TheVariants as event
use Rattle.amqp_endpoint_attached.specs.Linked.{Linked, end_at}
use Rattle.amqp_endpoint_linking.specs.Linking.{Link, Links, Session, Talk}
use Rattle.amqp_endpoint_messages.specs.All.{TellsFirst, open_count, told_by}
use Rattle.amqp_endpoint_link_hearing.specs.Heard.{detach_of}
use Rattle.amqp_endpoint_link_hearing.specs.InSession.{GoesOn, Parts}
use Rattle.amqp_endpoint_link_hearing.specs.Leaving.{IsLeft, repeated}
use Rattle.amqp_endpoint_link_hearing.specs.Naming.{link_of}
use Rattle.amqp_endpoint_link_hearing.specs.Saying.{Answers, FailsBySaid, LinkHeard}

-- a link is detached by its peer, which closes it or doesn't
abbrev pub detached_told : ℕ → Bool → Option Error → List Event
detached_told link closed error =
    event.Detached (record { link = link; closed = closed; error = error }) ∷ []

-- how many messages of a link end as the peer detaches it: where it closes it, those that are open
abbrev pub ending : Bool → Option End → ℕ
ending true link = open_count link
ending false link = 0

-- a link tells of so many messages that ended; the peer's Detach is answered, where the own one hadn't gone, and the
-- link leaves its session, where nothing of it waits there
pub record TellsAndParts (count : ℕ) (handle : OutputHandle) (answers closed : Bool) (error : Option Error)
    (left : Option Link) (frames : List SessionFrame) (old new : Linked) : Type 0 where
  pub mid : Linked
  pub tells : TellsFirst count handle (link_at old.session handle.0) old mid
  pub parts : Parts handle answers closed error left frames mid new

-- the link that the peer's handle reached took it: it is answered, where the own Detach hadn't gone, by one that closes
-- the link as the peer's does, with its error where that fits; the link leaves its session. It is told that it is
-- detached, and behind that the outcomes of the messages that end by it, by the peer's error
pub record ByLink (limit : ℕ) (old : Talk) (links : Links) (it : Detach) (session : ℕ) (told : Detached) (mid : Talk)
    (frames : List SessionFrame) (events : List Event) (new : Talk) (links_new : Links) : Type 0 where
  pub stood : Session
  pub live : live_at old.sessions session ≡ Some stood
  pub handle : OutputHandle
  pub reaches : reached stood.value.session it.handle.0 ≡ Some handle.0
  pub link : Link
  pub there : link_of mid session handle ≡ Some link
  pub left : Option Link
  pub parts :
      GoesOn
      (TellsAndParts (ending it.closed (end_at stood.value handle)) handle told.answer it.closed
      (repeated limit stood.value.session.fields.channel handle it.closed it.error) left frames)
      mid session new
  pub is_left : IsLeft told.closed links link.number left links_new
  pub tells : events ≡ detached_told link.number told.closed it.error
      ++ told_by link.number it.error (ending it.closed (end_at stood.value handle)) link.link

-- nothing more comes of it
pub record Withdraws (links : Links) (mid : Talk) (frames : List SessionFrame) (events : List Event) (new : Talk)
    (links_new : Links) : Type 0 where
  pub silent : frames ≡ []
  pub untold : events ≡ []
  pub stays : new ≡ mid
  pub same : links_new ≡ links

-- what comes of it once it is heard: a link that the peer asks for is asked for no longer, and nothing is told; in a
-- session that is ending nothing comes of it
abbrev pub Becomes : Option (ℕ × Detached) → ℕ → Talk → Links → Detach → Talk → List SessionFrame → List Event → Talk
    → Links → Type 0
Becomes (Some (session, told)) limit old links it mid frames events new links_new =
    ByLink limit old links it session told mid frames events new links_new
Becomes None limit old links it mid frames events new links_new = Withdraws links mid frames events new links_new

-- the session takes it
pub record TakesDetach (old : Talk) (links : Links) (limit : ℕ) (channel : IncomingChannel) (it : Detach)
    (frames : List SessionFrame) (events : List Event) (new : Talk) (links_new : Links) : Type 0 where
  pub heard : LinkHeard
  pub mid : Talk
  pub answered : Answers old channel (said.Detach it) (Ok heard) [] mid
  pub becomes : Becomes (detach_of heard) limit old links it mid frames events new links_new

-- or it ends by its fault
abbrev pub HearsDetach : Talk → Links → ℕ → IncomingChannel → Detach → List SessionFrame → List Event → Talk → Links
    → Type 0
HearsDetach old links limit channel it frames events new links_new =
    TakesDetach old links limit channel it frames events new links_new
    ⊎ FailsBySaid old links channel (said.Detach it) frames events new links_new
