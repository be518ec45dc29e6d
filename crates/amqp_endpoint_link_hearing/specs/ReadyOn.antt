-- What is made ready for a link that sends its open messages on by a Flow (part 2, 2.6.6, 2.6.7, 2.6.13).
use Rattle.std.specs.Prelude.{◌≡◌, ◌≢◌, ◌+◌, ◌≤◌, ℕ, List, [], ◌∷◌, All, Option, Some, None}
use Rattle.amqp_session_types.specs.declared.channels.IncomingChannel.{IncomingChannel}
use Rattle.amqp_session_types.specs.declared.handles.Handle.{Handle}
use Rattle.amqp_session_performatives.specs.declared.flow.Flow.{Flow}
use Rattle.amqp_session_outgoing.specs.Frames.{HaveTags}
use Rattle.amqp_session_outgoing.specs.Queues.{frames_in}
use Rattle.amqp_session_core.specs.State.{link_at}
use Rattle.amqp_link.specs.GoingOn.{sends_on_by}
use Rattle.amqp_link_sender.specs.declared.sending_on.PreparedSendOn.{PreparedSendOn}
use Rattle.amqp_endpoint_messages.specs.All.{open_count}
use Rattle.amqp_endpoint_messages.specs.MadeReady.{HasPlaceToClose}
use Rattle.amqp_endpoint_messages.specs.SendingOn.{AreReadyOn, HasRoomToGoOn, IsOn, MayGoOn, goes_on_at}
use Rattle.amqp_endpoint_messages.specs.declared.sending_on.FlowReady.{FlowReady}
use Rattle.amqp_endpoint_model.specs.State.{error_of}
use Rattle.amqp_endpoint_model.specs.Step.{not_allowed}
use Rattle.amqp_endpoint_tables.specs.State.{live_at, reached}
use Rattle.amqp_endpoint_linking.specs.Linking.{Link, Session, Talk}
use Rattle.amqp_endpoint_link_hearing.specs.Flowing.{NonePlanned, SendsOnBy, end_of, named_in, named_under}
use Rattle.amqp_endpoint_link_hearing.specs.Flowing.{said_of_link}
use Rattle.amqp_endpoint_link_hearing.specs.Naming.{link_of}
use Rattle.amqp_endpoint_link_hearing.specs.declared.flowing.Planned.{Planned}

-- how many messages of the link are open
abbrev pub count_in : Option Planned → ℕ
count_in None = 0
count_in (Some planned) = planned.closing.count

abbrev pub count_of : Option FlowReady → ℕ
count_of None = 0
count_of (Some ready) = ready.closing.count

-- what goes on can be made ready, in a session that has begun
pub record CanBeReadiedIn (talk : Talk) (planned : Planned) : Type 0 where
  pub session : Session
  pub live : live_at talk.sessions planned.closing.session ≡ Some session
  pub place : HasPlaceToClose session.value planned.closing
  pub are : All IsOn planned.ons.items

abbrev pub CanBeReadied : Talk → Option Planned → Type 0
CanBeReadied talk None = Unit {0}
CanBeReadied talk (Some planned) = CanBeReadiedIn talk planned

-- it is, for the link that the Flow names, with room among so many frames
pub record IsReadied (limit : ℕ) (talk : Talk) (channel : IncomingChannel) (flow : Flow) (len capacity : ℕ)
    (ready : FlowReady) : Type 0 where
  pub named : Handle
  pub names : flow.handle ≡ Some named
  pub reaches : reached talk.sessions channel.0 ≡ Some ready.closing.session
  pub session : Session
  pub live : live_at talk.sessions ready.closing.session ≡ Some session
  pub own : named_under session.value named.0 ≡ Some ready.closing.handle.0
  pub link : Link
  pub there : link_at session.value.session ready.closing.handle.0 ≡ Some link
  pub on : AreReadyOn limit ready.closing.handle (sends_on_by link.link (said_of_link flow named)) ready.sending
  pub some : sends_on_by link.link (said_of_link flow named) ≢ []
  pub tagged : All HaveTags ready.sending.batches.items
  pub count : ready.closing.count ≡ open_count (Some link.link)
  pub why : ready.closing.why ≡ error_of not_allowed
  pub room : HasRoomToGoOn ready 2 session.value len capacity
  pub deep : frames_in session.value.session.outgoing.queues + 2 ≤ ready.closing.place

-- or nothing goes on
abbrev pub AreReadied : ℕ → Talk → IncomingChannel → Flow → (len capacity : ℕ) → Option FlowReady → Type 0
AreReadied limit talk channel flow len capacity (Some ready) = IsReadied limit talk channel flow len capacity ready
AreReadied limit talk channel flow len capacity None = NonePlanned talk channel flow

-- it serves once the Flow is taken
pub record ServesOn (talk : Talk) (len capacity : ℕ) (ready : FlowReady) : Type 0 where
  pub session : Session
  pub live : live_at talk.sessions ready.closing.session ≡ Some session
  pub may : MayGoOn ready session.value
  pub room : HasRoomToGoOn ready 1 session.value len capacity

abbrev pub ServesToGoOn : Talk → (len capacity : ℕ) → Option FlowReady → Type 0
ServesToGoOn talk len capacity None = Unit {0}
ServesToGoOn talk len capacity (Some ready) = ServesOn talk len capacity ready

-- it is what goes on with the credit that there is then, of the link that is named in the session that took the Flow
pub record IsToGoOn (limit : ℕ) (talk : Talk) (session : Option ℕ) (named : Option Handle) (ready : FlowReady) : Type 0
  where
    pub taken : session ≡ Some ready.closing.session
    pub own : named_in talk ready.closing.session named ≡ Some ready.closing.handle.0
    pub first : PreparedSendOn
    pub others : List PreparedSendOn
    pub ons :
        goes_on_at (end_of (link_of talk ready.closing.session ready.closing.handle)) ≡ first ∷ others
    pub on : AreReadyOn limit ready.closing.handle (first ∷ others) ready.sending
    pub count :
        ready.closing.count ≡ open_count (end_of (link_of talk ready.closing.session ready.closing.handle))
    pub why : ready.closing.why ≡ error_of not_allowed

-- or nothing goes on
abbrev pub AreToGoOn : ℕ → Talk → Option ℕ → Option Handle → Option FlowReady → Type 0
AreToGoOn limit talk session named (Some ready) = IsToGoOn limit talk session named ready
AreToGoOn limit talk session named None = SendsOnBy limit session named talk [] [] talk
