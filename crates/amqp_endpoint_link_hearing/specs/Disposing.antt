-- The peer's Disposition (part 2, 2.6.12, 2.7.6, 2.8.3).
use Rattle.std.specs.Prelude.{◌≡◌, ◌≤◌, ◌⊎◌, ℕ, ◌+◌, List, [], ◌++◌, All, length, Option, Some, None, Ok, IsSome}
use Rattle.smallvec.specs.SmallVec.{SmallVec}
use Rattle.amqp_session_types.specs.declared.channels.IncomingChannel.{IncomingChannel}
use Rattle.amqp_session_types.specs.declared.handles.OutputHandle.{OutputHandle}
use Rattle.amqp_session_states.specs.declared.delivery_state.DeliveryState.{DeliveryState}
use Rattle.amqp_session_performatives.specs.declared.disposition.Disposition.{Disposition}
use Rattle.amqp_session_performatives.specs.declared.session_frame.SessionFrame.{SessionFrame}
use Rattle.amqp_session_core.specs.Disposing.{AreTouched}
use Rattle.amqp_session_core.specs.Steps.{table_of}
use Rattle.amqp_session_core.specs.declared.dispositions.Touched.{Touched}
use Rattle.amqp_endpoint_links.specs.declared.hearing.LinkPerformative.TheVariants as said
use Rattle.amqp_endpoint_links.specs.declared.hearing.PerformativeTaken.TheVariants as taken
use Rattle.amqp_endpoint_conversation.specs.declared.hearing.Heard.TheVariants.{Live}
use Rattle.amqp_endpoint_tables.specs.State.{live_at, reached}
use Rattle.amqp_endpoint_model.specs.declared.event.Event.{Event}
use Rattle.amqp_endpoint_attached.specs.Linked.{Linked}
use Rattle.amqp_endpoint_messages.specs.Echoing.{SendsEchoes, ServesFor, barred, each_fits, going}
use Rattle.amqp_endpoint_messages.specs.Outcomes.{NoneUntold, outcomes_told}
use Rattle.amqp_endpoint_messages.specs.Reached.{behind_reached, reached_told}
use Rattle.amqp_endpoint_linking.specs.Linking.{Links, Session, Talk}
use Rattle.amqp_endpoint_link_hearing.specs.InSession.{GoesOn}
use Rattle.amqp_endpoint_link_hearing.specs.Saying.{Answers, FailsBySaid, LinkHeard}
use Rattle.amqp_endpoint_link_hearing.specs.Unechoed.{AreFor, IsMade, MadeIn, NoneUntoldIn, Refuses, handles_in}
use Rattle.amqp_endpoint_link_hearing.specs.Unechoed.{handles_of, told_most}
use Rattle.amqp_endpoint_link_hearing.specs.declared.disposing.Ready.{Ready}

-- A session took a Disposition, and these runs of its deliveries are to be echoed.
abbrev pub runs_of : LinkHeard → Option (ℕ × SmallVec (ℕ × ℕ))
runs_of (Live session (taken.Disposition back runs)) = Some (session, runs)
runs_of heard = None

-- In a session the links tell what became of messages, one for each delivery that was reached, in their order; then
-- these runs are settled, and one Disposition with this state goes back for each.
pub record TellsAndEchoes (deliveries : List Touched) (state : Option DeliveryState) (runs : List (ℕ × ℕ))
    (frames : List SessionFrame) (events : List Event) (old new : Linked) : Type 0 where
  pub told : events ≡ reached_told old.session deliveries
  pub echoes :
      SendsEchoes state runs (record old { session = behind_reached old.session deliveries }) frames new

-- They do so, and one Disposition goes back for each run of which the peer takes its frame. Of the other runs none
-- does: then of the links with these handles each is closed that is attached and has a delivery in one of them.
pub record TellsAndRefuses (limit session : ℕ) (deliveries : List Touched) (state : Option DeliveryState)
    (runs : List (ℕ × ℕ)) (handles : List OutputHandle) (old : Talk) (frames : List SessionFrame) (events : List Event)
    (new : Talk) : Type 0 where
  pub mid : Talk
  pub sent : List SessionFrame
  pub told : List Event
  pub echoes : GoesOn (TellsAndEchoes deliveries state (going limit state runs) sent told) old session mid
  pub closed : List SessionFrame
  pub ended : List Event
  pub refuses : Refuses session (barred limit state runs) deliveries handles mid closed ended new
  pub frames_are : frames ≡ sent ++ closed
  pub events_are : events ≡ told ++ ended

-- The session of the Disposition does so: the deliveries are those that the Disposition reached, the state that is told
-- back is the Disposition's, and the links are those of the deliveries, in the order in which the first of each comes.
-- Where none of its links had a message that ended and wasn't told, those that are told first are the outcomes of what
-- the Disposition ends, in the order of its deliveries, and none is left untold in the end.
pub record DoneIn (limit : ℕ) (old : Talk) (it : Disposition) (session : ℕ) (runs : List (ℕ × ℕ)) (mid : Talk)
    (frames : List SessionFrame) (events : List Event) (new : Talk) : Type 0 where
  pub stood : Session
  pub live : live_at old.sessions session ≡ Some stood
  pub deliveries : List Touched
  pub are_reached : AreTouched it (table_of it.role stood.value.session) deliveries
  pub done : TellsAndRefuses limit session deliveries it.state runs (handles_of deliveries) mid frames events new
  pub outcomes : NoneUntold stood.value.session → done.told ≡ outcomes_told it stood.value.session deliveries
  pub all_told : NoneUntold stood.value.session → NoneUntoldIn new session

-- Nothing more comes of it.
pub record Rested (mid : Talk) (frames : List SessionFrame) (events : List Event) (new : Talk) : Type 0 where
  pub silent : frames ≡ []
  pub untold : events ≡ []
  pub stays : new ≡ mid

-- What comes of it once it is heard: in a session that is ending nothing does.
abbrev pub Follows : Option (ℕ × SmallVec (ℕ × ℕ)) → ℕ → Talk → Disposition → Talk → List SessionFrame → List Event
    → Talk → Type 0
Follows (Some (session, runs)) limit old it mid frames events new =
    DoneIn limit old it session runs.items mid frames events new
Follows None limit old it mid frames events new = Rested mid frames events new

-- Its session takes it, and no link leaves.
pub record TakesDisposition (old : Talk) (links : Links) (limit : ℕ) (channel : IncomingChannel) (it : Disposition)
    (frames : List SessionFrame) (events : List Event) (new : Talk) (links_new : Links) : Type 0 where
  pub heard : LinkHeard
  pub mid : Talk
  pub answered : Answers old channel (said.Disposition it) (Ok heard) [] mid
  pub follows : Follows (runs_of heard) limit old it mid frames events new
  pub same : links_new ≡ links

-- Or it ends by its fault.
abbrev pub HearsDisposition : Talk → Links → ℕ → IncomingChannel → Disposition → List SessionFrame → List Event → Talk
    → Links → Type 0
HearsDisposition old links limit channel it frames events new links_new =
    TakesDisposition old links limit channel it frames events new links_new
    ⊎ FailsBySaid old links channel (said.Disposition it) frames events new links_new

-- What is made ready before the Disposition is heard: the deliveries that it will reach, what goes back, and the links
-- that may be closed.
pub record IsReady (limit : ℕ) (s : Linked) (it : Disposition) (ready : Ready) : Type 0 where
  pub deliveries : AreTouched it (table_of it.role s.session) ready.reached.items
  pub state : ready.echoes.state ≡ it.state
  pub fits : ready.echoes.fits ≡ each_fits limit it.state
  pub serves : ServesFor limit (length ready.reached.items) ready.echoes
  pub handles : AreFor ready.echoes.fits ready.reached.items (handles_in ready.closings.items)
  pub made : All (IsMade s) ready.closings.items

abbrev pub ReadyFor : ℕ → Linked → Disposition → Option Ready → Type 0
ReadyFor limit s it None = ⊥
ReadyFor limit s it (Some ready) = IsReady limit s it ready

-- It is made ready in the session that the channel reaches, if that has begun.
abbrev pub Prepares : ℕ → Talk → IncomingChannel → Disposition → Option Ready → Type 0
Prepares limit talk channel it ready =
    (number : ℕ) (s : Session) → reached talk.sessions channel.0 ≡ Some number
    → live_at talk.sessions number ≡ Some s → ReadyFor limit s.value it ready

-- So many frames are handed out at most, and so many events told.
abbrev pub frames_most : Option Ready → ℕ
frames_most None = 0
frames_most (Some ready) = length ready.reached.items + length ready.closings.items

abbrev pub events_most : Option Ready → ℕ
events_most None = 0
events_most (Some ready) = length ready.reached.items + told_most ready.closings.items

-- The session took the Disposition, and what was made ready serves.
pub record Serves (limit : ℕ) (mid : Talk) (session : ℕ) (runs : List (ℕ × ℕ)) (ready : Ready) : Type 0 where
  pub there : IsSome (live_at mid.sessions session)
  pub few : length runs ≤ length ready.reached.items
  pub echoes : ServesFor limit (length runs) ready.echoes
  pub handles : AreFor ready.echoes.fits ready.reached.items (handles_in ready.closings.items)
  pub made : All (MadeIn mid session) ready.closings.items

abbrev pub StandsFor : ℕ → Talk → Option (ℕ × SmallVec (ℕ × ℕ)) → Option Ready → Type 0
StandsFor limit mid (Some (session, runs)) (Some ready) = Serves limit mid session runs.items ready
StandsFor limit mid took ready = Unit {0}

-- What was made ready is done.
abbrev pub DoneBy : ℕ → Option (ℕ × SmallVec (ℕ × ℕ)) → Option Ready → Talk → List SessionFrame → List Event → Talk
    → Type 0
DoneBy limit (Some (session, runs)) (Some ready) mid frames events new =
    TellsAndRefuses limit session ready.reached.items ready.echoes.state runs.items (handles_of ready.reached.items) mid
    frames events new
DoneBy limit took ready mid frames events new = Rested mid frames events new
