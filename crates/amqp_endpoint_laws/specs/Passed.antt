-- What passes in each session of an endpoint by what is done (part 2, 2.5).
use Rattle.std.specs.Prelude.{◌≡◌, ◌==◌, ℕ, Bool, false, List, [], ◌∷◌, ◌++◌, length, Option, Some, None}
use Rattle.std.specs.Prelude.{if◌then◌else◌}
use Rattle.amqp_session_types.specs.declared.channels.OutgoingChannel.{OutgoingChannel}
use Rattle.amqp_link_base.specs.declared.detached.Detached.{Detached}
use Rattle.amqp_link.specs.declared.end.End.{End}
use Rattle.amqp_link.specs.declared.relay.AttachTold.{AttachTold}
use Rattle.amqp_link_receiver.specs.declared.answer.Told.{Told}
use Rattle.amqp_session_frames.specs.Steps.{named_session}
use Rattle.amqp_session_performatives.specs.declared.session_frame.SessionFrame.{SessionFrame}
use Rattle.amqp_session_core.specs.History.{History}
use Rattle.amqp_session_core.specs.State.{State as SessionState, fresh}
use Rattle.amqp_session_core.specs.Steps.{Act}
use Rattle.amqp_session_frames.specs.declared.frame.FrameBody.{FrameBody}
use Rattle.amqp_session_frames.specs.declared.frame.FrameBody.TheVariants as body
use Rattle.amqp_endpoint_laws.specs.Deeds.{Deed, Does, IsDeed, Takes}
use Rattle.amqp_endpoint.specs.Does.{linked}
use Rattle.amqp_endpoint.specs.declared.linked.LinkedSessions.{LinkedSessions}
use Rattle.amqp_endpoint_attached.specs.Linked.{gives}
use Rattle.amqp_endpoint_fitting.specs.Handed.{handed_of}
use Rattle.amqp_endpoint_linking.specs.Linking.{Link, Sessions}
use Rattle.amqp_endpoint_model.specs.declared.call.Call.{Call}
use Rattle.amqp_endpoint_model.specs.declared.call.Call.TheVariants as call
use Rattle.amqp_endpoint_model.specs.Said.{Said, session_begun}
use Rattle.amqp_endpoint_tables.specs.LinkState.{place_at}
use Rattle.amqp_endpoint_tables.specs.declared.link_place.LinkPlace.{LinkPlace}
use Rattle.amqp_endpoint_tables.specs.declared.link_place.LinkPlace.TheVariants.{AtRest, Held}
use Rattle.amqp_endpoint_tables.specs.State.{reached, routed_in}
use Rattle.amqp_endpoint_conversation.specs.Inside.{said_in}
use Rattle.amqp_endpoint_conversation.specs.Windows.{Came, Passing, Went, went}

-- the session that takes a Begin of the peer's: where it names no channel the next one, for which it asks; and else the
-- one that has the channel
abbrev pub begun_by : Sessions → Option ℕ → Option ℕ
begun_by s None = Some (length s.places)
begun_by s (Some channel) = routed_in s (named_session s.connection (Some channel))

-- the session that takes a frame of the peer's: any other than a Begin is for the one that its channel reaches
abbrev pub session_taking : LinkedSessions → ℕ → FrameBody → Option ℕ
session_taking s channel (body.Begin begin) = begun_by s.talk.sessions begin.remote_channel
session_taking s channel it = reached s.talk.sessions channel

-- the session that holds a link
abbrev pub holder : Option (LinkPlace End) → Option ℕ
holder None = None
holder (Some (Held session handle)) = Some session
holder (Some (AtRest end)) = None

-- the session that a call is about by which frames are sent
abbrev pub called_in : LinkedSessions → Call → Said → Option ℕ
called_in s call.Begin (session_begun number) = Some number
called_in s (call.AcceptBegin channel) (session_begun number) = Some number
called_in s (call.End number) answer = Some number
called_in s (call.AttachSender number settings) answer = Some number
called_in s (call.AttachReceiver number settings) answer = Some number
called_in s (call.Resume link number) answer = Some number
called_in s (call.Detach link) answer = holder (place_at s.links link)
called_in s (call.CloseLink link) answer = holder (place_at s.links link)
called_in s (call.Grant link credit) answer = holder (place_at s.links link)
called_in s (call.Drain link) answer = holder (place_at s.links link)
called_in s (call.Send link message) answer = holder (place_at s.links link)
called_in s (call.Dispose link message disposal) answer = holder (place_at s.links link)
called_in s (call.DisposeAll link messages disposal) answer = holder (place_at s.links link)
called_in s it answer = None

abbrev pub is_it : Option ℕ → ℕ → Bool
is_it None number = false
is_it (Some other) number = number == other

-- the frames that are handed out among what passes
abbrev pub sent_in : List Passing → List SessionFrame
sent_in [] = []
sent_in (Came it ∷ passings) = sent_in passings
sent_in (Went frame ∷ passings) = frame ∷ sent_in passings

-- and those of the peer's that come
abbrev pub came_in : List Passing → List FrameBody
came_in [] = []
came_in (Came it ∷ passings) = it ∷ came_in passings
came_in (Went frame ∷ passings) = came_in passings

-- what passes in the session with this number by one deed
abbrev pub passes_in : ℕ → LinkedSessions → Deed → List Passing
passes_in number s (Takes limit frame frames events) =
    if is_it (session_taking s frame.channel frame.body) number then Came frame.body ∷ went frames else []
passes_in number s (Does limit it answer frames) =
    if is_it (called_in s it answer) number then went frames else []
passes_in number s deed = []

-- and by one after the other
abbrev pub PassesIn : ℕ → LinkedSessions → List Deed → LinkedSessions → List Passing → Type 0
PassesIn number old [] new passings = (new ≡ old) × (passings ≡ [])
PassesIn number old (deed ∷ deeds) new passings =
    (mid : LinkedSessions) × (later : List Passing) × IsDeed linked old deed mid × PassesIn number mid deeds new later
    × (passings ≡ passes_in number old deed ++ later)

-- a session came about by steps of its own since it was new, with the number of its first transfer, and what its links
-- said among what passed is what these steps handed out of it
pub record HasCome (first : ℕ) (passings : List Passing) (s : SessionState Link) : Type 0 where
  pub channel : OutgoingChannel
  pub window : ℕ
  pub steps : List (Act Link AttachTold Told Detached)
  pub history : History gives (fresh channel first window) steps s
  pub says : said_in (sent_in passings) ≡ said_in (handed_of steps)
