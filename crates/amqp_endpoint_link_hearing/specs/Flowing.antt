-- The peer's Flow (part 2, 2.5.6, 2.7.4), and the links that leave their session by it (part 2, 2.6.5, 2.6.6).
use Rattle.std.specs.Prelude.{◌≡◌, ◌≢◌, ◌⊎◌, ◌+◌, ◌≤◌, ℕ, Bool, true, false, List, [], ◌∷◌, ◌++◌, Option, Some, None}
use Rattle.std.specs.Prelude.{Ok, is_some, option_map}
use Rattle.std.specs.FinMap as map
use Rattle.amqp_session_types.specs.declared.channels.IncomingChannel.{IncomingChannel}
use Rattle.amqp_session_types.specs.declared.handles.Handle.{Handle}
use Rattle.amqp_session_types.specs.declared.handles.OutputHandle.{OutputHandle}
use Rattle.amqp_session_performatives.specs.declared.flow.Flow.{Flow}
use Rattle.amqp_session_performatives.specs.declared.link_flow.LinkFlow.{LinkFlow}
use Rattle.amqp_session_performatives.specs.declared.session_frame.SessionFrame.{SessionFrame}
use Rattle.amqp_session_performatives.specs.declared.session_frame.SessionFrameBody.{SessionFrameBody}
use Rattle.amqp_session_performatives.specs.declared.session_frame.SessionFrameBody.TheVariants as body
use Rattle.amqp_session_outgoing.specs.Queues.{frames_in}
use Rattle.amqp_session_core.specs.State.{link_at, reached as reached_own}
use Rattle.amqp_link_base.specs.declared.state.LinkState.{LinkState}
use Rattle.amqp_link_base.specs.declared.state.LinkState.TheVariants as state
use Rattle.amqp_link.specs.Ends.{state_of}
use Rattle.amqp_link.specs.GoingOn.{sends_on_by}
use Rattle.amqp_link.specs.declared.end.End.{End}
use Rattle.amqp_link_sender.specs.declared.sending_on.PreparedSendOn.{PreparedSendOn}
use Rattle.amqp_endpoint_links.specs.declared.hearing.LinkPerformative.TheVariants as said
use Rattle.amqp_endpoint_messages.specs.All.{open_count}
use Rattle.amqp_endpoint_messages.specs.MadeReady.{IsClosing}
use Rattle.amqp_endpoint_messages.specs.SendingOn.{CreditedAt, goes_on_at}
use Rattle.amqp_endpoint_messages.specs.declared.giving_up.Closing.{Closing}
use Rattle.amqp_endpoint_model.specs.declared.error.EndpointError.{EndpointError}
use Rattle.amqp_endpoint_model.specs.declared.event.Event.{Event}
use Rattle.amqp_endpoint_model.specs.State.{error_of}
use Rattle.amqp_endpoint_model.specs.Step.{not_allowed}
use Rattle.amqp_endpoint_tables.specs.State.{live_at, reached}
use Rattle.amqp_endpoint_attached.specs.Linked.{Linked}
use Rattle.amqp_endpoint_attached.specs.TakenOut.{TakenOut}
use Rattle.amqp_endpoint_linking.specs.Hearing.{IsUntold}
use Rattle.amqp_endpoint_linking.specs.Linking.{Link, Links, Session, Talk}
use Rattle.amqp_endpoint_link_hearing.specs.Attaching.{IsTold, MakesRoomIn}
use Rattle.amqp_endpoint_link_hearing.specs.Heard.{session_of}
use Rattle.amqp_endpoint_link_hearing.specs.InSession.{GoesOn}
use Rattle.amqp_endpoint_link_hearing.specs.Leaving.{IsLeft}
use Rattle.amqp_endpoint_link_hearing.specs.Naming.{link_of}
use Rattle.amqp_endpoint_link_hearing.specs.Reached.{link_under}
use Rattle.amqp_endpoint_link_hearing.specs.Saying.{Answers, BarsSaid, FailsBySaid, LinkHeard}
use Rattle.amqp_endpoint_link_hearing.specs.declared.flowing.Planned.{Planned}

-- a link of which the peer's Detach came and the own one was sent, by its number, and whether either closes it
abbrev pub ended : LinkState → ℕ → Option (ℕ × Bool)
ended state.Detached number = Some (number, false)
ended state.Closed number = Some (number, true)
ended other number = None

abbrev pub ended_link : Option Link → Option (ℕ × Bool)
ended_link None = None
ended_link (Some link) = ended (state_of link.link) link.number

-- it leaves its session, where nothing of it waits there
pub record LeavesEnded (number : ℕ) (closed : Bool) (handle : OutputHandle) (old : Linked) (links : Links)
    (new : Linked) (links_new : Links) : Type 0 where
  pub left : Option Link
  pub out : TakenOut old handle left new
  pub is_left : IsLeft closed links number left links_new

-- any other stays
abbrev pub LeavesOnce : Option (ℕ × Bool) → OutputHandle → Linked → Links → Linked → Links → Type 0
LeavesOnce None handle old links new links_new = (new ≡ old) × (links_new ≡ links)
LeavesOnce (Some (number, closed)) handle old links new links_new =
    LeavesEnded number closed handle old links new links_new

-- a link leaves with its own Detach, the last frame of it, where the peer's Detach came before that (part 2, 2.6.5,
-- 2.6.6)
abbrev pub LeavesWith : SessionFrameBody → Linked → Links → Linked → Links → Type 0
LeavesWith (body.Detach detach) old links new links_new =
    LeavesOnce (ended_link (link_at old.session detach.handle.0)) (record { 0 = detach.handle.0 }) old links new
    links_new
LeavesWith frame old links new links_new = (new ≡ old) × (links_new ≡ links)

-- those leave whose own Detach are among these frames, in their order
abbrev pub LeaveWith : List SessionFrame → Linked → Links → Linked → Links → Type 0
LeaveWith [] old links new links_new = (new ≡ old) × (links_new ≡ links)
LeaveWith (frame ∷ frames) old links new links_new =
    (mid : Linked) × (links_mid : Links) × LeavesWith frame.body old links mid links_mid
    × LeaveWith frames mid links_mid new links_new

-- in the session that took the Flow; one that is only asked for, or that is ending, has no links
abbrev pub LetsGo : Option ℕ → List SessionFrame → Talk → Links → Talk → Links → Type 0
LetsGo None frames old links new links_new = (new ≡ old) × (links_new ≡ links)
LetsGo (Some session) frames old links new links_new =
    GoesOn (λ before after. LeaveWith frames before links after links_new) old session new

-- unless the peer asks for a link by it
abbrev pub unless_asked : Bool → Option ℕ → Option ℕ
unless_asked true handle = None
unless_asked false handle = handle

-- the own handle of the link that a Flow with this handle names in a session (part 2, 2.6.2): what it tells of a link
-- that the peer asks for is kept for that one alone
abbrev pub named_under : Linked → ℕ → Option ℕ
named_under session input = unless_asked (is_some (map.get session.asked input)) (reached_own session.session input)

abbrev pub named_within : Option Session → ℕ → Option ℕ
named_within None input = None
named_within (Some session) input = named_under session.value input

-- in the session that took it
abbrev pub named_in : Talk → ℕ → Option Handle → Option ℕ
named_in talk session None = None
named_in talk session (Some handle) = named_within (live_at talk.sessions session) handle.0

-- the end of a link
abbrev pub end_of : Option Link → Option End
end_of link = option_map (λ (n : Link). n.link) link

-- a link sends these messages on, if any go on, and is closed where it can't; so many of its messages are open
abbrev pub SendsOnWith : List PreparedSendOn → (limit session count : ℕ) → OutputHandle → Talk → List SessionFrame
    → List Event → Talk → Type 0
SendsOnWith [] limit session count handle old frames events new = IsTold [] old frames events new
SendsOnWith (ready ∷ others) limit session count handle old frames events new =
    GoesOn (CreditedAt limit session count handle (error_of not_allowed) (ready ∷ others) frames events) old session new

-- the link with this own handle sends on what goes on with the credit that it has
abbrev pub SendsOnAt : (limit session : ℕ) → Option ℕ → Talk → List SessionFrame → List Event → Talk → Type 0
SendsOnAt limit session None old frames events new = IsTold [] old frames events new
SendsOnAt limit session (Some own) old frames events new =
    let handle : OutputHandle = record { 0 = own } in
    let link : Option End = end_of (link_of old session handle) in
    SendsOnWith (goes_on_at link) limit session (open_count link) handle old frames events new

-- in the session that took the Flow the link that it names does
abbrev pub SendsOnBy : ℕ → Option ℕ → Option Handle → Talk → List SessionFrame → List Event → Talk → Type 0
SendsOnBy limit None named old frames events new = IsTold [] old frames events new
SendsOnBy limit (Some session) named old frames events new =
    SendsOnAt limit session (named_in old session named) old frames events new

-- its session takes it, and what it lets go is handed out; links leave whose own Detach is among that. Behind that the
-- link that the Flow names sends on what goes on with the credit that it has (part 2, 2.6.7, 2.6.13)
pub record TakesFlow (old : Talk) (links : Links) (limit : ℕ) (channel : IncomingChannel) (flow : Flow)
    (frames : List SessionFrame) (events : List Event) (new : Talk) (links_new : Links) : Type 0 where
  pub heard : LinkHeard
  pub first : List SessionFrame
  pub mid : Talk
  pub answered : Answers old channel (said.Flow flow) (Ok heard) first mid
  pub left : Talk
  pub leave : LetsGo (session_of heard) first mid links left links_new
  pub behind : List SessionFrame
  pub sends_on : SendsOnBy limit (session_of heard) flow.handle left behind events new
  pub frames_are : frames ≡ first ++ behind

-- or it ends by its fault
abbrev pub HearsCredited : Talk → Links → ℕ → IncomingChannel → Flow → List SessionFrame → List Event → Talk → Links
    → Type 0
HearsCredited old links limit channel flow frames events new links_new =
    TakesFlow old links limit channel flow frames events new links_new
    ⊎ FailsBySaid old links channel (said.Flow flow) frames events new links_new

-- room is made first for what goes on, if anything does
abbrev pub MayMakeRoom : Talk → IncomingChannel → Talk → Type 0
MayMakeRoom old channel new = (new ≡ old) ⊎ MakesRoomIn old channel new

pub record HearsFlow (old : Talk) (links : Links) (limit : ℕ) (channel : IncomingChannel) (flow : Flow)
    (frames : List SessionFrame) (events : List Event) (new : Talk) (links_new : Links) : Type 0 where
  pub ready : Talk
  pub makes_room : MayMakeRoom old channel ready
  pub hears : HearsCredited ready links limit channel flow frames events new links_new

-- it ends the connection by this
pub record BarsFlow (old : Talk) (channel : IncomingChannel) (flow : Flow) (e : EndpointError) (new : Talk) : Type 0
  where
    pub ready : Talk
    pub makes_room : MayMakeRoom old channel ready
    pub bars : BarsSaid ready channel (said.Flow flow) e new

abbrev pub RefusesFlow : Talk → IncomingChannel → Flow → EndpointError → Talk → Type 0
RefusesFlow old channel flow e new = BarsFlow old channel flow e new ⊎ IsUntold old e new

-- a link lets these messages go on by a Flow
abbrev pub goes_on_by : Option Link → LinkFlow → List PreparedSendOn
goes_on_by None flow = []
goes_on_by (Some link) flow = sends_on_by link.link flow

-- what a Flow says of its link without properties, on which nothing of this hangs
abbrev pub said_of_link : Flow → Handle → LinkFlow
said_of_link flow handle =
    record {
      handle = handle;
      delivery_count = flow.delivery_count;
      link_credit = flow.link_credit;
      available = flow.available;
      drain = flow.drain;
      echo = flow.echo;
      properties = None;
    }

-- what a link is closed with, whose Detach finds room also behind whatever waits in its session once that took a Flow
pub record IsDeepClosing (s : Linked) (number : ℕ) (own : OutputHandle) (opened : ℕ) (closing : Closing) : Type 0
  where
    pub is : IsClosing s number own opened closing
    pub deep : frames_in s.session.outgoing.queues + 2 ≤ closing.place

-- what a Flow lets go on in a session: of the link that it names, with what that is closed with; or nothing
pub record LetsGoOn (s : Linked) (number : ℕ) (it : LinkFlow) (planned : Planned) : Type 0 where
  pub own : named_under s it.handle.0 ≡ Some planned.closing.handle.0
  pub link : Link
  pub there : link_at s.session planned.closing.handle.0 ≡ Some link
  pub ons : planned.ons.items ≡ sends_on_by link.link it
  pub some : planned.ons.items ≢ []
  pub closing : IsDeepClosing s number planned.closing.handle (open_count (Some link.link)) planned.closing

abbrev pub NoneGoesOn : Linked → LinkFlow → Type 0
NoneGoesOn s it = goes_on_by (link_under s (named_under s it.handle.0)) it ≡ []

abbrev pub PlansIn : Linked → ℕ → LinkFlow → Option Planned → Type 0
PlansIn s number it (Some planned) = LetsGoOn s number it planned
PlansIn s number it None = NoneGoesOn s it

-- in the one that the channel reaches
pub record PlansOn (talk : Talk) (channel : IncomingChannel) (flow : Flow) (planned : Planned) : Type 0 where
  pub named : Handle
  pub names : flow.handle ≡ Some named
  pub number : ℕ
  pub reaches : reached talk.sessions channel.0 ≡ Some number
  pub session : Session
  pub live : live_at talk.sessions number ≡ Some session
  pub plans : LetsGoOn session.value number (said_of_link flow named) planned

abbrev pub NonePlanned : Talk → IncomingChannel → Flow → Type 0
NonePlanned talk channel flow =
    (named : Handle) (number : ℕ) (session : Session) → flow.handle ≡ Some named
    → reached talk.sessions channel.0 ≡ Some number → live_at talk.sessions number ≡ Some session
    → NoneGoesOn session.value (said_of_link flow named)

abbrev pub Plans : Talk → IncomingChannel → Flow → Option Planned → Type 0
Plans talk channel flow (Some planned) = PlansOn talk channel flow planned
Plans talk channel flow None = NonePlanned talk channel flow
