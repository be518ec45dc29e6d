-- The peer's Attach (part 2, 2.6.3, 2.7.3).
use Rattle.std.specs.Prelude.{◌≡◌, ◌⊎◌, ◌++◌, ℕ, List, [], ◌∷◌, Option, Some, None, option_map, Result, Ok, Err}
use Rattle.amqp_session_types.specs.declared.channels.IncomingChannel.{IncomingChannel}
use Rattle.amqp_session_types.specs.declared.handles.OutputHandle.{OutputHandle}
use Rattle.amqp_session_performatives.specs.declared.attach.Attach.{Attach}
use Rattle.amqp_session_performatives.specs.declared.session_frame.SessionFrame.{SessionFrame}
use Rattle.amqp_link_types.specs.declared.link_error.LinkError.{LinkError}
use Rattle.amqp_link_types.specs.declared.link_error.LinkError.TheVariants.{SenderAttach, ReceiverAttach}
use Rattle.amqp_link.specs.declared.relay.AttachTold.{AttachTold}
use Rattle.amqp_link.specs.declared.relay.AttachTold.TheVariants as told
use Rattle.amqp_link_receiver.specs.declared.attaching.Attached.{Attached}
use Rattle.amqp_link_receiver.specs.declared.attaching.Attached.TheVariants as receiver
use Rattle.amqp_link_sender.specs.declared.attaching.AttachAnswer.{AttachAnswer}
use Rattle.amqp_link_sender.specs.declared.attaching.AttachAnswer.TheVariants as sender
use Rattle.amqp_link_sender.specs.declared.attaching.Attaching.{Attaching}
use Rattle.amqp_endpoint_links.specs.declared.asking.NamedLink.{NamedLink}
use Rattle.amqp_endpoint_links.specs.declared.asking.NamedLink.TheVariants.{Waiting}
use Rattle.amqp_endpoint_links.specs.declared.hearing.LinkPerformative.TheVariants as said
use Rattle.amqp_endpoint_model.specs.declared.error.EndpointError.{EndpointError}
use Rattle.amqp_endpoint_model.specs.declared.error.EndpointError.TheVariants.{Link as LinkFault}
use Rattle.amqp_endpoint_model.specs.declared.event.Event.{Event}
use Rattle.amqp_endpoint_model.specs.declared.event.Event.TheVariants as event
use Rattle.amqp_endpoint_model.specs.State.{error_of}
use Rattle.amqp_endpoint_model.specs.Step.{not_allowed}
use Rattle.amqp_endpoint_tables.specs.State.{reached}
use Rattle.amqp_endpoint_linking.specs.Linking.{Link, Links, Talk}
use Rattle.amqp_endpoint_linking.specs.Hearing.{IsUntold}
use Rattle.amqp_endpoint_messages.specs.All.{open_count}
use Rattle.amqp_endpoint_messages.specs.GivingUp.{ClosedFor, attached_told}
use Rattle.amqp_endpoint_messages.specs.GoingOn.{AttachedAt}
use Rattle.amqp_endpoint_messages.specs.GivingUp as giving_up
use Rattle.amqp_endpoint_messages.specs.MadeReady.{MadeRoom}
use Rattle.amqp_endpoint_link_hearing.specs.InSession.{GoesOn}
use Rattle.amqp_endpoint_link_hearing.specs.Naming.{IsNamedOn, link_of}
use Rattle.amqp_endpoint_link_hearing.specs.Heard.{attach_of}
use Rattle.amqp_endpoint_link_hearing.specs.declared.hearing.Took.{Took}
use Rattle.amqp_endpoint_link_hearing.specs.declared.hearing.Took.TheVariants as took
use Rattle.amqp_endpoint_link_hearing.specs.Saying.{Answers, BarsSaid, FailsBySaid, LinkHeard}

-- what a link makes of the peer's Attach: what is left to be done, or why it refuses it. A receiver gives no delivery
-- up
abbrev pub of_sender : AttachAnswer → Result Attaching LinkError
of_sender (sender.Refused error) = Err (SenderAttach error)
of_sender (sender.Attached attaching) = Ok attaching

abbrev pub of_receiver : Attached → Result Attaching LinkError
of_receiver (receiver.Refused error) = Err (ReceiverAttach error)
of_receiver (receiver.Attached exchange) = Ok (record { exchange = exchange; aborts = [] })

abbrev pub outcome_of : AttachTold → Result Attaching LinkError
outcome_of (told.Sender answer) = of_sender answer
outcome_of (told.Receiver answer) = of_receiver answer

-- the peer asks for a link
abbrev pub asked_told : ℕ → Attach → List Event
asked_told session attach = event.LinkAsked (record { session = session; attach = attach }) ∷ []

-- a link is closed here, for its peer's fault
abbrev pub refused_told : ℕ → ℕ → LinkError → List Event
refused_told session link error = giving_up.refused_told session link (LinkFault error)

-- a link that accepts the Attach is attached: it tells what that ends, and gives up the deliveries that are to be given
-- up; so many of its messages were open before
pub record IsAttached (limit session count : ℕ) (handle : OutputHandle) (attaching : Attaching) (link : Link)
    (old : Talk) (frames : List SessionFrame) (events : List Event) (new : Talk) : Type 0 where
  pub behind : List Event
  pub goes :
      GoesOn (AttachedAt limit session count handle (error_of not_allowed) attaching.aborts None [] frames behind) old
      session new
  pub told : events ≡ attached_told link.number attaching.exchange ++ behind

-- one that refuses it is closed
abbrev pub LinkTakes : Result Attaching LinkError → (limit session count : ℕ) → OutputHandle → Link → Talk
    → List SessionFrame → List Event → Talk → Type 0
LinkTakes (Ok attaching) limit session count handle link old frames events new =
    IsAttached limit session count handle attaching link old frames events new
LinkTakes (Err error) limit session count handle link old frames events new =
    GoesOn (ClosedFor session (LinkFault error) count handle (error_of not_allowed) frames events) old session new

pub record ByLink (limit count : ℕ) (old : Talk) (session : ℕ) (handle : OutputHandle) (told : AttachTold)
    (frames : List SessionFrame) (events : List Event) (new : Talk) : Type 0 where
  pub link : Link
  pub there : link_of old session handle ≡ Some link
  pub takes : LinkTakes (outcome_of told) limit session count handle link old frames events new

-- nothing more comes of it than what is told
abbrev pub IsTold : List Event → Talk → List SessionFrame → List Event → Talk → Type 0
IsTold told old frames events new = (frames ≡ []) × (events ≡ told) × (new ≡ old)

-- what comes of it once it is heard: the link that waited for it takes it, of whose messages so many were open, or the
-- peer asks for a link; in a session that is ending nothing does
abbrev pub BecomesBy : (limit count : ℕ) → Took → NamedLink → Talk → Attach → List SessionFrame → List Event → Talk
    → Type 0
BecomesBy limit count (took.Asked session) named old it frames events new =
    IsTold (asked_told session it) old frames events new
BecomesBy limit count (took.ByLink session told) (Waiting handle) old it frames events new =
    ByLink limit count old session handle told frames events new
BecomesBy limit count took named old it frames events new = IsTold [] old frames events new

-- how many messages of the link that waits in the session that took it are open
abbrev pub opened_of : Option Link → ℕ
opened_of link = open_count (option_map (λ (n : Link). n.link) link)

abbrev pub opened_in : Talk → Took → NamedLink → ℕ
opened_in talk (took.ByLink session told) (Waiting handle) = opened_of (link_of talk session handle)
opened_in talk took named = 0

-- room is made for transfers in the session that the channel reaches
pub record MakesRoomIn (old : Talk) (channel : IncomingChannel) (new : Talk) : Type 0 where
  pub number : ℕ
  pub reaches : reached old.sessions channel.0 ≡ Some number
  pub made : GoesOn MadeRoom old number new

-- where a link waits for the Attach, for what it gives up, if it gives anything up
abbrev pub MakesRoom : NamedLink → Talk → IncomingChannel → Talk → Type 0
MakesRoom (Waiting handle) old channel new = (new ≡ old) ⊎ MakesRoomIn old channel new
MakesRoom named old channel new = new ≡ old

-- the session takes it
pub record TakesAttach (named : NamedLink) (old : Talk) (links : Links) (limit : ℕ) (channel : IncomingChannel)
    (attach : Attach) (frames : List SessionFrame) (events : List Event) (new : Talk) (links_new : Links) : Type 0 where
  pub heard : LinkHeard
  pub mid : Talk
  pub answered : Answers old channel (said.Attach attach named) (Ok heard) [] mid
  pub becomes :
      BecomesBy limit (opened_in old (attach_of heard) named) (attach_of heard) named mid attach frames events new
  pub same : links_new ≡ links

-- or it ends by its fault
abbrev pub HearsReady : NamedLink → Talk → Links → ℕ → IncomingChannel → Attach → List SessionFrame → List Event → Talk
    → Links → Type 0
HearsReady named old links limit channel attach frames events new links_new =
    TakesAttach named old links limit channel attach frames events new links_new
    ⊎ FailsBySaid old links channel (said.Attach attach named) frames events new links_new

-- first room is made
pub record HearsAttach (old : Talk) (links : Links) (limit : ℕ) (channel : IncomingChannel) (attach : Attach)
    (frames : List SessionFrame) (events : List Event) (new : Talk) (links_new : Links) : Type 0 where
  pub named : NamedLink
  pub is_named : IsNamedOn old links channel attach named
  pub ready : Talk
  pub makes_room : MakesRoom named old channel ready
  pub hears : HearsReady named ready links limit channel attach frames events new links_new

-- it ends the connection by this
pub record BarsAttach (old : Talk) (links : Links) (channel : IncomingChannel) (attach : Attach) (e : EndpointError)
    (new : Talk) : Type 0 where
  pub named : NamedLink
  pub is_named : IsNamedOn old links channel attach named
  pub ready : Talk
  pub makes_room : MakesRoom named old channel ready
  pub bars : BarsSaid ready channel (said.Attach attach named) e new

abbrev pub RefusesAttach : Talk → Links → IncomingChannel → Attach → EndpointError → Talk → Type 0
RefusesAttach old links channel attach e new =
    BarsAttach old links channel attach e new ⊎ IsUntold old e new
