-- What the peer says in a session that refuses it (part 2, 2.5.2, 2.8.17).
use Rattle.std.specs.Prelude.{◌≡◌, ◌⊎◌, ℕ, List, [], ◌++◌, Result, Ok, Err, ⊤}
use Rattle.amqp_session_types.specs.declared.channels.IncomingChannel.{IncomingChannel}
use Rattle.amqp_session_types.specs.declared.refusals.ConnectionError.TheVariants.{NotFound}
use Rattle.amqp_session_types.specs.declared.refusals.SessionError.{SessionError}
use Rattle.amqp_session_performatives.specs.declared.session_frame.SessionFrame.{SessionFrame}
use Rattle.amqp_link_base.specs.declared.detached.Detached.{Detached}
use Rattle.amqp_link.specs.declared.relay.AttachTold.{AttachTold}
use Rattle.amqp_link_receiver.specs.declared.answer.Told.{Told}
use Rattle.amqp_endpoint_links.specs.declared.hearing.LinkPerformative.{LinkPerformative}
use Rattle.amqp_endpoint_conversation.specs.declared.hearing.Heard.{Heard}
use Rattle.amqp_endpoint_conversation.specs.declared.hearing.HearRefusal.{HearRefusal}
use Rattle.amqp_endpoint_conversation.specs.declared.hearing.HearRefusal.TheVariants as hear
use Rattle.amqp_endpoint_conversation.specs.Hearing.{Answered}
use Rattle.amqp_endpoint_model.specs.declared.error.EndpointError.{EndpointError}
use Rattle.amqp_endpoint_model.specs.declared.error.EndpointError.TheVariants.{Memory, Connection}
use Rattle.amqp_endpoint_model.specs.declared.error.EndpointError.TheVariants.{Session as SessionFault}
use Rattle.amqp_endpoint_model.specs.declared.event.Event.{Event}
use Rattle.amqp_endpoint_attached.specs.Linked.{gives}
use Rattle.amqp_endpoint_linking.specs.Linking.{Link, Links, Session, Talk, links_of}
use Rattle.amqp_endpoint_linking.specs.GivingBack.{AllGivenBack}
use Rattle.amqp_endpoint_linking.specs.Calling.{fault_told}
use Rattle.amqp_endpoint_linking.specs.Hearing.{IsUntold}

-- what comes of what the peer says in a session of links, or why it is refused
abbrev pub LinkHeard : Type 0
LinkHeard = Heard AttachTold Told Detached

abbrev pub LinkRefusal : Type 0
LinkRefusal = HearRefusal Link

-- how the session that the peer's channel reaches answers it: these frames are to be sent then
abbrev pub Answers : Talk → IncomingChannel → LinkPerformative → Result LinkHeard LinkRefusal → List SessionFrame → Talk
    → Type 0
Answers old channel it result frames new = Answered gives old [] channel it result new frames

-- the session refuses it, and ends by that fault: its End says the fault's condition, its links are given back, and
-- this is told
pub record FailsBySaid (old : Talk) (links : Links) (channel : IncomingChannel) (it : LinkPerformative)
    (frames : List SessionFrame) (events : List Event) (new : Talk) (links_new : Links) : Type 0 where
  pub number : ℕ
  pub fault : SessionError
  pub session : Session
  pub answered : Answers old channel it (Err (hear.Session number fault session)) frames new
  pub back : AllGivenBack links (links_of session) links_new
  pub told : events ≡ fault_told number fault

-- how a refusal ends the connection: no session has the channel, or one refuses it that is only asked for, which no End
-- can tell; or there is no memory
abbrev pub EndsBy : LinkRefusal → EndpointError → Type 0
EndsBy hear.Memory e = e ≡ Memory
EndsBy hear.NotFound e = e ≡ Connection NotFound
EndsBy (hear.Asked number fault) e = e ≡ SessionFault fault
EndsBy (hear.Session number fault session) e = ⊥

-- what the peer says ends the connection by this
pub record BarsSaid (old : Talk) (channel : IncomingChannel) (it : LinkPerformative) (e : EndpointError) (new : Talk)
    : Type 0 where
  pub refusal : LinkRefusal
  pub frames : List SessionFrame
  pub answered : Answers old channel it (Err refusal) frames new
  pub is : EndsBy refusal e

-- or there is no memory even for what comes of it, and nothing changes
abbrev pub RefusesSaid : Talk → IncomingChannel → LinkPerformative → EndpointError → Talk → Type 0
RefusesSaid old channel it e new = BarsSaid old channel it e new ⊎ IsUntold old e new

-- what is done of a refusal: a session that ended by its fault gives its links back, and this is told; any other ends
-- the connection
abbrev pub RefusalDone : Links → LinkRefusal → List Event → Result ⊤ EndpointError → Links → List Event → Type 0
RefusalDone links (hear.Session number fault session) told (Ok done) links_new told_new =
    AllGivenBack links (links_of session) links_new × (told_new ≡ told ++ fault_told number fault)
RefusalDone links refusal told (Ok done) links_new told_new = ⊥
RefusalDone links refusal told (Err e) links_new told_new =
    EndsBy refusal e × (links_new ≡ links) × (told_new ≡ told)
