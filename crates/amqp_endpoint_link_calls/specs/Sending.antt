-- How a message is sent by a link of an endpoint, and why it isn't: part 2, 2.6.7, 2.6.12, 2.7.5.
use Rattle.std.specs.Prelude.{◌≡◌, ℕ, List, [], Bool, Option, Some, None}
use Rattle.std.specs.Global.{Box}
use Rattle.amqp_session_types.specs.declared.handles.OutputHandle.{OutputHandle}
use Rattle.amqp_endpoint_tables.specs.declared.link_place.LinkPlace.TheVariants.{Held, AtRest}
use Rattle.amqp_endpoint_tables.specs.State.{live_at}
use Rattle.amqp_endpoint_model.specs.declared.call.Sending.{Sending}
use Rattle.amqp_endpoint_model.specs.declared.error.EndpointError.{EndpointError}
use Rattle.amqp_endpoint_model.specs.declared.error.EndpointError.TheVariants.{UnknownLink, IllegalState}
use Rattle.amqp_endpoint_attached.specs.Linked.{Linked}
use Rattle.amqp_endpoint_messages.specs.Sending.{Message, MessageSent, RefusesSend, send_refusal, with_tag}
use Rattle.amqp_endpoint_link_calls.specs.Calling.{Does}
use Rattle.amqp_endpoint_link_calls.specs.Places.{LinkTalk, Where}

-- the message is sent by it as a delivery with this tag, in frames of at most so many bytes, settled or not (part 2,
-- 2.6.12, 2.7.5)
abbrev pub sends : ℕ → List ℕ → Sending → Bool → Does
sends limit tag message settled handle before frames after =
    MessageSent before limit handle (with_tag tag message) settled [] after frames

-- why none with this tag and so many bytes is sent in the session that is said to hold its link: that hasn't begun, or
-- refuses it
abbrev pub refusal_live : Option (Box Linked) → OutputHandle → List ℕ → ℕ → Option EndpointError
refusal_live None handle tag size = Some IllegalState
refusal_live (Some session) handle tag size = send_refusal session.value.session handle tag size

-- why none is sent by a link: no link has the number, then the link is at rest, or its session refuses it
abbrev pub refusal_at : LinkTalk → Where → List ℕ → ℕ → Option EndpointError
refusal_at talk None tag size = Some UnknownLink
refusal_at talk (Some (AtRest end)) tag size = Some IllegalState
refusal_at talk (Some (Held session handle)) tag size =
    refusal_live (live_at talk.sessions session) handle tag size

-- why a message isn't sent in the session that is said to hold its link: that hasn't begun, or refuses it
abbrev pub BarsSendIn : ℕ → Option (Box Linked) → OutputHandle → Message → EndpointError → Type 0
BarsSendIn limit None handle m e = e ≡ IllegalState
BarsSendIn limit (Some session) handle m e = RefusesSend limit session.value.session handle m e

-- why it isn't sent: no link has the number, then the link is at rest, or its session refuses it
abbrev pub BarsSend : ℕ → LinkTalk → Where → List ℕ → Sending → EndpointError → Type 0
BarsSend limit talk None tag message e = e ≡ UnknownLink
BarsSend limit talk (Some (AtRest end)) tag message e = e ≡ IllegalState
BarsSend limit talk (Some (Held session handle)) tag message e =
    BarsSendIn limit (live_at talk.sessions session) handle (with_tag tag message) e
