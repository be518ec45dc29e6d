-- Why no message is sent by a link, by its number.
use Rattle.std.proofs.Common.{◌≡◌, ◌≢◌, ◌⊎◌, inl, inr, ℕ, ◌^◌, min, List, length, Option, Some, None, refl, sym, ap}
use Rattle.std.specs.Global.{Box}
use Rattle.amqp_session_types.specs.declared.handles.OutputHandle.{OutputHandle}
use Rattle.amqp_endpoint_tables.specs.State.{live_at}
use Rattle.amqp_endpoint_tables.specs.declared.link_place.LinkPlace.TheVariants.{Held, AtRest}
use Rattle.amqp_endpoint_model.specs.declared.call.Sending.{Sending}
use Rattle.amqp_endpoint_model.specs.declared.error.EndpointError.{EndpointError}
use Rattle.amqp_endpoint_model.specs.declared.error.EndpointError.TheVariants.{FrameTooLarge, Memory}
use Rattle.amqp_endpoint_attached.specs.Linked.{Linked}
use Rattle.amqp_endpoint_messages.specs.Sending.{with_tag}
use Rattle.amqp_endpoint_messages.proofs.Unsent.{capped, first-refused}
use Rattle.amqp_endpoint_link_calls.specs.Places.{LinkTalk, Where}
use Rattle.amqp_endpoint_link_calls.specs.Sending.{BarsSend, BarsSendIn, refusal_at, refusal_live}

-- of a larger one by 2^32 bytes
live-capped : (o : Option (Box Linked)) (handle : OutputHandle) (tag : List ℕ) (n : ℕ)
    → refusal_live o handle tag (min n (2 ^ 32)) ≡ refusal_live o handle tag n
live-capped None handle tag n = refl
live-capped (Some session) handle tag n = capped session.value.session handle tag n

pub at-capped : (talk : LinkTalk) (place : Where) (tag : List ℕ) (n : ℕ)
    → refusal_at talk place tag (min n (2 ^ 32)) ≡ refusal_at talk place tag n
at-capped talk None tag n = refl
at-capped talk (Some (AtRest end)) tag n = refl
at-capped talk (Some (Held session handle)) tag n = live-capped (live_at talk.sessions session) handle tag n

-- it is the first reason, or where there is none, want of memory
abbrev First : Option EndpointError → EndpointError → Type 0
First first e = (first ≡ Some e) ⊎ ((e ≡ Memory) × (first ≡ None))

alone : (e why : EndpointError) → e ≡ why → First (Some why) e
alone e why is = inl (ap (λ (x : EndpointError). Some x) (sym is))

live-barred : (limit : ℕ) (o : Option (Box Linked)) (handle : OutputHandle) (tag : List ℕ) (message : Sending)
    (e : EndpointError) → e ≢ FrameTooLarge → BarsSendIn limit o handle (with_tag tag message) e
    → First (refusal_live o handle tag (length message.payload)) e
live-barred limit None handle tag message e fits why = alone e _ why
live-barred limit (Some session) handle tag message e fits why =
    first-refused limit session.value.session handle (with_tag tag message) e fits why

pub at-barred : (limit : ℕ) (talk : LinkTalk) (place : Where) (tag : List ℕ) (message : Sending) (e : EndpointError)
    → e ≢ FrameTooLarge → BarsSend limit talk place tag message e
    → First (refusal_at talk place tag (length message.payload)) e
at-barred limit talk None tag message e fits why = alone e _ why
at-barred limit talk (Some (AtRest end)) tag message e fits why = alone e _ why
at-barred limit talk (Some (Held session handle)) tag message e fits why =
    live-barred limit (live_at talk.sessions session) handle tag message e fits why
