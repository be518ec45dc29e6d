-- What a link does once it took the peer's Attach is done by steps of its session that bring what fits.
use Rattle.std.proofs.Common.{ℕ, true, List, [], ◌++◌, Option, Some, None, sym, subst, ◌∙◌}
use Rattle.amqp_session_types.specs.declared.error.Error.{Error}
use Rattle.amqp_session_types.specs.declared.handles.OutputHandle.{OutputHandle}
use Rattle.amqp_session_performatives.specs.declared.link_flow.LinkFlow.{LinkFlow}
use Rattle.amqp_session_performatives.specs.declared.session_frame.SessionFrame.{SessionFrame}
use Rattle.amqp_session_core.specs.State.{link_at}
use Rattle.amqp_link_sender.specs.declared.sending_on.PreparedSendOn.{PreparedSendOn}
use Rattle.amqp_link_unsettled.specs.declared.exchanging.Abort.{Abort}
use Rattle.amqp_endpoint_model.specs.declared.error.EndpointError.{EndpointError}
use Rattle.amqp_endpoint_model.specs.declared.event.Event.{Event}
use Rattle.amqp_endpoint_attached.specs.Linked.{Linked}
use Rattle.amqp_endpoint_messages.specs.GoingOn.{AttachedAt, EndsIf}
use Rattle.amqp_endpoint_messages.proofs.AttachDone.{Fits, Stepped, both, closed-for, fits-still, gives-up, kept-steps}
use Rattle.amqp_endpoint_messages.proofs.AttachDone.{tells}
use Rattle.amqp_endpoint_messages.proofs.CreditDone.{credited-at}

ends-if : (stuck : Option EndpointError) (limit session count : ℕ) (handle : OutputHandle) (why : Error)
    (kept : Option LinkFlow) (ons : List PreparedSendOn) (frames : List SessionFrame) (events : List Event)
    (old new : Linked) → Fits limit old handle true (Some why)
    → EndsIf stuck limit session count handle why kept ons frames events old new → Stepped limit old frames new
ends-if None limit session count handle why kept ons frames events old new fit e =
    let first : Stepped limit old e.reply e.mid = kept-steps limit handle kept old e.mid e.reply e.takes in
    let second : Stepped limit e.mid e.on new =
    credited-at limit session count handle why ons e.on events e.mid new
    (fits-still limit old e.mid handle (Some why) first.fields fit) e.credited in
    subst (λ (fs : List SessionFrame). Stepped limit old fs new) (sym e.frames_are)
    (both limit old e.mid new e.reply e.on first second)
ends-if (Some error) limit session count handle why kept ons frames events old new fit c =
    closed-for limit session error count handle why frames events old new fit c

pub attached-at : (limit session count : ℕ) (handle : OutputHandle) (why : Error) (aborts : List Abort)
    (kept : Option LinkFlow) (ons : List PreparedSendOn) (frames : List SessionFrame) (events : List Event)
    (old new : Linked)
    → Fits limit old handle true (Some why)
    → AttachedAt limit session count handle why aborts kept ons frames events old new → Stepped limit old frames new
attached-at limit session count handle why aborts kept ons frames events old new fit a =
    let first : Stepped limit old [] a.told =
    tells limit count handle (link_at old.session handle.0) old a.told a.tells in
    let second : Stepped limit a.told a.up a.given =
    gives-up limit handle aborts a.told a.given a.stuck a.up a.gives_up in
    let here : Fits limit a.given handle true (Some why) =
    fits-still limit old a.given handle (Some why) (second.fields ∙ first.fields) fit in
    let third : Stepped limit a.given a.down new =
    ends-if a.stuck limit session count handle why kept ons a.down a.failed a.given new here a.ends in
    let all : Stepped limit old (a.up ++ a.down) new =
    both limit old a.told new [] (a.up ++ a.down) first
    (both limit a.told a.given new a.up a.down second third) in
    subst (λ (fs : List SessionFrame). Stepped limit old fs new) (sym a.frames_are) all
