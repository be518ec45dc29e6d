-- What is handed out fits, and a reply has no properties.
use Rattle.std.proofs.Common.{◌≡◌, ℕ, ◌||◌, Bool, true, false, Some, None, if◌then◌else◌, refl, sym, ap, subst, ◌∙◌}
use Rattle.amqp_session_types.specs.declared.handles.OutputHandle.{OutputHandle}
use Rattle.amqp_session_performatives.specs.declared.attach.Attach.{Attach}
use Rattle.amqp_session_performatives.specs.declared.link_flow.LinkFlow.{LinkFlow}
use Rattle.amqp_link_base.specs.State.{is_attached}
use Rattle.amqp_link_base.specs.Own.{handle_of}
use Rattle.amqp_link.specs.Ends.{flow_answer}
use Rattle.amqp_link.specs.declared.end.End.{End}
use Rattle.amqp_link.specs.declared.end.End.TheVariants.{Sender, Receiver}
use Rattle.amqp_link_base.specs.Flows.{receiver_flowed, sender_flowed, shown}
use Rattle.amqp_link_unsettled.specs.Listing.{FitsFrame}
use Rattle.amqp_endpoint_attached.specs.Links.{Announces}

pub announced_fits : (limit : ℕ) (link : End) (handle : OutputHandle) (attach : Attach)
    → Announces limit link handle attach → FitsFrame limit attach
announced_fits limit link handle attach lists = subst (λ (a : Attach). FitsFrame limit a) (sym lists.is) lists.first.2

-- a Flow that is told where both hold
told : (attached wants : Bool) (flow reply : LinkFlow) → flow.properties ≡ None
    → (if attached then (if wants then Some flow else None) else None) ≡ Some reply → reply.properties ≡ None
told true true flow reply none is =
    let same : flow ≡ reply = cc in sym (ap (λ (f : LinkFlow). f.properties) same) ∙ none
told true false flow reply none is = absurd cc
told false wants flow reply none is = absurd cc

pub reply_plain : (link : End) (flow reply : LinkFlow) → flow_answer link flow ≡ Some reply → reply.properties ≡ None
reply_plain (Sender s) flow reply is =
    told (is_attached s.base.local_state) (flow.drain || flow.echo)
    (shown (handle_of s.base.output_handle) false (sender_flowed s.flow flow)) reply refl is
reply_plain (Receiver r) flow reply is =
    told (is_attached r.base.local_state) flow.echo
    (shown (handle_of r.base.output_handle) false (receiver_flowed r.end.flow flow)) reply refl is
