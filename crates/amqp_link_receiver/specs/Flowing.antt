-- The credit that a receiving link gives, and its Flows: part 2, 2.6.7 and 2.7.4.
use Rattle.std.specs.Prelude.{◌≡◌, ◌⊎◌, ℕ, ◌-◌, ◌^◌, not, Bool, true, false, nat_lt, Option, Some, None, Result, Ok}
use Rattle.std.specs.Prelude.{Err, if◌then◌else◌}
use Rattle.amqp_session_performatives.specs.declared.link_flow.LinkFlow.{LinkFlow}
use Rattle.amqp_link_base.specs.State.{is_attached}
use Rattle.amqp_link_base.specs.Own.{handle_of}
use Rattle.amqp_link_base.specs.declared.base.IllegalState.{IllegalState}
use Rattle.amqp_link_base.specs.Flows.{draining, granted, receiver_answer, receiver_flowed, shown, told}
use Rattle.amqp_link_base.specs.declared.inner.LinkFlowStateInner.{LinkFlowStateInner}
use Rattle.amqp_link_receiver.specs.declared.flowing.FlowRefusal.{FlowRefusal}
use Rattle.amqp_link_receiver.specs.declared.flowing.FlowRefusal.TheVariants as flow
use Rattle.amqp_link_receiver.specs.declared.flowing.Granted.{Granted}
use Rattle.amqp_link_receiver.specs.declared.flowing.GrantRefusal.{GrantRefusal}
use Rattle.amqp_link_receiver.specs.declared.flowing.GrantRefusal.TheVariants.{IllegalState as GrantIllegal}
use Rattle.amqp_link_receiver.specs.declared.flowing.GrantRefusal.TheVariants.{CreditOutOfRange}
use Rattle.amqp_link_receiver.specs.Receiving.{recounted}
use Rattle.amqp_link_receiver.specs.State.{ReceiverState}

-- the link with this credit and these counts
abbrev pub with_flow : ReceiverState → LinkFlowStateInner → ReceiverState
with_flow s flow = record s { end = record s.end { flow = flow } }

-- and with this count of deliveries and this credit
abbrev pub link_recounted : ReceiverState → ℕ → ℕ → ReceiverState
link_recounted s count credit = record s { end = recounted s.end count credit }

-- the Flow that shows count, credit and drain of a link
abbrev pub own_flow : ReceiverState → LinkFlow
own_flow s = shown (handle_of s.base.output_handle) false s.end.flow

-- why so much credit isn't given: the first of these that holds
abbrev pub grant_refusal : ReceiverState → ℕ → Option GrantRefusal
grant_refusal s credit =
    if not (is_attached s.base.local_state) then Some GrantIllegal
    else if nat_lt (2 ^ 31 - 1) credit then Some CreditOutOfRange
    else None

-- so much credit is given, and no drain is wanted any more
abbrev pub credited : ReceiverState → ℕ → ReceiverState
credited s credit = with_flow s (granted s.end.flow credit)

-- credit isn't given, for a reason, and the link stays; or it is, the credit that was left before is told, and the
-- Flow that shows it is to be sent
abbrev pub Grants : Option GrantRefusal → ReceiverState → ℕ → Result Granted GrantRefusal → ReceiverState → Type 0
Grants (Some why) old credit answer new = (answer ≡ Err why) × (new ≡ old)
Grants None old credit answer new =
    (answer ≡ Ok (record { left = old.end.flow.link_credit; flow = own_flow (credited old credit) }))
    × (new ≡ credited old credit)

-- while the link is attached it is to have its credit used up, where it has a drain wanted
abbrev pub drained : ReceiverState → Option ReceiverState
drained s = if is_attached s.base.local_state then Some (with_flow s (draining s.end.flow)) else None

-- it is, and the Flow that shows it is to be sent; or it isn't and the link stays
abbrev pub Drains : Option ReceiverState → ReceiverState → Result LinkFlow IllegalState → ReceiverState → Type 0
Drains None old answer new = (answer ≡ Err (record {})) × (new ≡ old)
Drains (Some moved) old answer new = (answer ≡ Ok (own_flow moved)) × (new ≡ moved)

-- the Flow that shows count, credit and drain of a link while it is attached, and its properties where they are asked
-- for
abbrev pub told_flow : ReceiverState → (echo asked : Bool) → Option LinkFlow
told_flow s echo asked =
    if is_attached s.base.local_state
    then Some (told (handle_of s.base.output_handle) echo asked (record s.end.flow { properties = s.properties }))
    else None

-- such a Flow, or none while the link isn't attached; there may be no memory for properties that are asked for
abbrev pub Shows : (asked : Bool) → Option LinkFlow → Result LinkFlow FlowRefusal → Type 0
Shows asked None answer = answer ≡ Err flow.IllegalState
Shows false (Some shown) answer = answer ≡ Ok shown
Shows true (Some shown) answer = (answer ≡ Err flow.Memory) ⊎ (answer ≡ Ok shown)

-- a Flow of the sender moves count and credit while the link is attached
abbrev pub flowed : ReceiverState → LinkFlow → ReceiverState
flowed s flow = if is_attached s.base.local_state then with_flow s (receiver_flowed s.end.flow flow) else s

-- what is sent to a Flow of the sender
abbrev pub flow_answer : ReceiverState → LinkFlow → Option LinkFlow
flow_answer s flow =
    if is_attached s.base.local_state
    then receiver_answer flow (handle_of s.base.output_handle) (receiver_flowed s.end.flow flow)
    else None
