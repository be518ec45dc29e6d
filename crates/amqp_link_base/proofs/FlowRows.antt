-- States and Flows, worked out.
use Rattle.std.proofs.Common.{◌≡◌, ℕ, ◌≤◌, Bool, true, false, refl, arith}
use Rattle.std.specs.Prelude.{Option, Some, None}
use Rattle.amqp_session_types.specs.declared.handles.OutputHandle.{OutputHandle}
use Rattle.amqp_session_performatives.specs.declared.link_flow.LinkFlow.{LinkFlow}
use Rattle.amqp_link_base.specs.declared.inner.LinkFlowStateInner.{LinkFlowStateInner}
use Rattle.amqp_link_base.specs.Flows.{sender_flowed, sender_answer, receiver_flowed, receiver_answer, attached}
use Rattle.amqp_link_base.specs.Flows.{consumed, granted, draining, told}

-- a state with these counts and this credit
abbrev at : ℕ → ℕ → ℕ → LinkFlowStateInner
at initial count credit =
    record { initial_delivery_count = initial; delivery_count = count; link_credit = credit; available = 0; drain = false; properties = None }

-- a Flow that asks for nothing
abbrev flow : Option ℕ → Option ℕ → LinkFlow
flow count credit =
    record { handle = record { 0 = 0 }; delivery_count = count; link_credit = credit; available = None; drain = false; echo = false; properties = None }

-- a Flow of a receiver that wants its credit used up
abbrev draining_flow : Option ℕ → Option ℕ → LinkFlow
draining_flow count credit = record (flow count credit) { drain = true }

abbrev seven : OutputHandle
seven = record { 0 = 7 }

-- the sender is ahead by 4, over the wrap
ahead_over_the_wrap : (sender_flowed (at 0 2 0) (flow (Some 4294967294) (Some 10))).link_credit ≡ 6
ahead_over_the_wrap = refl

-- the receiver is ahead by 11, over the wrap
behind_over_the_wrap : (sender_flowed (at 0 4294967290 0) (flow (Some 5) (Some 10))).link_credit ≡ 21
behind_over_the_wrap = refl

-- no credit is above 2^32 - 1
as_much_as_there_can_be : (sender_flowed (at 0 0 0) (flow (Some 2147483648) (Some 4294967295))).link_credit ≡ 4294967295
as_much_as_there_can_be = refl

-- nor below 0
nothing_left : (sender_flowed (at 0 9 0) (flow (Some 4) (Some 3))).link_credit ≡ 0
nothing_left = refl

-- a receiver that doesn't know the count means the initial one
count_unknown : sender_flowed (at 5 7 0) (flow None (Some 10)) ≡ at 5 7 8
count_unknown = refl

-- a Flow without credit leaves it
credit_untold : sender_flowed (at 0 7 3) (flow (Some 1) None) ≡ at 0 7 3
credit_untold = refl

-- credit for two deliveries, which are sent, and for no third
two_given : sender_flowed (at 0 0 0) (flow None (Some 2)) ≡ at 0 0 2
two_given = refl

two_sent : consumed (consumed (at 0 0 2) 1) 1 ≡ at 0 2 0
two_sent = refl

no_third : 1 ≤ (consumed (consumed (at 0 0 2) 1) 1).link_credit → ⊥
no_third h = omega arith

-- a count wraps as deliveries are sent
sent_over_the_wrap : consumed (at 0 4294967295 3) 2 ≡ at 0 1 1
sent_over_the_wrap = refl

-- credit that is to be used up: the count moves past all of it, and a Flow says so
drained : sender_flowed (at 0 4 1) (draining_flow (Some 2) (Some 10)) ≡ record (at 0 12 0) { drain = true }
drained = refl

drained_told : sender_answer (draining_flow (Some 2) (Some 10)) seven (sender_flowed (at 0 4 1) (draining_flow (Some 2) (Some 10)))
    ≡ Some (record { handle = record { 0 = 7 }; delivery_count = Some 12; link_credit = Some 0; available = None; drain = true; echo = false; properties = None })
drained_told = refl

-- so it is with credit that came before
drained_without_credit : sender_flowed (at 0 4 1) (draining_flow None None) ≡ record (at 0 5 0) { drain = true }
drained_without_credit = refl

-- an echo is answered, and nothing else is
echoed : sender_answer (record (flow None None) { echo = true }) seven (at 0 4 1) ≡ Some (record (flow (Some 4) (Some 1)) { handle = record { 0 = 7 } })
echoed = refl

unanswered : sender_answer (flow None (Some 10)) seven (at 0 4 1) ≡ None
unanswered = refl

echoed_by_the_receiver : receiver_answer (record (flow (Some 4) None) { echo = true }) seven (at 0 4 6) ≡ Some (record (flow (Some 4) (Some 6)) { handle = record { 0 = 7 } })
echoed_by_the_receiver = refl

-- a receiver doesn't answer a drain
drain_unanswered : receiver_answer (draining_flow (Some 4) None) seven (at 0 4 6) ≡ None
drain_unanswered = refl

-- the sender's count takes credit of the receiver
four_used : receiver_flowed (at 0 4294967294 10) (flow (Some 2) None) ≡ at 0 2 6
four_used = refl

all_used : receiver_flowed (at 0 0 10) (flow (Some 12) None) ≡ at 0 12 0
all_used = refl

-- a count from before takes none
none_used : receiver_flowed (at 0 4 10) (flow (Some 2) None) ≡ at 0 2 10
none_used = refl

-- a sender may say how much it has
available_told : receiver_flowed (at 0 4 10) (record (flow None None) { available = Some 5 }) ≡ record (at 0 4 10) { available = 5 }
available_told = refl

-- credit that is given takes the place of what was left, and ends a drain
given_anew : granted (draining (at 0 4 10)) 3 ≡ at 0 4 3
given_anew = refl

-- an attachment begins without credit
begins : attached (draining (at 3 8 2)) 9 ≡ at 9 9 0
begins = refl

-- no Flow shows how many deliveries are available
available_untold : (asked : Bool) → (told seven true asked (record (at 0 4 1) { available = 9 })).available ≡ None
available_untold asked = refl
