-- What a Flow and a delivery make of one end's limit, over counts that never wrap.
use Rattle.std.proofs.Common.{◌≡◌, ℕ, ◌+◌, ◌<◌, ◌≤◌, ◌%◌, ◌^◌, true, false, arith}
use Rattle.std.specs.Prelude.{Some}
use Rattle.std.proofs.lemmas.Grind.{common_steps}
use Rattle.amqp_session_performatives.specs.declared.link_flow.LinkFlow.{LinkFlow}
use Rattle.amqp_link_base.specs.declared.inner.LinkFlowStateInner.{LinkFlowStateInner}
use Rattle.amqp_link_base.specs.Flows.{ahead, sender_flowed, receiver_flowed, consumed, credit_limit, StandsAt}

pub sender-takes : (old : LinkFlowStateInner) (flow : LinkFlow) (own theirs credit : ℕ) → StandsAt old own → flow.delivery_count ≡ Some (theirs % 2 ^ 32) → flow.link_credit ≡ Some credit
    → theirs ≤ own → own ≤ theirs + credit → credit < 2 ^ 31 → flow.drain ≡ false → StandsAt (sender_flowed old flow) own × (own + (sender_flowed old flow).link_credit ≡ theirs + credit)
sender-takes old flow own theirs credit s c d le ge small e = grind (arith, common_steps)

pub sender-drained : (old : LinkFlowStateInner) (flow : LinkFlow) (own theirs credit : ℕ) → StandsAt old own → flow.delivery_count ≡ Some (theirs % 2 ^ 32) → flow.link_credit ≡ Some credit
    → theirs ≤ own → own ≤ theirs + credit → credit < 2 ^ 31 → flow.drain ≡ true → StandsAt (sender_flowed old flow) (theirs + credit) × ((sender_flowed old flow).link_credit ≡ 0)
sender-drained old flow own theirs credit s c d le ge small e = grind (arith, common_steps)

pub receiver-keeps : (old : LinkFlowStateInner) (flow : LinkFlow) (own theirs : ℕ) → StandsAt old own → flow.delivery_count ≡ Some (theirs % 2 ^ 32)
    → own ≤ theirs → theirs ≤ own + old.link_credit → old.link_credit < 2 ^ 31 → StandsAt (receiver_flowed old flow) theirs × (theirs + (receiver_flowed old flow).link_credit ≡ own + old.link_credit)
receiver-keeps old flow own theirs s c le ge small = grind (arith, common_steps)

pub consumed-keeps : (old : LinkFlowStateInner) (own count : ℕ) → StandsAt old own → count ≤ old.link_credit
    → StandsAt (consumed old count) (own + count) × ((own + count) + (consumed old count).link_credit ≡ own + old.link_credit)
consumed-keeps old own count s le = grind (arith, common_steps)

-- a limit that never wraps, modulo 2^32
pub limit-moves : (old new : LinkFlowStateInner) (own later : ℕ) → StandsAt old own → StandsAt new later → own + old.link_credit ≤ later + new.link_credit
    → later + new.link_credit < own + old.link_credit + 2 ^ 31 → ahead (credit_limit new) (credit_limit old) < 2 ^ 31
limit-moves old new own later s t on near = omega arith
