-- The flow state of a link's two ends, and what Flows and deliveries make of it: part 2, 2.6.7.
use Rattle.std.specs.Prelude.{◌≡◌, ℕ, ◌+◌, ◌-◌, ◌%◌, ◌^◌, ◌||◌, Bool, true, false, Option, Some, None, unwrap_or, min}
use Rattle.std.specs.Prelude.{nat_lt, if◌then◌else◌}
use Rattle.amqp_session_types.specs.declared.handles.OutputHandle.{OutputHandle}
use Rattle.amqp_session_performatives.specs.declared.link_flow.LinkFlow.{LinkFlow}
use Rattle.amqp_link_base.specs.declared.inner.LinkFlowStateInner.{LinkFlowStateInner}

-- how far a count is ahead of another: counts wrap at 2^32
abbrev pub ahead : ℕ → ℕ → ℕ
ahead a b = (a + (2 ^ 32 - b)) % 2 ^ 32

-- a count that never wraps is told modulo 2^32
abbrev pub StandsAt : LinkFlowStateInner → ℕ → Type 0
StandsAt s n = s.delivery_count ≡ n % 2 ^ 32

-- the count up to which deliveries may be sent
abbrev pub credit_limit : LinkFlowStateInner → ℕ
credit_limit s = (s.delivery_count + s.link_credit) % 2 ^ 32

-- the credit of a sender by a Flow of its receiver: delivery-count_rcv + link-credit_rcv - delivery-count_snd, but not
-- below 0 nor above what a credit can be. Of two counts the one that is ahead by less than 2^31 is the later
abbrev pub credit_after : ℕ → ℕ → ℕ → ℕ
credit_after own theirs credit =
    if nat_lt (ahead own theirs) (2 ^ 31)
    then credit - ahead own theirs
    else min (credit + ahead theirs own) (2 ^ 32 - 1)

-- a receiver that doesn't know the count means the one that the link was attached with, and a Flow without credit
-- leaves the sender's
abbrev pub sender_credit : LinkFlowStateInner → Option ℕ → Option ℕ → ℕ
sender_credit s count None = s.link_credit
sender_credit s count (Some credit) = credit_after s.delivery_count (unwrap_or count s.initial_delivery_count) credit

-- a sender that is given this credit: where it is to be used up, the count moves past all of it
abbrev pub sender_with : LinkFlowStateInner → (drain : Bool) → ℕ → LinkFlowStateInner
sender_with s true credit =
    record s { delivery_count = (s.delivery_count + credit) % 2 ^ 32; link_credit = 0; drain = true }
sender_with s false credit = record s { link_credit = credit; drain = false }

-- a sender after a Flow of its receiver
abbrev pub sender_flowed : LinkFlowStateInner → LinkFlow → LinkFlowStateInner
sender_flowed s flow = sender_with s flow.drain (sender_credit s flow.delivery_count flow.link_credit)

-- a receiver that learns how far its sender has counted: what the count moves on is used of the credit
abbrev pub counted : LinkFlowStateInner → Option ℕ → LinkFlowStateInner
counted s None = s
counted s (Some count) =
    record s {
      delivery_count = count;
      link_credit = (if nat_lt (ahead count s.delivery_count) (2 ^ 31)
          then s.link_credit - ahead count s.delivery_count
          else s.link_credit);
    }

-- a receiver after a Flow of its sender
abbrev pub receiver_flowed : LinkFlowStateInner → LinkFlow → LinkFlowStateInner
receiver_flowed s flow = record (counted s flow.delivery_count) { available = unwrap_or flow.available s.available }

-- a state with this count of deliveries and this credit
abbrev pub with_counts : LinkFlowStateInner → ℕ → ℕ → LinkFlowStateInner
with_counts s count credit = record s { delivery_count = count; link_credit = credit }

-- an end after deliveries that were sent or received
abbrev pub consumed : LinkFlowStateInner → ℕ → LinkFlowStateInner
consumed s n = record s { delivery_count = (s.delivery_count + n) % 2 ^ 32; link_credit = s.link_credit - n }

-- a receiver that gives this credit
abbrev pub granted : LinkFlowStateInner → ℕ → LinkFlowStateInner
granted s credit = record s { link_credit = credit; drain = false }

-- a receiver that wants the credit used up
abbrev pub draining : LinkFlowStateInner → LinkFlowStateInner
draining s = record s { drain = true }

-- an end as its link is attached, by the count that the sender's Attach tells: there is no credit
abbrev pub attached : LinkFlowStateInner → ℕ → LinkFlowStateInner
attached s count =
    record s { initial_delivery_count = count; delivery_count = count; link_credit = 0; drain = false }

-- the Flow that shows count, credit and drain
abbrev pub shown : OutputHandle → Bool → LinkFlowStateInner → LinkFlow
shown handle echo s =
    record {
      handle = record { 0 = handle.0 };
      delivery_count = Some s.delivery_count;
      link_credit = Some s.link_credit;
      available = None;
      drain = s.drain;
      echo = echo;
      properties = None;
    }

-- the Flow that shows count, credit and drain, and the properties where they are asked for
abbrev pub told : OutputHandle → Bool → Bool → LinkFlowStateInner → LinkFlow
told handle echo asked s = record (shown handle echo s) { properties = (if asked then s.properties else None) }

-- what a sender answers to a Flow that wants the credit used up or that asks for an echo
abbrev pub sender_answer : LinkFlow → OutputHandle → LinkFlowStateInner → Option LinkFlow
sender_answer flow handle new = if flow.drain || flow.echo then Some (shown handle false new) else None

-- what a receiver answers to a Flow that asks for an echo
abbrev pub receiver_answer : LinkFlow → OutputHandle → LinkFlowStateInner → Option LinkFlow
receiver_answer flow handle new = if flow.echo then Some (shown handle false new) else None
