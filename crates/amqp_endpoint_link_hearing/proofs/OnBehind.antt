-- What goes on of a link by a Flow: it stands so behind it, no more of it goes on than there is credit, and a link of
-- which something goes on hasn't ended.
use Rattle.std.proofs.Common.{◌≡◌, ◌≤◌, ◌+◌, ◌==◌, ℕ, Bool, true, false, List, [], ◌∷◌}
use Rattle.std.proofs.Common.{Option, Some, None}
use Rattle.std.proofs.Common.{Result, if◌then◌else◌, length, arith, refl, sym, ap, ◌∙◌}
use Rattle.std.specs.Prelude.{◌≢◌, All}
use Rattle.std.proofs.lemmas.List.Elements.{All-nil}
use Rattle.amqp_session_types.specs.declared.handles.Handle.{Handle}
use Rattle.amqp_session_types.specs.declared.handles.OutputHandle.{OutputHandle}
use Rattle.amqp_session_performatives.specs.declared.flow.Flow.{Flow}
use Rattle.amqp_session_performatives.specs.declared.link_flow.LinkFlow.{LinkFlow}
use Rattle.amqp_session_outgoing.specs.Frames.{frames_count, last_room}
use Rattle.amqp_session_outgoing.specs.Queues.{Queues, frames_in, room_behind, units_of}
use Rattle.amqp_session_outgoing.specs.declared.frames.Outbound.{Outbound}
use Rattle.amqp_session_core.specs.Batch.{Transfers}
use Rattle.amqp_session_core.specs.Steps.{told_to_link}
use Rattle.amqp_session_core.specs.declared.relay.RelayError.{RelayError}
use Rattle.amqp_link_base.specs.Flows.{sender_flowed}
use Rattle.amqp_link_base.specs.State.{is_attached}
use Rattle.amqp_link_base.specs.declared.state.LinkState.{LinkState}
use Rattle.amqp_link_base.specs.declared.state.LinkState.TheVariants as state
use Rattle.amqp_link_sender.specs.Sending.{Sending, flowed as flowed_sender}
use Rattle.amqp_link_sender.specs.SendsOn.{all_on, going_on}
use Rattle.amqp_link.specs.Ends.{flowed, state_of}
use Rattle.amqp_link.specs.Gives.{flows_at}
use Rattle.amqp_link.specs.GoingOn.{HasCreditFor, goes_on, sends_on_by}
use Rattle.amqp_link.specs.Standing.{standing_of}
use Rattle.amqp_link.specs.declared.end.End.{End}
use Rattle.amqp_link.specs.declared.end.End.TheVariants.{Sender, Receiver}
use Rattle.amqp_link.specs.declared.standing.Standing.{Standing}
use Rattle.amqp_link.specs.declared.standing.Standing.TheVariants.{Attached, Detaching, Apart}
use Rattle.amqp_endpoint_messages.specs.All.{open_count}
use Rattle.amqp_endpoint_messages.specs.SendingOn.{AreCutOn, IsOn}
use Rattle.amqp_endpoint_messages.proofs.GoesOn.{cut-few, going-on-are, going-on-few}
use Rattle.amqp_endpoint_link_hearing.specs.Flowing.{ended, said_of_link}

-- a link that isn't attached has nothing go on, by a Flow or by none
unattached : (s : Sending) (it : LinkFlow) → is_attached s.base.local_state ≡ false
    → all_on s ≡ all_on (flowed_sender s it)
unattached s it not =
    sym
    (ap (λ (b : Bool). all_on (if b then record s { flow = sender_flowed s.flow it } else s)) not)

none-goes : (s : Sending) → is_attached s.base.local_state ≡ false → all_on s ≡ []
none-goes s not =
    ap (λ (b : Bool). if b then going_on s.messages s.messages.waiting s.flow.link_credit else []) not

apart : (state : LinkState) → (standing_of state ≡ Attached → ⊥) → is_attached state ≡ false
apart state.Unattached not = refl
apart state.AttachSent not = refl
apart state.IncompleteAttachSent not = refl
apart state.AttachReceived not = refl
apart state.IncompleteAttachReceived not = refl
apart state.Attached not = absurd (not refl)
apart state.IncompleteAttachExchanged not = absurd (not refl)
apart state.DetachSent not = refl
apart state.Detached not = refl
apart state.CloseSent not = refl
apart state.Closed not = refl

module _ (flow : Flow) (named : Handle) where
  -- what it says beside its properties is what goes on by it
  alike : (e : End) → sends_on_by e (told_to_link flow named) ≡ sends_on_by e (said_of_link flow named)
  alike (Sender s) = refl
  alike (Receiver r) = refl

  same-behind : (e : End) → goes_on (flowed e (told_to_link flow named)) ≡ sends_on_by e (told_to_link flow named)
  same-behind (Sender s) = refl
  same-behind (Receiver r) = refl

  not-behind : (e : End) → (standing_of (state_of e) ≡ Attached → ⊥)
      → goes_on e ≡ sends_on_by e (told_to_link flow named)
  not-behind (Sender s) not = unattached s (told_to_link flow named) (apart s.base.local_state not)
  not-behind (Receiver r) not = refl

  on-at : (standing : Standing) (before : End) (told : Result (Option LinkFlow) RelayError) (after : End)
      → standing_of (state_of before) ≡ standing → flows_at standing before (told_to_link flow named) told after
      → goes_on after ≡ sends_on_by before (told_to_link flow named)
  on-at Attached before told after is (_, same) = ap (λ (e : End). goes_on e) same ∙ same-behind before
  on-at Detaching before told after is (_, same) =
      ap (λ (e : End). goes_on e) same
      ∙ not-behind before (λ other. let clash : Detaching ≡ Attached = sym is ∙ other in absurd cc)
  on-at Apart before told after is (_, same) =
      ap (λ (e : End). goes_on e) same
      ∙ not-behind before (λ other. let clash : Apart ≡ Attached = sym is ∙ other in absurd cc)

  -- what goes on behind the Flow is what was to go on by it
  pub on-behind : (before : End) (told : Result (Option LinkFlow) RelayError) (after : End)
      → flows_at (standing_of (state_of before)) before (told_to_link flow named) told after
      → goes_on after ≡ sends_on_by before (said_of_link flow named)
  on-behind before told after t = on-at (standing_of (state_of before)) before told after refl t ∙ alike before

  -- as many messages are open
  open-flowed : (e : End) → open_count (Some (flowed e (told_to_link flow named))) ≡ open_count (Some e)
  open-flowed (Sender s) = by (is_attached s.base.local_state)
    where
      by : (b : Bool)
          → length (if b then record s { flow = sender_flowed s.flow (told_to_link flow named) } else
          s).messages.unsettled ≡ length s.messages.unsettled
      by true = refl
      by false = refl
  open-flowed (Receiver r) = refl

  open-at : (standing : Standing) (before : End) (told : Result (Option LinkFlow) RelayError) (after : End)
      → flows_at standing before (told_to_link flow named) told after
      → open_count (Some after) ≡ open_count (Some before)
  open-at Attached before told after (_, same) = ap (λ (e : End). open_count (Some e)) same ∙ open-flowed before
  open-at Detaching before told after (_, same) = ap (λ (e : End). open_count (Some e)) same
  open-at Apart before told after (_, same) = ap (λ (e : End). open_count (Some e)) same

  pub open-behind : (before : End) (told : Result (Option LinkFlow) RelayError) (after : End)
      → flows_at (standing_of (state_of before)) before (told_to_link flow named) told after
      → open_count (Some after) ≡ open_count (Some before)
  open-behind before told after t = open-at (standing_of (state_of before)) before told after t

-- a link of which something goes on is attached, so it hasn't ended
pub not-ended : (e : End) (number : ℕ) → goes_on e ≢ [] → ended (state_of e) number ≡ None
not-ended (Receiver r) number some = absurd (some refl)
not-ended (Sender s) number some = by s.base.local_state refl
  where
    by : (state : LinkState) → s.base.local_state ≡ state → ended state number ≡ None
    by state.Unattached is = refl
    by state.AttachSent is = refl
    by state.IncompleteAttachSent is = refl
    by state.AttachReceived is = refl
    by state.IncompleteAttachReceived is = refl
    by state.Attached is = refl
    by state.IncompleteAttachExchanged is = refl
    by state.DetachSent is = refl
    by state.Detached is = absurd (some (none-goes s (ap is_attached is)))
    by state.CloseSent is = refl
    by state.Closed is = absurd (some (none-goes s (ap is_attached is)))

-- no more go on than there is credit
all-on-few : (s : Sending) → length (all_on s) ≤ s.flow.link_credit
all-on-few s = by (is_attached s.base.local_state)
  where
    by : (b : Bool)
        → length (if b then going_on s.messages s.messages.waiting s.flow.link_credit else []) ≤ s.flow.link_credit
    by true = going-on-few s.messages s.messages.waiting s.flow.link_credit
    by false = omega arith

-- so there is credit for each
pub credit-for : (limit : ℕ) (handle : OutputHandle) (e : End) (batches : List Transfers) (all : Bool)
    → AreCutOn limit handle (goes_on e) batches all → HasCreditFor (length batches) e
credit-for limit handle (Sender s) batches all cut =
    let few : length batches ≤ length (all_on s) = cut-few limit handle (all_on s) batches all cut in
    omega (arith, few, all-on-few s)
credit-for limit handle (Receiver r) [] all cut = refl
credit-for limit handle (Receiver r) (batch ∷ batches) all (none, _) = absurd cc

-- each that goes on is open, and sent anew or resumed
all-on-are : (s : Sending) → All IsOn (all_on s)
all-on-are s = by (is_attached s.base.local_state)
  where
    by : (b : Bool)
        → All IsOn (if b then going_on s.messages s.messages.waiting s.flow.link_credit else [])
    by true = going-on-are s.messages s.messages.waiting s.flow.link_credit
    by false = All-nil IsOn

pub are-on : (e : End) (it : LinkFlow) → All IsOn (sends_on_by e it)
are-on (Sender s) it = all-on-are (flowed_sender s it)
are-on (Receiver r) it = All-nil IsOn

-- behind whatever waits there is room for a frame where there is room for as many as wait, and one more
module _ {T F : Type 0} where
  last-most : (count : ℕ) (us : List (Outbound T F)) → last_room (count + 1) us ≤ frames_count us + count
  last-most count [] = omega arith
  last-most count (u ∷ []) = omega arith
  last-most count (u ∷ v ∷ us) =
      let later : last_room (count + 1) (v ∷ us) ≤ frames_count (v ∷ us) + count = last-most count (v ∷ us) in
      omega (arith, later)

  units-most : (handle : ℕ) (queues : Queues T F) → frames_count (units_of handle queues) ≤ frames_in queues
  units-most handle [] = omega arith
  units-most handle (q ∷ queues) = by (q.0 == handle) (units-most handle queues)
    where
      by : (b : Bool) → frames_count (units_of handle queues) ≤ frames_in queues
          → frames_count (if b then q.1 else units_of handle queues) ≤ frames_count q.1 + frames_in queues
      by true later = omega arith
      by false later = omega (arith, later)

  pub room-most : (handle count : ℕ) (queues : Queues T F)
      → room_behind handle (count + 1) queues ≤ frames_in queues + count
  room-most handle count queues =
      omega (arith, last-most count (units_of handle queues), units-most handle queues)
