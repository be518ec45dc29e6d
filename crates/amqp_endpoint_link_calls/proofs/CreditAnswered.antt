-- A link that answered one of the peer's has credit for what it sends on by what was kept of a Flow.
use Rattle.std.proofs.Common.{◌≡◌, inl, inr, ◌≤◌, ℕ, Bool, true, false, List, Option, Some, None, Ok}
use Rattle.std.proofs.Common.{if◌then◌else◌, length, option_map, arith, refl, sym, ap, subst, ◌∙◌}
use Rattle.std.specs.Prelude.{All}
use Rattle.std.proofs.lemmas.List.Elements.{All-nil}
use Rattle.amqp_session_types.specs.declared.handles.OutputHandle.{OutputHandle}
use Rattle.amqp_session_performatives.specs.declared.attach.Attach.{Attach}
use Rattle.amqp_session_performatives.specs.declared.link_flow.LinkFlow.{LinkFlow}
use Rattle.amqp_link_types.specs.declared.attaching.SenderAttachError.{SenderAttachError}
use Rattle.amqp_link_base.specs.Flows.{attached, sender_credit, sender_flowed, sender_with}
use Rattle.amqp_link_base.specs.Moves.{moved_to}
use Rattle.amqp_link_base.specs.Properties.{Properties}
use Rattle.amqp_link_base.specs.State.{after_incoming_attach, after_send_attach, is_attached}
use Rattle.amqp_link_base.specs.declared.base.LinkBase.{LinkBase}
use Rattle.amqp_link_base.specs.declared.inner.LinkFlowStateInner.{LinkFlowStateInner}
use Rattle.amqp_link_base.specs.declared.state.LinkState.{LinkState}
use Rattle.amqp_link_base.specs.declared.state.LinkState.TheVariants.{Unattached, AttachSent, IncompleteAttachSent}
use Rattle.amqp_link_base.specs.declared.state.LinkState.TheVariants.{AttachReceived, IncompleteAttachReceived}
use Rattle.amqp_link_base.specs.declared.state.LinkState.TheVariants.{Attached, IncompleteAttachExchanged, DetachSent}
use Rattle.amqp_link_base.specs.declared.state.LinkState.TheVariants.{Detached, CloseSent, Closed}
use Rattle.amqp_link_receiver.specs.Attaching as receiver
use Rattle.amqp_link_receiver.specs.State.{ReceiverState}
use Rattle.amqp_link_sender.specs.Attaching as sender
use Rattle.amqp_link_sender.specs.Sending.{Sending}
use Rattle.amqp_link_sender.specs.declared.attaching.AttachAnswer.{AttachAnswer}
use Rattle.amqp_link_sender.specs.declared.attaching.AttachAnswer.TheVariants as sender_told
use Rattle.amqp_link_sender.specs.declared.attaching.Attaching.{Attaching}
use Rattle.amqp_link.specs.Ends.{flowed, state_of, with_handle}
use Rattle.amqp_link.specs.Gives.{attaches}
use Rattle.amqp_link.specs.GoingOn.{HasCreditFor, sends_on_behind}
use Rattle.amqp_link.specs.declared.end.End.{End}
use Rattle.amqp_link.specs.declared.end.End.TheVariants.{Sender, Receiver}
use Rattle.amqp_link.specs.declared.preparing.PreparedAttach.{PreparedAttach}
use Rattle.amqp_link.specs.declared.preparing.PreparedAttach.TheVariants as prepared
use Rattle.amqp_link.specs.declared.relay.AttachTold.{AttachTold}
use Rattle.amqp_link.specs.declared.relay.AttachTold.TheVariants as told
use Rattle.amqp_endpoint_attached.specs.Answering.{Exchanges}
use Rattle.amqp_endpoint_attached.specs.Links.{attach_sent, is_at_rest}
use Rattle.amqp_endpoint_attached.specs.Refusals.{outcome}
use Rattle.amqp_endpoint_attached.proofs.Owned.{some_is}
use Rattle.amqp_endpoint_links.specs.declared.links.AskedLink.{AskedLink}
use Rattle.amqp_endpoint_messages.specs.GoingOn.{flowed_by, on_planned}
use Rattle.amqp_endpoint_messages.specs.SendingOn.{AreReadyOn, IsOn}
use Rattle.amqp_endpoint_messages.specs.declared.going_on.OnReady.{OnReady}
use Rattle.amqp_endpoint_messages.proofs.GoesOn.{cut-few, going-on-are, going-on-few}

-- where the peer's Attach leads a link at rest
abbrev IsReceived : LinkState → Type 0
IsReceived AttachReceived = Unit {0}
IsReceived IncompleteAttachReceived = Unit {0}
IsReceived state = ⊥

received : (state : LinkState) (incomplete : Bool) (next : LinkState) → is_at_rest state ≡ true
    → after_incoming_attach state incomplete ≡ Some next → IsReceived next
received Unattached false next rest is = subst IsReceived (some_is AttachReceived next is) tt
received Unattached true next rest is = subst IsReceived (some_is IncompleteAttachReceived next is) tt
received Detached false next rest is = subst IsReceived (some_is AttachReceived next is) tt
received Detached true next rest is = subst IsReceived (some_is IncompleteAttachReceived next is) tt
received AttachSent incomplete next rest is = absurd cc
received IncompleteAttachSent incomplete next rest is = absurd cc
received AttachReceived incomplete next rest is = absurd cc
received IncompleteAttachReceived incomplete next rest is = absurd cc
received Attached incomplete next rest is = absurd cc
received IncompleteAttachExchanged incomplete next rest is = absurd cc
received DetachSent incomplete next rest is = absurd cc
received CloseSent incomplete next rest is = absurd cc
received Closed incomplete next rest is = absurd cc

-- and the own one behind that
sent : (next : LinkState) (incomplete : Bool) (last : LinkState) → IsReceived next
    → after_send_attach next incomplete ≡ Some last → is_attached last ≡ true
sent AttachReceived false last there is = ap is_attached (sym (some_is Attached last is))
sent AttachReceived true last there is = ap is_attached (sym (some_is IncompleteAttachExchanged last is))
sent IncompleteAttachReceived false last there is = ap is_attached (sym (some_is IncompleteAttachExchanged last is))
sent IncompleteAttachReceived true last there is = ap is_attached (sym (some_is IncompleteAttachExchanged last is))
sent Unattached incomplete last there is = absurd there
sent Detached incomplete last there is = absurd there
sent AttachSent incomplete last there is = absurd there
sent IncompleteAttachSent incomplete last there is = absurd there
sent Attached incomplete last there is = absurd there
sent IncompleteAttachExchanged incomplete last there is = absurd there
sent DetachSent incomplete last there is = absurd there
sent CloseSent incomplete last there is = absurd there
sent Closed incomplete last there is = absurd there

-- a sender that took the peer's Attach
record TakenOver (s after : Sending) : Type 0 where
  state : IsReceived after.base.local_state
  flow : after.flow ≡ record s.flow { properties = after.flow.properties }

module _ (s : Sending) (attach : Attach) (made : Attaching) (after : Sending) where
  abbrev answer : AttachAnswer
  answer = sender_told.Attached made

  tested : (next : LinkState) (failed : Option SenderAttachError) → IsReceived next
      → sender.TakesTested failed (moved_to s.base attach next) s attach (Ok answer) after → TakenOver s after
  tested next (Some error) there (is, same) = absurd cc
  tested next None there (inl (is, same)) = absurd cc
  tested next None there (inr (is, taken)) =
      record {
        state = subst (λ (x : Sending). IsReceived x.base.local_state) (sym taken) there;
        flow =
            subst (λ (x : Sending). x.flow ≡ record s.flow { properties = x.flow.properties }) (sym taken) refl;
      }

  moved : (next : Option LinkState) → ((state : LinkState) → next ≡ Some state → IsReceived state)
      → sender.TakesMoved (option_map (λ (state : LinkState). moved_to s.base attach state) next) s attach (Ok answer)
      after
      → TakenOver s after
  moved None there (is, same) = absurd cc
  moved (Some next) there takes = tested next (sender.attach_refusal s attach) (there next refl) takes

  taken-over : is_at_rest s.base.local_state ≡ true → sender.TakesAttach s attach (Ok answer) after
      → TakenOver s after
  taken-over rest takes =
      moved (after_incoming_attach s.base.local_state attach.incomplete_unsettled)
      (λ state is. received s.base.local_state attach.incomplete_unsettled state rest is) takes

-- which has its own Attach sent
record IsSent (after : Sending) (becomes : End) : Type 0 where
  end : Sending
  is : becomes ≡ Sender end
  state : is_attached end.base.local_state ≡ true
  flow : end.flow ≡ attached after.flow after.flow.delivery_count

-- under its own handle
abbrev named : Sending → OutputHandle → Sending
named after handle = record after { base = record after.base { output_handle = Some handle } }

abbrev attached_as : Sending → OutputHandle → LinkState → Sending
attached_as after handle last =
    sender.with_attach_sent (named after handle) (record (named after handle).base { local_state = last })

is-sent : (after : Sending) (handle : OutputHandle) (incomplete : Bool) (becomes : End)
    → IsReceived after.base.local_state → attach_sent (with_handle (Sender after) handle) incomplete ≡ Some becomes
    → IsSent after becomes
is-sent after handle incomplete becomes there is = by (after_send_attach after.base.local_state incomplete) refl is
  where
    by : (o : Option LinkState) → after_send_attach after.base.local_state incomplete ≡ o
        → option_map Sender
        (option_map (λ (b : LinkBase). sender.with_attach_sent (named after handle) b)
        (option_map (λ (state : LinkState). record (named after handle).base { local_state = state }) o))
        ≡ Some becomes
        → IsSent after becomes
    by None leads is = absurd cc
    by (Some last) leads is =
        record {
          end = attached_as after handle last;
          is = sym (some_is (Sender (attached_as after handle last)) becomes is);
          state = sent after.base.local_state incomplete last there leads;
          flow = refl;
        }

-- its credit is that of the Flow, whatever its properties
module _ (f : LinkFlowStateInner) (p : Option Properties) (flow : LinkFlow) where
  abbrev first : LinkFlowStateInner
  first = attached f f.delivery_count

  abbrev now : LinkFlowStateInner
  now = attached (record f { properties = p }) f.delivery_count

  credit-told : (credit : Option ℕ) → sender_credit now flow.delivery_count credit
      ≡ sender_credit first flow.delivery_count credit
  credit-told None = refl
  credit-told (Some credit) = refl

  credit-with : (drain : Bool) (credit : ℕ) → (sender_with now drain credit).link_credit
      ≡ (sender_with first drain credit).link_credit
  credit-with true credit = refl
  credit-with false credit = refl

  same-credit : (sender_flowed now flow).link_credit ≡ (sender_flowed first flow).link_credit
  same-credit =
      ap (λ (credit : ℕ). (sender_with now flow.drain credit).link_credit) (credit-told flow.link_credit)
      ∙ credit-with flow.drain (sender_credit first flow.delivery_count flow.link_credit)

-- so a sender has credit for what goes on
sender-few : (n : ℕ) (s : Sending) (plan : PreparedAttach) (flow : LinkFlow)
    → n ≤ length (sends_on_behind (Sender s) plan flow)
    → n ≤ (sender_flowed (attached s.flow s.flow.delivery_count) flow).link_credit
sender-few n s (prepared.Sender plan) flow few =
    omega (
      arith,
      few,
      going-on-few s.messages plan.messages.waiting
          (sender_flowed (attached s.flow s.flow.delivery_count) flow).link_credit,
    )
sender-few n s (prepared.Receiver plan) flow few = omega (arith, few)

sender-credit : (n : ℕ) (s after : Sending) (becomes : End) (flow : LinkFlow) → TakenOver s after
    → IsSent after becomes → n ≤ (sender_flowed (attached s.flow s.flow.delivery_count) flow).link_credit
    → HasCreditFor n (flowed becomes flow)
sender-credit n s after becomes flow t sent few =
    let Credits : LinkFlowStateInner → Type 0 = λ f. n ≤ (sender_flowed f flow).link_credit in
    let own : Credits (attached (record s.flow { properties = after.flow.properties }) s.flow.delivery_count) =
    subst (λ (credit : ℕ). n ≤ credit) (sym (same-credit s.flow after.flow.properties flow)) few in
    let its : Credits sent.end.flow =
    subst Credits (sym sent.flow)
    (subst (λ (f : LinkFlowStateInner). Credits (attached f f.delivery_count)) (sym t.flow) own) in
    subst (λ (e : End). HasCreditFor n (flowed e flow)) (sym sent.is)
    (subst
    (λ (b : Bool).
    n ≤ (if b then record sent.end { flow = sender_flowed sent.end.flow flow } else sent.end).flow.link_credit)
    (sym sent.state) its)

-- a receiver sends nothing on
receiver-credit : (n : ℕ) (o : Option ReceiverState) (becomes : End) (flow : LinkFlow)
    → option_map Receiver o ≡ Some becomes → n ≤ 0 → HasCreditFor n (flowed becomes flow)
receiver-credit n None becomes flow is few = absurd cc
receiver-credit n (Some r) becomes flow is few =
    subst (λ (e : End). HasCreditFor n (flowed e flow)) (some_is (Receiver r) becomes is) (omega (arith, few))

module _ (n : ℕ) (attach : Attach) (handle : OutputHandle) (incomplete : Bool) (attaching : Attaching) (becomes : End)
    (plan : PreparedAttach) (flow : LinkFlow) where
  sender-answered : (s : Sending) (answer : AttachAnswer) (after : Sending) → is_at_rest s.base.local_state ≡ true
      → sender.TakesAttach s attach (Ok answer) after → outcome (told.Sender answer) ≡ Ok attaching
      → attach_sent (with_handle (Sender after) handle) incomplete ≡ Some becomes
      → n ≤ length (sends_on_behind (Sender s) plan flow) → HasCreditFor n (flowed becomes flow)
  sender-answered s (sender_told.Refused error) after rest takes accepts sent few = absurd cc
  sender-answered s (sender_told.Attached made) after rest takes accepts sent few =
      let t : TakenOver s after = taken-over s attach made after rest takes in
      sender-credit n s after becomes flow t (is-sent after handle incomplete becomes t.state sent)
      (sender-few n s plan flow few)

  answered : (link : End) (it : AttachTold) (taken : End) → is_at_rest (state_of link) ≡ true
      → attaches link attach (Ok it) taken → outcome it ≡ Ok attaching
      → attach_sent (with_handle taken handle) incomplete ≡ Some becomes
      → n ≤ length (sends_on_behind link plan flow) → HasCreditFor n (flowed becomes flow)
  answered (Sender s) (told.Sender answer) (Sender after) rest takes accepts sent few =
      sender-answered s answer after rest takes accepts sent few
  answered (Receiver r) (told.Receiver answer) (Receiver after) rest takes accepts sent few =
      receiver-credit n
      (receiver.attach_sent (record after { base = record after.base { output_handle = Some handle } }) incomplete)
      becomes flow sent few
  answered (Sender s) (told.Sender answer) (Receiver after) rest takes accepts sent few = absurd takes
  answered (Sender s) (told.Receiver answer) taken rest takes accepts sent few = absurd takes
  answered (Receiver r) (told.Receiver answer) (Sender after) rest takes accepts sent few = absurd takes
  answered (Receiver r) (told.Sender answer) taken rest takes accepts sent few = absurd takes

-- of no messages there are no batches
none-credit : (n : ℕ) (e : End) → n ≡ 0 → HasCreditFor n e
none-credit n (Sender s) none = omega (arith, none)
none-credit n (Receiver r) none = none

module _ (limit : ℕ) (link : End) (asked : AskedLink) (handle : OutputHandle) (attaching : Attaching) (own : Attach)
    (becomes : End) (rest : is_at_rest (state_of link) ≡ true)
    (exchanges : Exchanges limit link asked handle attaching own becomes) (plan : PreparedAttach) where
  -- it has credit for what was made ready
  pub credit-answered : (kept : Option LinkFlow) (named : OutputHandle) (on : OnReady)
      → AreReadyOn limit named (on_planned link (Ok plan) kept) on.sending
      → HasCreditFor (length on.sending.batches.items) (flowed_by kept becomes)
  credit-answered None named on ready =
      none-credit (length on.sending.batches.items) becomes (ap (λ (l : List _). length l) ready.cut.0)
  credit-answered (Some flow) named on ready =
      answered (length on.sending.batches.items) asked.attach handle own.incomplete_unsettled exchanges.left becomes plan flow
      link (exchanges.takes).told exchanges.taken rest (exchanges.takes).takes (exchanges.takes).accepts exchanges.sent
      (cut-few limit named (sends_on_behind link plan flow) on.sending.batches.items on.sending.all_fit ready.cut)

-- each message that goes on is open
pub on-planned-are : (link : End) (plan : PreparedAttach) (kept : Option LinkFlow)
    → All IsOn (on_planned link (Ok plan) kept)
on-planned-are link plan None = All-nil IsOn
on-planned-are (Sender s) (prepared.Sender plan) (Some flow) =
    going-on-are s.messages plan.messages.waiting
    (sender_flowed (attached s.flow s.flow.delivery_count) flow).link_credit
on-planned-are (Sender s) (prepared.Receiver plan) (Some flow) = All-nil IsOn
on-planned-are (Receiver r) plan (Some flow) = All-nil IsOn
