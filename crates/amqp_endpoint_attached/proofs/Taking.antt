-- What a link at rest that takes a peer's Attach comes to, and what refuses it.
use Rattle.std.proofs.Common.{◌≡◌, inl, inr, Bool, true, false, Option, Some, None, option_map, Result, Ok, Err}
use Rattle.std.proofs.Common.{refl, sym, ap, subst, ◌∙◌}
use Rattle.std.specs.Prelude.{IsOk, IsSome}
use Rattle.amqp_session_performatives.specs.declared.attach.Attach.{Attach}
use Rattle.amqp_link_types.specs.declared.attaching.ReceiverAttachError.{ReceiverAttachError}
use Rattle.amqp_link_types.specs.declared.attaching.ReceiverAttachError.TheVariants.{DesiredFilterNotSupported}
use Rattle.amqp_link_types.specs.declared.attaching.SenderAttachError.{SenderAttachError}
use Rattle.amqp_link_types.specs.declared.link_error.LinkError.{LinkError}
use Rattle.amqp_link_types.specs.declared.link_error.LinkError.TheVariants.{SenderAttach, ReceiverAttach}
use Rattle.amqp_link_base.specs.State.{after_incoming_attach, after_send_attach}
use Rattle.amqp_link_base.specs.Tests.{IsOfFilters}
use Rattle.amqp_link_base.specs.declared.state.LinkState.{LinkState}
use Rattle.amqp_link_base.specs.declared.state.LinkState.TheVariants.{Unattached, AttachSent, IncompleteAttachSent}
use Rattle.amqp_link_base.specs.declared.state.LinkState.TheVariants.{AttachReceived, IncompleteAttachReceived}
use Rattle.amqp_link_base.specs.declared.state.LinkState.TheVariants.{Attached, IncompleteAttachExchanged, DetachSent}
use Rattle.amqp_link_base.specs.declared.state.LinkState.TheVariants.{Detached, CloseSent, Closed}
use Rattle.amqp_link.specs.Ends.{state_of}
use Rattle.amqp_link.specs.Preparing.{IsFor, MayWantMemory, attach_planned, carried_out, left_by, receiver_planned}
use Rattle.amqp_link.specs.Preparing.{sender_planned}
use Rattle.amqp_link.specs.declared.end.End.{End}
use Rattle.amqp_link.specs.declared.end.End.TheVariants.{Sender, Receiver}
use Rattle.amqp_link.specs.declared.preparing.PreparedAttach.{PreparedAttach}
use Rattle.amqp_link.specs.declared.preparing.PreparedAttach.TheVariants as prepared
use Rattle.amqp_link.specs.declared.relay.AttachTold.TheVariants as told
use Rattle.amqp_link_receiver.proofs.Planning as receiver_planning
use Rattle.amqp_link_receiver.specs.Attaching as receiver
use Rattle.amqp_link_receiver.specs.State.{ReceiverState}
use Rattle.amqp_link_receiver.specs.declared.attaching.Attached.TheVariants as receiver_told
use Rattle.amqp_link_sender.proofs.Planning as sender_planning
use Rattle.amqp_link_sender.specs.Attaching as sender
use Rattle.amqp_link_sender.specs.Sending.{Sending}
use Rattle.amqp_link_sender.specs.declared.attaching.AttachAnswer.TheVariants as sender_told
use Rattle.amqp_endpoint_attached.proofs.Owned.{some_is}
use Rattle.amqp_endpoint_attached.specs.Answering.{Takes}
use Rattle.amqp_endpoint_attached.specs.Links.{is_at_rest}
use Rattle.amqp_endpoint_attached.specs.Refusals.{MayWant, TellsList, test_failed}

-- the state behind an Attach of the peer that comes at rest: the own one may be sent
record StandsBehind (state : LinkState) (incomplete : Bool) : Type 0 where
  pub next : LinkState
  pub is : after_incoming_attach state incomplete ≡ Some next
  pub may : IsSome (after_send_attach next false)

behind : (state : LinkState) (incomplete : Bool) → is_at_rest state ≡ true → StandsBehind state incomplete
behind Unattached false rest = record { next = AttachReceived; is = refl; may = refl }
behind Unattached true rest = record { next = IncompleteAttachReceived; is = refl; may = refl }
behind Detached false rest = record { next = AttachReceived; is = refl; may = refl }
behind Detached true rest = record { next = IncompleteAttachReceived; is = refl; may = refl }
behind AttachSent incomplete rest = absurd cc
behind IncompleteAttachSent incomplete rest = absurd cc
behind AttachReceived incomplete rest = absurd cc
behind IncompleteAttachReceived incomplete rest = absurd cc
behind Attached incomplete rest = absurd cc
behind IncompleteAttachExchanged incomplete rest = absurd cc
behind DetachSent incomplete rest = absurd cc
behind CloseSent incomplete rest = absurd cc
behind Closed incomplete rest = absurd cc

-- what is planned for a sending link where its state and its tests allow the Attach
record OfSender (r : Result sender.Plan SenderAttachError) (p : PreparedAttach) : Type 0 where
  pub plan : sender.Plan
  pub is : r ≡ Ok plan
  pub made : prepared.Sender plan ≡ p

of_sender : (r : Result sender.Plan SenderAttachError) (p : PreparedAttach) → sender_planned r ≡ Ok p → OfSender r p
of_sender (Ok plan) p e = let made : prepared.Sender plan ≡ p = cc in record { plan = plan; is = refl; made = made }
of_sender (Err error) p e = absurd cc

sender_passes : (o : Option LinkState) (e : Option SenderAttachError) (s : Sending) (attach : Attach)
    (plan : sender.Plan) → sender.planned_by o e s attach ≡ Ok plan → (e ≡ None) × (o ≡ Some plan.state)
sender_passes None e s attach plan plans = absurd cc
sender_passes (Some state) (Some error) s attach plan plans = absurd cc
sender_passes (Some state) None s attach plan plans =
    let same : sender.planned s state attach ≡ plan = cc in (refl, ap (λ (p : sender.Plan). Some p.state) same)

sender_fails : (o : Option LinkState) (e : Option SenderAttachError) (s : Sending) (attach : Attach)
    (error : LinkError) (next : LinkState) → o ≡ Some next → sender_planned (sender.planned_by o e s attach) ≡ Err error
    → option_map SenderAttach e ≡ Some error
sender_fails None e s attach error next is plans = absurd cc
sender_fails (Some state) (Some x) s attach error next is plans =
    let same : SenderAttach x ≡ error = cc in ap Some same
sender_fails (Some state) None s attach error next is plans = absurd cc

-- and for a receiving one
record OfReceiver (r : Result receiver.Plan ReceiverAttachError) (p : PreparedAttach) : Type 0 where
  pub plan : receiver.Plan
  pub is : r ≡ Ok plan
  pub made : prepared.Receiver plan ≡ p

of_receiver : (r : Result receiver.Plan ReceiverAttachError) (p : PreparedAttach) → receiver_planned r ≡ Ok p
    → OfReceiver r p
of_receiver (Ok plan) p e =
    let made : prepared.Receiver plan ≡ p = cc in record { plan = plan; is = refl; made = made }
of_receiver (Err error) p e = absurd cc

receiver_passes : (o : Option LinkState) (e : Option ReceiverAttachError) (s : ReceiverState) (attach : Attach)
    (plan : receiver.Plan) → receiver.planned_by o e s attach ≡ Ok plan → (e ≡ None) × (o ≡ Some plan.state)
receiver_passes None e s attach plan plans = absurd cc
receiver_passes (Some state) (Some error) s attach plan plans = absurd cc
receiver_passes (Some state) None s attach plan plans =
    let same : receiver.planned s state attach ≡ plan = cc in (refl, ap (λ (p : receiver.Plan). Some p.state) same)

receiver_fails : (o : Option LinkState) (e : Option ReceiverAttachError) (s : ReceiverState) (attach : Attach)
    (error : LinkError) (next : LinkState) → o ≡ Some next
    → receiver_planned (receiver.planned_by o e s attach) ≡ Err error → option_map ReceiverAttach e ≡ Some error
receiver_fails None e s attach error next is plans = absurd cc
receiver_fails (Some state) (Some x) s attach error next is plans =
    let same : ReceiverAttach x ≡ error = cc in ap Some same
receiver_fails (Some state) None s attach error next is plans = absurd cc

-- what a link at rest comes to by what was made ready for it
pub record Planned (link : End) (attach : Attach) (p : PreparedAttach) : Type 0 where
  pub passes : test_failed link attach ≡ None
  pub allows : IsSome (after_send_attach (state_of (carried_out link p)) false)
  pub made : IsFor link p
  pub takes : Takes link attach (left_by p) (carried_out link p)

pub planned : (link : End) (attach : Attach) (p : PreparedAttach) → is_at_rest (state_of link) ≡ true
    → attach_planned link attach ≡ Ok p → Planned link attach p
planned (Sender s) attach p rest plans =
    let of = of_sender (sender.attach_planned s attach) p plans in
    let by =
    sender_passes (after_incoming_attach s.base.local_state attach.incomplete_unsettled) (sender.attach_refusal s attach)
    s attach of.plan of.is in
    let b = behind s.base.local_state attach.incomplete_unsettled rest in
    let same = some_is b.next of.plan.state (sym b.is ∙ by.1) in
    subst (λ (x : PreparedAttach). Planned (Sender s) attach x) of.made
    (record {
      passes = ap (λ (o : Option SenderAttachError). option_map SenderAttach o) by.0;
      allows = subst (λ (state : LinkState). IsSome (after_send_attach state false)) same b.may;
      made = tt;
      takes =
          record {
            told = told.Sender (sender_told.Attached (sender.left_by of.plan));
            takes =
                sender_planning.taken s attach of.plan (sender.left_by of.plan) (sender.carried_out s of.plan) of.is
                refl refl;
            accepts = refl;
          };
    })
planned (Receiver s) attach p rest plans =
    let of = of_receiver (receiver.attach_planned s attach) p plans in
    let by =
    receiver_passes (after_incoming_attach s.base.local_state attach.incomplete_unsettled)
    (receiver.attach_error s attach) s attach of.plan of.is in
    let b = behind s.base.local_state attach.incomplete_unsettled rest in
    let same = some_is b.next of.plan.state (sym b.is ∙ by.1) in
    subst (λ (x : PreparedAttach). Planned (Receiver s) attach x) of.made
    (record {
      passes = ap (λ (o : Option ReceiverAttachError). option_map ReceiverAttach o) by.0;
      allows = subst (λ (state : LinkState). IsSome (after_send_attach state false)) same b.may;
      made = tt;
      takes =
          record {
            told = told.Receiver (receiver_told.Attached of.plan.exchange);
            takes =
                receiver_planning.taken s attach of.plan of.plan.exchange (receiver.carried_out s of.plan) of.is refl
                refl;
            accepts = refl;
          };
    })

-- it passes each test that a link at rest makes
pub taken_passes : (link : End) (attach : Attach) (p : PreparedAttach) → is_at_rest (state_of link) ≡ true
    → Ok p ≡ attach_planned link attach → test_failed link attach ≡ None
taken_passes link attach p rest plans = (planned link attach p rest (sym plans)).passes

-- one that the link refuses fails a test
pub fails : (link : End) (attach : Attach) (error : LinkError) → is_at_rest (state_of link) ≡ true
    → Err error ≡ attach_planned link attach → test_failed link attach ≡ Some error
fails (Sender s) attach error rest plans =
    let b = behind s.base.local_state attach.incomplete_unsettled rest in
    sender_fails (after_incoming_attach s.base.local_state attach.incomplete_unsettled) (sender.attach_refusal s attach)
    s attach error b.next b.is (sym plans)
fails (Receiver s) attach error rest plans =
    let b = behind s.base.local_state attach.incomplete_unsettled rest in
    receiver_fails (after_incoming_attach s.base.local_state attach.incomplete_unsettled)
    (receiver.attach_error s attach) s attach error b.next b.is (sym plans)

-- where there is no memory, it passes each test, or fails one that tells a list
sender_wants : (o : Option LinkState) (e : Option SenderAttachError) (s : Sending) (attach : Attach)
    → IsOk (sender.planned_by o e s attach) → MayWant (option_map SenderAttach e)
sender_wants None e s attach wants = let clash : false ≡ true = wants in absurd cc
sender_wants (Some state) (Some error) s attach wants = let clash : false ≡ true = wants in absurd cc
sender_wants (Some state) None s attach wants = inl refl

tells_list : (error : ReceiverAttachError) → IsOfFilters (Some error) → TellsList (Some (ReceiverAttach error))
tells_list (DesiredFilterNotSupported filters) wants = tt
tells_list error wants = absurd wants

receiver_wants : (o : Option LinkState) (e : Option ReceiverAttachError) (s : ReceiverState) (attach : Attach)
    (next : LinkState) → o ≡ Some next → receiver.MayWantMemory (receiver.planned_by o e s attach)
    → MayWant (option_map ReceiverAttach e)
receiver_wants None e s attach next is wants = absurd cc
receiver_wants (Some state) (Some error) s attach next is wants = inr (tells_list error wants)
receiver_wants (Some state) None s attach next is wants = inl refl

pub may_want : (link : End) (attach : Attach) → is_at_rest (state_of link) ≡ true → MayWantMemory link attach
    → MayWant (test_failed link attach)
may_want (Sender s) attach rest wants =
    sender_wants (after_incoming_attach s.base.local_state attach.incomplete_unsettled) (sender.attach_refusal s attach)
    s attach wants
may_want (Receiver s) attach rest wants =
    let b = behind s.base.local_state attach.incomplete_unsettled rest in
    receiver_wants (after_incoming_attach s.base.local_state attach.incomplete_unsettled)
    (receiver.attach_error s attach) s attach b.next b.is wants

pub ruleset rules = (taken_passes, fails, may_want)
