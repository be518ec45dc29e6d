-- Which receiving links wait for the peer's Attach: none that took it.
use Rattle.std.proofs.Common.{◌≡◌, ◌⊎◌, inl, inr, ℕ, Bool, true, false, Option, Some, None, Ok}
use Rattle.std.proofs.Common.{ap, refl, subst, sym, true≢false, ◌∙◌, if◌then◌else◌}
use Rattle.std.proofs.lemmas.Option.{none-some, same_Some}
use Rattle.std.specs.Prelude.{option_map}
use Rattle.amqp_session_types.specs.declared.handles.OutputHandle.{OutputHandle}
use Rattle.amqp_session_performatives.specs.declared.attach.Attach.{Attach}
use Rattle.amqp_link_types.specs.declared.attaching.ReceiverAttachError.{ReceiverAttachError}
use Rattle.amqp_link_base.specs.Flows.{attached as flow_attached}
use Rattle.amqp_link_base.specs.declared.inner.LinkFlowStateInner.{LinkFlowStateInner}
use Rattle.amqp_link_base.specs.State.{after_incoming_attach, after_send_attach}
use Rattle.amqp_link_base.specs.declared.state.LinkState.{LinkState}
use Rattle.amqp_link_base.specs.declared.state.LinkState.TheVariants as state
use Rattle.amqp_link_base.specs.Moves.{moved_to}
use Rattle.amqp_link_base.specs.declared.base.LinkBase.{LinkBase}
use Rattle.amqp_link.specs.Ends.{state_of, with_handle}
use Rattle.amqp_link.specs.Gives.{attaches}
use Rattle.amqp_link.specs.declared.end.End.{End}
use Rattle.amqp_link.specs.declared.end.End.TheVariants.{Receiver, Sender}
use Rattle.amqp_link.specs.declared.relay.AttachTold.{AttachTold}
use Rattle.amqp_link.specs.declared.relay.AttachTold.TheVariants as told
use Rattle.amqp_link_receiver.specs.Attaching.{TakesAttach, attach_error}
use Rattle.amqp_link_receiver.specs.State.{ReceiverState}
use Rattle.amqp_link_receiver.specs.declared.attaching.Attached.{Attached as AttachedTold}
use Rattle.amqp_link_receiver.specs.Deliveries.{Delivery}
use Rattle.amqp_link_sender.specs.Attaching as sending
use Rattle.amqp_link_sender.specs.Sending.{Sending}
use Rattle.amqp_endpoint_attached.specs.Links.{attach_sent, is_at_rest}
use Rattle.amqp_endpoint_laws.proofs.HoldingEnds.{Moves, Part, attach-moves, held_end, held_if, stands_so}

-- a link that takes the peer's Attach waits for it no longer
none-waits : (s : LinkState) (incomplete : Bool) → after_incoming_attach s incomplete ≡ None
    → stands_so s ≡ Some false → ⊥
none-waits state.AttachSent true is so = none-some _ (sym is)
none-waits state.AttachSent false is so = none-some _ (sym is)
none-waits state.IncompleteAttachSent true is so = none-some _ (sym is)
none-waits state.IncompleteAttachSent false is so = none-some _ (sym is)
none-waits state.Attached incomplete is so = true≢false (same_Some true false so)
none-waits state.IncompleteAttachExchanged incomplete is so = true≢false (same_Some true false so)
none-waits s incomplete is so = none-some _ so

moved-waits : (old new : LinkState) → Moves old new → stands_so new ≡ Some false → ⊥
moved-waits old new (inl (was, is)) so = true≢false (same_Some true false (sym is ∙ so))
moved-waits old new (inr apart) so = none-some _ (sym apart ∙ so)

taken-waits : (old new : ReceiverState) (attach : Attach) (answer : AttachedTold) (o : Option LinkState)
    (error : Option ReceiverAttachError)
    → after_incoming_attach old.base.local_state attach.incomplete_unsettled ≡ o
    → TakesAttach (option_map (λ (s : LinkState). moved_to old.base attach s) o) error old attach (Ok answer) new
    → stands_so new.base.local_state ≡ Some false → ⊥
taken-waits old new attach answer None error is t so =
    none-waits old.base.local_state attach.incomplete_unsettled is
    (sym (ap (λ (r : ReceiverState). stands_so r.base.local_state) t.1) ∙ so)
taken-waits old new attach answer (Some s) (Some e) is (inl t) so = let clash = t.1 in absurd cc
taken-waits old new attach answer (Some s) (Some e) is (inr t) so =
    moved-waits old.base.local_state s (attach-moves old.base.local_state s attach.incomplete_unsettled is)
    (sym (ap (λ (r : ReceiverState). stands_so r.base.local_state) t.1) ∙ so)
taken-waits old new attach answer (Some s) None is (inl t) so = let clash = t.0 in absurd cc
taken-waits old new attach answer (Some s) None is (inr t) so =
    moved-waits old.base.local_state s (attach-moves old.base.local_state s attach.incomplete_unsettled is)
    (sym (ap (λ (r : ReceiverState). stands_so r.base.local_state) t.1) ∙ so)

held-waits : (n : ℕ) (o : Option Bool) (h : Option Delivery) (k : ℕ) (held : Option Delivery)
    → held_if o n h ≡ Some (k, (false, held)) → o ≡ Some false
held-waits n None h k held is = absurd (none-some _ is)
held-waits n (Some attached) h k held is =
    ap (λ (x : ℕ × Part). Some x.1.0) (same_Some (n, (attached, h)) (k, (false, held)) is)

pub attached-waits : (n : ℕ) (e : End) (attach : Attach) (told : AttachTold) (new : End)
    → attaches e attach (Ok told) new → (k : ℕ) (held : Option Delivery)
    → held_end n new ≡ Some (k, (false, held)) → ⊥
attached-waits n (Sender s) attach (told.Sender answer) (Sender after) a k held is = none-some _ is
attached-waits n (Receiver r) attach (told.Receiver answer) (Receiver after) a k held is =
    taken-waits r after attach answer
    (after_incoming_attach r.base.local_state attach.incomplete_unsettled) (attach_error r attach) refl a
    (held-waits n (stands_so after.base.local_state) after.end.held k held is)
attached-waits n e attach told new a k held is = absurd a

-- a link at rest that answers the peer's Attach waits for none
received : (s t : LinkState) (incomplete : Bool) → is_at_rest s ≡ true → after_incoming_attach s incomplete ≡ Some t
    → (t ≡ state.AttachReceived) ⊎ (t ≡ state.IncompleteAttachReceived)
received state.Unattached t false new is = inl (sym (same_Some state.AttachReceived t is))
received state.Unattached t true new is = inr (sym (same_Some state.IncompleteAttachReceived t is))
received state.Detached t false new is = inl (sym (same_Some state.AttachReceived t is))
received state.Detached t true new is = inr (sym (same_Some state.IncompleteAttachReceived t is))
received s t false new is = absurd cc
received s t true new is = absurd cc

answered-so : (s t : LinkState) (incomplete : Bool)
    → (s ≡ state.AttachReceived) ⊎ (s ≡ state.IncompleteAttachReceived)
    → after_send_attach s incomplete ≡ Some t → stands_so t ≡ Some true
answered-so state.AttachReceived t false r is = ap stands_so (sym (same_Some state.Attached t is))
answered-so state.AttachReceived t true r is =
    ap stands_so (sym (same_Some state.IncompleteAttachExchanged t is))
answered-so state.IncompleteAttachReceived t false r is =
    ap stands_so (sym (same_Some state.IncompleteAttachExchanged t is))
answered-so state.IncompleteAttachReceived t true r is =
    ap stands_so (sym (same_Some state.IncompleteAttachExchanged t is))
answered-so s t incomplete (inl is) e = absurd cc
answered-so s t incomplete (inr is) e = absurd cc

none-unattached : (s : LinkState) (incomplete : Bool) → is_at_rest s ≡ true
    → after_incoming_attach s incomplete ≡ None → ⊥
none-unattached state.Unattached true fresh is = none-some _ (sym is)
none-unattached state.Unattached false fresh is = none-some _ (sym is)
none-unattached state.Detached true fresh is = none-some _ (sym is)
none-unattached state.Detached false fresh is = none-some _ (sym is)
none-unattached s incomplete fresh is = absurd cc

received-so : (s t : LinkState) → t ≡ s → (s ≡ state.AttachReceived) ⊎ (s ≡ state.IncompleteAttachReceived)
    → (t ≡ state.AttachReceived) ⊎ (t ≡ state.IncompleteAttachReceived)
received-so s t same (inl is) = inl (same ∙ is)
received-so s t same (inr is) = inr (same ∙ is)

-- it is attached: it was at rest, it took the peer's Attach, and sent its own
taken-received : (old new : ReceiverState) (attach : Attach) (answer : AttachedTold) (o : Option LinkState)
    (error : Option ReceiverAttachError) → is_at_rest old.base.local_state ≡ true
    → after_incoming_attach old.base.local_state attach.incomplete_unsettled ≡ o
    → TakesAttach (option_map (λ (s : LinkState). moved_to old.base attach s) o) error old attach (Ok answer) new
    → (new.base.local_state ≡ state.AttachReceived) ⊎ (new.base.local_state ≡ state.IncompleteAttachReceived)
taken-received old new attach answer None error fresh is t =
    absurd (none-unattached old.base.local_state attach.incomplete_unsettled fresh is)
taken-received old new attach answer (Some s) (Some e) fresh is (inl t) = let clash = t.1 in absurd cc
taken-received old new attach answer (Some s) (Some e) fresh is (inr t) =
    received-so s new.base.local_state (ap (λ (r : ReceiverState). r.base.local_state) t.1)
    (received old.base.local_state s attach.incomplete_unsettled fresh is)
taken-received old new attach answer (Some s) None fresh is (inl t) = let clash = t.0 in absurd cc
taken-received old new attach answer (Some s) None fresh is (inr t) =
    received-so s new.base.local_state (ap (λ (r : ReceiverState). r.base.local_state) t.1)
    (received old.base.local_state s attach.incomplete_unsettled fresh is)

sent-so : (r : ReceiverState) (flow : LinkFlowStateInner) (o : Option LinkState) (new : End)
    → ((s : LinkState) → o ≡ Some s → stands_so s ≡ Some true)
    → option_map (λ (r : ReceiverState). Receiver r)
    (option_map (λ (b : LinkBase). record r { base = b; end = record r.end { flow = flow } })
    (option_map (λ (s : LinkState). record r.base { local_state = s }) o)) ≡ Some new
    → stands_so (state_of new) ≡ Some true
sent-so r flow None new so is = absurd (none-some new is)
sent-so r flow (Some s) new so is =
    ap (λ (e : End). stands_so (state_of e))
    (sym (same_Some
    (Receiver (record r { base = record r.base { local_state = s }; end = record r.end { flow = flow } })) new is))
    ∙ so s refl

end-waits : (n : ℕ) (e : End) → stands_so (state_of e) ≡ Some true → (k : ℕ) (held : Option Delivery)
    → held_end n e ≡ Some (k, (false, held)) → ⊥
end-waits n (Sender s) so k held is = none-some _ is
end-waits n (Receiver r) so k held is =
    true≢false
    (same_Some true false
    (sym so ∙ held-waits n (stands_so r.base.local_state) r.end.held k held is))

-- a sending link holds nothing
abbrev IsSender : End → Type 0
IsSender (Sender s) = Unit {0}
IsSender (Receiver r) = ⊥

sender-sent : (o : Option Sending) (new : End) → option_map (λ (s : Sending). Sender s) o ≡ Some new → IsSender new
sender-sent None new is = absurd (none-some new is)
sender-sent (Some s) new is = subst IsSender (same_Some (Sender s) new is) tt

no-sender-waits : (n : ℕ) (e : End) → IsSender e → (k : ℕ) (held : Option Delivery)
    → held_end n e ≡ Some (k, (false, held)) → ⊥
no-sender-waits n (Sender s) so k held is = none-some _ is
no-sender-waits n (Receiver r) so k held is = absurd so

-- of one that is at rest
abbrev pub IsUnattached : End → Type 0
IsUnattached (Sender s) = Unit {0}
IsUnattached (Receiver r) = is_at_rest r.base.local_state ≡ true

pub unattached : (e : End) → is_at_rest (state_of e) ≡ true → IsUnattached e
unattached (Sender s) rests = tt
unattached (Receiver r) rests = rests

pub answer-waits : (n : ℕ) (e : End) (attach : Attach) (told : AttachTold) (taken new : End) (handle : OutputHandle)
    (incomplete : Bool) → IsUnattached e → attaches e attach (Ok told) taken
    → attach_sent (with_handle taken handle) incomplete ≡ Some new → (k : ℕ) (held : Option Delivery)
    → held_end n new ≡ Some (k, (false, held)) → ⊥
answer-waits n (Receiver r) attach (told.Receiver answer) (Receiver after) new handle incomplete fresh a sent k held
    waits =
    let taken =
    taken-received r after attach answer (after_incoming_attach r.base.local_state attach.incomplete_unsettled)
    (attach_error r attach) fresh refl a in
    let so : stands_so (state_of new) ≡ Some true =
    sent-so (record after { base = record after.base { output_handle = Some handle } })
    (flow_attached after.end.flow after.end.flow.initial_delivery_count)
    (after_send_attach after.base.local_state incomplete) new
    (λ s e. answered-so after.base.local_state s incomplete taken e) sent in
    end-waits n new so k held waits
answer-waits n (Sender s) attach (told.Sender answer) (Sender after) new handle incomplete fresh a sent k held waits =
    no-sender-waits n new
    (sender-sent
    (sending.attach_sent (record after { base = record after.base { output_handle = Some handle } }) incomplete) new
    sent)
    k held waits
answer-waits n e attach told taken new handle incomplete fresh a sent k held waits = absurd a
