-- A link that took a Transfer, and as it stood before.
use Rattle.std.proofs.Common.{◌≡◌, ℕ, Bool, true, false, List, Ok, Err, refl, sym, ap, ◌∙◌, inl, inr}
use Rattle.std.specs.Prelude.{Result, ◌&&◌}
use Rattle.std.specs.declared.alloc.AllocError.{AllocError}
use Rattle.amqp_session_performatives.specs.declared.transfer.Transfer.{Transfer}
use Rattle.amqp_session_core.specs.declared.relay.RelayError.{RelayError}
use Rattle.amqp_session_core.specs.declared.relay.TransferAnswer.{TransferAnswer}
use Rattle.amqp_link_base.specs.State.{is_attached}
use Rattle.amqp_link_types.specs.declared.refusals.ReceiverTransferError.{ReceiverTransferError}
use Rattle.amqp_link_receiver.proofs.Refusing.{counts-alone}
use Rattle.amqp_link_receiver.specs.Flowing.{link_recounted}
use Rattle.amqp_link_receiver.specs.Foreseen.{completes, is_message}
use Rattle.amqp_link_receiver.specs.Incoming.{TakesTransfer}
use Rattle.amqp_link_receiver.specs.Receiving.{Receiving, received, recounted as end_recounted}
use Rattle.amqp_link_receiver.specs.State.{ReceiverState, attachment_of}
use Rattle.amqp_link_receiver.specs.declared.answer.Answer.{Answer}
use Rattle.amqp_link_receiver.specs.declared.answer.Message.{Message}
use Rattle.amqp_link_receiver.specs.declared.answer.Told.{Told}
use Rattle.amqp_link_receiver.specs.declared.answer.Told.TheVariants as tells
use Rattle.amqp_link.specs.Ends.{state_of}
use Rattle.amqp_link.specs.Gives.{answer_of, transfers_at}
use Rattle.amqp_link.specs.Standing.{standing_of}
use Rattle.amqp_link.specs.declared.end.End.{End}
use Rattle.amqp_link.specs.declared.end.End.TheVariants.{Receiver, Sender}
use Rattle.amqp_link.specs.declared.standing.Standing.{Standing}
use Rattle.amqp_link.specs.declared.standing.Standing.TheVariants.{Attached, Detaching, Apart}
use Rattle.amqp_endpoint_attached.specs.Linked.{gives}
use Rattle.amqp_endpoint_linking.specs.Linking.{Link}
use Rattle.amqp_endpoint_link_hearing.specs.Reached.{completes_by, counts_by, recounted}

-- what is told by an answer
abbrev told-in : Result Answer AllocError → Told
told-in (Ok a) = a.told
told-in (Err e) = tells.Nothing

abbrev told-by : Result (TransferAnswer Told) RelayError → Told
told-by (Ok a) = a.told
told-by (Err e) = tells.Nothing

no-message : (told : Told) (message : Message) → told ≡ tells.Dropped → told ≡ tells.Message message → ⊥
no-message told message is other = let clash : tells.Dropped ≡ tells.Message message = sym is ∙ other in absurd cc

no-refusal : (told : Told) (error : ReceiverTransferError) → told ≡ tells.Dropped → told ≡ tells.Refused error → ⊥
no-refusal told error is other = let clash : tells.Dropped ≡ tells.Refused error = sym is ∙ other in absurd cc

module _ (it : Transfer) (payload : List ℕ) (answer : TransferAnswer Told) where
  -- it tells of a message: that was to be foreseen
  receiver-completes : (attached : Bool) (r after : ReceiverState) → is_attached r.base.local_state ≡ attached
      → TakesTransfer attached r it payload (Ok (answer_of answer)) after
      → (message : Message) → answer.told ≡ tells.Message message → completes r it payload ≡ true
  receiver-completes false r after is (dropped, same) message tell =
      absurd (no-message answer.told message (ap told-in dropped) tell)
  receiver-completes true r after is (inl (memory, same), rest) message tell = absurd cc
  receiver-completes true r after is (inr (so, same), rest) message tell =
      let told : Told = (received (attachment_of r) r.end it payload).0.told in
      let same-told : answer.told ≡ told = ap told-in so in
      ap (λ (b : Bool). b && is_message told) is ∙ ap is_message (sym same-told ∙ tell)

  end-completes : (standing : Standing) (before after : End)
      → transfers_at standing before it payload (Ok answer) after
      → (message : Message) → answer.told ≡ tells.Message message → completes_by before it payload ≡ true
  end-completes Attached (Receiver r) (Receiver after) t message tell =
      receiver-completes (is_attached r.base.local_state) r after refl t message tell
  end-completes Attached (Receiver r) (Sender s) t message tell = absurd t
  end-completes Attached (Sender s) after t message tell = let clash = t.0 in absurd cc
  end-completes Detaching before after t message tell =
      absurd (no-message answer.told message (ap told-by t.0) tell)
  end-completes Apart before after t message tell = let clash = t.0 in absurd cc

  pub link-completes : (before after : Link) → gives.transfers before it payload (Ok answer) after
      → (message : Message) → answer.told ≡ tells.Message message → completes_by before.link it payload ≡ true
  link-completes before after t message tell =
      end-completes (standing_of (state_of before.link)) before.link after.link t.0 message tell

  -- it refuses it: with its counts of before it is as before
  receiver-back : (attached : Bool) (r after : ReceiverState)
      → TakesTransfer attached r it payload (Ok (answer_of answer)) after
      → (error : ReceiverTransferError) → answer.told ≡ tells.Refused error
      → link_recounted after r.end.flow.delivery_count r.end.flow.link_credit ≡ r
  receiver-back false r after (dropped, same) error tell =
      absurd (no-refusal answer.told error (ap told-in dropped) tell)
  receiver-back true r after (inl (memory, same), rest) error tell = absurd cc
  receiver-back true r after (inr (so, same), rest) error tell =
      let count = r.end.flow.delivery_count in
      let credit = r.end.flow.link_credit in
      let told : Told = (received (attachment_of r) r.end it payload).0.told in
      let same-told : answer.told ≡ told = ap told-in so in
      let law = counts-alone (attachment_of r) r.end it payload error (sym same-told ∙ tell) in
      ap (λ (s : ReceiverState). link_recounted s count credit) rest
      ∙ ap (λ (e : Receiving). record r { end = e })
      (ap (λ (e : Receiving). end_recounted e count credit) same ∙ law)

  end-back : (standing : Standing) (before after : End)
      → transfers_at standing before it payload (Ok answer) after
      → (error : ReceiverTransferError) → answer.told ≡ tells.Refused error
      → recounted (counts_by before) after ≡ before
  end-back Attached (Receiver r) (Receiver after) t error tell =
      ap (λ (s : ReceiverState). Receiver s)
      (receiver-back (is_attached r.base.local_state) r after t error tell)
  end-back Attached (Receiver r) (Sender s) t error tell = absurd t
  end-back Attached (Sender s) after t error tell = let clash = t.0 in absurd cc
  end-back Detaching before after t error tell =
      absurd (no-refusal answer.told error (ap told-by t.0) tell)
  end-back Apart before after t error tell = let clash = t.0 in absurd cc

  pub link-back : (before after : Link) → gives.transfers before it payload (Ok answer) after
      → (error : ReceiverTransferError) → answer.told ≡ tells.Refused error
      → record after { link = recounted (counts_by before.link) after.link } ≡ before
  link-back before after t error tell =
      ap (λ (e : End). record after { link = e })
      (end-back (standing_of (state_of before.link)) before.link after.link t.0 error tell)
      ∙ ap (λ (n : ℕ). record before { number = n }) t.1
