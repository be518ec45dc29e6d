-- Why no message is sent: of a larger one by 2^32 bytes, and by the first reason that holds.
use Rattle.std.proofs.Common.{◌≡◌, ◌≢◌, ◌⊎◌, inl, inr, ℕ, ◌≤◌, ◌<◌, ◌^◌, min, Bool, true, false, not, ◌&&◌, ◌||◌, ◌==◌}
use Rattle.std.proofs.Common.{nat_le, nat_lt, if◌then◌else◌, List, length, Option, Some, None, is_some, refl, sym, ap}
use Rattle.std.proofs.Common.{◌∙◌, arith, le-leb, ltb-true, ltb-false}
use Rattle.amqp_session_types.specs.declared.handles.OutputHandle.{OutputHandle}
use Rattle.amqp_link_sender.specs.declared.sending.SendRefusal.{SendRefusal}
use Rattle.amqp_link_sender.specs.declared.sending.SendRefusal.TheVariants as link
use Rattle.amqp_link_sender.specs.Sends.{is_too_large, takes_messages}
use Rattle.amqp_link_unsettled.specs.Messages.{open_at}
use Rattle.amqp_link.specs.declared.end.End.{End}
use Rattle.amqp_link.specs.declared.end.End.TheVariants.{Sender, Receiver}
use Rattle.amqp_endpoint_model.specs.declared.error.EndpointError.{EndpointError}
use Rattle.amqp_endpoint_model.specs.declared.error.EndpointError.TheVariants.{FrameTooLarge, Memory}
use Rattle.amqp_endpoint_attached.specs.Linked.{LinksIn, end_in}
use Rattle.amqp_endpoint_messages.specs.Sending.{Message, RefusesSend, behind_link, has_free_number, link_refusal}
use Rattle.amqp_endpoint_messages.specs.Sending.{send_refusal}

-- 2^32 bytes stand for as many or more
or_true : (a : Bool) → (a || true) ≡ true
or_true true = refl
or_true false = refl

whole : (maximum n : ℕ) → nat_le (2 ^ 32) n ≡ true → is_too_large maximum n ≡ true
whole maximum n e =
    ap (λ (b : Bool). (not (maximum == 0) && nat_lt maximum n) || b) e
    ∙ or_true (not (maximum == 0) && nat_lt maximum n)

large : (maximum n : ℕ) → is_too_large maximum (min n (2 ^ 32)) ≡ is_too_large maximum n
large maximum n = by (nat_lt n (2 ^ 32)) refl
  where
    by : (b : Bool) → nat_lt n (2 ^ 32) ≡ b → is_too_large maximum (min n (2 ^ 32)) ≡ is_too_large maximum n
    by true e =
        let below : n < 2 ^ 32 = ltb-true n (2 ^ 32) e in
        let same : min n (2 ^ 32) ≡ n = omega (arith, below) in
        ap (λ (k : ℕ). is_too_large maximum k) same
    by false e =
        let above : 2 ^ 32 ≤ n = ltb-false n (2 ^ 32) e in
        whole maximum (min n (2 ^ 32)) (le-leb (2 ^ 32) (min n (2 ^ 32)) (omega (arith, above)))
        ∙ sym (whole maximum n (le-leb (2 ^ 32) n above))

end-capped : (end : Option End) (tag : List ℕ) (n : ℕ) → link_refusal end tag (min n (2 ^ 32)) ≡ link_refusal end tag n
end-capped None tag n = refl
end-capped (Some (Receiver r)) tag n = refl
end-capped (Some (Sender s)) tag n =
    ap
    (λ (b : Bool).
    if not (takes_messages s.base.local_state) || is_some (open_at s.messages tag) then Some link.IllegalState
    else if b then Some link.MessageTooLarge
    else if s.flow.link_credit == 0 then Some link.CreditMissing
    else None)
    (large s.base.terms.max_message_size n)

pub capped : (s : LinksIn) (handle : OutputHandle) (tag : List ℕ) (n : ℕ)
    → send_refusal s handle tag (min n (2 ^ 32)) ≡ send_refusal s handle tag n
capped s handle tag n =
    ap (λ (o : Option SendRefusal). behind_link o (has_free_number s)) (end-capped (end_in s handle) tag n)

-- it is the first reason, or where there is none, want of memory
pub first-refused : (limit : ℕ) (s : LinksIn) (handle : OutputHandle) (m : Message) (e : EndpointError)
    → e ≢ FrameTooLarge → RefusesSend limit s handle m e
    → (send_refusal s handle m.tag (length m.payload) ≡ Some e)
    ⊎ ((e ≡ Memory) × (send_refusal s handle m.tag (length m.payload) ≡ None))
first-refused limit s handle m Memory fits none = inr (refl, none)
first-refused limit s handle m FrameTooLarge fits why = absurd (fits refl)
first-refused limit s handle m e fits why = inl why
