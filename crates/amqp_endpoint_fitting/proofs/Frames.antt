-- Frames that fit whatever numbers they say.
use Rattle.std.proofs.Common.{◌≡◌, ℕ, ◌+◌, ◌≤◌, ◌<◌, Bool, true, false, List, [], ◌∷◌, ◌++◌, length, refl, sym, ap, arith, subst, Option, Some, None, append-nil}
use Rattle.std.specs.Prelude.{nat_lt, nat_le, ◌^◌, IfSome}
use Rattle.std.specs.Int.{w16, w32, to_be_bytes}
use Rattle.std.specs.Str.{is_utf8, chars}
use Rattle.std.specs.Char.{encode_utf8}
use Rattle.std.proofs.lemmas.Bool.Decides.{nat_tests}
use Rattle.std.proofs.lemmas.List.{length-append}
use Rattle.serde_amqp_item.specs.Item.{Item, scalar, boolean, ushort, uint, ulong, string}
use Rattle.serde_amqp_item.specs.Record.{option_item}
use Rattle.serde_amqp_item.specs.Canon.{◌>>=◌, canon}
use Rattle.serde_amqp_de.specs.Takes.{or_null, is_boolean, is_uint}
use Rattle.amqp_session_types.specs.Error.{error_fields, error_item}
use Rattle.amqp_session_types.specs.Fields.{named_values_item, symbols_item}
use Rattle.amqp_session_types.specs.Modes.{role_item}
use Rattle.amqp_session_types.specs.declared.error.Error.{Error}
use Rattle.amqp_session_types.specs.declared.handles.Handle.{Handle}
use Rattle.amqp_session_types.specs.declared.modes.Role.{Role}
use Rattle.amqp_session_types.specs.declared.modes.Role.TheVariants.{Sender, Receiver}
use Rattle.amqp_session_states.specs.DeliveryState.{delivery_state_item}
use Rattle.amqp_session_states.specs.declared.delivery_state.DeliveryState.{DeliveryState}
use Rattle.amqp_session_states.specs.declared.delivery_state.DeliveryState.TheVariants.{Accepted, Released}
use Rattle.amqp_session_performatives.specs.Begin.{begin_fields, begin_item}
use Rattle.amqp_session_performatives.specs.Detach.{detach_fields, detach_item}
use Rattle.amqp_session_performatives.specs.Disposition.{disposition_fields, disposition_item}
use Rattle.amqp_session_performatives.specs.End.{end_fields, end_item}
use Rattle.amqp_session_performatives.specs.Flow.{flow_fields, flow_item}
use Rattle.amqp_session_performatives.specs.Parts.{handle_item}
use Rattle.amqp_session_performatives.specs.declared.begin.Begin.{Begin}
use Rattle.amqp_session_performatives.specs.declared.detach.Detach.{Detach}
use Rattle.amqp_session_performatives.specs.declared.disposition.Disposition.{Disposition}
use Rattle.amqp_session_performatives.specs.declared.end.End.{End}
use Rattle.amqp_session_performatives.specs.declared.flow.Flow.{Flow}
use Rattle.amqp_session_performatives.specs.declared.session_frame.SessionFrameBody.{SessionFrameBody}
use Rattle.amqp_session_performatives.specs.declared.session_frame.SessionFrameBody.TheVariants as body
use Rattle.amqp_session_frames.specs.Cutting.{with_size}
use Rattle.amqp_session_frames.specs.Text.{frame_text, body_text, piece_text, sized_text}
use Rattle.amqp_session_frames.specs.declared.frame.Frame.{Frame}
use Rattle.amqp_endpoint_model.specs.State.{fits, text_fits, frame_of, body_of, error_of}
use Rattle.amqp_endpoint_model.specs.Step.{not_allowed}
use Rattle.amqp_endpoint_fitting.specs.Plain.{IsUint, MayBeUint, IsPlainBegin, IsPlainDetach, IsPlainDisposition}
use Rattle.amqp_endpoint_fitting.specs.Plain.{IsPlainEnd, IsPlainFlow, IsPlainState, SaysConditionAlone}
use Rattle.amqp_endpoint_fitting.specs.Plain.{handle_in_use, message_size_exceeded, transfer_limit_exceeded}
use Rattle.amqp_endpoint_fitting.specs.Plain.{unattached_handle}
use Rattle.amqp_endpoint_fitting.proofs.Texts.{Within, this, either, made, not_below, Short, short, null-short}
use Rattle.amqp_endpoint_fitting.proofs.Texts.{ushort-short, uint-short, boolean-short, symbol-short}
use Rattle.amqp_endpoint_fitting.proofs.Fields.{no_fields, field, option-short, default-short, record-short}

fits_text : (limit : ℕ) (text : Option (List ℕ)) → Within limit text → text_fits limit text ≡ true
fits_text limit text w =
    let P : Option (List ℕ) → Type 0 = λ o. text_fits limit o ≡ true in
    subst P (sym w.is) (most_is w.bytes w.short)
  where
    most_is : (bytes : List ℕ) → length bytes ≤ limit → nat_le (length bytes) limit ≡ true
    most_is bytes short = grind (arith, nat_tests)

fits_more : (limit : ℕ) (text : Option (List ℕ)) → 512 ≤ limit → text_fits 512 text ≡ true
    → text_fits limit text ≡ true
fits_more limit None least fit = fit
fits_more limit (Some text) least fit = grind (arith, nat_tests)

-- what fits the least limit fits a larger one
pub larger_fits : (limit : ℕ) (f : Frame) → 512 ≤ limit → fits 512 f ≡ true → fits limit f ≡ true
larger_fits limit f least fit = fits_more limit (frame_text f) least fit

sized-within : (piece : List ℕ) (most : ℕ) → length piece ≤ most → most ≤ 508 → Within 512 (sized_text piece)
sized-within piece most short few =
    either 512 (nat_lt (4 + length piece) (2 ^ 32)) _ _
    (λ e. this 512 (with_size piece)
    (omega (arith, short, few, length-append (to_be_bytes w32 (4 + length piece)) piece)))
    (λ e. absurd (not_below (4 + length piece) (2 ^ 32) (omega (arith, short, few)) e))

-- a frame has eight bytes more than its body (part 2, 2.3.1)
frame-fits : (channel most : ℕ) (said : SessionFrameBody) → most ≤ 504 → Within most (body_text (body_of said))
    → fits 512 (frame_of (record { channel = channel; body = said })) ≡ true
frame-fits channel most said few w =
    let pieced : Within (most + 4) (piece_text (frame_of (record { channel = channel; body = said }))) =
    made most (most + 4) (body_text (body_of said)) (λ c. Some (2 ∷ 0 ∷ (to_be_bytes w16 channel ++ c))) w
    (λ c short. this (most + 4) (2 ∷ 0 ∷ (to_be_bytes w16 channel ++ c)) (omega (arith, short))) in
    fits_text 512 _ (made (most + 4) 512 (piece_text (frame_of (record { channel = channel; body = said }))) sized_text
    pieced (λ p short. sized-within p (most + 4) short (omega (arith, few))))

-- a performative without a payload
body-within : (most : ℕ) (text : Option (List ℕ)) → Within most text → Within most (text >>= λ t. Some (t ++ []))
body-within most text w =
    made most most text (λ t. Some (t ++ [])) w
    (λ t short. this most (t ++ []) (omega (arith, short, ap length (append-nil t))))

-- fields of numbers and flags
may_be_uint : (o : Option ℕ) → MayBeUint o → Short 5 (option_item (λ n. scalar (uint n)) o)
may_be_uint o h = option-short 5 (λ n. scalar (uint n)) IsUint o (omega arith) uint-short h

may_be_ushort : (o : Option ℕ) → IfSome o (λ n. n < 2 ^ 16) → Short 3 (option_item (λ n. scalar (ushort n)) o)
may_be_ushort o h = option-short 3 (λ n. scalar (ushort n)) (λ n. n < 2 ^ 16) o (omega arith) ushort-short h

handle-short : (h : Handle) → IsUint h.0 → Short 5 (handle_item h)
handle-short h k = uint-short h.0 k

may_be_handle : (o : Option Handle) → IfSome o (λ h. IsUint h.0) → Short 5 (option_item handle_item o)
may_be_handle o h = option-short 5 handle_item (λ n. IsUint n.0) o (omega arith) handle-short h

greatest : (n : ℕ) → n < 2 ^ 32 → Short 5 (or_null (is_uint 4294967295) (scalar (uint n)))
greatest n h = default-short 5 (is_uint 4294967295) (scalar (uint n)) (omega arith) (uint-short n h)

flag : (b : Bool) → Short 1 (or_null (is_boolean false) (scalar (boolean b)))
flag b = default-short 1 (is_boolean false) (scalar (boolean b)) (omega arith) (boolean-short b)

role-short : (r : Role) → Short 1 (role_item r)
role-short Sender = boolean-short false
role-short Receiver = boolean-short true

-- fields that are absent
no_symbols : (names : List (List ℕ)) → names ≡ [] → Short 1 (symbols_item names)
no_symbols names none =
    let P : List (List ℕ) → Type 0 = λ x. Short 1 (symbols_item x) in subst P (sym none) (null-short 1 (omega arith))

absent : {X : Type 0} (item : X → Item) (o : Option X) → o ≡ None → Short 1 (option_item item o)
absent {X} item o none =
    let P : Option X → Type 0 = λ x. Short 1 (option_item item x) in subst P (sym none) (null-short 1 (omega arith))

-- the states that say nothing more
state-short : (s : DeliveryState) → IsPlainState s → Short 4 (delivery_state_item s)
state-short (Accepted x) h = short 4 _ (0x00 ∷ 0x53 ∷ 0x24 ∷ 0x45 ∷ []) refl (omega arith)
state-short (Released x) h = short 4 _ (0x00 ∷ 0x53 ∷ 0x26 ∷ 0x45 ∷ []) refl (omega arith)
state-short s h = absurd h

may_be_state : (o : Option DeliveryState) → IfSome o IsPlainState → Short 4 (option_item delivery_state_item o)
may_be_state o h = option-short 4 delivery_state_item IsPlainState o (omega arith) state-short h

-- an error that says a condition of at most 200 bytes
error-short : (e : Error) → SaysConditionAlone e → Short 210 (error_item e)
error-short e h =
    record-short 204 0x1d (error_fields e) (omega arith)
    (short 2 (scalar (ulong 0x1d)) (0x53 ∷ 0x1d ∷ []) refl (omega arith))
    (field (symbol-short 200 e.condition h.text h.short (omega arith))
    (field (absent (λ t. scalar (string t)) e.description h.description)
    (field (absent named_values_item e.info h.info) no_fields)))

may_be_error : (o : Option Error) → IfSome o SaysConditionAlone → Short 210 (option_item error_item o)
may_be_error o h = option-short 210 error_item SaysConditionAlone o (omega arith) error-short h

-- 2.7.2
begin-short : (b : Begin) → IsPlainBegin b → Short 32 (begin_item b)
begin-short b h =
    record-short 26 0x11 (begin_fields b) (omega arith)
    (short 2 (scalar (ulong 0x11)) (0x53 ∷ 0x11 ∷ []) refl (omega arith))
    (field (may_be_ushort b.remote_channel h.remote_channel)
    (field (uint-short b.next_outgoing_id h.next_outgoing_id)
    (field (uint-short b.incoming_window h.incoming_window)
    (field (uint-short b.outgoing_window h.outgoing_window)
    (field (greatest b.handle_max h.handle_max)
    (field (no_symbols b.offered_capabilities h.offered_capabilities)
    (field (no_symbols b.desired_capabilities h.desired_capabilities)
    (field (absent named_values_item b.properties h.properties) no_fields))))))))

pub begin_fits : (channel : ℕ) (b : Begin) → IsPlainBegin b
    → fits 512 (frame_of (record { channel = channel; body = body.Begin b })) ≡ true
begin_fits channel b h =
    frame-fits channel 32 (body.Begin b) (omega arith)
    (body-within 32 (canon (begin_item b)) (begin-short b h).within)

-- 2.7.4
flow-short : (l : Flow) → IsPlainFlow l → Short 49 (flow_item l)
flow-short l h =
    record-short 43 0x13 (flow_fields l) (omega arith)
    (short 2 (scalar (ulong 0x13)) (0x53 ∷ 0x13 ∷ []) refl (omega arith))
    (field (may_be_uint l.next_incoming_id h.next_incoming_id)
    (field (uint-short l.incoming_window h.incoming_window)
    (field (uint-short l.next_outgoing_id h.next_outgoing_id)
    (field (uint-short l.outgoing_window h.outgoing_window)
    (field (may_be_handle l.handle h.handle)
    (field (may_be_uint l.delivery_count h.delivery_count)
    (field (may_be_uint l.link_credit h.link_credit)
    (field (may_be_uint l.available h.available)
    (field (flag l.drain)
    (field (flag l.echo)
    (field (absent named_values_item l.properties h.properties) no_fields)))))))))))

pub flow_fits : (channel : ℕ) (l : Flow) → IsPlainFlow l
    → fits 512 (frame_of (record { channel = channel; body = body.Flow l })) ≡ true
flow_fits channel l h =
    frame-fits channel 49 (body.Flow l) (omega arith)
    (body-within 49 (canon (flow_item l)) (flow-short l h).within)

-- 2.7.6
disposition-short : (d : Disposition) → IsPlainDisposition d → Short 23 (disposition_item d)
disposition-short d h =
    record-short 17 0x15 (disposition_fields d) (omega arith)
    (short 2 (scalar (ulong 0x15)) (0x53 ∷ 0x15 ∷ []) refl (omega arith))
    (field (role-short d.role)
    (field (uint-short d.first h.first)
    (field (may_be_uint d.last h.last)
    (field (flag d.settled)
    (field (may_be_state d.state h.state)
    (field (flag d.batchable) no_fields))))))

pub disposition_fits : (channel : ℕ) (d : Disposition) → IsPlainDisposition d
    → fits 512 (frame_of (record { channel = channel; body = body.Disposition d })) ≡ true
disposition_fits channel d h =
    frame-fits channel 23 (body.Disposition d) (omega arith)
    (body-within 23 (canon (disposition_item d)) (disposition-short d h).within)

-- 2.7.7
detach-short : (d : Detach) → IsPlainDetach d → Short 222 (detach_item d)
detach-short d h =
    record-short 216 0x16 (detach_fields d) (omega arith)
    (short 2 (scalar (ulong 0x16)) (0x53 ∷ 0x16 ∷ []) refl (omega arith))
    (field (handle-short d.handle h.handle)
    (field (flag d.closed)
    (field (may_be_error d.error h.error) no_fields)))

pub detach_fits : (channel : ℕ) (d : Detach) → IsPlainDetach d
    → fits 512 (frame_of (record { channel = channel; body = body.Detach d })) ≡ true
detach_fits channel d h =
    frame-fits channel 222 (body.Detach d) (omega arith)
    (body-within 222 (canon (detach_item d)) (detach-short d h).within)

-- 2.7.8
end-short : (e : End) → IsPlainEnd e → Short 216 (end_item e)
end-short e h =
    record-short 210 0x17 (end_fields e) (omega arith)
    (short 2 (scalar (ulong 0x17)) (0x53 ∷ 0x17 ∷ []) refl (omega arith))
    (field (may_be_error e.error h.error) no_fields)

pub end_fits : (channel : ℕ) (e : End) → IsPlainEnd e
    → fits 512 (frame_of (record { channel = channel; body = body.End e })) ≡ true
end_fits channel e h =
    frame-fits channel 216 (body.End e) (omega arith)
    (body-within 216 (canon (end_item e)) (end-short e h).within)

-- the conditions of sessions and links
pub unattached_handle-short : SaysConditionAlone (error_of unattached_handle)
unfolding is_utf8 chars encode_utf8
unattached_handle-short = record { text = refl; short = omega arith; description = refl; info = refl }

pub handle_in_use-short : SaysConditionAlone (error_of handle_in_use)
unfolding is_utf8 chars encode_utf8
handle_in_use-short = record { text = refl; short = omega arith; description = refl; info = refl }

pub not_allowed-short : SaysConditionAlone (error_of not_allowed)
unfolding is_utf8 chars encode_utf8
not_allowed-short = record { text = refl; short = omega arith; description = refl; info = refl }

pub transfer_limit_exceeded-short : SaysConditionAlone (error_of transfer_limit_exceeded)
unfolding is_utf8 chars encode_utf8
transfer_limit_exceeded-short = record { text = refl; short = omega arith; description = refl; info = refl }

pub message_size_exceeded-short : SaysConditionAlone (error_of message_size_exceeded)
unfolding is_utf8 chars encode_utf8
message_size_exceeded-short = record { text = refl; short = omega arith; description = refl; info = refl }
