-- A value's item says which value it is.
use Rattle.std.proofs.Common.{◌≡◌, Bool, Option, ◌∙◌, ap, refl}
use Rattle.serde_amqp_item.specs.Item.{scalar, boolean, uint, ulong}
use Rattle.serde_amqp_item.specs.Record.{option_item}
use Rattle.serde_amqp_de.specs.Again.{option_faithful, record_faithful, boolean_faithful, uint_faithful, ulong_faithful}
use Rattle.amqp_session_types.specs.Error.{error_item}
use Rattle.amqp_session_types.specs.Faithful.{error_same, optional_values_same}
use Rattle.amqp_session_types.specs.Fields.{named_values_item}
use Rattle.amqp_session_types.specs.declared.error.Error.{Error}
use Rattle.amqp_session_states.specs.Accepted.{accepted_item}
use Rattle.amqp_session_states.specs.Modified.{modified_fields, modified_item}
use Rattle.amqp_session_states.specs.Received.{received_fields, received_item}
use Rattle.amqp_session_states.specs.Rejected.{rejected_fields, rejected_item}
use Rattle.amqp_session_states.specs.Released.{released_item}
use Rattle.amqp_session_states.specs.declared.accepted.Accepted.{Accepted}
use Rattle.amqp_session_states.specs.declared.modified.Modified.{Modified}
use Rattle.amqp_session_states.specs.declared.received.Received.{Received}
use Rattle.amqp_session_states.specs.declared.rejected.Rejected.{Rejected}
use Rattle.amqp_session_states.specs.declared.released.Released.{Released}

received_parts : (p q : Received) → p.section_number ≡ q.section_number → p.section_offset ≡ q.section_offset → p ≡ q
received_parts p q e0 e1 = ap (λ x. record p { section_number = x }) e0 ∙ ap (λ x. record q { section_offset = x }) e1

pub received_same : (p q : Received) → received_item p ≡ received_item q → p ≡ q
received_same p q e =
    let fields : received_fields p ≡ received_fields q =
    record_faithful 0x23 (received_fields p) (received_fields q) refl e in
    let number : scalar (uint p.section_number) ≡ scalar (uint q.section_number) = cc in
    let offset : scalar (ulong p.section_offset) ≡ scalar (ulong q.section_offset) = cc in
    received_parts p q (uint_faithful p.section_number q.section_number number)
    (ulong_faithful p.section_offset q.section_offset offset)

pub accepted_same : (p q : Accepted) → accepted_item p ≡ accepted_item q → p ≡ q
accepted_same p q e = refl

pub released_same : (p q : Released) → released_item p ≡ released_item q → p ≡ q
released_same p q e = refl

pub rejected_same : (p q : Rejected) → rejected_item p ≡ rejected_item q → p ≡ q
rejected_same p q e =
    let fields : rejected_fields p ≡ rejected_fields q =
    record_faithful 0x25 (rejected_fields p) (rejected_fields q) refl e in
    let item : option_item error_item p.error ≡ option_item error_item q.error = cc in
    ap (λ (x : Option Error). record { error = x })
    (option_faithful error_item error_same (λ _. refl) p.error q.error item)

pub optional_boolean_same : (o p : Option Bool)
    → option_item (λ b. scalar (boolean b)) o ≡ option_item (λ b. scalar (boolean b)) p → o ≡ p
optional_boolean_same = option_faithful (λ b. scalar (boolean b)) boolean_faithful (λ _. refl)

modified_parts : (p q : Modified) → p.delivery_failed ≡ q.delivery_failed → p.undeliverable_here ≡ q.undeliverable_here
    → p.message_annotations ≡ q.message_annotations → p ≡ q
modified_parts p q e0 e1 e2 =
    ap (λ x. record p { delivery_failed = x }) e0
    ∙ (ap (λ x. record q { undeliverable_here = x; message_annotations = p.message_annotations }) e1
    ∙ ap (λ x. record q { message_annotations = x }) e2)

pub modified_same : (p q : Modified) → modified_item p ≡ modified_item q → p ≡ q
modified_same p q e =
    let fields : modified_fields p ≡ modified_fields q =
    record_faithful 0x27 (modified_fields p) (modified_fields q) refl e in
    modified_parts p q
    (optional_boolean_same p.delivery_failed q.delivery_failed cc)
    (optional_boolean_same p.undeliverable_here q.undeliverable_here cc)
    (optional_values_same p.message_annotations q.message_annotations cc)
