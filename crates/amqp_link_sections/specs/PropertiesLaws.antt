-- Bytes give one value of properties, properties are read as they are written, and their item says which they are.
use Rattle.std.proofs.Common.{◌≡◌, ◌∙◌, ap, ℕ, List, Option, Some, refl}
use Rattle.std.specs.Prelude.{ℤ}
use Rattle.serde_amqp_item.specs.Item.{scalar, uint, timestamp, binary, string, symbol}
use Rattle.serde_amqp_item.specs.Record.{option_item}
use Rattle.serde_amqp_de.specs.Again.{option_again, option_faithful, record_again, record_faithful, uint_faithful}
use Rattle.serde_amqp_de.specs.Decides.{Decided}
use Rattle.serde_amqp_de.specs.Deciding.{uint_decided, timestamp_decided, binary_decided, string_decided}
use Rattle.serde_amqp_de.specs.Deciding.{symbol_decided, option_decided, record_decided}
use Rattle.serde_amqp_de.specs.Takes.{uint_taken, timestamp_taken, binary_taken, string_taken, symbol_taken}
use Rattle.serde_amqp_de.specs.Takes.{option_taken}
use Rattle.serde_amqp_types.specs.Faithful.{timestamp_faithful, binary_faithful, string_faithful, symbol_faithful}
use Rattle.amqp_link_sections.specs.MessageId.{message_id_item, message_id_taken}
use Rattle.amqp_link_sections.specs.MessageIdLaws.{message_id_decided, message_id_again, message_id_present}
use Rattle.amqp_link_sections.specs.MessageIdLaws.{message_id_same}
use Rattle.amqp_link_sections.specs.Properties.{properties_fields, properties_item, properties_name, properties_takes}
use Rattle.amqp_link_sections.specs.Properties.{properties_taken}
use Rattle.amqp_link_sections.specs.declared.message_id.MessageId.{MessageId}
use Rattle.amqp_link_sections.specs.declared.properties.Properties.{Properties}

optional_message_id_again : (o : Option MessageId)
    → option_taken message_id_taken (option_item message_id_item o) ≡ Some (option_item message_id_item o)
optional_message_id_again = option_again message_id_taken message_id_item message_id_again message_id_present

optional_message_id_same : (o p : Option MessageId) → option_item message_id_item o ≡ option_item message_id_item p
    → o ≡ p
optional_message_id_same = option_faithful message_id_item message_id_same message_id_present

optional_binary_again : (o : Option (List ℕ))
    → option_taken binary_taken (option_item (λ b. scalar (binary b)) o) ≡ Some (option_item (λ b. scalar (binary b)) o)
optional_binary_again = option_again binary_taken (λ b. scalar (binary b)) (λ _. refl) (λ _. refl)

optional_binary_same : (o p : Option (List ℕ))
    → option_item (λ b. scalar (binary b)) o ≡ option_item (λ b. scalar (binary b)) p → o ≡ p
optional_binary_same = option_faithful (λ b. scalar (binary b)) binary_faithful (λ _. refl)

optional_string_again : (o : Option (List ℕ))
    → option_taken string_taken (option_item (λ t. scalar (string t)) o) ≡ Some (option_item (λ t. scalar (string t)) o)
optional_string_again = option_again string_taken (λ t. scalar (string t)) (λ _. refl) (λ _. refl)

optional_string_same : (o p : Option (List ℕ))
    → option_item (λ t. scalar (string t)) o ≡ option_item (λ t. scalar (string t)) p → o ≡ p
optional_string_same = option_faithful (λ t. scalar (string t)) string_faithful (λ _. refl)

optional_symbol_again : (o : Option (List ℕ))
    → option_taken symbol_taken (option_item (λ t. scalar (symbol t)) o) ≡ Some (option_item (λ t. scalar (symbol t)) o)
optional_symbol_again = option_again symbol_taken (λ t. scalar (symbol t)) (λ _. refl) (λ _. refl)

optional_symbol_same : (o p : Option (List ℕ))
    → option_item (λ t. scalar (symbol t)) o ≡ option_item (λ t. scalar (symbol t)) p → o ≡ p
optional_symbol_same = option_faithful (λ t. scalar (symbol t)) symbol_faithful (λ _. refl)

optional_timestamp_again : (o : Option ℤ) → option_taken timestamp_taken (option_item (λ z. scalar (timestamp z)) o)
    ≡ Some (option_item (λ z. scalar (timestamp z)) o)
optional_timestamp_again = option_again timestamp_taken (λ z. scalar (timestamp z)) (λ _. refl) (λ _. refl)

optional_timestamp_same : (o p : Option ℤ) → option_item (λ z. scalar (timestamp z)) o
    ≡ option_item (λ z. scalar (timestamp z)) p → o ≡ p
optional_timestamp_same = option_faithful (λ z. scalar (timestamp z)) timestamp_faithful (λ _. refl)

optional_uint_again : (o : Option ℕ) → option_taken uint_taken (option_item (λ n. scalar (uint n)) o)
    ≡ Some (option_item (λ n. scalar (uint n)) o)
optional_uint_again = option_again uint_taken (λ n. scalar (uint n)) (λ _. refl) (λ _. refl)

optional_uint_same : (o p : Option ℕ) → option_item (λ n. scalar (uint n)) o ≡ option_item (λ n. scalar (uint n)) p
    → o ≡ p
optional_uint_same = option_faithful (λ n. scalar (uint n)) uint_faithful (λ _. refl)

pub properties_decided : Decided properties_taken
properties_decided = record_decided 0x73 properties_name properties_takes (
  option_decided message_id_taken message_id_decided,
  (
    option_decided binary_taken binary_decided,
    (
      option_decided string_taken string_decided,
      (
        option_decided string_taken string_decided,
        (
          option_decided string_taken string_decided,
          (
            option_decided message_id_taken message_id_decided,
            (
              option_decided symbol_taken symbol_decided,
              (
                option_decided symbol_taken symbol_decided,
                (
                  option_decided timestamp_taken timestamp_decided,
                  (
                    option_decided timestamp_taken timestamp_decided,
                    (
                      option_decided string_taken string_decided,
                      (option_decided uint_taken uint_decided, (option_decided string_taken string_decided, tt)),
                    ),
                  ),
                ),
              ),
            ),
          ),
        ),
      ),
    ),
  ),
)

pub properties_again : (p : Properties) → properties_taken (properties_item p) ≡ Some (properties_item p)
properties_again p = record_again 0x73 properties_name properties_takes (properties_fields p) (
  optional_message_id_again p.message_id,
  (
    optional_binary_again p.user_id,
    (
      optional_string_again p.to,
      (
        optional_string_again p.subject,
        (
          optional_string_again p.reply_to,
          (
            optional_message_id_again p.correlation_id,
            (
              optional_symbol_again p.content_type,
              (
                optional_symbol_again p.content_encoding,
                (
                  optional_timestamp_again p.absolute_expiry_time,
                  (
                    optional_timestamp_again p.creation_time,
                    (
                      optional_string_again p.group_id,
                      (optional_uint_again p.group_sequence, (optional_string_again p.reply_to_group_id, tt)),
                    ),
                  ),
                ),
              ),
            ),
          ),
        ),
      ),
    ),
  ),
)

-- properties with the same fields are the same
pub properties_parts : (p q : Properties) → p.message_id ≡ q.message_id → p.user_id ≡ q.user_id → p.to ≡ q.to
    → p.subject ≡ q.subject → p.reply_to ≡ q.reply_to → p.correlation_id ≡ q.correlation_id
    → p.content_type ≡ q.content_type → p.content_encoding ≡ q.content_encoding
    → p.absolute_expiry_time ≡ q.absolute_expiry_time → p.creation_time ≡ q.creation_time
    → p.group_id ≡ q.group_id → p.group_sequence ≡ q.group_sequence
    → p.reply_to_group_id ≡ q.reply_to_group_id → p ≡ q
properties_parts p q e0 e1 e2 e3 e4 e5 e6 e7 e8 e9 e10 e11 e12 =
    ap (λ x. record p { message_id = x }) e0
    ∙ (ap (λ x. record p { message_id = q.message_id; user_id = x }) e1
    ∙ (ap (λ x. record p { message_id = q.message_id; user_id = q.user_id; to = x }) e2
    ∙ (ap (λ x. record p { message_id = q.message_id; user_id = q.user_id; to = q.to; subject = x }) e3
    ∙
    (ap (λ x. record p {
      message_id = q.message_id;
      user_id = q.user_id;
      to = q.to;
      subject = q.subject;
      reply_to = x;
    }) e4
    ∙
    (ap (λ x. record p {
      message_id = q.message_id;
      user_id = q.user_id;
      to = q.to;
      subject = q.subject;
      reply_to = q.reply_to;
      correlation_id = x;
    }) e5
    ∙
    (ap (λ x. record p {
      message_id = q.message_id;
      user_id = q.user_id;
      to = q.to;
      subject = q.subject;
      reply_to = q.reply_to;
      correlation_id = q.correlation_id;
      content_type = x;
    }) e6
    ∙
    (ap (λ x. record q {
      content_encoding = x;
      absolute_expiry_time = p.absolute_expiry_time;
      creation_time = p.creation_time;
      group_id = p.group_id;
      group_sequence = p.group_sequence;
      reply_to_group_id = p.reply_to_group_id;
    }) e7
    ∙
    (ap (λ x. record q {
      absolute_expiry_time = x;
      creation_time = p.creation_time;
      group_id = p.group_id;
      group_sequence = p.group_sequence;
      reply_to_group_id = p.reply_to_group_id;
    }) e8
    ∙
    (ap (λ x. record q {
      creation_time = x;
      group_id = p.group_id;
      group_sequence = p.group_sequence;
      reply_to_group_id = p.reply_to_group_id;
    }) e9
    ∙ (ap (λ x. record q { group_id = x; group_sequence = p.group_sequence; reply_to_group_id = p.reply_to_group_id })
    e10
    ∙ (ap (λ x. record q { group_sequence = x; reply_to_group_id = p.reply_to_group_id }) e11
    ∙ ap (λ x. record q { reply_to_group_id = x }) e12)))))))))))

pub properties_same : (p q : Properties) → properties_item p ≡ properties_item q → p ≡ q
properties_same p q e =
    let fields : properties_fields p ≡ properties_fields q =
    record_faithful 0x73 (properties_fields p) (properties_fields q) refl e in
    properties_parts p q
    (optional_message_id_same p.message_id q.message_id cc)
    (optional_binary_same p.user_id q.user_id cc)
    (optional_string_same p.to q.to cc)
    (optional_string_same p.subject q.subject cc)
    (optional_string_same p.reply_to q.reply_to cc)
    (optional_message_id_same p.correlation_id q.correlation_id cc)
    (optional_symbol_same p.content_type q.content_type cc)
    (optional_symbol_same p.content_encoding q.content_encoding cc)
    (optional_timestamp_same p.absolute_expiry_time q.absolute_expiry_time cc)
    (optional_timestamp_same p.creation_time q.creation_time cc)
    (optional_string_same p.group_id q.group_id cc)
    (optional_uint_same p.group_sequence q.group_sequence cc)
    (optional_string_same p.reply_to_group_id q.reply_to_group_id cc)
