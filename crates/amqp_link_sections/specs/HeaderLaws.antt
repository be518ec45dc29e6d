-- Bytes give one header, a header is read as it is written, and its item says which it is.
use Rattle.std.proofs.Common.{◌≡◌, ◌∙◌, ap, false, Some, refl}
use Rattle.serde_amqp_item.specs.Item.{scalar, boolean, ubyte, uint}
use Rattle.serde_amqp_de.specs.Again.{option_again, option_faithful, default_again, default_faithful, record_again}
use Rattle.serde_amqp_de.specs.Again.{record_faithful, boolean_faithful, ubyte_faithful, uint_faithful, one_boolean}
use Rattle.serde_amqp_de.specs.Again.{one_uint}
use Rattle.serde_amqp_de.specs.Decides.{Decided}
use Rattle.serde_amqp_de.specs.Deciding.{boolean_decided, ubyte_decided, uint_decided, option_decided, mapped_decided}
use Rattle.serde_amqp_de.specs.Deciding.{record_decided}
use Rattle.serde_amqp_de.specs.Takes.{boolean_taken, ubyte_taken, uint_taken, option_taken, or_null, is_boolean}
use Rattle.serde_amqp_de.specs.Takes.{is_uint}
use Rattle.serde_amqp_types.specs.Again.{one_ubyte}
use Rattle.serde_amqp_types.specs.Takes.{is_ubyte}
use Rattle.amqp_link_sections.specs.Header.{header_fields, header_item, header_name, header_takes, header_taken}
use Rattle.amqp_link_sections.specs.declared.header.Header.{Header}

pub header_decided : Decided header_taken
header_decided = record_decided 0x70 header_name header_takes (
  mapped_decided (or_null (is_boolean false)) (option_taken boolean_taken)
      (option_decided boolean_taken boolean_decided),
  (
    mapped_decided (or_null (is_ubyte 4)) (option_taken ubyte_taken) (option_decided ubyte_taken ubyte_decided),
    (
      option_decided uint_taken uint_decided,
      (
        mapped_decided (or_null (is_boolean false)) (option_taken boolean_taken)
            (option_decided boolean_taken boolean_decided),
        (mapped_decided (or_null (is_uint 0)) (option_taken uint_taken) (option_decided uint_taken uint_decided), tt),
      ),
    ),
  ),
)

pub header_again : (h : Header) → header_taken (header_item h) ≡ Some (header_item h)
header_again h = record_again 0x70 header_name header_takes (header_fields h) (
  default_again (is_boolean false) boolean_taken (scalar (boolean h.durable)) refl refl,
  (
    default_again (is_ubyte 4) ubyte_taken (scalar (ubyte h.priority)) refl refl,
    (
      option_again uint_taken (λ n. scalar (uint n)) (λ _. refl) (λ _. refl) h.ttl,
      (
        default_again (is_boolean false) boolean_taken (scalar (boolean h.first_acquirer)) refl refl,
        (default_again (is_uint 0) uint_taken (scalar (uint h.delivery_count)) refl refl, tt),
      ),
    ),
  ),
)

-- two headers with the same fields are one
header_parts : (h g : Header) → h.durable ≡ g.durable → h.priority ≡ g.priority → h.ttl ≡ g.ttl
    → h.first_acquirer ≡ g.first_acquirer → h.delivery_count ≡ g.delivery_count → h ≡ g
header_parts h g e0 e1 e2 e3 e4 =
    ap (λ x. record h { durable = x }) e0
    ∙ (ap (λ x. record h { durable = g.durable; priority = x }) e1
    ∙ (ap (λ x. record g { ttl = x; first_acquirer = h.first_acquirer; delivery_count = h.delivery_count }) e2
    ∙ (ap (λ x. record g { first_acquirer = x; delivery_count = h.delivery_count }) e3
    ∙ ap (λ x. record g { delivery_count = x }) e4)))

pub header_same : (h g : Header) → header_item h ≡ header_item g → h ≡ g
header_same h g e =
    let fields : header_fields h ≡ header_fields g = record_faithful 0x70 (header_fields h) (header_fields g) refl e in
    header_parts h g
    (boolean_faithful h.durable g.durable (default_faithful (is_boolean false) (scalar (boolean h.durable))
    (scalar (boolean g.durable)) (one_boolean false h.durable g.durable) refl refl cc))
    (ubyte_faithful h.priority g.priority (default_faithful (is_ubyte 4) (scalar (ubyte h.priority))
    (scalar (ubyte g.priority)) (one_ubyte 4 h.priority g.priority) refl refl cc))
    (option_faithful (λ n. scalar (uint n)) uint_faithful (λ _. refl) h.ttl g.ttl cc)
    (boolean_faithful h.first_acquirer g.first_acquirer
    (default_faithful (is_boolean false) (scalar (boolean h.first_acquirer)) (scalar (boolean g.first_acquirer))
    (one_boolean false h.first_acquirer g.first_acquirer) refl refl cc))
    (uint_faithful h.delivery_count g.delivery_count
    (default_faithful (is_uint 0) (scalar (uint h.delivery_count)) (scalar (uint g.delivery_count))
    (one_uint 0 h.delivery_count g.delivery_count) refl refl cc))
