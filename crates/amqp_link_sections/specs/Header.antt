-- The header of a message: part 3, 3.2.1.
use Rattle.std.specs.Prelude.{ℕ, false, List, [], ◌∷◌, Option, None}
use Rattle.serde_amqp_item.specs.Item.{Item, scalar, boolean, ubyte, uint}
use Rattle.serde_amqp_item.specs.Record.{option_item, record_item}
use Rattle.serde_amqp_de.specs.Takes.{boolean_taken, ubyte_taken, uint_taken, option_taken, mapped, or_null, is_boolean}
use Rattle.serde_amqp_de.specs.Takes.{is_uint, record_taken}
use Rattle.serde_amqp_types.specs.Takes.{is_ubyte}
use Rattle.amqp_link_sections.specs.declared.header.Header.{Header}

-- amqp:header:list
abbrev pub header_name : List ℕ
header_name =
    0x61 ∷ 0x6d ∷ 0x71 ∷ 0x70 ∷ 0x3a ∷ 0x68 ∷ 0x65 ∷ 0x61 ∷ 0x64 ∷ 0x65 ∷ 0x72 ∷ 0x3a ∷ 0x6c ∷ 0x69 ∷ 0x73 ∷ 0x74 ∷ []

-- the header in which each field has its default
abbrev pub default_header : Header
default_header = record { durable = false; priority = 4; ttl = None; first_acquirer = false; delivery_count = 0 }

-- durable, priority, ttl, first-acquirer, delivery-count
abbrev pub header_fields : Header → List Item
header_fields h =
    or_null (is_boolean false) (scalar (boolean h.durable))
    ∷ or_null (is_ubyte 4) (scalar (ubyte h.priority))
    ∷ option_item (λ n. scalar (uint n)) h.ttl
    ∷ or_null (is_boolean false) (scalar (boolean h.first_acquirer))
    ∷ or_null (is_uint 0) (scalar (uint h.delivery_count))
    ∷ []

abbrev pub header_item : Header → Item
header_item h = record_item 0x70 (header_fields h)

abbrev pub header_takes : List (Item → Option Item)
header_takes =
    mapped (or_null (is_boolean false)) (option_taken boolean_taken)
    ∷ mapped (or_null (is_ubyte 4)) (option_taken ubyte_taken)
    ∷ option_taken uint_taken
    ∷ mapped (or_null (is_boolean false)) (option_taken boolean_taken)
    ∷ mapped (or_null (is_uint 0)) (option_taken uint_taken)
    ∷ []

-- the items that are read as a header, and the item of that header
abbrev pub header_taken : Item → Option Item
header_taken = record_taken 0x70 header_name header_takes
