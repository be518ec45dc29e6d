-- The sections of a message, by the descriptors that say which each is (part 3, 3.2.1 to 3.2.9).
use Rattle.std.specs.Prelude.{◌≡◌, ◌≤◌, ℕ, List, [], ◌∷◌, ◌++◌, Option, Some, None, if◌then◌else◌, bytes_eq}
use Rattle.serde_amqp_item.specs.Item.{Item, scalar, ulong, symbol, described}
use Rattle.serde_amqp_item.specs.Wire.{Wire}
use Rattle.amqp_link_sections.specs.Header.{header_name}
use Rattle.amqp_link_sections.specs.Annotations.{delivery_annotations_name, message_annotations_name}
use Rattle.amqp_link_sections.specs.Annotations.{application_properties_name, footer_name}
use Rattle.amqp_link_sections.specs.Properties.{properties_name}
use Rattle.amqp_link_sections.specs.Body.{data_name, amqp_sequence_name, amqp_value_name}

-- the code of the section with this name
abbrev pub code_named : List ℕ → Option ℕ
code_named name =
    if bytes_eq name header_name then Some 0x70 else
    if bytes_eq name delivery_annotations_name then Some 0x71 else
    if bytes_eq name message_annotations_name then Some 0x72 else
    if bytes_eq name properties_name then Some 0x73 else
    if bytes_eq name application_properties_name then Some 0x74 else
    if bytes_eq name data_name then Some 0x75 else
    if bytes_eq name amqp_sequence_name then Some 0x76 else
    if bytes_eq name amqp_value_name then Some 0x77 else
    if bytes_eq name footer_name then Some 0x78 else
    None

-- the code that a descriptor says, as a number or as a name
unfoldable pub code_said : Item → Option ℕ
code_said (scalar (ulong n)) = Some n
code_said (scalar (symbol name)) = code_named name
code_said _ = None

-- the code of a section
unfoldable pub section_code : Item → Option ℕ
section_code (described d v) = code_said d
section_code _ = None

-- only sections of this code are taken
abbrev pub TakesCode : (Item → Option Item) → ℕ → Type 0
TakesCode take code = (x y : Item) → take x ≡ Some y → section_code x ≡ Some code

-- a section of a body: data, an amqp-sequence or an amqp-value (part 3, 3.2.6 to 3.2.8)
pub record IsOfBody (x : Item) : Type 0 where
  pub code : ℕ
  pub coded : section_code x ≡ Some code
  pub from_data : 0x75 ≤ code
  pub to_value : code ≤ 0x77

abbrev pub EachOfBody : List Item → Type 0
EachOfBody [] = Unit {0}
EachOfBody (x ∷ xs) = IsOfBody x × EachOfBody xs

-- sections of a body, and at least one of them
abbrev pub IsBody : List Item → Type 0
IsBody [] = ⊥
IsBody (x ∷ xs) = IsOfBody x × EachOfBody xs

-- the bytes begin with a section of this code or a higher one
pub record BeginsFrom (least : ℕ) (bytes : List ℕ) : Type 0 where
  pub item : Item
  pub front : List ℕ
  pub more : List ℕ
  pub code : ℕ
  pub wire : Wire item None front
  pub split : bytes ≡ front ++ more
  pub coded : section_code item ≡ Some code
  pub least_is : least ≤ code
