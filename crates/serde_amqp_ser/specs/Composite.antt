-- Described values, and composite values with their fields (sections 1.2 and 1.4).
use Rattle.std.specs.Prelude.{◌≡◌, ℕ, List, [], ◌∷◌, Some}
use Rattle.std.specs.Prelude.{map as each}
use Rattle.serde_amqp_item.specs.Item.{Item, scalar, uint, ulong, list, map, described, items_of, pairs_of}
use Rattle.serde_amqp_item.specs.Canon.{canon, alone}
use Rattle.serde_amqp_ser.specs.Written.{extended}
use Rattle.serde_amqp_ser.specs.Puts.{State}
use Rattle.serde_amqp_ser.specs.Open.{IsOpen, IsMark, in_turn}
use Rattle.serde_amqp_ser.specs.declared.opened.Opened.{Opened}
use Rattle.serde_amqp_ser.specs.Content.{Holds}
use Rattle.serde_amqp_ser.specs.declared.content.Content.{Content}
use Rattle.serde_amqp_ser.specs.declared.struct_serializer.StructEncoding.{StructEncoding}
use Rattle.serde_amqp_ser.specs.declared.struct_serializer.StructEncoding.TheVariants as encoding

-- from the state s on, outside of arrays, stands a descriptor of this code, and d is the state behind it
pub record IsDescribed (s : State) (code : ℕ) (d : State) : Type 0 where
  pub outside : s.place ≡ alone
  pub still : d.place ≡ alone
  pub text : List ℕ
  pub text_is : canon (scalar (ulong code)) ≡ Some text
  pub behind : d.written ≡ extended s.written (0x00 ∷ text)

-- the values of fields that have names
abbrev pub values : List (Item × Item) → List Item
values fields = each (λ f. f.1) fields

-- the items that stand in a struct, by its fields' names and values
abbrev pub field_items : StructEncoding → List (Item × Item) → List Item
field_items encoding.None fields = values fields
field_items encoding.DescribedList fields = values fields
field_items encoding.DescribedMap fields = in_turn fields
field_items encoding.DescribedBasic fields = values fields

-- what a struct is written as, by its fields' names and values; only a list or a map has fields
abbrev pub struct_item : StructEncoding → ℕ → List (Item × Item) → Item
struct_item encoding.None code fields = list (items_of (values fields))
struct_item encoding.DescribedList code fields = described (scalar (ulong code)) (list (items_of (values fields)))
struct_item encoding.DescribedMap code fields = described (scalar (ulong code)) (map (pairs_of fields))
struct_item encoding.DescribedBasic code fields = described (scalar (ulong code)) (list (items_of (values fields)))

-- the list or the map of a struct that began at s begins at d
abbrev pub BeginsStruct : StructEncoding → ℕ → State → State → Type 0
BeginsStruct encoding.None code s d = d ≡ s
BeginsStruct encoding.DescribedList code s d = IsDescribed s code d
BeginsStruct encoding.DescribedMap code s d = IsDescribed s code d
BeginsStruct encoding.DescribedBasic code s d = ⊥

-- these fields, by their names and values, stand behind the state at which the struct began, which is marked
pub record HoldsFields (begins : ℕ → ℕ) (s : State) (e : StructEncoding) (code : ℕ) (fields : List (Item × Item))
    (outer : Opened) (c : Content) (now : State) : Type 0 where
  pub mark : IsMark s outer
  pub start : State
  pub begun : BeginsStruct e code s start
  pub items : Holds begins start (field_items e fields) c now

-- a variant with fields: a map of its index and the list of the fields
abbrev pub variant_item : ℕ → List Item → Item
variant_item index xs = map (pairs_of ((scalar (uint index), list (items_of xs)) ∷ []))

-- these fields of a variant stand behind the state at which its map began
pub record HoldsVariant (begins : ℕ → ℕ) (s : State) (index : ℕ) (xs : List Item) (outer : Opened) (c : Content)
    (now : State) : Type 0 where
  pub mark : IsMark s outer
  pub start : State
  pub key : IsOpen begins s.written (scalar (uint index) ∷ []) start
  pub items : Holds begins start xs c now
