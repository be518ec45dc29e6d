-- Items in front of bytes, and the texts of items: part 1, 1.6.
use Rattle.std.specs.Prelude.{◌≡◌, ℕ, ◌+◌, ◌==◌, ◌<◌, ◌≤◌, ◌^◌, nat_lt, List, [], ◌∷◌, ◌++◌, length, take, slice_range}
use Rattle.std.specs.Prelude.{Bool, true, false, Option, Some, None, if◌then◌else◌}
use Rattle.std.specs.Int.{w32, w64, from_be_bytes, to_be_bytes}
use Rattle.serde_amqp_item.specs.Item.{Item, Items, scalar, boolean, item_count}
use Rattle.serde_amqp_item.specs.Record.{option_item}
use Rattle.serde_amqp_item.specs.Wire.{Form, Forms, IsCapped, IsStrict, row_of}
use Rattle.serde_amqp_de.specs.Takes.{fields_taken}

-- ---- reading

-- a wire form of the item stands in front of the rest
pub record Front (x : Item) (bytes rest : List ℕ) : Type 0 where
  pub code : ℕ
  pub text : List ℕ
  pub whole : bytes ≡ code ∷ (text ++ rest)
  pub form : Form IsCapped IsStrict x (Some code) (row_of code) text

-- a number of four bytes stands in front of the rest
pub record FourFront (n : ℕ) (bytes rest : List ℕ) : Type 0 where
  pub a : ℕ
  pub b : ℕ
  pub c : ℕ
  pub d : ℕ
  pub whole : bytes ≡ a ∷ b ∷ c ∷ d ∷ rest
  pub value : n ≡ from_be_bytes w32 (a ∷ b ∷ c ∷ d ∷ [])

-- a number of eight bytes stands in front of the rest
pub record EightFront (n : ℕ) (bytes rest : List ℕ) : Type 0 where
  pub text : List ℕ
  pub whole : bytes ≡ text ++ rest
  pub long : length text ≡ 8
  pub value : n ≡ from_be_bytes w64 text

-- so many bytes, which a byte in front counts, stand in front of the rest
pub record Counted (content bytes rest : List ℕ) : Type 0 where
  pub whole : bytes ≡ length content ∷ (content ++ rest)
  pub fits : length content < 256

-- A record with this descriptor stands in front, as a list of one byte's size and count: of so many fields, in these
-- bytes (1.4, 1.6.22).
pub record RecordFront (code : ℕ) (content : List ℕ) (count : ℕ) (fields : List ℕ) : Type 0 where
  pub rest : List ℕ
  pub whole : content ≡ 0 ∷ 0x53 ∷ code ∷ 0xc0 ∷ (length fields + 1) ∷ count ∷ (fields ++ rest)
  pub fits : length fields + 1 < 256

-- All the bytes are the last fields of a record, of which there are so many: these items are taken, and these are what
-- they are taken as (1.4).
pub record Fields (takes : List (Item → Option Item)) (values : List Item) (count : ℕ) (bytes : List ℕ) : Type 0 where
  pub items : Items
  pub counts : count ≡ item_count items
  pub forms : Forms IsCapped IsStrict items None bytes
  pub taken : fields_taken takes items ≡ Some values

-- a boolean, or null where it is absent
abbrev pub flag_item : Option Bool → Item
flag_item = option_item (λ b. scalar (boolean b))

-- ---- writing

-- 1.6.6
abbrev pub uint_text : ℕ → List ℕ
uint_text n =
    if n == 0 then 0x43 ∷ [] else (if nat_lt n (2 ^ 8) then 0x52 ∷ n ∷ [] else 0x70 ∷ to_be_bytes w32 n)

-- 1.6.2
abbrev pub boolean_text : Bool → List ℕ
boolean_text true = 0x41 ∷ []
boolean_text false = 0x42 ∷ []

-- 1.6.19, of at most 255 bytes
abbrev pub binary_text : List ℕ → List ℕ
binary_text bs = 0xa0 ∷ length bs ∷ bs

-- a record with this descriptor, as a list of one byte's size and count: of so many fields, with these texts
abbrev pub short_record : ℕ → ℕ → List ℕ → List ℕ
short_record code count fields = 0 ∷ 0x53 ∷ code ∷ 0xc0 ∷ (length fields + 1) ∷ count ∷ fields

-- the text stands at this place, up to the other one, behind what stood in front of it
pub record Puts (text : List ℕ) (at end : ℕ) (bytes bytes_new : List ℕ) : Type 0 where
  pub front : take end bytes_new ≡ take at bytes ++ text
  pub long : end ≡ at + length text

-- the text stands from 8 on, behind the room of a frame's head (part 2, 2.3.1), and ends there
pub record Holds (text : Option (List ℕ)) (end : ℕ) (bytes : List ℕ) : Type 0 where
  pub from : 8 ≤ end
  pub within : end ≤ length bytes
  pub is : text ≡ Some (slice_range bytes 8 end)
