-- What a payload says: items one behind the other, to its end (part 3, 3.2).
use Rattle.std.specs.Prelude.{ℕ, ◌^◌, min, List, length, Option, Some, None}
use Rattle.serde_amqp_item.specs.Item.{Item, items_of}
use Rattle.serde_amqp_item.specs.Wire.{Forms, IsCapped, IsStrict, NoRaw}
use Rattle.serde_amqp_item.specs.Canon.{canon_all, EachWithin, EachRawKept}

-- the bytes are wire forms of these items, one behind the other to their end
unfoldable pub Says : List ℕ → List Item → Type 0
Says bytes xs = Forms IsCapped IsStrict (items_of xs) None bytes

-- the canonical texts of these items, joined
abbrev pub payload_text : List Item → Option (List ℕ)
payload_text xs = canon_all (items_of xs)

-- how many bytes a payload has, where 2^32 stand for as many or more, and for that of items without a canonical text
abbrev pub capped_size : Option (List ℕ) → ℕ
capped_size None = 2 ^ 32
capped_size (Some bytes) = min (length bytes) (2 ^ 32)

-- every count in the items is within the bounds of what is read
abbrev pub IsWithinBounds : List Item → Type 0
IsWithinBounds xs = EachWithin IsCapped (items_of xs)

-- each kept item is the bytes of one form
abbrev pub IsOfForms : List Item → Type 0
IsOfForms xs = EachRawKept IsStrict (items_of xs)

-- there is no kept item in the items
abbrev pub EachWithoutRaw : List Item → Type 0
EachWithoutRaw xs = EachRawKept NoRaw (items_of xs)
