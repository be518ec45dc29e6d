-- Which items arrays, described values and fields with a default take.
use Rattle.std.specs.Prelude.{ℕ, Bool, false, [], ◌∷◌, Option, Some, None, ◌==◌}
use Rattle.serde_amqp_item.specs.Item.{Item, scalar, null, ubyte, ulong, symbol, raw, array, described, items_of}
use Rattle.serde_amqp_item.specs.Canon.{◌>>=◌}
use Rattle.serde_amqp_de.specs.Takes.{kind_seen, each_taken, unless_several}

-- an array of one element
abbrev pub as_one : Option Item → Option Item
as_one o = o >>= λ y. Some (array (items_of (y ∷ [])))

-- the elements of an array, and any other item but null as one element
unfoldable pub array_or_one_taken : (Item → Option Item) → Item → Option Item
array_or_one_taken take (array xs) = each_taken take xs >>= λ ys. Some (array (items_of ys))
array_or_one_taken take (scalar null) = None
array_or_one_taken take (raw text) = unless_several (kind_seen (raw text)) (as_one (take (raw text)))
array_or_one_taken take x = as_one (take x)

-- a descriptor: a code or a name (part 1, section 1.5)
unfoldable pub any_descriptor_taken : Item → Option Item
any_descriptor_taken (scalar (ulong n)) = Some (scalar (ulong n))
any_descriptor_taken (scalar (symbol bs)) = Some (scalar (symbol bs))
any_descriptor_taken _ = None

-- a described value, by what its value is taken as (part 1, section 1.2)
unfoldable pub described_with : (Item → Option Item) → Item → Option Item
described_with take (described d v) = any_descriptor_taken d >>= λ c. take v >>= λ y. Some (described c y)
described_with take _ = None

-- a field's default
abbrev pub is_ubyte : ℕ → Item → Bool
is_ubyte d (scalar (ubyte n)) = n == d
is_ubyte d _ = false
