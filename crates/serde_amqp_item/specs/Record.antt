-- Composite types as described lists of fields: part 1, sections 1.4 and 1.5.
use Rattle.std.specs.Prelude.{ℕ, Bool, true, false, ◌&&◌, List, [], ◌∷◌, Option, Some, None, if◌then◌else◌}
use Rattle.serde_amqp_item.specs.Item.{Item, scalar, null, ulong, described, list, items_of}

abbrev pub is_null : Item → Bool
is_null (scalar null) = true
is_null _ = false

-- an absent value is null
abbrev pub option_item : {X : Type 0} → (X → Item) → Option X → Item
option_item item None = scalar null
option_item item (Some x) = item x

abbrev pub all_null : List Item → Bool
all_null [] = true
all_null (x ∷ xs) = is_null x && all_null xs

-- without the nulls at the end
abbrev pub trimmed : List Item → List Item
trimmed [] = []
trimmed (x ∷ xs) = if all_null (x ∷ xs) then [] else (x ∷ trimmed xs)

-- a record with this descriptor and these fields
abbrev pub record_item : ℕ → List Item → Item
record_item code fields = described (scalar (ulong code)) (list (items_of (trimmed fields)))
