-- Values with a descriptor that is given (part 1, 1.2 and 1.5).
use Rattle.std.specs.Prelude.{ℕ, List, Option, Some, None}
use Rattle.serde_amqp_item.specs.Item.{Item, scalar, ulong, described}
use Rattle.serde_amqp_item.specs.Canon.{◌>>=◌}
use Rattle.serde_amqp_de.specs.Takes.{descriptor_taken}

-- a value with this code as its descriptor
abbrev pub described_item : ℕ → Item → Item
described_item code v = described (scalar (ulong code)) v

-- a value with this code or this name as its descriptor, by what the value is taken as
unfoldable pub described_as : ℕ → List ℕ → (Item → Option Item) → Item → Option Item
described_as code name take (described d v) = descriptor_taken code name d >>= λ c. take v >>= λ y. Some (described c y)
described_as code name take _ = None
