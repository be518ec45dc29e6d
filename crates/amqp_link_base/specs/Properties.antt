-- The properties of a link, which both ends give: part 2, 2.7.3.
use Rattle.std.specs.Prelude.{ℕ, List, Option, Some, None}
use Rattle.std.specs.Str.{bytes_eq}
use Rattle.serde_amqp_values.specs.Pairs.{all_inserted}

-- values by their names
abbrev pub Properties : Type 0
Properties = List (List ℕ × List ℕ)

-- the peer's properties are put into the own ones, one after the other: a name that is there keeps its place and takes
-- the peer's value, and a new one goes to the end
abbrev pub merged : Option Properties → Option Properties → Option Properties
merged own None = own
merged None (Some peer) = Some peer
merged (Some own) (Some peer) = Some (all_inserted bytes_eq own peer)
