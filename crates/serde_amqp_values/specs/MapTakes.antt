-- Which items a map takes.
use Rattle.std.specs.Prelude.{List, [], ◌∷◌, Option, Some}
use Rattle.serde_amqp_item.specs.Item.{Item, raw, map, described, Pairs, no_pairs, more_pairs, pairs_of}
use Rattle.serde_amqp_item.specs.Canon.{◌>>=◌}
use Rattle.serde_amqp_de.specs.Maps.{pairs_taken}
use Rattle.serde_amqp_values.specs.Items.{no_map}
use Rattle.serde_amqp_values.specs.Pairs.{all_inserted}
use Rattle.serde_amqp_de.specs.Same.{item_same}

-- the pairs in a row
abbrev pub pairs_listed : Pairs → List (Item × Item)
pairs_listed no_pairs = []
pairs_listed (more_pairs x y ps) = (x, y) ∷ pairs_listed ps

-- a map in which a key that comes again keeps its first place and has its last value
abbrev pub merged : Item → Item
merged (map ps) = map (pairs_of (all_inserted item_same [] (pairs_listed ps)))
merged x = x

-- a map of keys and values that are taken, each key once; an item that no bytes are a form of stays
unfoldable pub ordered_taken : (Item → Option Item) → (Item → Option Item) → Item → Option Item
ordered_taken key value (described (raw []) x) = pairs_taken key value x >>= λ y. Some (no_map y)
ordered_taken key value x = pairs_taken key value x >>= λ y. Some (merged y)
