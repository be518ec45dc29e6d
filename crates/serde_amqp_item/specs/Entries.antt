-- Maps of keys and values (part 1, section 1.6.23).
use Rattle.std.specs.Prelude.{List, [], ◌∷◌}
use Rattle.std.specs.Prelude.{map as each}
use Rattle.std.specs.BTreeMap.{insert_entry}
use Rattle.std.specs.declared.cmp.Ordering.{Ordering}
use Rattle.serde_amqp_item.specs.Item.{Item, map, pairs_of}

-- the items of keys and values
abbrev pub pair_items : {K V : Type 0} → (K → Item) → (V → Item) → List (K × V) → List (Item × Item)
pair_items key value es = each (λ e. (key e.0, value e.1)) es

-- a map of these keys and values, in order
abbrev pub map_item : {K V : Type 0} → (K → Item) → (V → Item) → List (K × V) → Item
map_item key value es = map (pairs_of (pair_items key value es))

-- es with each of the pairs put in its place in turn: a key that comes again keeps its place, and takes the later
-- value
abbrev pub all_placed : {K V : Type 0} → (K → K → Ordering) → List (K × V) → List (K × V) → List (K × V)
all_placed order es [] = es
all_placed order es (p ∷ ps) = all_placed order (insert_entry order es p.0 p.1) ps

-- a map of these keys and values, in the order of the keys, each key once with its last value
abbrev pub sorted_item : {K V : Type 0} → (K → K → Ordering) → (K → Item) → (V → Item) → List (K × V) → Item
sorted_item order key value es = map_item key value (all_placed order [] es)
