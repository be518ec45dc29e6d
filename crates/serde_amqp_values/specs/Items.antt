-- The item of a map's pairs (part 1, section 1.6.23).
use Rattle.std.specs.Prelude.{◌&&◌, Bool, true, not, List, [], ◌∷◌, if◌then◌else◌}
use Rattle.std.specs.List.{list_any}
use Rattle.std.specs.Map.{keys_of}
use Rattle.serde_amqp_item.specs.Item.{Item, raw, described}
use Rattle.serde_amqp_item.specs.Entries.{map_item}

-- whether no two keys are equal
abbrev pub are_apart : {K : Type 0} → (K → K → Bool) → List K → Bool
are_apart same [] = true
are_apart same (k ∷ ks) = not (list_any (λ x. same x k) ks) && are_apart same ks

-- pairs in which a key stands twice are no map: no bytes are a form of this item
abbrev pub no_map : Item → Item
no_map x = described (raw []) x

-- a map of these keys and values, in order, where no key stands twice
unfoldable pub ordered_item : {K V : Type 0} → (K → K → Bool) → (K → Item) → (V → Item) → List (K × V) → Item
ordered_item same key value ps =
    if are_apart same (keys_of ps) then map_item key value ps else no_map (map_item key value ps)
