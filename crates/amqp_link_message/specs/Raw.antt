-- Bytes that are a payload as they are.
use Rattle.std.specs.Prelude.{ℕ, List, [], ◌∷◌}
use Rattle.serde_amqp_item.specs.Item.{Item, raw}

-- the bytes, kept as they are; no bytes are no item
abbrev pub kept_items : List ℕ → List Item
kept_items [] = []
kept_items (b ∷ bytes) = raw (b ∷ bytes) ∷ []
