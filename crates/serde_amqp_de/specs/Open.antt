-- An item that holds others, while they are read (part 1, sections 1.2 and 1.6.22 to 1.6.24).
use Rattle.std.specs.Prelude.{◌≡◌, ◌≢◌, ℕ, ◌+◌, ◌%◌, List, [], ◌∷◌, ◌++◌, length, Option, Some, None, ◌==◌}
use Rattle.std.specs.Prelude.{if◌then◌else◌}
use Rattle.serde_amqp_item.specs.declared.error.Error.{Error}
use Rattle.serde_amqp_item.specs.declared.error.Error.TheVariants.{SequenceLengthMismatch, InvalidLength}
use Rattle.serde_amqp_item.specs.Item.{Item, scalar, null, list, array, map, described, Items, more_items, items_of}
use Rattle.serde_amqp_item.specs.Item.{item_count, no_pairs, more_pairs}
use Rattle.serde_amqp_item.specs.Wire.{Wire, Forms, IsCapped, IsStrict}
use Rattle.serde_amqp_item.specs.Kind.{kind_of, raw_kind}
use Rattle.serde_amqp_de.specs.Reads.{At, Moves, Reads, Took, at_of}
use Rattle.serde_amqp_de.specs.Maps.{map_in}
use Rattle.serde_amqp_de.specs.declared.content.Content.{Content}

-- what holds items
pub data Shape : Type 0 where
  a_list : Shape
  an_array : Shape
  a_map : Shape
  a_described_value : Shape

-- a descriptor and a value
abbrev pub described_in : Items → Item
described_in (more_items d (more_items v xs)) = described d v
described_in _ = described (scalar null) (scalar null)

-- the whole of these items; those of a map are keys and values in turn
abbrev pub whole : Shape → Items → Item
whole a_list xs = list xs
whole an_array xs = array xs
whole a_map xs = map_in xs
whole a_described_value xs = described_in xs

-- it may have so many items
abbrev pub MayHave : Shape → ℕ → Type 0
MayHave a_list n = Unit {0}
MayHave an_array n = Unit {0}
MayHave a_map n = n % 2 ≡ 0
MayHave a_described_value n = n ≡ 2

-- a list of so many items
unfoldable pub counted_taken : ℕ → Item → Option Item
counted_taken n (list xs) = if item_count xs == n then Some (list xs) else None
counted_taken n _ = None

-- a map of one pair
abbrev pub variant_taken : Item → Option Item
variant_taken (map (more_pairs x y no_pairs)) = Some (map (more_pairs x y no_pairs))
variant_taken _ = None

-- keys and values in turn
abbrev pub in_turn : List (Item × Item) → List Item
in_turn [] = []
in_turn (p ∷ ps) = p.0 ∷ p.1 ∷ in_turn ps

-- so many bytes, where there is a size
abbrev pub Fills : Option ℕ → ℕ → Type 0
Fills None n = Unit {0}
Fills (Some size) n = n ≡ size

-- the items begin at one place and end at the other, where there is a size
abbrev pub EndsAt : Option ℕ → ℕ → Option ℕ → Type 0
EndsAt None pos end = end ≡ None
EndsAt (Some size) pos end = end ≡ Some (pos + size)

-- the place is where the items end, if a size says where
abbrev pub AtEnd : Option ℕ → ℕ → Type 0
AtEnd None pos = Unit {0}
AtEnd (Some end) pos = end ≡ pos

-- what an end names: items that were not read, or a size that isn't theirs
abbrev pub NamesEnd : ℕ → Option ℕ → ℕ → Error → Type 0
NamesEnd left end pos SequenceLengthMismatch = left ≢ 0
NamesEnd left end pos InvalidLength = AtEnd end pos → ⊥
NamesEnd left end pos e = ⊥

-- the item holds so many items, in as many bytes as its size says
abbrev pub Contains : Shape → Option ℕ → Item → ℕ → Option ℕ → List ℕ → List ℕ → Type 0
Contains shape j x count size rest more =
    (xs : Items) × (content : List ℕ) × (x ≡ whole shape xs) × (item_count xs ≡ count) × Fills size (length content)
    × Forms IsCapped IsStrict xs j content × (rest ≡ content ++ more)

-- all before the first of so many items was read; they are led by j
pub record Begun (shape : Shape) (j k : Option ℕ) (old mid : At) (count : ℕ) (size : Option ℕ) : Type 0 where
  pub may : MayHave shape count
  pub there : (xs : Items) (content : List ℕ) (new : At) → Forms IsCapped IsStrict xs j content → item_count xs ≡ count
      → Fills size (length content) → Moves mid new content → Reads k old new (whole shape xs)
  pub back : (x : Item) (front more : List ℕ) → Wire x k front → old.rest ≡ front ++ more → kind_of x ≢ raw_kind
      → Contains shape j x count size mid.rest more

-- these items were read of the whole that begins at old, and no others
pub record HasRead {R : Type 0} (rest : R → List ℕ) (shape : Shape) (j k : Option ℕ) (old : At) (xs : List Item)
    (c : Content R) : Type 0 where
  pub count : ℕ
  pub size : Option ℕ
  pub mid : At
  pub front : List ℕ
  pub begun : Begun shape j k old mid count size
  pub forms : Forms IsCapped IsStrict (items_of xs) j front
  pub moves : Moves mid (at_of rest c.de.now) front
  pub left_is : length xs + c.left ≡ count
  pub end_is : EndsAt size mid.pos c.end
  pub outer_is : c.outer ≡ k
  pub inherits : c.de.now.element ≡ j

-- where some items were read, these were read behind them
pub record ReadsOn {R : Type 0} (rest : R → List ℕ) (c d : Content R) (ys : List Item) : Type 0 where
  pub on : (shape : Shape) (j k : Option ℕ) (old : At) (xs : List Item) → HasRead rest shape j k old xs c
      → HasRead rest shape j k old (xs ++ ys) d

-- the next item was read, and is taken as this
pub record TookNext {R : Type 0} (rest : R → List ℕ) (take : Item → Option Item) (c d : Content R) (y : Item) : Type
    0 where
  pub took : Took take c.de.now.element (at_of rest c.de.now) (at_of rest d.de.now) y
  pub more : ReadsOn rest c d (took.item ∷ [])
  pub element : d.de.now.element ≡ c.de.now.element
  pub left : c.left ≡ d.left + 1

-- the next key and its value were read, and are taken as these
pub record TookEntry {R : Type 0} (rest : R → List ℕ) (key value : Item → Option Item) (c d : Content R)
    (y z : Item) : Type 0 where
  pub mid : At
  pub first : Took key c.de.now.element (at_of rest c.de.now) mid y
  pub second : Took value c.de.now.element mid (at_of rest d.de.now) z
  pub more : ReadsOn rest c d (first.item ∷ second.item ∷ [])
  pub element : d.de.now.element ≡ c.de.now.element
  pub left : c.left ≡ d.left + 2

-- no front is a wire form of the item
pub record IsNot (k : Option ℕ) (old : At) (x : Item) : Type 0 where
  pub none : (front more : List ℕ) → Wire x k front → old.rest ≡ front ++ more → ⊥
