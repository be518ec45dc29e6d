-- Maps: keys and values in turn (part 1, section 1.6.23).
use Rattle.std.specs.Prelude.{◌≡◌, ℕ, List, [], ◌∷◌, ◌++◌, length, Option, Some, None}
use Rattle.serde_amqp_item.specs.Item.{Item, map, Items, no_items, more_items, Pairs, no_pairs, more_pairs, pairs_of}
use Rattle.serde_amqp_item.specs.Item.{pair_count}
use Rattle.serde_amqp_item.specs.Wire.{PairForms, IsCapped, IsStrict}
use Rattle.serde_amqp_item.specs.Canon.{◌>>=◌}
use Rattle.serde_amqp_de.specs.Reads.{At, Moves}

-- the pairs that keys and values in turn are; a key without a value is none
abbrev pub pairs_in : Items → Pairs
pairs_in no_items = no_pairs
pairs_in (more_items x no_items) = no_pairs
pairs_in (more_items x (more_items y xs)) = more_pairs x y (pairs_in xs)

-- the map of keys and values in turn
abbrev pub map_in : Items → Item
map_in xs = map (pairs_in xs)

abbrev pub map_taken : Item → Option Item
map_taken (map ps) = Some (map ps)
map_taken _ = None

-- each pair, in the order of the bytes, repeated keys among them
abbrev pub each_pair_taken : (Item → Option Item) → (Item → Option Item) → Pairs → Option (List (Item × Item))
each_pair_taken key value no_pairs = Some []
each_pair_taken key value (more_pairs x y ps) =
    key x >>= λ a. value y >>= λ b. each_pair_taken key value ps >>= λ qs. Some ((a, b) ∷ qs)

-- the pairs of a map
unfoldable pub pairs_taken : (Item → Option Item) → (Item → Option Item) → Item → Option Item
pairs_taken key value (map ps) = each_pair_taken key value ps >>= λ qs. Some (map (pairs_of qs))
pairs_taken key value _ = None

-- pairs were read one behind the other, and are taken as these
pub record TookPairs (key value : Item → Option Item) (count : ℕ) (old new : At) (ys : List (Item × Item)) : Type
    0 where
  pub pairs : Pairs
  pub front : List ℕ
  pub forms : PairForms IsCapped IsStrict pairs front
  pub moves : Moves old new front
  pub count_is : pair_count pairs ≡ count
  pub taken : each_pair_taken key value pairs ≡ Some ys

-- no front is so many pairs that are taken
pub record RefusesPairs (key value : Item → Option Item) (count : ℕ) (old : At) : Type 0 where
  pub none : (ps : Pairs) (front more : List ℕ) → PairForms IsCapped IsStrict ps front → old.rest ≡ front ++ more
      → pair_count ps ≡ count → each_pair_taken key value ps ≡ None

-- pairs were read one behind the other, are taken as these, and have so many bytes
pub record TookSizedPairs (key value : Item → Option Item) (count size : ℕ) (old new : At)
    (ys : List (Item × Item)) : Type 0 where
  pub all : TookPairs key value count old new ys
  pub size_is : length all.front ≡ size

-- no front is so many pairs that are taken, in so many bytes
pub record RefusesSizedPairs (key value : Item → Option Item) (count size : ℕ) (old : At) : Type 0 where
  pub none : (ps : Pairs) (front more : List ℕ) → PairForms IsCapped IsStrict ps front → old.rest ≡ front ++ more
      → pair_count ps ≡ count → length front ≡ size → each_pair_taken key value ps ≡ None
