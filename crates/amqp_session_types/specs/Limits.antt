-- Types with a restricted source: a primitive type of which some values alone are meant (part 1, 1.4).
use Rattle.std.specs.Prelude.{ℕ, Bool, false, ◌||◌, List, [], ◌∷◌, Option, Some, None, if◌then◌else◌, bytes_eq, nat_le}
use Rattle.serde_amqp_item.specs.Item.{Item, scalar, ubyte, uint, symbol}
use Rattle.serde_amqp_item.specs.Canon.{◌>>=◌}

-- what is taken, where it is one of these
unfoldable pub limited : (Item → Bool) → (Item → Option Item) → Item → Option Item
limited meant take x = take x >>= λ y. if meant y then Some y else None

-- a ubyte of at most this
abbrev pub is_ubyte_upto : ℕ → Item → Bool
is_ubyte_upto most (scalar (ubyte n)) = nat_le n most
is_ubyte_upto most _ = false

-- a uint of at most this
abbrev pub is_uint_upto : ℕ → Item → Bool
is_uint_upto most (scalar (uint n)) = nat_le n most
is_uint_upto most _ = false

-- whether one of these names is meant
abbrev pub is_among : List (List ℕ) → List ℕ → Bool
is_among [] s = false
is_among (name ∷ names) s = bytes_eq s name || is_among names s

-- one of these symbols
abbrev pub is_symbol_among : List (List ℕ) → Item → Bool
is_symbol_among names (scalar (symbol s)) = is_among names s
is_symbol_among names _ = false

-- this symbol
abbrev pub is_symbol_of : List ℕ → Item → Bool
is_symbol_of name (scalar (symbol s)) = bytes_eq s name
is_symbol_of name _ = false
