-- One of several composite types, which its descriptor says (part 1, sections 1.4 and 1.5).
use Rattle.std.specs.Prelude.{◌≡◌, ℕ, Bool, true, not, ◌&&◌, is_some, List, [], ◌∷◌, ◌++◌, Option, Some, None, ◌==◌}
use Rattle.std.specs.Prelude.{if◌then◌else◌, bytes_eq}
use Rattle.serde_amqp_item.specs.Item.{Item, Items, scalar, ulong, symbol, list, described}
use Rattle.serde_amqp_item.specs.Wire.{Wire}
use Rattle.serde_amqp_item.specs.Canon.{◌>>=◌}
use Rattle.serde_amqp_item.specs.Record.{record_item}
use Rattle.serde_amqp_de.specs.Reads.{At, Reads}
use Rattle.serde_amqp_de.specs.Takes.{fields_taken, list_with}
use Rattle.serde_amqp_de.specs.Decides.{AllDecided}

-- a composite type among several: the code and the name of its descriptor, and which items its fields take (section
-- 1.4)
pub record Row : Type 0 where
  pub code : ℕ
  pub name : List ℕ
  pub takes : List (Item → Option Item)

-- the first one with this code
abbrev pub row_coded : List Row → ℕ → Option Row
row_coded [] code = None
row_coded (r ∷ rs) code = if code == r.code then Some r else row_coded rs code

-- what the fields of that one take
abbrev pub takes_coded : List Row → ℕ → Option (List (Item → Option Item))
takes_coded table code = row_coded table code >>= λ r. Some r.takes

-- the first one with this name
abbrev pub row_named : List Row → List ℕ → Option Row
row_named [] name = None
row_named (r ∷ rs) name = if bytes_eq name r.name then Some r else row_named rs name

-- the code of the first one with this name
abbrev pub code_named : List Row → List ℕ → Option ℕ
code_named [] name = None
code_named (r ∷ rs) name = if bytes_eq name r.name then Some r.code else code_named rs name

-- the one that a descriptor says, as its code or as its name (section 1.5)
unfoldable pub row_said : List Row → Item → Option Row
row_said table (scalar (ulong n)) = row_coded table n
row_said table (scalar (symbol s)) = row_named table s
row_said table _ = None

-- the fields of this one, as they stand behind its descriptor: a list
abbrev pub fields_of : Row → Item → Option Item
fields_of r v = list_with (fields_taken r.takes) v >>= λ ys. Some (record_item r.code ys)

-- the fields of the one with this code
unfoldable pub fields_chosen : List Row → ℕ → Item → Option Item
fields_chosen table code v = row_coded table code >>= λ r. fields_of r v

-- one of these described lists, whose elements its fields take
unfoldable pub choice_taken : List Row → Item → Option Item
choice_taken table (described d v) = row_said table d >>= λ r. fields_of r v
choice_taken table _ = None

-- the code that a descriptor says, one of a type among these or not
unfoldable pub code_said : List Row → Item → Option Item
code_said table (scalar (ulong n)) = Some (scalar (ulong n))
code_said table (scalar (symbol s)) = code_named table s >>= λ code. Some (scalar (ulong code))
code_said table _ = None

-- the code that a descriptor says as a name
unfoldable pub name_said : List Row → Item → Option Item
name_said table (scalar (symbol s)) = code_named table s >>= λ code. Some (scalar (ulong code))
name_said table _ = None

-- a list was read, and the fields take its items as these
pub record TookList (takes : List (Item → Option Item)) (old new : At) (ys : List Item) : Type 0 where
  pub items : Items
  pub reads : Reads None old new (list items)
  pub taken : fields_taken takes items ≡ Some ys

-- no front is a list whose items the fields take
pub record RefusesList (takes : List (Item → Option Item)) (old : At) : Type 0 where
  pub none : (x : Item) (front more : List ℕ) → Wire x None front → old.rest ≡ front ++ more
      → list_with (fields_taken takes) x ≡ None

-- bytes give one value of each field
abbrev pub RowsDecided : List Row → Type 0
RowsDecided [] = Unit {0}
RowsDecided (r ∷ rs) = AllDecided r.takes × RowsDecided rs

-- no two have the same code
abbrev pub codes_differ : List Row → Bool
codes_differ [] = true
codes_differ (r ∷ rs) = not (is_some (row_coded rs r.code)) && codes_differ rs
