-- What is still to be taken of strict forms that hold one another (part 1, section 1.2).
use Rattle.std.specs.Prelude.{◌≡◌, ◌≢◌, ℕ, ◌+◌, ◌-◌, ◌*◌, ◌%◌, ◌<◌, ◌≤◌, ◌==◌, Bool, true, false, is_some, List, []}
use Rattle.std.specs.Prelude.{◌∷◌, ◌++◌, length, Option, Some, None, if◌then◌else◌}
use Rattle.serde_amqp_item.specs.declared.codes.EncodingCodes.{EncodingCodes}
use Rattle.serde_amqp_item.specs.declared.codes.EncodingCodes.TheVariants.{DescribedType, Null, Boolean, Char}
use Rattle.serde_amqp_item.specs.declared.codes.Category.{Category}
use Rattle.serde_amqp_item.specs.declared.codes.Category.TheVariants.{Fixed}
use Rattle.serde_amqp_item.specs.declared.error.Error.{Error}
use Rattle.serde_amqp_item.specs.Item.{Item, Items, item_count}
use Rattle.serde_amqp_item.specs.Wire.{Row, fixed, variable, empty_list, map_of, described_by, Width, field, room, Form}
use Rattle.serde_amqp_item.specs.Wire.{Forms, Leads, AnyCount, NoRaw, IsStrict, own, code_of, row_at, row_of}
use Rattle.serde_amqp_item.specs.Wire.{category_of}
use Rattle.serde_amqp_read.specs.Reads.{with_more}
use Rattle.serde_amqp_read.specs.declared.measure.Frame.{Frame}

-- how far the bytes were taken
pub record Place : Type 0 where
  pub rest : List ℕ
  pub taken : List ℕ
  pub consumed : ℕ
  -- what the end of the reader is called
  pub ending : Error
  -- how many bytes were fetched and not yet taken
  pub ahead : ℕ

abbrev pub place_of : {R : Type 0} → (R → List ℕ) → (R → ℕ) → (R → Error) → (R → ℕ) → R → List ℕ → Place
place_of rest consumed ending ahead reader taken = record {
  rest = rest reader;
  taken = taken;
  consumed = consumed reader;
  ending = ending reader;
  ahead = ahead reader;
}

-- these bytes were taken
pub record Moves (old new : Place) (front : List ℕ) : Type 0 where
  pub split : old.rest ≡ front ++ new.rest
  pub joined : new.taken ≡ old.taken ++ front
  pub counted : with_more new.consumed 0 ≡ with_more old.consumed (length front)
  pub ending : new.ending ≡ old.ending
  pub ahead : new.ahead ≤ old.ahead - length front

-- as many bytes are then taken in all
abbrev pub Ends : Option ℕ → ℕ → Type 0
Ends None n = Unit {0}
Ends (Some m) n = n ≡ m

-- a number field of this width was taken
pub record TookField (w : Width) (old new : Place) (n : ℕ) : Type 0 where
  pub moves : Moves old new (field w n)
  pub fits : n < room w

-- the bytes mean a value where they are all that stands behind a constructor or a size
abbrev pub is_read : Row → List ℕ → Bool
is_read (fixed n read) bytes = is_some (read bytes)
is_read (variable w read) bytes = is_some (read bytes)
is_read r bytes = true

pub record TookContent (r : Row) (count : ℕ) (old new : Place) : Type 0 where
  pub front : List ℕ
  pub moves : Moves old new front
  pub long : length front ≡ count
  pub read : is_read r front ≡ true

pub record NoContent (r : Row) (count : ℕ) (rest : List ℕ) : Type 0 where
  pub none : (front more : List ℕ) → rest ≡ front ++ more → length front ≡ count → is_read r front ≡ false

-- so many bytes were taken
pub record Taken (count : ℕ) (old new : Place) : Type 0 where
  pub front : List ℕ
  pub moves : Moves old new front
  pub long : length front ≡ count

-- an empty array without a constructor: the size 1 and the count 0, each one byte
pub record Bare (width size count : ℕ) : Type 0 where
  pub one : width ≡ 1
  pub size_is : size ≡ 1
  pub empty : count ≡ 0

-- an array's constructor of so many elements
abbrev pub is_element : Option EncodingCodes → ℕ → Bool
is_element None n = false
is_element (Some Null) n = n == 0
is_element (Some DescribedType) n = n == 0
is_element (Some code) n = true

-- a map has as many values as keys
abbrev pub admits : Row → ℕ → Bool
admits (map_of w) n = n % 2 == 0
admits r n = true

-- at least one byte stands behind the constructor
abbrev pub TakesBytes : Row → Type 0
TakesBytes (fixed n read) = 0 < n
TakesBytes empty_list = ⊥
TakesBytes described_by = ⊥
TakesBytes r = Unit {0}

-- the items that a frame says, in these bytes
abbrev pub Held : Frame → ℕ → Items → List ℕ → Type 0
Held f at xs content =
    Forms AnyCount NoRaw xs f.inherited content × (item_count xs ≡ f.left) × Ends f.end (at + length content)

-- what stands behind a constructor, but for the items that the frame says
pub record Opens (r : Row) (old new : Place) (f : Frame) : Type 0 where
  pub front : List ℕ
  pub moves : Moves old new front
  pub there : (xs : Items) (content : List ℕ) (o : Option ℕ) → Held f (length new.taken) xs content
      → (x : Item) × Form AnyCount NoRaw x o r (front ++ content)
  pub back : (x : Item) (o : Option ℕ) (a more : List ℕ) → Form AnyCount NoRaw x o r a → old.rest ≡ a ++ more
      → (xs : Items) × (content : List ℕ) × (a ≡ front ++ content) × Held f (length new.taken) xs content
  pub filled : TakesBytes r → 0 < length front
  pub sound : 0 < f.left → f.inherited ≢ Some 0

pub record NoRow (r : Row) (rest : List ℕ) : Type 0 where
  pub none : (x : Item) (o : Option ℕ) (a more : List ℕ) → Form AnyCount NoRaw x o r a → rest ≡ a ++ more → ⊥

-- the constructor of the next form, which an array may give it
pub record Headed (k : Option ℕ) (old new : Place) (code : EncodingCodes) : Type 0 where
  pub byte : ℕ
  pub front : List ℕ
  pub means : code_of byte ≡ Some code
  pub moves : Moves old new front
  pub there : (a : List ℕ) → Leads k (front ++ a) byte a
  pub back : (c : ℕ) (w a more : List ℕ) → Leads k w c a → old.rest ≡ w ++ more → (c ≡ byte) × (w ≡ front ++ a)
  pub filled : k ≡ None → 0 < length front

-- the next form, but for the items that the frame says
pub record Enters (k : Option ℕ) (old new : Place) (f : Frame) : Type 0 where
  pub front : List ℕ
  pub moves : Moves old new front
  pub there : (xs : Items) (content : List ℕ) → Held f (length new.taken) xs content
      → (x : Item) × (c : ℕ) × (a : List ℕ) × Leads k (front ++ content) c a
      × Form AnyCount NoRaw x (own k c) (row_of c) a
  pub back : (x : Item) (c : ℕ) (a w more : List ℕ) → Leads k w c a → Form AnyCount NoRaw x (own k c) (row_of c) a
      → old.rest ≡ w ++ more → (xs : Items) × (content : List ℕ) × (w ≡ front ++ content)
      × Held f (length new.taken) xs content
  pub filled : 0 < length front
  pub sound : 0 < f.left → f.inherited ≢ Some 0

pub record NoForm (k : Option ℕ) (rest : List ℕ) : Type 0 where
  pub none : (x : Item) (c : ℕ) (a w more : List ℕ) → Leads k w c a → Form AnyCount NoRaw x (own k c) (row_of c) a
      → rest ≡ w ++ more → ⊥

-- the bytes of each form behind a constructor, where any so many bytes are one
abbrev pub width_of : Option Category → Option ℕ
width_of (Some (Fixed n)) = Some n
width_of _ = None

abbrev pub plain_at : Option EncodingCodes → Option ℕ
plain_at (Some Boolean) = None
plain_at (Some Char) = None
plain_at code = width_of (category_of (row_at code))

abbrev pub plain_behind : Option ℕ → Option ℕ
plain_behind None = None
plain_behind (Some c) = plain_at (code_of c)

abbrev pub plain_width : Frame → Option ℕ
plain_width f = if f.left == 0 then Some 0 else plain_behind f.inherited

-- a constructor of which a form has at least one byte of its own
abbrev pub NeedsBytes : Option ℕ → Type 0
NeedsBytes None = Unit {0}
NeedsBytes (Some c) = (c ≢ 0) × (plain_at (code_of c) ≡ None)

-- all forms that a frame says were taken
pub record Finishes (f : Frame) (width : ℕ) (old new : Place) : Type 0 where
  pub front : List ℕ
  pub moves : Moves old new front
  pub long : length front ≡ f.left * width
  pub ends : Ends f.end (length new.taken)

pub record Unfinished (f : Frame) (width : ℕ) (old : Place) : Type 0 where
  pub none : (front more : List ℕ) → old.rest ≡ front ++ more → length front ≡ f.left * width
      → Ends f.end (length old.taken + length front) → ⊥

-- the bytes are the forms that the frames say, the innermost first, and then more
abbrev pub Pending : List Frame → ℕ → List ℕ → List ℕ → Type 0
Pending [] at bytes more = bytes ≡ more
Pending (f ∷ fs) at bytes more =
    (xs : Items) × (front : List ℕ) × (behind : List ℕ) × (bytes ≡ front ++ behind) × Held f at xs front
    × Pending fs (at + length front) behind more

-- a strict form was taken
pub record TookStrict (old new : Place) : Type 0 where
  pub byte : ℕ
  pub behind : List ℕ
  pub moves : Moves old new (byte ∷ behind)
  pub strict : IsStrict byte behind
