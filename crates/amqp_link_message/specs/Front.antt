-- Whether a section stands at the front of a payload (part 3, 3.2).
use Rattle.std.specs.Prelude.{◌≡◌, ℕ, List, ◌++◌, map, Option, Some, None}
use Rattle.serde_amqp_item.specs.Item.{Item}
use Rattle.serde_amqp_item.specs.Wire.{Wire}
use Rattle.amqp_link_message.specs.Payload.{Says}
use Rattle.amqp_link_message.specs.Parts.{any_number}

-- the bytes begin with a section that is taken as this item, and these bytes stand behind it
pub record HasFront (take : Item → Option Item) (bytes rest : List ℕ) (y : Item) : Type 0 where
  pub item : Item
  pub front : List ℕ
  pub wire : Wire item None front
  pub split : bytes ≡ front ++ rest
  pub taken : take item ≡ Some y

-- no front of the bytes is a section that is taken
pub record HasNoFront (take : Item → Option Item) (bytes : List ℕ) : Type 0 where
  pub none : (x : Item) (front more : List ℕ) → Wire x None front → bytes ≡ front ++ more → take x ≡ None

-- the section at the front is taken from it, where there is one
abbrev pub FrontTaken : {S : Type 0} → (Item → Option Item) → (S → Item) → List ℕ → Option S → List ℕ → Type 0
FrontTaken take item bytes None rest = (rest ≡ bytes) × HasNoFront take bytes
FrontTaken take item bytes (Some s) rest = HasFront take bytes rest (item s)

-- the bytes begin with so many sections that are taken as these items, and these bytes stand behind them
pub record Run (take : Item → Option Item) (bytes rest : List ℕ) (ys : List Item) : Type 0 where
  pub items : List Item
  pub front : List ℕ
  pub said : Says front items
  pub split : bytes ≡ front ++ rest
  pub taken : any_number take items ≡ Some ys

-- the sections at the front are taken from it, all of them: no other stands behind them
pub record AllTaken {S : Type 0} (take : Item → Option Item) (item : S → Item) (bytes rest : List ℕ)
    (sections : List S) : Type 0 where
  pub run : Run take bytes rest (map item sections)
  pub stop : HasNoFront take rest
