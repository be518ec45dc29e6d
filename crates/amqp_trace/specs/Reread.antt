-- Values that are read as a type and written anew.
use Rattle.std.specs.Prelude.{◌≡◌, ℕ, List, ◌++◌, length, Option, Some, None}
use Rattle.serde_amqp_item.specs.Item.{Item}
use Rattle.serde_amqp_item.specs.Wire.{Wire}
use Rattle.serde_amqp_item.specs.Canon.{canon}

-- A front of the bytes is a wire form of an item that the type takes. This is what the value is written as that the
-- type makes of it, and so many bytes stand behind the front.
pub record IsReread (take : Item → Option Item) (bytes text : List ℕ) (left : ℕ) : Type 0 where
  pub item : Item
  pub value : Item
  pub front : List ℕ
  pub behind : List ℕ
  pub whole : bytes ≡ front ++ behind
  pub form : Wire item None front
  pub taken : take item ≡ Some value
  pub written : canon value ≡ Some text
  pub rest : left ≡ length behind

-- no front of the bytes is a wire form of an item that the type takes and whose value can be written
pub record NotReread (take : Item → Option Item) (bytes : List ℕ) : Type 0 where
  pub none : (item value : Item) (front behind : List ℕ) → Wire item None front → bytes ≡ front ++ behind
      → take item ≡ Some value → canon value ≡ None
