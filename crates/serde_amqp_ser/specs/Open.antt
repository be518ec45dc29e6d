-- A list or a map that is being written, item by item.
use Rattle.std.specs.Prelude.{◌≡◌, ℕ, List, [], ◌∷◌, length, Some}
use Rattle.serde_amqp_item.specs.Item.{Item, Items, items_of}
use Rattle.serde_amqp_item.specs.Canon.{alone}
use Rattle.serde_amqp_ser.specs.Written.{Written, extended, inside}
use Rattle.serde_amqp_ser.specs.Puts.{State, listed, place_of}
use Rattle.serde_amqp_ser.specs.declared.opened.Opened.{Opened}

-- these items stand, outside of arrays, behind what a sink held as a list or a map began
pub record IsOpen (begins : ℕ → ℕ) (before : Written) (xs : List Item) (now : State) : Type 0 where
  pub items : listed (inside begins before) (items_of xs) ≡ Some now.written
  pub outside : now.place ≡ alone

-- these items stand, as a list's, behind room for a head of three bytes, and that behind what a sink held
pub record IsRoomy (begins : ℕ → ℕ) (before : Written) (start content : ℕ) (xs : Items) (now : Written) : Type 0 where
  pub room : List ℕ
  pub long : length room ≡ 3
  pub begun : before.size ≡ start
  pub inner : (extended before room).size ≡ content
  pub items : listed (inside begins (extended before room)) xs ≡ Some now

-- a list or a map began at this state
pub record IsMark (s : State) (o : Opened) : Type 0 where
  pub start : s.written.size ≡ o.start
  pub outer : place_of o.outer ≡ s.place

-- the keys and the values of a map, in turn (section 1.6.23)
abbrev pub in_turn : List (Item × Item) → List Item
in_turn [] = []
in_turn (p ∷ ps) = p.0 ∷ p.1 ∷ in_turn ps
