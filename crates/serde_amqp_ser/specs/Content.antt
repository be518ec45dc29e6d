-- What a serializer of a list, a map or a composite value has written.
use Rattle.std.specs.Prelude.{◌≡◌, ℕ, ◌-◌, ◌^◌, Bool, List, [], ◌∷◌, ◌++◌, length, min, Option, Some, None, is_some}
use Rattle.serde_amqp_item.specs.Item.{Item}
use Rattle.serde_amqp_ser.specs.Puts.{State}
use Rattle.serde_amqp_ser.specs.Open.{IsOpen, IsMark, in_turn}
use Rattle.serde_amqp_ser.specs.declared.content.Content.{Content}

-- these items stand behind the state at which the list or the map began
pub record Holds (begins : ℕ → ℕ) (s : State) (xs : List Item) (c : Content) (now : State) : Type 0 where
  pub mark : IsMark s c.opened
  pub items : IsOpen begins s.written xs now
  pub count : c.count ≡ min (length xs) (2 ^ 64 - 1)

-- the keys and the values of these pairs in turn, and behind them this key without its value, if there is one
abbrev pub turns : List (Item × Item) → Option Item → List Item
turns ps None = in_turn ps
turns ps (Some k) = in_turn ps ++ k ∷ []

-- these pairs, and this key without its value, stand behind the state at which the map began
pub record HoldsPairs (begins : ℕ → ℕ) (s : State) (ps : List (Item × Item)) (key : Option Item) (c : Content)
    (keyed : Bool) (now : State) : Type 0 where
  pub items : Holds begins s (turns ps key) c now
  pub half : keyed ≡ is_some key
