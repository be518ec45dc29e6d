-- One section or more of one type, one behind the other (part 3, 3.2).
use Rattle.std.specs.Prelude.{◌≡◌, ℕ, List, ◌∷◌, map, Option}
use Rattle.serde_amqp_item.specs.Item.{Item}
use Rattle.amqp_link_message.specs.Parts.{one_or_more, NoParts}
use Rattle.amqp_link_message.specs.Front.{HasFront}
use Rattle.amqp_link_message.specs.declared.several.OneOrMore.{OneOrMore}

-- the items of the sections
abbrev pub each_item : {S : Type 0} → (S → Item) → OneOrMore S → List Item
each_item item s = item s.first ∷ map item s.others.items

-- the bytes begin with a section that is taken, but don't say one or more of them and the parts behind
pub record NotSeveral (take : Item → Option Item) (takes : List (List Item → Option (List Item)))
    (bytes : List ℕ) : Type 0 where
  pub rest : List ℕ
  pub item : Item
  pub front : HasFront take bytes rest item
  pub none : NoParts (one_or_more take ∷ takes) bytes
