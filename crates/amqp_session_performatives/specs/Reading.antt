-- Reading the fields of a composite type.
use Rattle.std.specs.Prelude.{◌≡◌, ℕ, List, Option}
use Rattle.serde_amqp_item.specs.Item.{Item}
use Rattle.serde_amqp_item.specs.Record.{record_item}
use Rattle.serde_amqp_de.specs.Reads.{At}
use Rattle.serde_amqp_values.specs.Choice.{TookList}

-- a list was read whose items the fields take, and this is the composite type with this code and these fields
pub record TookRecord (takes : List (Item → Option Item)) (code : ℕ) (old new : At) (x : Item) : Type 0 where
  pub fields : List Item
  pub took : TookList takes old new fields
  pub item : x ≡ record_item code fields
