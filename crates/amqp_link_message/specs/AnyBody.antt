-- A body of any kind: its first section says which it is (part 3, 3.2).
use Rattle.std.specs.Prelude.{List, [], ◌∷◌, Option, Some, None}
use Rattle.serde_amqp_item.specs.Item.{Item}
use Rattle.amqp_link_sections.specs.Body.{data_item, data_taken, amqp_sequence_item, amqp_sequence_taken}
use Rattle.amqp_link_sections.specs.Body.{amqp_value_item, amqp_value_taken}
use Rattle.amqp_link_message.specs.Parts.{exactly_one, one_or_more}
use Rattle.amqp_link_message.specs.Several.{each_item}
use Rattle.amqp_link_message.specs.declared.any_body.Body.{Body}
use Rattle.amqp_link_message.specs.declared.any_body.Body.TheVariants as is

-- the first, where there is one, else the other
abbrev pub or_else : {X : Type 0} → Option X → Option X → Option X
or_else (Some x) other = Some x
or_else None other = other

-- one data section or more, or one amqp-sequence or more, or one amqp-value
abbrev pub body_takes : (Item → Option Item) → List Item → Option (List Item)
body_takes take xs =
    or_else (one_or_more data_taken xs)
    (or_else (one_or_more (amqp_sequence_taken take) xs) (exactly_one (amqp_value_taken take) xs))

-- the items of its sections
abbrev pub body_items : {X : Type 0} → (X → Item) → Body X → List Item
body_items item (is.Data sections) = each_item data_item sections
body_items item (is.Sequence sequences) = each_item (amqp_sequence_item item) sequences
body_items item (is.Value value) = amqp_value_item item value ∷ []
