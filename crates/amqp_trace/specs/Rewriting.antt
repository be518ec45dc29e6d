-- Messages that are read and written anew (part 3, 3.2).
use Rattle.std.specs.Prelude.{◌≡◌, ◌⊎◌, ℕ, List, Option, Some, None}
use Rattle.serde_amqp_item.specs.Item.{Item}
use Rattle.amqp_link_message.specs.Payload.{payload_text}
use Rattle.amqp_link_message.specs.Parts.{ReadsParts, NoParts}
use Rattle.amqp_link_message.specs.Message.{message_parts, message_items, message_takes}
use Rattle.amqp_link_message.specs.declared.message.Message.{Message}

-- the bytes say the sections of a message in order, to their end
abbrev pub SaysMessage : {B : Type 0} → (List Item → Option (List Item)) → (B → List Item) → List ℕ → Message B → Type 0
SaysMessage takes items bytes m = ReadsParts (message_takes takes) bytes (message_parts items m)

-- the bytes say a message, and this is what it is written as
pub record IsRewritten {B : Type 0} (takes : List Item → Option (List Item)) (items written : B → List Item)
    (bytes text : List ℕ) : Type 0 where
  pub message : Message B
  pub said : SaysMessage takes items bytes message
  pub text_is : payload_text (message_items written message) ≡ Some text

-- the bytes say a message that can't be written
pub record IsUnwritable {B : Type 0} (takes : List Item → Option (List Item)) (items written : B → List Item)
    (bytes : List ℕ) : Type 0 where
  pub message : Message B
  pub said : SaysMessage takes items bytes message
  pub no_text : payload_text (message_items written message) ≡ None

-- the bytes say no message, or one that can't be written
abbrev pub NotRewritten : {B : Type 0} → (List Item → Option (List Item)) → (B → List Item) → (B → List Item) → List ℕ
    → Type 0
NotRewritten takes items written bytes = NoParts (message_takes takes) bytes ⊎ IsUnwritable takes items written bytes
