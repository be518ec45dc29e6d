-- Messages and what is sent, made of bodies (part 3, 3.2).
use Rattle.std.specs.Prelude.{◌≡◌, None}
use Rattle.amqp_link_message.specs.declared.message.Message.{Message}
use Rattle.amqp_link_message.specs.declared.sendable.Sendable.{Sendable}

-- a message of this body alone
abbrev pub bare : {B : Type 0} → B → Message B
bare b =
    record {
      header = None;
      delivery_annotations = None;
      message_annotations = None;
      properties = None;
      application_properties = None;
      body = b;
      footer = None;
    }

-- it is sent with a message that is so, in format 0, and without a word on how it is settled
pub record IsSendableOf {B : Type 0} (is : Message B → Type 0) (s : Sendable B) : Type 0 where
  pub message : is s.message
  pub format : s.message_format ≡ 0
  pub settled : s.settled ≡ None
