-- What names a message: a ulong, a uuid, a binary or a string (part 3, 3.2.11 to 3.2.14).
use Rattle.std.specs.Prelude.{Option, Some, None}
use Rattle.serde_amqp_item.specs.Item.{Item, scalar, ulong, uuid, binary, string}
use Rattle.amqp_link_sections.specs.declared.message_id.MessageId.{MessageId}
use Rattle.amqp_link_sections.specs.declared.message_id.MessageId.TheVariants as id

abbrev pub message_id_item : MessageId → Item
message_id_item (id.Ulong n) = scalar (ulong n)
message_id_item (id.Uuid bs) = scalar (uuid bs)
message_id_item (id.Binary bs) = scalar (binary bs)
message_id_item (id.String text) = scalar (string text)

-- the items that are read as a message-id, and the item of that message-id
unfoldable pub message_id_taken : Item → Option Item
message_id_taken (scalar (ulong n)) = Some (scalar (ulong n))
message_id_taken (scalar (uuid bs)) = Some (scalar (uuid bs))
message_id_taken (scalar (binary bs)) = Some (scalar (binary bs))
message_id_taken (scalar (string text)) = Some (scalar (string text))
message_id_taken _ = None
