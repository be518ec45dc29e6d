use Rattle.amqp_link_sections.specs.MessageIdLaws.{message_id_again, message_id_same}
use Rattle.amqp_link_sections.proofs.laws.message_id_is_its_item.Goals as goal

pub returns : goal.returns
returns c = record { read_back = message_id_again; told_apart = message_id_same }
