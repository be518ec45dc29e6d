use Rattle.amqp_link_message.specs.SayingLaws.{said_once}
use Rattle.amqp_link_message.proofs.laws.one_list_of_items.Goals as goal

pub returns : goal.returns
returns c = said_once
