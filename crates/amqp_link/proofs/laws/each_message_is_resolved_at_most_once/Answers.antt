use Rattle.std.proofs.Common.{rules}
use Rattle.amqp_link.proofs.Histories.{balanced}
use Rattle.amqp_link.proofs.laws.each_message_is_resolved_at_most_once.Goals as goal

pub returns : goal.returns
returns c = balanced
