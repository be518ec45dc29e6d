use Rattle.std.proofs.Common.{◌∙◌}
use Rattle.amqp_link_receiver.proofs.Finding.{tag-found}
use Rattle.amqp_link_receiver.proofs.numbering.tag_of.Goals as goal

pub returns : goal.returns
returns c = c.find.ensures ∙ tag-found c.args.message c.args.unsettled.now.entries
