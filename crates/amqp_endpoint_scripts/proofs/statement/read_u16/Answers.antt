use Rattle.std.proofs.Common.{◌∙◌, rules}
use Rattle.amqp_endpoint_scripts.proofs.Words.{number_from_parse}
use Rattle.amqp_endpoint_scripts.proofs.statement.read_u16.Goals as goal

pub returns : goal.returns
returns c = c.ok.ensures.value ∙ number_from_parse 16 c.args.word.now _ (search rules) c.parse.ensures.value.0
