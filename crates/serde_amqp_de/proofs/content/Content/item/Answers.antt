use Rattle.std.proofs.Common.{refl, rules}
use Rattle.serde_amqp_de.proofs.Opened.{took_next}
use Rattle.serde_amqp_de.proofs.content.Content.item.Goals as goal

pub returns-in-Ok-clause-ok : goal.returns-in-Ok-clause-ok
returns-in-Ok-clause-ok g c =
    took_next g.R.Read.rest g.T.Deserialize.take (g.T.Deserialize.item c.in-Ok.value) c.args.self.now _ c.in-Ok.ensures.ok c.in-Ok.ensures.element (search rules) refl refl
