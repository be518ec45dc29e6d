use Rattle.serde_amqp_de.proofs.Heads.{carried}
use Rattle.serde_amqp_de.proofs.Opened.{key_refused, value_refused}
use Rattle.serde_amqp_de.proofs.access.MapAccess.next_entry.Goals as goal

pub returns-in_err-key-clause-refused : goal.returns-in_err-key-clause-refused
returns-in_err-key-clause-refused g c =
    carried g.R.Read.faulty c.from_residual.result c.in_err-key.field-0.0 _ _ c.from_residual.ensures.1
    (key_refused g.R.Read.rest g.K.Deserialize.take g.V.Deserialize.take c.args.self.now.content)
    c.in_err-key.ensures.refused

pub returns-in_err-value-clause-refused : goal.returns-in_err-value-clause-refused
returns-in_err-value-clause-refused g c =
    let took = rw c.in-Some.is at c.in_ok-key.ensures.ok in
    carried g.R.Read.faulty c.from_residual-in_err-value.result c.in_err-value.field-0.0 _ _ c.from_residual-in_err-value.ensures.1
    (value_refused g.R.Read.rest g.K.Deserialize.take g.V.Deserialize.take (g.K.Deserialize.item c.in-Some.key) c.args.self.now.content c.next_key.new.self.content c.in_ok-key.ensures.due took)
    c.in_err-value.ensures.refused
