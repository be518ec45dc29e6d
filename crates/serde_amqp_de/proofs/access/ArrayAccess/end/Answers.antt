use Rattle.serde_amqp_de.specs.Open.{an_array}
use Rattle.serde_amqp_de.proofs.Opened.{ended, unended, on_err}
use Rattle.serde_amqp_de.proofs.access.ArrayAccess.end.Goals as goal

pub returns-clause-ok : goal.returns-clause-ok
returns-clause-ok g c = ended g.R.Read.rest an_array c.finish.result c.args.self.content c.finish.new.self c.finish.ensures.ok

pub returns-clause-refused : goal.returns-clause-refused
returns-clause-refused g c =
    on_err c.finish.result _ _ (λ f j k old xs h. f j k old xs h tt) (unended g.R.Read.rest an_array c.finish.result c.args.self.content c.finish.ensures.refused)
