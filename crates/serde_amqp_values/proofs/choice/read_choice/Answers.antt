use Rattle.serde_amqp_values.proofs.Choosing.{choice_read}
use Rattle.serde_amqp_values.proofs.choice.read_choice.Goals as goal

pub returns-clause-ok : goal.returns-clause-ok
returns-clause-ok g c = rw c.set_element.ensures (
    search (choice_read g.C.Choice.table c.in_ok-code.code, c.in_ok-value.ensures.ok, c.in_ok-code.ensures.ok, c.in_ok-described.ensures.ok, c.in_ok-described.ensures.element, g.met.C.Choice.differ)
    )
