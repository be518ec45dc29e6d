use Rattle.std.proofs.Common.{◌∙◌}
use Rattle.serde_amqp_de.proofs.Heads.{carried}
use Rattle.serde_amqp_de.proofs.Records.{described_refused, descriptor_refused}
use Rattle.amqp_session_performatives.proofs.Reading.{composite_took, composite_refused}
use Rattle.amqp_session_performatives.proofs.composite.read_composite.Goals as goal

pub returns-in_err-described-clause-refused : goal.returns-in_err-described-clause-refused
returns-in_err-described-clause-refused g c = carried g.R.Read.faulty _ c.in_err-described.field-0.0 _ _ c.from_residual.ensures.1 (described_refused c.args.code c.args.name.now g.C.Composite.takes _ _) c.in_err-described.ensures.refused

pub returns-in_err-read_descriptor-clause-refused :
    goal.returns-in_err-read_descriptor-clause-refused
returns-in_err-read_descriptor-clause-refused g c =
    let plain = c.in_ok-described.ensures.element in
    carried g.R.Read.faulty _ c.in_err-read_descriptor.field-0.0 _ _ c.from_residual-in_err-read_descriptor.ensures.1 (descriptor_refused c.args.code c.args.name.now g.C.Composite.takes _ _ _ c.in_ok-described.ensures.ok) (rw plain at c.in_err-read_descriptor.ensures.refused)

pub returns-in_err-value-clause-refused : goal.returns-in_err-value-clause-refused
returns-in_err-value-clause-refused g c =
    let plain = c.in_ok-described.ensures.element in
    let took = rw plain at c.in_ok-read_descriptor.ensures.ok in
    carried g.R.Read.faulty _ c.in_err-value.field-0.0 _ _ c.from_residual-in_err-value.ensures.1 (composite_refused c.args.code c.args.name.now g.C.Composite.takes _ _ _ _ c.in_ok-described.ensures.ok took) c.in_err-value.ensures.refused

pub returns-clause-ok : goal.returns-clause-ok
returns-clause-ok g c = rw c.set_element.ensures (
    let plain = c.in_ok-described.ensures.element in
    let took = rw plain at c.in_ok-read_descriptor.ensures.ok in
    composite_took c.args.code c.args.name.now g.C.Composite.takes _ _ _ _ _ _ c.in_ok-described.ensures.ok took c.in_ok-value.ensures.ok
    )
