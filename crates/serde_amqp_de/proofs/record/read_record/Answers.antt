use Rattle.std.proofs.Common.{◌∙◌}
use Rattle.serde_amqp_de.proofs.Heads.{carried}
use Rattle.serde_amqp_de.proofs.Records.{described_refused, descriptor_refused, list_refused, fields_refused, record_took}
use Rattle.serde_amqp_de.proofs.record.read_record.Goals as goal

pub returns-in_err-described-clause-refused : goal.returns-in_err-described-clause-refused
returns-in_err-described-clause-refused g c = carried g.R.Read.faulty _ c.in_err-described.field-0.0 _ _ c.from_residual.ensures.1 (described_refused c.args.code c.args.name.now g.F.ReadFields.takes _ _) c.in_err-described.ensures.refused

pub returns-in_err-read_descriptor-clause-refused :
    goal.returns-in_err-read_descriptor-clause-refused
returns-in_err-read_descriptor-clause-refused g c =
    let plain = c.in_ok-described.ensures.element in
    carried g.R.Read.faulty _ c.in_err-read_descriptor.field-0.0 _ _ c.from_residual-in_err-read_descriptor.ensures.1 (descriptor_refused c.args.code c.args.name.now g.F.ReadFields.takes _ _ _ c.in_ok-described.ensures.ok) (rw plain at c.in_err-read_descriptor.ensures.refused)

pub returns-in_err-count-clause-refused : goal.returns-in_err-count-clause-refused
returns-in_err-count-clause-refused g c =
    let plain = c.in_ok-described.ensures.element in
    let still = c.in_ok-read_descriptor.ensures.element ∙ plain in
    let took = rw plain at c.in_ok-read_descriptor.ensures.ok in
    carried g.R.Read.faulty _ c.in_err-count.field-0.0 _ _ c.from_residual-in_err-count.ensures.1 (list_refused c.args.code c.args.name.now g.F.ReadFields.takes _ _ _ _ c.in_ok-described.ensures.ok took) (rw still at c.in_err-count.ensures.refused)

pub returns-in_err-fields-clause-refused : goal.returns-in_err-fields-clause-refused
returns-in_err-fields-clause-refused g c =
    let plain = c.in_ok-described.ensures.element in
    let still = c.in_ok-read_descriptor.ensures.element ∙ plain in
    let took = rw plain at c.in_ok-read_descriptor.ensures.ok in
    carried g.R.Read.faulty _ c.in_err-fields.field-0.0 _ _ c.from_residual-in_err-fields.ensures.1 (fields_refused c.args.code c.args.name.now g.F.ReadFields.takes _ _ _ _ _ _ _ c.in_ok-described.ensures.ok took (rw still at c.in_ok-count.ensures.ok)) (rw c.set_element.ensures at c.in_err-fields.ensures.refused)

pub returns-clause-ok : goal.returns-clause-ok
returns-clause-ok g c = rw c.set_element-2.ensures (
    let plain = c.in_ok-described.ensures.element in
    let still = c.in_ok-read_descriptor.ensures.element ∙ plain in
    let took = rw plain at c.in_ok-read_descriptor.ensures.ok in
    record_took c.args.code c.args.name.now g.F.ReadFields.takes _ _ _ _ _ _ _ _ _ c.in_ok-described.ensures.ok took (rw still at c.in_ok-count.ensures.ok) (rw c.set_element.ensures at c.in_ok-fields.ensures.ok)
    )
