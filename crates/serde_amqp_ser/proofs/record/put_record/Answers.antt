use Rattle.std.proofs.Common.{sym, ◌∙◌}
use Rattle.serde_amqp_ser.proofs.Roomy.{empty_ok, empty_refused}
use Rattle.serde_amqp_ser.proofs.record.put_record.Goals as goal

pub returns-then-is_null-clause-ok : goal.returns-then-is_null-clause-ok
returns-then-is_null-clause-ok g c = empty_ok c.put_empty_record.result _ _ c.args.code
    (g.F.Fields.items c.args.fields.now) (sym c.is_null.ensures ∙ c.if-is_null.true) c.put_empty_record.ensures.ok

pub returns-then-is_null-clause-refused : goal.returns-then-is_null-clause-refused
returns-then-is_null-clause-refused g c = empty_refused c.put_empty_record.result _ c.args.code
    (g.F.Fields.items c.args.fields.now) (sym c.is_null.ensures ∙ c.if-is_null.true) c.put_empty_record.ensures.refused
