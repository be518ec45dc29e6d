use Rattle.std.proofs.Common.{sym, ◌∙◌, rules}
use Rattle.serde_amqp_de.proofs.Heads.{carried, no_head_refuses}
use Rattle.serde_amqp_de.proofs.Descriptors.{named, not_named, numbered, not_numbered, no_name, no_number}
use Rattle.serde_amqp_de.proofs.record.read_descriptor.Goals as goal

pub returns-in_err-peek-clause-refused : goal.returns-in_err-peek-clause-refused
returns-in_err-peek-clause-refused g c = carried g.R.Read.faulty _ c.in_err-peek.field-0.0 _ _ c.from_residual.ensures.1 (no_head_refuses _ _ _) c.in_err-peek.ensures.refused

pub returns-in_err-text-clause-refused : goal.returns-in_err-text-clause-refused
returns-in_err-text-clause-refused g c = carried g.R.Read.faulty _ c.in_err-text.field-0.0 _ _ c.from_residual-in_err-text.ensures.1 (no_name c.args.code c.args.name.now _ _ _ _ c.in_ok-peek.ensures.ok (sym c.is_symbol.ensures ∙ c.if-is_symbol.true) c.in_ok-peek.ensures.same) (rw c.in_ok-peek.ensures.element at c.in_err-text.ensures.refused)

pub returns-in_err-number-clause-refused : goal.returns-in_err-number-clause-refused
returns-in_err-number-clause-refused g c = carried g.R.Read.faulty _ c.in_err-number.field-0.0 _ _ c.from_residual-in_err-number.ensures.1 (no_number c.args.code c.args.name.now _ _ _ _ c.in_ok-peek.ensures.ok (sym c.is_symbol.ensures ∙ c.if-is_symbol.false) c.in_ok-peek.ensures.same) (rw c.in_ok-peek.ensures.element at c.in_err-number.ensures.refused)

pub returns-then-number-code-clause-ok : goal.returns-then-number-code-clause-ok
returns-then-number-code-clause-ok g c = numbered c.args.code c.args.name.now _ _ _ _ _ c.in_ok-peek.ensures.same (rw c.in_ok-peek.ensures.element at c.in_ok-number.ensures.ok) c.if-number-code.true

pub returns-clause-refused : goal.returns-clause-refused
returns-clause-refused g c = not_numbered c.args.code c.args.name.now _ _ _ _ _ c.in_ok-peek.ensures.same (rw c.in_ok-peek.ensures.element at c.in_ok-number.ensures.ok) c.if-number-code.false

pub returns-then-eq-clause-ok : goal.returns-then-eq-clause-ok
returns-then-eq-clause-ok g c = named c.args.code c.args.name.now _ _ _ _ _ c.in_ok-peek.ensures.same (rw c.in_ok-peek.ensures.element at c.in_ok-text.ensures.ok) (search rules)

pub returns-then-is_symbol-clause-refused : goal.returns-then-is_symbol-clause-refused
returns-then-is_symbol-clause-refused g c = not_named c.args.code c.args.name.now _ _ _ _ _ c.in_ok-peek.ensures.same (rw c.in_ok-peek.ensures.element at c.in_ok-text.ensures.ok) (search rules)
