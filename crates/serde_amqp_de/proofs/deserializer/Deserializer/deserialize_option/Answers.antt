use Rattle.std.proofs.Common.{ap}
use Rattle.serde_amqp_de.specs.Reads.{at_of}
use Rattle.serde_amqp_de.proofs.Heads.{carried, no_head_refuses}
use Rattle.serde_amqp_de.proofs.Values.{some_took, some_refused, none_took, none_refused}
use Rattle.serde_amqp_item.specs.Kind.{null_kind}
use Rattle.serde_amqp_de.proofs.Naming.{names_option, names_foreseen}
use Rattle.serde_amqp_de.proofs.deserializer.Deserializer.deserialize_option.Goals as goal

pub returns-in_err-peek-clause-refused : goal.returns-in_err-peek-clause-refused
returns-in_err-peek-clause-refused g c = carried g.R.Read.faulty _ c.in_err-peek.field-0.0 _ _
    c.from_residual.ensures.1 (no_head_refuses _ _ _) c.in_err-peek.ensures.refused

pub returns-in_err-deserialize_unit-in-Null-clause-refused :
    goal.returns-in_err-deserialize_unit-in-Null-clause-refused
returns-in_err-deserialize_unit-in-Null-clause-refused g c =
    carried g.R.Read.faulty _ c.in_err-deserialize_unit-in-Null.field-0.0 _ _
    c.from_residual-in_err-deserialize_unit-in-Null.ensures.1
    (none_refused g.T.Deserialize.take _ _ _ (rw c.in-Null.is at c.in_ok-peek.ensures.ok) c.in_ok-peek.ensures.same)
    (rw c.in_ok-peek.ensures.element at c.in_err-deserialize_unit-in-Null.ensures.refused)

pub returns-in_ok-deserialize_unit-in-Null-clause-ok :
    goal.returns-in_ok-deserialize_unit-in-Null-clause-ok
returns-in_ok-deserialize_unit-in-Null-clause-ok g c = none_took g.T.Deserialize.take _ _ _ _
    c.in_ok-peek.ensures.same (rw c.in_ok-peek.ensures.element at c.in_ok-deserialize_unit-in-Null.ensures.ok)

pub returns-in_err-deserialize-in_default-clause-refused :
    goal.returns-in_err-deserialize-in_default-clause-refused
returns-in_err-deserialize-in_default-clause-refused g c = carried g.R.Read.faulty _
    c.in_err-deserialize-in_default.field-0.0 _ _ c.from_residual-in_err-deserialize-in_default.ensures.1
    (some_refused g.T.Deserialize.take _ _ _ _ c.in_ok-peek.ensures.ok c.in_ok-peek.ensures.same
    c.in_default.not-Null) (rw c.in_ok-peek.ensures.element at c.in_err-deserialize-in_default.ensures.refused)

pub returns-in_ok-deserialize-in_default-clause-ok : goal.returns-in_ok-deserialize-in_default-clause-ok
returns-in_ok-deserialize-in_default-clause-ok g c = some_took g.T.Deserialize.take _ _ _ _ _ _
    c.in_ok-peek.ensures.ok c.in_ok-peek.ensures.same c.in_default.not-Null
    (rw c.in_ok-peek.ensures.element at c.in_ok-deserialize-in_default.ensures.ok)

pub returns-in_err-peek-clause-named : goal.returns-in_err-peek-clause-named
returns-in_err-peek-clause-named g c = names_option g.R.Read.faulty _ _ _ _ c.from_residual.ensures.1
    (c.in_err-peek.ensures.named null_kind)

pub returns-in_err-deserialize_unit-in-Null-clause-named :
    goal.returns-in_err-deserialize_unit-in-Null-clause-named
returns-in_err-deserialize_unit-in-Null-clause-named g c = names_option g.R.Read.faulty _ _ _ _
    c.from_residual-in_err-deserialize_unit-in-Null.ensures.1
    (rw (
      c.in_ok-peek.ensures.element,
      ap (λ a. a.rest)
          c.in_ok-peek.ensures.same,
    ) at c.in_err-deserialize_unit-in-Null.ensures.named)

pub returns-in_err-deserialize-in_default-clause-named :
    goal.returns-in_err-deserialize-in_default-clause-named
returns-in_err-deserialize-in_default-clause-named g c = names_foreseen g.R.Read.faulty _ _
    (at_of g.R.Read.rest c.args.self.now) _ _ c.from_residual-in_err-deserialize-in_default.ensures.1
    c.in_ok-peek.ensures.ok c.in_default.not-Null
