use Rattle.std.proofs.Common.{rules, ◌≡◌, false}
use Rattle.std.specs.Prelude.{is_some}
use Rattle.serde_amqp_de.specs.Reads.{at_of}
use Rattle.serde_amqp_de.proofs.Heads.{carried, no_head_refuses}
use Rattle.serde_amqp_de.proofs.Naming.{names_behind}
use Rattle.serde_amqp_de.proofs.deserializer.Deserializer.deserialize_raw.Goals as goal

pub returns-in_err-peek-clause-refused : goal.returns-in_err-peek-clause-refused
returns-in_err-peek-clause-refused g c = carried g.R.Read.faulty _ c.in_err-peek.field-0.0 _ _
    c.from_residual.ensures.1 (no_head_refuses _ _ _) c.in_err-peek.ensures.refused

pub returns-in_err-bytes-clause-named : goal.returns-in_err-bytes-clause-named
returns-in_err-bytes-clause-named g c =
    let plain : is_some c.args.self.now.element ≡ false = search rules in
    names_behind g.R.Read.faulty _ _ (at_of g.R.Read.rest c.args.self.now) _ _ plain
    c.from_residual-in_err-bytes.ensures.1 c.in_ok-peek.ensures.ok
