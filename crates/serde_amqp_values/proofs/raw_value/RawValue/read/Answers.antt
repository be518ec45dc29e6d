use Rattle.std.proofs.Common.{List, ℕ, Option, Some, None, ◌≡◌, sym, subst}
use Rattle.std.specs.Prelude.{IfOk}
use Rattle.serde_amqp_item.specs.Item.{Item}
use Rattle.serde_amqp_item.specs.Wire.{Wire}
use Rattle.serde_amqp_read.specs.Reads.{StrictBytes, Unless, faultless}
use Rattle.serde_amqp_values.proofs.Strict.{ok_read, refused_read}
use Rattle.serde_amqp_values.proofs.raw_value.RawValue.read.Goals as goal

pub returns-clause-ok : goal.returns-clause-ok
returns-clause-ok g c =
    subst (λ (bs : List ℕ). IfOk c.from_slice.result (λ v. (x : Item) × Wire x None bs × (g.T.Deserialize.take x ≡ Some (g.T.Deserialize.item v)))) c.as_bytes.ensures.value
    (ok_read c.from_slice.result g.T.Deserialize.item g.T.Deserialize.take c.as_bytes.result.now (subst StrictBytes (sym c.as_bytes.ensures.value) c.as_bytes.ensures.strict) c.from_slice.ensures.ok)

pub returns-clause-refused : goal.returns-clause-refused
returns-clause-refused g c =
    subst (λ (bs : List ℕ). Unless faultless c.from_slice.result ((x : Item) → Wire x None bs → g.T.Deserialize.take x ≡ None)) c.as_bytes.ensures.value
    (refused_read c.from_slice.result g.T.Deserialize.take c.as_bytes.result.now c.from_slice.ensures.refused)
