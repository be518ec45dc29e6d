use Rattle.std.proofs.Common.{List, ℕ, sym, subst}
use Rattle.serde_amqp_item.specs.Wire.{Wire}
use Rattle.serde_amqp_item.proofs.Forms.{wire_same}
use Rattle.serde_amqp_de.proofs.laws.one_value.Goals as goal

pub returns : goal.returns
returns g c = λ x y k a b s t u v w z e p q.
    let same = wire_same x y k a b s t w z e in
    g.met.T.Deserialize.decided x y k a u v w (subst (λ (l : List ℕ). Wire y k l) (sym same.0) z) p q
