use Rattle.std.proofs.Common.{List, ℕ, None, sym, ◌∙◌, subst}
use Rattle.serde_amqp_item.specs.Item.{Item}
use Rattle.serde_amqp_item.specs.Wire.{Wire}
use Rattle.serde_amqp_item.proofs.Forms.{wire_same}
use Rattle.serde_amqp_item.proofs.Texts.{canon_wire}
use Rattle.serde_amqp_round_trip.proofs.laws.written_is_read.Goals as goal

pub returns-clause-there : goal.returns-clause-there
returns-clause-there g c = λ v text w r e.
    (subst (λ (x : Item). Wire x None text) (g.met.T.RoundTrip.same v) (canon_wire _ text w r e), g.met.T.RoundTrip.again v)

pub returns-clause-same : goal.returns-clause-same
returns-clause-same g c = λ v text more front rest x u w r e h s p.
    let written = canon_wire _ text w r e in
    let split = wire_same _ x None text front more rest written h s in
    let read = subst (λ (l : List ℕ). Wire x None l) (sym split.0) h in
    let taken = subst (λ (y : Item). Wire y None text) (g.met.T.RoundTrip.same v) written in
    g.met.T.Deserialize.decided x _ None text u _ read taken p (g.met.T.RoundTrip.again v) ∙ sym (g.met.T.RoundTrip.same v)
