use Rattle.std.proofs.Common.{◌∙◌, sym, refl}
use Rattle.serde_amqp_item.proofs.laws.raw_item_is_its_bytes.Goals as goal

pub returns : goal.returns
returns c = record { bytes = λ text bytes h. h.2 ∙ sym h.3.0; strict = λ b rest h. (b, rest, refl, (refl, h)) }
