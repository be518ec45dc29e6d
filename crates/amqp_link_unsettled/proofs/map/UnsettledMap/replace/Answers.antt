use Rattle.std.proofs.Common.{◌∙◌, ap, sym, arith, length, List, ℕ}
use Rattle.std.proofs.lemmas.Map.{length-set_value}
use Rattle.std.specs.Str.{bytes_eq}
use Rattle.amqp_link_unsettled.specs.Rising.{standing}
use Rattle.amqp_link_unsettled.proofs.map.UnsettledMap.replace.Goals as goal

pub invariant_of-self : goal.invariant_of-self
invariant_of-self g c = (
  c.self.invariant.0 ∙ sym (ap (λ (xs : List (List ℕ × _)). length xs) c.exchange.ensures.entries ∙ length-set_value (bytes_eq c.args.tag.now) (standing c.self.inside.slots.entries) c.args.message),
  omega (arith, c.self.invariant.1, c.exchange.ensures.room),
  c.exchange.ensures.order,
)
