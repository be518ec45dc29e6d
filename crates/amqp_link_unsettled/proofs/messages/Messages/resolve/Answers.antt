use Rattle.std.proofs.Common.{sym, ap, subst, arith}
use Rattle.amqp_link_unsettled.specs.Entries.{Kept}
use Rattle.amqp_link_unsettled.specs.declared.open.Open.{Open}
use Rattle.amqp_link_unsettled.specs.Tagged.{AreTagged}
use Rattle.amqp_link_unsettled.proofs.Tagging.{tagged-remove}
use Rattle.amqp_link_unsettled.proofs.messages.Messages.resolve.Goals as goal

pub invariant_of-self : goal.invariant_of-self
invariant_of-self c =
    let Holds : Kept Open → Type 0 = λ k. AreTagged k.entries in (
      omega (arith, c.settle.ensures.len, c.settle.ensures.capacity, ap (λ (k : Kept Open). k.room) c.settle.ensures.unsettled, c.self.invariant.0),
      subst Holds (sym c.settle.ensures.unsettled) (tagged-remove c.args.tag.now c.self.inside.unsettled.entries c.self.invariant.1),
    )
