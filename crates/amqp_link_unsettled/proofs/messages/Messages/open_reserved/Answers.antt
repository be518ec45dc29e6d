use Rattle.std.proofs.Common.{◌+◌, ◌≤◌, length, sym, ap, subst, arith, length-append}
use Rattle.std.specs.VecDeque.{deque_len, deque_capacity}
use Rattle.amqp_link_unsettled.specs.Entries.{Kept}
use Rattle.amqp_link_unsettled.specs.declared.open.Open.{Open}
use Rattle.amqp_link_unsettled.specs.Messages.{MessageLists}
use Rattle.amqp_link_unsettled.specs.Tagged.{AreTagged}
use Rattle.amqp_link_unsettled.proofs.Tagging.{tagged-append}
use Rattle.amqp_link_unsettled.proofs.messages.Messages.open_reserved.Goals as goal

pub invariant_of-self : goal.invariant_of-self
invariant_of-self c =
    let Holds : Kept Open → Type 0 = λ k.
    (k.room + length k.entries + deque_len c.self.inside.resolved ≤ deque_capacity c.self.inside.resolved) × AreTagged k.entries in
    subst Holds (sym c.insert_reserved.ensures) (
      simp length-append (omega (arith, c.requires.room, ap (λ (s : MessageLists). s.room) c.self.view_is, c.self.invariant.0)),
      tagged-append c.self.inside.unsettled.entries c.entry.inside.key c.entry.inside.message c.self.invariant.1 c.entry.invariant,
    )
