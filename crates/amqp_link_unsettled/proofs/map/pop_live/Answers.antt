use Rattle.std.proofs.Common.{◌≡◌, ◌∙◌, ◌++◌, ◌∷◌, [], ap, arith, rules, subst, List, Option, Some, None, ℕ}
use Rattle.std.proofs.lemmas.List.{append-nil}
use Rattle.std.specs.Option.{option_to_list}
use Rattle.amqp_link_unsettled.specs.declared.slot.Slot.{Slot}
use Rattle.amqp_link_unsettled.specs.Rising.{InOrder, standing}
use Rattle.amqp_link_unsettled.proofs.Ascending.{order-front}
use Rattle.amqp_link_unsettled.proofs.Standing.{standing-last}
use Rattle.amqp_link_unsettled.proofs.map.pop_live.Goals as goal

pub returns-in-Some-kept-clause-entries : goal.returns-in-Some-kept-clause-entries
returns-in-Some-kept-clause-entries g c =
    let popped : c.pop.result ≡ Some (c.in-Some.tag, c.in-Some.slot) = search rules in
    c.loop-tag.invariant.same
    ∙ standing-last c.loop-tag.slots.entries c.pop.new.self.entries c.in-Some.tag c.in-Some.slot (Some c.in-Some-kept.message)
    (c.pop.ensures.entries ∙ ap (λ (o : Option (List ℕ × Slot _)). c.pop.new.self.entries ++ option_to_list o) popped) c.in-Some-kept.is

pub returns-in-Some-kept-clause-order : goal.returns-in-Some-kept-clause-order
returns-in-Some-kept-clause-order g c = λ b order.
    let popped : c.pop.result ≡ Some (c.in-Some.tag, c.in-Some.slot) = search rules in
    order-front g.M.Numbered.number_of b c.pop.new.self.entries (c.in-Some.tag, c.in-Some.slot)
    (subst (λ (xs : List (List ℕ × Slot _)). InOrder g.M.Numbered.number_of b xs)
    (c.pop.ensures.entries ∙ ap (λ (o : Option (List ℕ × Slot _)). c.pop.new.self.entries ++ option_to_list o) popped)
    (c.loop-tag.invariant.order b order))

pub loop-tag-preserved : goal.loop-tag-preserved
loop-tag-preserved g c =
    let popped : c.pop.result ≡ Some (c.in-Some.tag, c.in-Some.slot) = search rules in
    let split : c.loop-tag.slots.entries ≡ c.pop.new.self.entries ++ (c.in-Some.tag, c.in-Some.slot) ∷ [] =
    c.pop.ensures.entries ∙ ap (λ (o : Option (List ℕ × Slot _)). c.pop.new.self.entries ++ option_to_list o) popped in
    record {
      same =
          c.loop-tag.invariant.same
          ∙ standing-last c.loop-tag.slots.entries c.pop.new.self.entries c.in-Some.tag c.in-Some.slot None split c.in_default-kept.is
          ∙ append-nil (standing c.pop.new.self.entries);
      order = λ b order.
          order-front g.M.Numbered.number_of b c.pop.new.self.entries (c.in-Some.tag, c.in-Some.slot)
          (subst (λ (xs : List (List ℕ × Slot _)). InOrder g.M.Numbered.number_of b xs) split (c.loop-tag.invariant.order b order));
      room = omega (arith, c.loop-tag.invariant.room, c.pop.ensures.room.0);
    }
