use Rattle.std.proofs.Common.{◌∙◌, ℕ, List, Option, Some, ap, sym, subst}
use Rattle.amqp_link_unsettled.specs.Entries.{Kept}
use Rattle.amqp_link_unsettled.specs.declared.slot.Slot.{Slot}
use Rattle.amqp_link_unsettled.specs.Numbers.{tag_with}
use Rattle.amqp_link_unsettled.specs.Rising.{InOrder, standing}
use Rattle.amqp_link_unsettled.proofs.map.UnsettledMap.find.Goals as goal

pub search-requires : goal.search-requires
search-requires g c =
    subst (λ (es : List (List ℕ × Slot _)). InOrder g.M.Numbered.number_of (Some c.in-Some.bound) es) (sym c.as_slice.ensures.entries)
    (subst (λ (o : Option ℕ). InOrder g.M.Numbered.number_of o c.self.inside.slots.entries) c.in-Some.is c.self.invariant.2)

pub returns-in-Some : goal.returns-in-Some
returns-in-Some g c =
    c.search.ensures
    ∙ ap (λ (es : List (List ℕ × Slot _)). tag_with g.M.Numbered.number_of c.args.number (standing es)) c.as_slice.ensures.entries
    ∙ ap (λ (k : Kept _). tag_with g.M.Numbered.number_of c.args.number k.entries) c.self.view_is
