use Rattle.std.proofs.Common.{◌≡◌, ◌∙◌, ap, sym, subst, length, List, ℕ, rules}
use Rattle.std.specs.Map.{lookup}
use Rattle.std.specs.Str.{bytes_eq}
use Rattle.amqp_link_unsettled.specs.declared.slot.Slot.{Slot}
use Rattle.amqp_link_unsettled.specs.Rising.{InOrder, standing}
use Rattle.amqp_link_unsettled.proofs.Ascending.{order-swept}
use Rattle.amqp_link_unsettled.proofs.Standing.{all-stand, standing-swept, standing-absent}
use Rattle.amqp_link_unsettled.proofs.map.forget.Goals as goal

pub returns-then-len-count-clause-gone : goal.returns-then-len-count-clause-gone
returns-then-len-count-clause-gone g c =
    let full : length (standing c.args.slots.now.entries) ≡ length c.args.slots.now.entries = search rules in
    all-stand (bytes_eq c.args.tag.now) c.args.slots.now.entries full c.requires.absent

pub returns-clause-entries : goal.returns-clause-entries
returns-clause-entries g c = ap (λ (es : List (List ℕ × Slot _)). standing es) c.sweep.ensures.entries ∙ standing-swept c.args.slots.now.entries

pub returns-clause-gone : goal.returns-clause-gone
returns-clause-gone g c =
    ap (λ (es : List (List ℕ × Slot _)). lookup (bytes_eq c.args.tag.now) es) c.sweep.ensures.entries
    ∙ standing-absent (bytes_eq c.args.tag.now) c.args.slots.now.entries c.requires.absent

pub returns-clause-order : goal.returns-clause-order
returns-clause-order g c = λ b rises.
    subst (λ (es : List (List ℕ × Slot _)). InOrder g.M.Numbered.number_of b es) (sym c.sweep.ensures.entries)
    (order-swept g.M.Numbered.number_of b c.args.slots.now.entries rises)
