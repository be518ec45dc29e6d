use Rattle.std.proofs.Common.{◌≡◌, ◌∙◌, ℕ, ◌+◌, List, Some, ap, refl, sym, subst, eqb-true}
use Rattle.std.specs.Map.{lookup, set_value}
use Rattle.std.specs.Str.{bytes_eq}
use Rattle.indexmap.specs.IndexMap.{set_value_at}
use Rattle.indexmap.proofs.MapLemmas.{Found-position}
use Rattle.std.proofs.lemmas.Map.Steps.{set_value_same}
use Rattle.amqp_link_unsettled.specs.declared.slot.Slot.{Slot}
use Rattle.amqp_link_unsettled.specs.Numbers.{kept_number}
use Rattle.amqp_link_unsettled.specs.Rising.{InOrder, standing}
use Rattle.amqp_link_unsettled.proofs.Ascending.{order-stamped, set-at}
use Rattle.amqp_link_unsettled.proofs.Changing.{changed-empty, changed-slot, changed-unknown, none-there}
use Rattle.amqp_link_unsettled.proofs.map.note_in.Goals as goal

pub returns-in_default-clause-entries : goal.returns-in_default-clause-entries
returns-in_default-clause-entries g c =
    changed-unknown _ c.args.tag.now c.args.slots.now.entries c.get_index_of.ensures.unique
    (none-there (lookup (bytes_eq c.args.tag.now) c.args.slots.now.entries) c.get_index_of.result c.get_index_of.ensures.found c.in_default.is)

pub returns-in_default-kept-clause-entries : goal.returns-in_default-kept-clause-entries
returns-in_default-kept-clause-entries g c =
    let es = c.args.slots.now.entries in
    let s = c.index_mut-slot.result.now in
    let at = Found-position (bytes_eq c.args.tag.now) es c.in-Some.index (sym c.get_index_of.ensures.index ∙ c.in-Some.is) in
    ap (λ (xs : List (List ℕ × Slot _)). standing xs) (ap (λ (i : ℕ). set_value_at es i s) (sym at.or_len) ∙ set-at (bytes_eq c.args.tag.now) es s)
    ∙ changed-empty _ c.args.tag.now es c.get_index_of.ensures.unique s (at.value ∙ c.index_mut-slot.ensures.value) c.in_default-kept.is

pub returns-in_default-kept-clause-order : goal.returns-in_default-kept-clause-order
returns-in_default-kept-clause-order g c =
    let es = c.args.slots.now.entries in
    let s = c.index_mut-slot.result.now in
    let at = Found-position (bytes_eq c.args.tag.now) es c.in-Some.index (sym c.get_index_of.ensures.index ∙ c.in-Some.is) in
    subst (λ (xs : List (List ℕ × Slot _)). InOrder g.M.Numbered.number_of c.args.bound xs)
    (sym
    (ap (λ (i : ℕ). set_value_at es i s) (sym at.or_len) ∙ set-at (bytes_eq c.args.tag.now) es s
    ∙ set_value_same (bytes_eq c.args.tag.now) es s (at.value ∙ c.index_mut-slot.ensures.value)))
    c.requires

pub returns-clause-entries : goal.returns-clause-entries
returns-clause-entries g c =
    let es = c.args.slots.now.entries in
    let s = c.index_mut-slot.result.now in
    let w : Slot _ = record { below = c.restamped-below.result.0; kept = Some c.note.new.self } in
    let at = Found-position (bytes_eq c.args.tag.now) es c.in-Some.index (sym c.get_index_of.ensures.index ∙ c.in-Some.is) in
    ap (λ (xs : List (List ℕ × Slot _)). standing xs) (ap (λ (i : ℕ). set_value_at es i w) (sym at.or_len) ∙ set-at (bytes_eq c.args.tag.now) es w)
    ∙ changed-slot _ c.args.tag.now es c.get_index_of.ensures.unique s w _ (at.value ∙ c.index_mut-slot.ensures.value) c.in-Some-kept.is
    (ap (λ (m : _). Some m) c.note.ensures)

pub returns-clause-order : goal.returns-clause-order
returns-clause-order g c =
    let es = c.args.slots.now.entries in
    let s = c.index_mut-slot.result.now in
    let w : Slot _ = record { below = c.restamped-below.result.0; kept = Some c.note.new.self } in
    let at = Found-position (bytes_eq c.args.tag.now) es c.in-Some.index (sym c.get_index_of.ensures.index ∙ c.in-Some.is) in
    let placed : set_value_at es c.in-Some.index w ≡ set_value (bytes_eq c.args.tag.now) es w =
    ap (λ (i : ℕ). set_value_at es i w) (sym at.or_len) ∙ set-at (bytes_eq c.args.tag.now) es w in
    order-stamped g.M.Numbered.number_of (bytes_eq c.args.tag.now) es (set_value_at es c.in-Some.index w) s w
    (at.value ∙ c.index_mut-slot.ensures.value) c.args.bound c.number-before.result c.number-after.result _ c.in-Some.index c.restamped-below.result
    placed placed (λ e. eqb-true (c.in-Some.index + 1) c.len-count.result e ∙ c.len-count.ensures.len) c.restamped-below.ensures
    (c.number-before.ensures ∙ sym (ap (kept_number g.M.Numbered.number_of) c.in-Some-kept.is)) c.number-after.ensures refl c.requires
