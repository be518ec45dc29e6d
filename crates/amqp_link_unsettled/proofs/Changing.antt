-- Something is noted of what stands under a tag.
use Rattle.std.proofs.Common.{◌≡◌, ◌∙◌, ℕ, List, Option, None, Some, is_some, true≢false, refl, sym, ap}
use Rattle.std.specs.List.{IsDistinct}
use Rattle.std.specs.Map.{keys_of, lookup, set_value}
use Rattle.std.specs.Str.{bytes_eq}
use Rattle.amqp_link_unsettled.specs.Entries.{changed, changed_at}
use Rattle.amqp_link_unsettled.specs.declared.slot.Slot.{Slot}
use Rattle.amqp_link_unsettled.specs.Rising.{standing}
use Rattle.amqp_link_unsettled.proofs.Standing.{standing-exchanged, standing-slot, standing-unknown}
use Rattle.amqp_link_unsettled.proofs.Noted.{changed-absent}
use Rattle.std.proofs.lemmas.Map.Steps.{set_value_same}

pub none-there : {X : Type 0} (o : Option X) (r : Option ℕ) → is_some r ≡ is_some o → r ≡ None → o ≡ None
none-there None r same none = refl
none-there (Some x) r same none = absurd (true≢false (sym same ∙ ap is_some none))

module _ {M : Type 0} (change : M → M) (tag : List ℕ) (es : List (List ℕ × Slot M)) (apart : IsDistinct bytes_eq (keys_of es)) where
  -- a tag that has no slot
  pub changed-unknown : lookup (bytes_eq tag) es ≡ None → standing es ≡ changed change tag (standing es)
  changed-unknown none = changed-absent change tag (standing es) (standing-unknown es apart tag none)

  -- a tag without a value
  pub changed-empty : (s : Slot M) → lookup (bytes_eq tag) es ≡ Some s → s.kept ≡ None
      → standing (set_value (bytes_eq tag) es s) ≡ changed change tag (standing es)
  changed-empty s found none =
      ap (λ (xs : List (List ℕ × Slot M)). standing xs) (set_value_same (bytes_eq tag) es s found)
      ∙ changed-absent change tag (standing es) (standing-slot es apart tag s found ∙ none)

  -- a tag with a value
  pub changed-slot : (s w : Slot M) (m : M) → lookup (bytes_eq tag) es ≡ Some s → s.kept ≡ Some m → w.kept ≡ Some (change m)
      → standing (set_value (bytes_eq tag) es w) ≡ changed change tag (standing es)
  changed-slot s w m found had has =
      standing-exchanged es apart tag s w m (change m) found had has
      ∙ sym (ap (λ (o : Option M). changed_at change tag (standing es) o) (standing-slot es apart tag s found ∙ had))
