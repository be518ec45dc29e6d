-- The entries of a map of handles, as a table.
use Rattle.std.proofs.Common.{◌≡◌, ℕ, Bool, true, false, cond, List, filter, nat_eq, not, if◌then◌else◌}
use Rattle.std.proofs.Common.{Option, Some, None, refl, ◌∙◌, ◌==◌}
use Rattle.std.specs.Ordering.{nat_cmp}
use Rattle.std.specs.FinMap as map
use Rattle.std.specs.Map.{keys_of}
use Rattle.std.specs.List.{IsDistinct}
use Rattle.std.proofs.lemmas.Map.Entries.{option_filter}
use Rattle.amqp_session_types.proofs.Tables.{get-entries, entered, taken_out, those_kept}
use Rattle.amqp_session_core.specs.Tables.{unless_to}

pub ruleset rules = (get-entries, entered, taken_out)

-- what is left without the routes to a link
pub others_kept : (es kept : List (ℕ × ℕ)) (handle q : ℕ) → IsDistinct nat_eq (keys_of es)
    → kept ≡ filter (λ e. not (e.1 == handle)) es
    → map.get {R = nat_cmp} (map.from_entries kept) q ≡ unless_to handle (map.get {R = nat_cmp} (map.from_entries es) q)
others_kept es kept handle q unique are =
    those_kept (λ (to : ℕ). not (to == handle)) es kept q unique are
    ∙ same (map.get {R = nat_cmp} (map.from_entries es) q)
  where
    negated : (b : Bool) (to : ℕ) → cond (not b) (Some to) None ≡ (if b then None else Some to)
    negated true to = refl
    negated false to = refl

    same : (o : Option ℕ) → option_filter (λ (to : ℕ). not (to == handle)) o ≡ unless_to handle o
    same None = refl
    same (Some to) = negated (to == handle) to
