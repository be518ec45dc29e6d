-- The entries of a map of deliveries, as a table.
use Rattle.std.specs.Prelude.{IsSome, IsTrue}
use Rattle.std.proofs.Common.{◌≡◌, ℕ, length, arith, subst, Bool, true, false, cond, List, [], ◌∷◌, filter, nat_eq}
use Rattle.std.proofs.Common.{not, is_some, if◌then◌else◌, Option, Some, None, refl, ap, ◌∙◌, ◌==◌}
use Rattle.std.specs.Ordering.{nat_cmp}
use Rattle.std.specs.FinMap as map
use Rattle.std.specs.Map.{lookup, keys_of}
use Rattle.std.specs.List.{IsDistinct}
use Rattle.std.proofs.lemmas.Map.Entries.{option_filter}
use Rattle.amqp_session_types.proofs.Tables.{get-entries, entered, taken_out, those_kept}
use Rattle.amqp_session_outgoing.specs.Table.{IsUnsettled, unless_of}
use Rattle.amqp_session_outgoing.specs.declared.delivery.Delivery.{Delivery}

pub ruleset rules = (get-entries, entered, taken_out)

-- what is left without the deliveries of a link
pub others_kept : (es kept : List (ℕ × Delivery)) (handle q : ℕ) → IsDistinct nat_eq (keys_of es)
    → kept ≡ filter (λ e. not ((e.1.handle).0 == handle)) es
    → map.get {R = nat_cmp} (map.from_entries kept) q ≡ unless_of handle (map.get {R = nat_cmp} (map.from_entries es) q)
others_kept es kept handle q unique are =
    those_kept (λ (d : Delivery). not ((d.handle).0 == handle)) es kept q unique are
    ∙ same (map.get {R = nat_cmp} (map.from_entries es) q)
  where
    negated : (b : Bool) (d : Delivery) → cond (not b) (Some d) None ≡ (if b then None else Some d)
    negated true d = refl
    negated false d = refl

    same : (o : Option Delivery) → option_filter (λ (d : Delivery). not ((d.handle).0 == handle)) o ≡ unless_of handle o
    same None = refl
    same (Some d) = negated ((d.handle).0 == handle) d

pub unsettled-at : (es : List (ℕ × Delivery)) (q : ℕ) (v : Delivery) → lookup (nat_eq q) es ≡ Some v
    → IsUnsettled (map.from_entries es) q
unsettled-at es q v is = ap is_some (get-entries es q ∙ is)

-- without entries nothing is unsettled
pub none-unsettled : (es : List (ℕ × Delivery)) (q : ℕ)
    → length es ≡ 0 → IsUnsettled (map.from_entries es) q → IsTrue false
none-unsettled [] q e some = subst (λ (o : Option Delivery). IsSome o) (get-entries [] q) some
none-unsettled (x ∷ es) q e some = absurd (omega (arith, e))
