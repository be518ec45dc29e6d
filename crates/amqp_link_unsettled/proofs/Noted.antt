-- Something is noted of a delivery.
use Rattle.std.proofs.Common.{◌≡◌, ℕ, List, length, Option, None, Some, IfSome, ap, refl, sym}
use Rattle.std.proofs.lemmas.Map.{length-set_value}
use Rattle.std.specs.Map.{lookup, set_value}
use Rattle.std.specs.Str.{bytes_eq}
use Rattle.amqp_link_unsettled.specs.Entries.{Kept, changed, changed_at}

module _ {M : Type 0} (change : M → M) (tag : List ℕ) where
  -- as many as before
  as_many_at : (es : List (List ℕ × M)) (o : Option M) → length es ≡ length (changed_at change tag es o)
  as_many_at es None = refl
  as_many_at es (Some m) = sym (length-set_value (bytes_eq tag) es (change m))

  pub as_many : (es : List (List ℕ × M)) → length es ≡ length (changed change tag es)
  as_many es = as_many_at es (lookup (bytes_eq tag) es)

  -- where the delivery is there, it is noted of that one
  pub changed_some : (old new : Kept M) (o : Option M) → new ≡ record old { entries = changed_at change tag old.entries o }
      → IfSome o (λ m. new ≡ record old { entries = set_value (bytes_eq tag) old.entries (change m) })
  changed_some old new None is = tt
  changed_some old new (Some m) is = is

  -- where it isn't there, nothing changes
  pub changed-absent : (es : List (List ℕ × M)) → lookup (bytes_eq tag) es ≡ None → es ≡ changed change tag es
  changed-absent es none = sym (ap (λ (o : Option M). changed_at change tag es o) none)
