-- No bytes change nothing of what a sink holds.
use Rattle.std.proofs.Common.{◌≡◌, ℕ, ◌+◌, List, [], Option, Some, None, ◌∙◌, ap, refl, arith, append-nil}
use Rattle.serde_amqp_ser.specs.Written.{Written, capped, longer, extended}

abbrev made : ℕ → Option (List ℕ) → Written
made n b = record { size = n; bytes = b }

longer_none : (o : Option (List ℕ)) → longer o [] ≡ o
longer_none None = refl
longer_none (Some b) = simp append-nil

pub whole_capped : (n : ℕ) (b : Option (List ℕ))
    → extended (record { size = capped n; bytes = b }) [] ≡ record { size = capped n; bytes = b }
unfolding extended
whole_capped n b =
    let size : capped (capped n + 0) ≡ capped n = omega arith in
    ap (λ (k : ℕ). made k (longer b [])) size ∙ ap (λ (o : Option (List ℕ)). made (capped n) o) (longer_none b)
