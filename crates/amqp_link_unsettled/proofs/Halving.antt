-- Halving on.
use Rattle.std.proofs.Common.{◌≡◌, ℕ, ◌+◌, ◌/◌, ◌<◌, ◌≤◌, ◌-◌, zero, suc, arith, ap, ◌∙◌, subst, ⊎_elim, sym}
use Rattle.std.proofs.lemmas.Bool.{cases_lt}
use Rattle.amqp_link_unsettled.specs.Listing.{halved}

pub stays-zero : (total k d : ℕ) → halved total k ≡ 0 → halved total (k + d) ≡ 0
stays-zero total k zero h =
    let e : k ≡ k + zero = omega arith in
    ap (λ (n : ℕ). halved total n) (sym e) ∙ h
stays-zero total k (suc d) h =
    let e : suc (k + d) ≡ k + suc d = omega arith in
    ap (λ (n : ℕ). halved total n) (sym e) ∙ ap (λ (n : ℕ). n / 2) (stays-zero total k d h)

-- where it has come to 0 and 0 doesn't pass, none passes
pub none-passes : (Passes : ℕ → Type 0) (total k : ℕ) → halved total k ≡ 0 → (Passes 0 → ⊥) → ((j : ℕ) → j < k → Passes (halved total j) → ⊥) → (i : ℕ) → Passes (halved total i) → ⊥
none-passes Passes total k h last before i p =
    ⊎_elim (λ (lt : i < k). before i lt p)
    (λ (le : k ≤ i).
    let e : k + (i - k) ≡ i = omega arith in
    let z : halved total i ≡ 0 = ap (λ (n : ℕ). halved total n) (sym e) ∙ stays-zero total k (i - k) h in
    last (subst Passes z p))
    (cases_lt i k)

pub more-halves : (Passes : ℕ → Type 0) (total n : ℕ) → (Passes n → ⊥)
    → ((k : ℕ) × (n ≡ halved total k) × ((j : ℕ) → j < k → Passes (halved total j) → ⊥))
    → (k : ℕ) × (n / 2 ≡ halved total k) × ((j : ℕ) → j < k → Passes (halved total j) → ⊥)
more-halves Passes total n fails before = (
  suc before.0,
  ap (λ (m : ℕ). m / 2) before.1,
  λ j h p. ⊎_elim (λ (lt : j < before.0). before.2 j lt p)
      (λ (ge : before.0 ≤ j).
      let e : j ≡ before.0 = omega arith in
      let same : halved total j ≡ n = ap (λ (m : ℕ). halved total m) e ∙ sym before.1 in
      fails (subst Passes same p))
      (cases_lt j before.0),
)
