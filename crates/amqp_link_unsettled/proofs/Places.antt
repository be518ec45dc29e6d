-- Places in a message go by section, and in one section by offset.
use Rattle.std.proofs.Common.{◌≡◌, ◌∙◌, ℕ, ◌<◌, ◌≤◌, ◌⊎◌, inl, inr, Bool, true, false, true≢false, ◌&&◌, ◌||◌, ◌==◌, nat_lt, refl, sym, ap, arith, lt-ltb, le-ltb}
use Rattle.std.proofs.Math.Bool.{and-false}
use Rattle.std.proofs.lemmas.Bool.{cases_lt, ne_eqb}
use Rattle.std.proofs.lemmas.Bool.Decides.{eqb_tells}
use Rattle.amqp_session_states.specs.declared.received.Received.{Received}
use Rattle.amqp_link_unsettled.specs.Resumption.{is_past}

or-true : (b : Bool) → (b || true) ≡ true
or-true true = refl
or-true false = refl

module _ (a b : Received) where
  past-offset : a.section_number ≡ b.section_number → nat_lt b.section_offset a.section_offset ≡ true → (b.section_offset < a.section_offset)
  past-offset same past = by (cases_lt b.section_offset a.section_offset)
    where
      by : (b.section_offset < a.section_offset) ⊎ (a.section_offset ≤ b.section_offset) → b.section_offset < a.section_offset
      by (inl less) = less
      by (inr more) = absurd (true≢false (sym past ∙ le-ltb b.section_offset a.section_offset more))

  pub past-is : is_past a b ≡ true → (b.section_number < a.section_number) ⊎ ((a.section_number ≡ b.section_number) × (b.section_offset < a.section_offset))
  past-is past = by (cases_lt b.section_number a.section_number)
    where
      tell : nat_lt b.section_number a.section_number ≡ false → (a.section_number == b.section_number) && nat_lt b.section_offset a.section_offset ≡ true
      tell before = sym (ap (λ (x : Bool). x || ((a.section_number == b.section_number) && nat_lt b.section_offset a.section_offset)) before) ∙ past

      by : (b.section_number < a.section_number) ⊎ (a.section_number ≤ b.section_number) → (b.section_number < a.section_number) ⊎ ((a.section_number ≡ b.section_number) × (b.section_offset < a.section_offset))
      by (inl less) = inl less
      by (inr more) =
          let both = tell (le-ltb b.section_number a.section_number more) in
          elim (eqb_tells a.section_number b.section_number) [
            | inl same ↦ inr (same.1, past-offset same.1 (sym (ap (λ (x : Bool). x && nat_lt b.section_offset a.section_offset) same.0) ∙ both))
            | inr other ↦ absurd (true≢false (sym both ∙ ap (λ (x : Bool). x && nat_lt b.section_offset a.section_offset) other.0))
          ]

  pub past-if : (b.section_number < a.section_number) ⊎ ((a.section_number ≡ b.section_number) × (b.section_offset < a.section_offset)) → is_past a b ≡ true
  past-if (inl less) = ap (λ (x : Bool). x || ((a.section_number == b.section_number) && nat_lt b.section_offset a.section_offset)) (lt-ltb b.section_number a.section_number less)
  past-if (inr same) =
      elim (eqb_tells a.section_number b.section_number) [
        | inl is ↦
            ap (λ (x : Bool). nat_lt b.section_number a.section_number || (x && nat_lt b.section_offset a.section_offset)) is.0
            ∙ ap (λ (x : Bool). nat_lt b.section_number a.section_number || x) (lt-ltb b.section_offset a.section_offset same.1)
            ∙ or-true (nat_lt b.section_number a.section_number)
        | inr other ↦ absurd (other.1 same.0)
      ]

-- a test that is known not to hold doesn't
not-true : (x : Bool) → (x ≡ true → ⊥) → x ≡ false
not-true true never = absurd (never refl)
not-true false never = refl

module _ (a b c : Received) where
  pub past-one-way : is_past a b ≡ true → is_past b a ≡ false
  past-one-way past = not-true (is_past b a) (λ back. against (past-is a b past) (past-is b a back))
    where
      against : (b.section_number < a.section_number) ⊎ ((a.section_number ≡ b.section_number) × (b.section_offset < a.section_offset))
          → (a.section_number < b.section_number) ⊎ ((b.section_number ≡ a.section_number) × (a.section_offset < b.section_offset)) → ⊥
      against (inl p) (inl q) = omega (arith, p, q)
      against (inl p) (inr q) = omega (arith, p, q.0)
      against (inr p) (inl q) = omega (arith, p.0, q)
      against (inr p) (inr q) = omega (arith, p.1, q.1)

  pub past-onward : is_past a b ≡ true → is_past b c ≡ true → is_past a c ≡ true
  past-onward first second = past-if a c (join (past-is a b first) (past-is b c second))
    where
      join : (b.section_number < a.section_number) ⊎ ((a.section_number ≡ b.section_number) × (b.section_offset < a.section_offset))
          → (c.section_number < b.section_number) ⊎ ((b.section_number ≡ c.section_number) × (c.section_offset < b.section_offset))
          → (c.section_number < a.section_number) ⊎ ((a.section_number ≡ c.section_number) × (c.section_offset < a.section_offset))
      join (inl p) (inl q) = inl (omega (arith, p, q))
      join (inl p) (inr q) = inl (omega (arith, p, q.0))
      join (inr p) (inl q) = inl (omega (arith, p.0, q))
      join (inr p) (inr q) = inr (p.0 ∙ q.0, omega (arith, p.1, q.1))

  pub past-neither : is_past a b ≡ false → is_past b a ≡ false → a ≡ b
  past-neither none back = by (cases_lt b.section_number a.section_number) (cases_lt a.section_number b.section_number) (cases_lt b.section_offset a.section_offset) (cases_lt a.section_offset b.section_offset)
    where
      ahead : is_past a b ≡ true → ⊥
      ahead p = true≢false (sym p ∙ none)

      behind : is_past b a ≡ true → ⊥
      behind p = true≢false (sym p ∙ back)

      by : (b.section_number < a.section_number) ⊎ (a.section_number ≤ b.section_number) → (a.section_number < b.section_number) ⊎ (b.section_number ≤ a.section_number)
          → (b.section_offset < a.section_offset) ⊎ (a.section_offset ≤ b.section_offset) → (a.section_offset < b.section_offset) ⊎ (b.section_offset ≤ a.section_offset) → a ≡ b
      by (inl p) q r s = absurd (ahead (past-if a b (inl p)))
      by (inr p) (inl q) r s = absurd (behind (past-if b a (inl q)))
      by (inr p) (inr q) (inl r) s = absurd (ahead (past-if a b (inr (omega (arith, p, q), r))))
      by (inr p) (inr q) (inr r) (inl s) = absurd (behind (past-if b a (inr (omega (arith, p, q), s))))
      by (inr p) (inr q) (inr r) (inr s) =
          let sections : a.section_number ≡ b.section_number = omega (arith, p, q) in
          let offsets : a.section_offset ≡ b.section_offset = omega (arith, r, s) in
          λ i. record { section_number = sections i; section_offset = offsets i }
