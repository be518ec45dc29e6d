-- Numbers in order, from 0 on.
use Rattle.std.proofs.Common.{◌≡◌, ◌<◌, ◌⊎◌, inl, inr, ℕ, zero, suc, List, [], ◌∷◌, ◌++◌, length, Some}
use Rattle.std.proofs.Common.{arith, refl, sym, ap, ◌∙◌}
use Rattle.std.specs.Prelude.{◌^◌, slice_get}
use Rattle.std.specs.Int.{w64, from_be_bytes}
use Rattle.std.proofs.lemmas.List.{append_assoc, length_push}
use Rattle.std.proofs.lemmas.Nat.{from_be_bytes-to_be_bytes_8}
use Rattle.std.proofs.lemmas.Option.{none-some, same_Some, slice_get_within}
use Rattle.amqp_endpoint_model.specs.declared.event.Event.{Event}
use Rattle.amqp_endpoint.specs.Sending.{tag_of}
use Rattle.amqp_endpoint_laws.specs.Telling.{number_told, numbers_told, numbers_under}

pub numbers-append : (events others : List Event)
    → numbers_told (events ++ others) ≡ numbers_told events ++ numbers_told others
numbers-append [] others = refl
numbers-append (event ∷ events) others =
    ap (λ (ns : List ℕ). number_told event ++ ns) (numbers-append events others)
    ∙ sym (append_assoc (number_told event) (numbers_told events) (numbers_told others))

-- what stands in a list behind which one was put
at-push : {X : Type 0} (xs : List X) (x : X) (m : ℕ) (y : X) → slice_get (xs ++ x ∷ []) m ≡ Some y
    → (slice_get xs m ≡ Some y) ⊎ ((m ≡ length xs) × (y ≡ x))
at-push [] x zero y is = inr (refl, sym (same_Some _ _ is))
at-push [] x (suc m) y is = absurd (none-some _ is)
at-push (z ∷ zs) x zero y is = inl is
at-push (z ∷ zs) x (suc m) y is =
    elim (at-push zs x m y is) [ inl there ↦ inl there | inr last ↦ inr (ap suc last.0, last.1) ]

under-length : (number : ℕ) → length (numbers_under number) ≡ number
under-length zero = refl
under-length (suc number) = omega (arith, length_push (numbers_under number) number, under-length number)

-- the n-th of them is n
pub at-under : (number m n : ℕ) → slice_get (numbers_under number) m ≡ Some n → n ≡ m
at-under zero m n is = absurd (none-some _ is)
at-under (suc number) m n is =
    elim (at-push (numbers_under number) number m n is) [
      | inl there ↦ at-under number m n there
      | inr last ↦ last.1 ∙ sym (last.0 ∙ under-length number)
    ]

-- and is one of them
pub below-count : (number m n : ℕ) → slice_get (numbers_under number) m ≡ Some n → m < number
below-count number m n is =
    omega (arith, slice_get_within (numbers_under number) m n is, under-length number)

pub same-tags : (m n : ℕ) → m < 2 ^ 64 → n < 2 ^ 64 → tag_of m ≡ tag_of n → m ≡ n
same-tags m n m_fits n_fits same =
    sym (from_be_bytes-to_be_bytes_8 m m_fits) ∙ ap (from_be_bytes w64) same ∙ from_be_bytes-to_be_bytes_8 n n_fits
