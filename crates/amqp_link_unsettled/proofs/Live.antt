-- The tags that have a value, among those that were entered.
use Rattle.std.proofs.Common.{◌≡◌, ℕ, ◌+◌, ◌≤◌, suc, Bool, true, false, cond, filter, List, [], ◌∷◌, ◌++◌, reverse, length, Option, None, Some, is_some, refl, sym, ap, ◌∙◌, arith}
use Rattle.std.specs.List.{IsDistinct, AllByRecursion}
use Rattle.std.specs.Map.{keys_of, lookup, remove_entry, set_value}
use Rattle.std.specs.Option.{option_flatten, option_to_list}
use Rattle.std.specs.Str.{bytes_eq}
use Rattle.std.specs.Cmp.Lexicographic.{nat_list_eq_equiv}
use Rattle.std.proofs.lemmas.List.{reverse-append, append-nil}
use Rattle.std.proofs.lemmas.Map.{NonePasses, none_passes_from_lookup}
use Rattle.std.proofs.lemmas.Map.Entries.{none_past_head}
use Rattle.std.proofs.lemmas.Map.Keys.{IsDistinct-tail, IsDistinct-head, IsDistinct-cons}
use Rattle.amqp_link_unsettled.specs.Entries.{live}

module _ {M : Type 0} where
  pub live-append : (es fs : List (List ℕ × Option M)) → live (es ++ fs) ≡ live es ++ live fs
  live-append [] fs = refl
  live-append ((t, None) ∷ es) fs = live-append es fs
  live-append ((t, Some m) ∷ es) fs = ap (λ (l : List (List ℕ × M)). (t, m) ∷ l) (live-append es fs)

  pub live-short : (es : List (List ℕ × Option M)) → length (live es) ≤ length es
  live-short [] = omega arith
  live-short ((t, None) ∷ es) = omega (arith, live-short es)
  live-short ((t, Some m) ∷ es) = omega (arith, live-short es)

  pub live-swept : (es : List (List ℕ × Option M)) → live (filter (λ e. is_some e.1) es) ≡ live es
  live-swept [] = refl
  live-swept ((t, None) ∷ es) = live-swept es
  live-swept ((t, Some m) ∷ es) = ap (λ (l : List (List ℕ × M)). (t, m) ∷ l) (live-swept es)

  -- a tag without a value is not among those that are left
  pub swept-absent : (test : List ℕ → Bool) (es : List (List ℕ × Option M)) → lookup test (live es) ≡ None → lookup test (filter (λ e. is_some e.1) es) ≡ None
  swept-absent test [] none = refl
  swept-absent test ((t, None) ∷ es) none = swept-absent test es none
  swept-absent test ((t, Some m) ∷ es) none = by (test t) (swept-absent test es) none
    where
      by : (b : Bool) → (lookup test (live es) ≡ None → lookup test (filter (λ e. is_some e.1) es) ≡ None) → cond b (Some m) (lookup test (live es)) ≡ None → cond b (Some (Some m)) (lookup test (filter (λ e. is_some e.1) es)) ≡ None
      by true rest e = absurd cc
      by false rest e = rest e

  -- where each tag has a value, those that are looked up among the values are all
  pub all-there : (test : List ℕ → Bool) (es : List (List ℕ × Option M)) → length (live es) ≡ length es
      → lookup test (live es) ≡ None → lookup test es ≡ None
  all-there test [] full none = refl
  all-there test ((t, None) ∷ es) full none = absurd (omega (arith, full, live-short es))
  all-there test ((t, Some m) ∷ es) full none = by (test t) (all-there test es (omega (arith, full))) none
    where
      by : (b : Bool) → (lookup test (live es) ≡ None → lookup test es ≡ None) → cond b (Some m) (lookup test (live es)) ≡ None
          → cond b (Some (Some m)) (lookup test es) ≡ None
      by true rest e = absurd cc
      by false rest e = rest e

  -- a tag that isn't there has no value
  none_live : (test : List ℕ → Bool) (es : List (List ℕ × Option M)) → NonePasses test es → lookup test (live es) ≡ None
  none_live test [] none = refl
  none_live test ((t, None) ∷ es) none = none_live test es none.1
  none_live test ((t, Some m) ∷ es) none = ap (λ (b : Bool). cond b (Some m) (lookup test (live es))) none.0 ∙ none_live test es none.1

  none_removed : (test : List ℕ → Bool) (es : List (List ℕ × Option M)) → NonePasses test es → remove_entry test (live es) ≡ live es
  none_removed test [] none = refl
  none_removed test ((t, None) ∷ es) none = none_removed test es none.1
  none_removed test ((t, Some m) ∷ es) none =
      ap (λ (b : Bool). cond b (live es) ((t, m) ∷ remove_entry test (live es))) none.0
      ∙ ap (λ (l : List (List ℕ × M)). (t, m) ∷ l) (none_removed test es none.1)

  pub gone-removed : (test : List ℕ → Bool) (es : List (List ℕ × Option M)) → lookup test es ≡ None → live es ≡ remove_entry test (live es)
  gone-removed test es none = sym (none_removed test es (none_passes_from_lookup test es none))

  -- one less, where there was one
  pub removed-count : (test : List ℕ → Bool) (xs : List (List ℕ × M)) → length (remove_entry test xs) + length (option_to_list (lookup test xs)) ≡ length xs
  removed-count test [] = refl
  removed-count test (x ∷ xs) = by (test x.0) (removed-count test xs)
    where
      by : (b : Bool) → length (remove_entry test xs) + length (option_to_list (lookup test xs)) ≡ length xs
          → length (cond b xs (x ∷ remove_entry test xs)) + length (option_to_list (cond b (Some x.1) (lookup test xs))) ≡ suc (length xs)
      by true rest = omega arith
      by false rest = omega (arith, rest)

  module _ (q : List ℕ) where
    -- what a tag has
    pub lookup-live : (es : List (List ℕ × Option M)) → IsDistinct bytes_eq (keys_of es) → lookup (bytes_eq q) (live es) ≡ option_flatten (lookup (bytes_eq q) es)
    lookup-live [] apart = refl
    lookup-live ((t, None) ∷ es) apart = by (bytes_eq q t) refl (lookup-live es (IsDistinct-tail bytes_eq t (keys_of es) apart))
      where
        by : (b : Bool) → bytes_eq q t ≡ b → lookup (bytes_eq q) (live es) ≡ option_flatten (lookup (bytes_eq q) es) → lookup (bytes_eq q) (live es) ≡ option_flatten (cond (bytes_eq q t) (Some None) (lookup (bytes_eq q) es))
        by true e rest = none_live (bytes_eq q) es (none_past_head nat_list_eq_equiv q (t, None) es apart e) ∙ sym (ap (λ (b : Bool). option_flatten (cond b (Some None) (lookup (bytes_eq q) es))) e)
        by false e rest = rest ∙ sym (ap (λ (b : Bool). option_flatten (cond b (Some None) (lookup (bytes_eq q) es))) e)
    lookup-live ((t, Some m) ∷ es) apart = by (bytes_eq q t) (lookup-live es (IsDistinct-tail bytes_eq t (keys_of es) apart))
      where
        by : (b : Bool) → lookup (bytes_eq q) (live es) ≡ option_flatten (lookup (bytes_eq q) es) → cond b (Some m) (lookup (bytes_eq q) (live es)) ≡ option_flatten (cond b (Some (Some m)) (lookup (bytes_eq q) es))
        by true rest = refl
        by false rest = rest

    -- without its value
    pub live-taken : (es : List (List ℕ × Option M)) → IsDistinct bytes_eq (keys_of es) → live (set_value (bytes_eq q) es None) ≡ remove_entry (bytes_eq q) (live es)
    live-taken [] apart = refl
    live-taken ((t, None) ∷ es) apart = by (bytes_eq q t) refl (live-taken es (IsDistinct-tail bytes_eq t (keys_of es) apart))
      where
        by : (b : Bool) → bytes_eq q t ≡ b → live (set_value (bytes_eq q) es None) ≡ remove_entry (bytes_eq q) (live es) → live (cond (bytes_eq q t) ((t, None) ∷ es) ((t, None) ∷ set_value (bytes_eq q) es None)) ≡ remove_entry (bytes_eq q) (live es)
        by true e rest = ap (λ (b : Bool). live (cond b ((t, None) ∷ es) ((t, None) ∷ set_value (bytes_eq q) es None))) e ∙ sym (none_removed (bytes_eq q) es (none_past_head nat_list_eq_equiv q (t, None) es apart e))
        by false e rest = ap (λ (b : Bool). live (cond b ((t, None) ∷ es) ((t, None) ∷ set_value (bytes_eq q) es None))) e ∙ rest
    live-taken ((t, Some m) ∷ es) apart = by (bytes_eq q t) (live-taken es (IsDistinct-tail bytes_eq t (keys_of es) apart))
      where
        by : (b : Bool) → live (set_value (bytes_eq q) es None) ≡ remove_entry (bytes_eq q) (live es) → live (cond b ((t, None) ∷ es) ((t, Some m) ∷ set_value (bytes_eq q) es None)) ≡ cond b (live es) ((t, m) ∷ remove_entry (bytes_eq q) (live es))
        by true rest = refl
        by false rest = ap (λ (l : List (List ℕ × M)). (t, m) ∷ l) rest

    -- with another value in the place of its own
    pub live-exchanged : (es : List (List ℕ × Option M)) (v w : M) → lookup (bytes_eq q) es ≡ Some (Some v) → live (set_value (bytes_eq q) es (Some w)) ≡ set_value (bytes_eq q) (live es) w
    live-exchanged [] v w found = refl
    live-exchanged ((t, None) ∷ es) v w found = by (bytes_eq q t) (live-exchanged es v w) found
      where
        by : (b : Bool) → (lookup (bytes_eq q) es ≡ Some (Some v) → live (set_value (bytes_eq q) es (Some w)) ≡ set_value (bytes_eq q) (live es) w) → cond b (Some None) (lookup (bytes_eq q) es) ≡ Some (Some v) → live (cond b ((t, Some w) ∷ es) ((t, None) ∷ set_value (bytes_eq q) es (Some w))) ≡ set_value (bytes_eq q) (live es) w
        by true rest e = absurd cc
        by false rest e = rest e
    live-exchanged ((t, Some m) ∷ es) v w found = by (bytes_eq q t) (live-exchanged es v w) found
      where
        by : (b : Bool) → (lookup (bytes_eq q) es ≡ Some (Some v) → live (set_value (bytes_eq q) es (Some w)) ≡ set_value (bytes_eq q) (live es) w) → cond b (Some (Some m)) (lookup (bytes_eq q) es) ≡ Some (Some v) → live (cond b ((t, Some w) ∷ es) ((t, Some m) ∷ set_value (bytes_eq q) es (Some w))) ≡ cond b ((t, w) ∷ live es) ((t, m) ∷ set_value (bytes_eq q) (live es) w)
        by true rest e = refl
        by false rest e = ap (λ (l : List (List ℕ × M)). (t, m) ∷ l) (rest e)

  all_live : (P : List ℕ → Type 0) (es : List (List ℕ × Option M)) → AllByRecursion P (keys_of es) → AllByRecursion P (keys_of (live es))
  all_live P [] all = tt
  all_live P ((t, None) ∷ es) all = all_live P es all.1
  all_live P ((t, Some m) ∷ es) all = (all.0, all_live P es all.1)

  -- no two of them are equal
  pub live-apart : (es : List (List ℕ × Option M)) → IsDistinct bytes_eq (keys_of es) → IsDistinct bytes_eq (keys_of (live es))
  live-apart [] apart = apart
  live-apart ((t, None) ∷ es) apart = live-apart es (IsDistinct-tail bytes_eq t (keys_of es) apart)
  live-apart ((t, Some m) ∷ es) apart =
      IsDistinct-cons bytes_eq t (keys_of (live es)) (all_live (λ y. bytes_eq t y ≡ false) es (IsDistinct-head bytes_eq t (keys_of es) apart)) (live-apart es (IsDistinct-tail bytes_eq t (keys_of es) apart))

  pub live-reverse : (es : List (List ℕ × Option M)) → live (reverse es) ≡ reverse (live es)
  live-reverse [] = refl
  live-reverse ((t, None) ∷ es) =
      ap (λ (l : List (List ℕ × Option M)). live l) (reverse-append ((t, None) ∷ []) es) ∙ live-append (reverse es) ((t, None) ∷ []) ∙ append-nil (live (reverse es)) ∙ live-reverse es
  live-reverse ((t, Some m) ∷ es) =
      ap (λ (l : List (List ℕ × Option M)). live l) (reverse-append ((t, Some m) ∷ []) es)
      ∙ live-append (reverse es) ((t, Some m) ∷ [])
      ∙ ap (λ (l : List (List ℕ × M)). l ++ (t, m) ∷ []) (live-reverse es)
      ∙ sym (reverse-append ((t, m) ∷ []) (live es))
