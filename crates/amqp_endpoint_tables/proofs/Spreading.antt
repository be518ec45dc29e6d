-- What lives at each number, as numbers are given and what has them comes and goes.
use Rattle.std.proofs.lemmas.Bool.{cases_Bool, cond-false, cond-true}
use Rattle.std.proofs.lemmas.Bool.Decides.{eqb_tells, leb_tells}
use Rattle.std.proofs.lemmas.Map.{lookup-set_value}
use Rattle.std.proofs.lemmas.Option.{none-some, same_Some, slice_get_past}
use Rattle.std.proofs.Common.{◌≡◌, ◌≢◌, ◌⊎◌, inl, inr, ℕ, zero, suc, ◌+◌, ◌<◌, ◌≤◌, Bool, true, false, cond, List, [], ◌∷◌, ◌++◌, Option, Some, None, is_some, refl, sym, ap, ◌∙◌, leb, length, length-append, length-set, nat_eq, slice_get, slice_set, arith}
use Rattle.std.specs.Cmp.{nat_eq_equiv}
use Rattle.std.specs.Map.{lookup, set_value}
use Rattle.amqp_endpoint_tables.specs.Spread.{AreGiven, flat, living, spread}
use Rattle.amqp_endpoint_tables.proofs.Slots.{get-before, get-other, get-pushed, get-same}

-- lists with the same at each place
same-lists : {X : Type 0} (xs ys : List X) → ((k : ℕ) → slice_get xs k ≡ slice_get ys k) → xs ≡ ys
same-lists [] [] h = refl
same-lists [] (y ∷ ys) h = absurd (none-some _ (h 0))
same-lists (x ∷ xs) [] h = absurd (none-some _ (sym (h 0)))
same-lists {X} (x ∷ xs) (y ∷ ys) h =
    ap (λ (z : X). z ∷ xs) (same_Some _ _ (h 0)) ∙ ap (λ (zs : List X). y ∷ zs) (same-lists xs ys (λ k. h (suc k)))

module _ {X : Type 0} where
  pub length-spread : (n : ℕ) (es : List (ℕ × X)) → length (spread n es) ≡ n
  unfolding spread
  length-spread zero es = refl
  length-spread (suc n) es =
      omega (arith, length-append (spread n es) (lookup (nat_eq n) es ∷ []), length-spread n es)

  -- without numbers
  pub none-given : (es : List (ℕ × X)) → spread 0 es ≡ []
  unfolding spread
  none-given es = refl

  -- each number that was given
  get-spread : (n : ℕ) (es : List (ℕ × X)) (k : ℕ) → k < n → slice_get (spread n es) k ≡ Some (lookup (nat_eq k) es)
  unfolding spread
  get-spread zero es k lt = absurd (omega (arith, lt))
  get-spread (suc n) es k lt = by (leb_tells n k) (get-spread n es k)
    where
      by : ((leb n k ≡ true) × (n ≤ k)) ⊎ ((leb n k ≡ false) × (k < n))
          → (k < n → slice_get (spread n es) k ≡ Some (lookup (nat_eq k) es))
          → slice_get (spread n es ++ lookup (nat_eq n) es ∷ []) k ≡ Some (lookup (nat_eq k) es)
      by (inl p) rest =
          let here : k ≡ n = omega (arith, p.1, lt) in
          ap (slice_get (spread n es ++ lookup (nat_eq n) es ∷ [])) (here ∙ sym (length-spread n es))
          ∙ get-pushed (spread n es) (lookup (nat_eq n) es)
          ∙ ap (λ (j : ℕ). Some (lookup (nat_eq j) es)) (sym here)
      by (inr p) rest =
          get-before (spread n es) (lookup (nat_eq n) es) k (λ e. omega (arith, e, length-spread n es, p.1)) ∙ rest p.1

  get-past : (n : ℕ) (es : List (ℕ × X)) (k : ℕ) → n ≤ k → slice_get (spread n es) k ≡ None
  get-past n es k le = slice_get_past (spread n es) k (omega (arith, le, length-spread n es))

  -- what lives at a number is what is found under it
  pub living-spread : (n : ℕ) (es : List (ℕ × X)) → AreGiven n es → (k : ℕ)
      → living (spread n es) k ≡ lookup (nat_eq k) es
  living-spread n es given k = by (leb_tells n k)
    where
      by : ((leb n k ≡ true) × (n ≤ k)) ⊎ ((leb n k ≡ false) × (k < n))
          → living (spread n es) k ≡ lookup (nat_eq k) es
      by (inl p) = ap (λ (o : Option (Option X)). flat o) (get-past n es k p.1) ∙ sym (given.past k p.1)
      by (inr p) = ap (λ (o : Option (Option X)). flat o) (get-spread n es k p.1)

  pub living-is : (items : List (Option X)) (k : ℕ) (x : X) → living items k ≡ Some x
      → slice_get items k ≡ Some (Some x)
  living-is items k x e = by (slice_get items k) e
    where
      by : (o : Option (Option X)) → flat o ≡ Some x → o ≡ Some (Some x)
      by None q = absurd (none-some _ q)
      by (Some slot) q = ap (λ (y : Option X). Some y) q

  -- what is found under each number that was given
  spread-same : (n : ℕ) (es fs : List (ℕ × X))
      → ((k : ℕ) → k < n → lookup (nat_eq k) fs ≡ lookup (nat_eq k) es) → spread n fs ≡ spread n es
  unfolding spread
  spread-same zero es fs same = refl
  spread-same (suc n) es fs same =
      ap (λ (items : List (Option X)). items ++ lookup (nat_eq n) fs ∷ [])
      (spread-same n es fs (λ k lt. same k (omega (arith, lt))))
      ∙ ap (λ (o : Option X). spread n es ++ o ∷ []) (same n (omega arith))

  -- the same but under one number
  abbrev Edits : ℕ → Option X → List (ℕ × X) → List (ℕ × X) → Type 0
  Edits k w es fs = (q : ℕ) → lookup (nat_eq q) fs ≡ cond (nat_eq k q) w (lookup (nat_eq q) es)

  module _ (n : ℕ) (es fs : List (ℕ × X)) (k : ℕ) (w : Option X) (edits : Edits k w es fs) where
    pub spread-edit : spread n fs ≡ slice_set (spread n es) k w
    spread-edit = same-lists (spread n fs) (slice_set (spread n es) k w) at
      where
        at : (i : ℕ) → slice_get (spread n fs) i ≡ slice_get (slice_set (spread n es) k w) i
        at i = by (leb_tells n i)
          where
            within : i < n → ((nat_eq k i ≡ true) × (k ≡ i)) ⊎ ((nat_eq k i ≡ false) × (k ≢ i))
                → slice_get (spread n fs) i ≡ slice_get (slice_set (spread n es) k w) i
            within lt (inl p) =
                get-spread n fs i lt
                ∙ ap (λ (o : Option X). Some o) (edits i ∙ cond-true (nat_eq k i) w (lookup (nat_eq i) es) p.0)
                ∙ sym (get-same (spread n es) k (lookup (nat_eq k) es) w (get-spread n es k (omega (arith, p.1, lt))))
                ∙ ap (slice_get (slice_set (spread n es) k w)) p.1
            within lt (inr p) =
                get-spread n fs i lt
                ∙ ap (λ (o : Option X). Some o) (edits i ∙ cond-false (nat_eq k i) w (lookup (nat_eq i) es) p.0)
                ∙ sym (get-other (spread n es) k i w (λ e. p.1 (sym e)) ∙ get-spread n es i lt)

            by : ((leb n i ≡ true) × (n ≤ i)) ⊎ ((leb n i ≡ false) × (i < n))
                → slice_get (spread n fs) i ≡ slice_get (slice_set (spread n es) k w) i
            by (inl p) =
                get-past n fs i p.1
                ∙ sym (slice_get_past (slice_set (spread n es) k w) i
                (omega (arith, p.1, length-set (spread n es) k w, length-spread n es)))
            by (inr p) = within p.1 (eqb_tells k i)

  -- the next number is given
  pub spread-next : (n : ℕ) (es fs : List (ℕ × X)) (x : X) → Edits n (Some x) es fs
      → spread (suc n) fs ≡ spread n es ++ Some x ∷ []
  unfolding spread
  spread-next n es fs x edits =
      ap (λ (items : List (Option X)). items ++ lookup (nat_eq n) fs ∷ [])
      (spread-same n es fs (λ k lt. edits k ∙ other k lt (eqb_tells n k)))
      ∙ ap (λ (o : Option X). spread n es ++ o ∷ []) (edits n ∙ cond-true (nat_eq n n) (Some x) (lookup (nat_eq n) es) (nat_eq_equiv.refl n))
    where
      other : (k : ℕ) → k < n → ((nat_eq n k ≡ true) × (n ≡ k)) ⊎ ((nat_eq n k ≡ false) × (n ≢ k))
          → cond (nat_eq n k) (Some x) (lookup (nat_eq k) es) ≡ lookup (nat_eq k) es
      other k lt (inl p) = absurd (omega (arith, lt, p.1))
      other k lt (inr p) = cond-false (nat_eq n k) (Some x) (lookup (nat_eq k) es) p.0

  pub given-next : (n : ℕ) (es fs : List (ℕ × X)) (w : Option X) → Edits n w es fs → AreGiven n es
      → AreGiven (suc n) fs
  given-next n es fs w edits given =
      record { past = λ k le. edits k ∙ other k le (eqb_tells n k) ∙ given.past k (omega (arith, le)) }
    where
      other : (k : ℕ) → suc n ≤ k → ((nat_eq n k ≡ true) × (n ≡ k)) ⊎ ((nat_eq n k ≡ false) × (n ≢ k))
          → cond (nat_eq n k) w (lookup (nat_eq k) es) ≡ lookup (nat_eq k) es
      other k le (inl p) = absurd (omega (arith, le, p.1))
      other k le (inr p) = cond-false (nat_eq n k) w (lookup (nat_eq k) es) p.0

  -- what lives at a number is taken out
  pub given-taken : (n : ℕ) (es fs : List (ℕ × X)) (k : ℕ) → Edits k None es fs → AreGiven n es → AreGiven n fs
  given-taken n es fs k edits given =
      record { past = λ q le. edits q ∙ either (nat_eq k q) (lookup (nat_eq q) es) (given.past q le) }
    where
      either : (b : Bool) (o : Option X) → o ≡ None → cond b None o ≡ None
      either true o e = refl
      either false o e = e

  -- something else lives at a number
  none-set : (es : List (ℕ × X)) (k q : ℕ) (w : X) → lookup (nat_eq q) es ≡ None
      → lookup (nat_eq q) (set_value (nat_eq k) es w) ≡ None
  none-set [] k q w none = none
  none-set (e ∷ es) k q w none = by (cases_Bool (nat_eq q e.0)) (cases_Bool (nat_eq k e.0)) (none-set es k q w)
    where
      by : ((nat_eq q e.0 ≡ true) ⊎ (nat_eq q e.0 ≡ false)) → ((nat_eq k e.0 ≡ true) ⊎ (nat_eq k e.0 ≡ false))
          → (lookup (nat_eq q) es ≡ None → lookup (nat_eq q) (set_value (nat_eq k) es w) ≡ None)
          → lookup (nat_eq q) (cond (nat_eq k e.0) ((e.0, w) ∷ es) (e ∷ set_value (nat_eq k) es w)) ≡ None
      by (inl y) other rest =
          absurd (none-some _ (sym none ∙ cond-true (nat_eq q e.0) (Some e.1) (lookup (nat_eq q) es) y))
      by (inr n) (inl y) rest =
          ap (lookup (nat_eq q)) (cond-true (nat_eq k e.0) ((e.0, w) ∷ es) (e ∷ set_value (nat_eq k) es w) y)
          ∙ cond-false (nat_eq q e.0) (Some w) (lookup (nat_eq q) es) n
          ∙ sym (cond-false (nat_eq q e.0) (Some e.1) (lookup (nat_eq q) es) n) ∙ none
      by (inr n) (inr m) rest =
          ap (lookup (nat_eq q)) (cond-false (nat_eq k e.0) ((e.0, w) ∷ es) (e ∷ set_value (nat_eq k) es w) m)
          ∙ cond-false (nat_eq q e.0) (Some e.1) (lookup (nat_eq q) (set_value (nat_eq k) es w)) n
          ∙ rest (sym (cond-false (nat_eq q e.0) (Some e.1) (lookup (nat_eq q) es) n) ∙ none)

  pub given-set : (n : ℕ) (es : List (ℕ × X)) (k : ℕ) (w : X) → AreGiven n es
      → AreGiven n (set_value (nat_eq k) es w)
  given-set n es k w given = record { past = λ q le. none-set es k q w (given.past q le) }

  pub spread-set : (n : ℕ) (es : List (ℕ × X)) (k : ℕ) (w : X) → is_some (lookup (nat_eq k) es) ≡ true
      → spread n (set_value (nat_eq k) es w) ≡ slice_set (spread n es) k (Some w)
  spread-set n es k w there =
      spread-edit n es (set_value (nat_eq k) es w) k (Some w)
      (λ q. lookup-set_value nat_eq_equiv (nat_eq k) (nat_eq_equiv.congr k) q w es there)
