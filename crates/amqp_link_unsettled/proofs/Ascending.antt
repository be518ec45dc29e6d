-- Numbers that rise in the order of the deliveries, and what they say of where a number is.
use Rattle.std.proofs.Common.{◌≡◌, ℕ, zero, suc, ◌+◌, ◌-◌, ◌<◌, ◌≤◌, ◌^◌, ◌==◌, nat_lt, Bool, true, false, true≢false, cond, filter, List, [], ◌∷◌, ◌++◌, length, Option, None, Some, is_some, refl, sym, ap, subst, ◌∙◌, arith, not, ne_eqb, eqb-true, ltb-false, unwrap_or}
use Rattle.std.specs.List.{position_or_len}
use Rattle.std.specs.Map.{keys_of, lookup, set_value}
use Rattle.indexmap.specs.IndexMap.{set_value_at}
use Rattle.amqp_link_unsettled.specs.Entries.{unless_gone}
use Rattle.amqp_link_unsettled.specs.declared.slot.Slot.{Slot}
use Rattle.amqp_link_unsettled.specs.Numbers.{is_number, kept_number, tag_with}
use Rattle.amqp_link_unsettled.specs.Rising.{Fits, InOrder, Rises, ends, raised, raised_to, restamped, same_number, stamp, standing}

pub some_is : {X : Type 0} (a b : X) → Some a ≡ Some b → a ≡ b
some_is a b e = cc

fits-lower : (f g below : ℕ) (n : Option ℕ) → g ≤ f → Fits f below n → Fits g below n
fits-lower f g below None le fit = tt
fits-lower f g below (Some n) le fit = (omega (arith, le, fit.0), fit.1)

-- a number that is not below what is more than a slot's is another, and so is one that is below the floor
not-below : (f below n : ℕ) (o : Option ℕ) → Fits f below o → below ≤ n → is_number n o ≡ false
not-below f below n None fit le = refl
not-below f below n (Some own) fit le = ne_eqb own n (omega (arith, fit.1, le))

not-above : (f below n : ℕ) (o : Option ℕ) → Fits f below o → n < f → is_number n o ≡ false
not-above f below n None fit lt = refl
not-above f below n (Some own) fit lt = ne_eqb own n (omega (arith, fit.0, lt))

module _ {M : Type 0} (number_of : M → Option ℕ) where
  abbrev number_in : Slot M → Option ℕ
  number_in s = kept_number number_of s.kept

  pub rises-lower : (f g b : ℕ) (es : List (List ℕ × Slot M)) → g ≤ f → Rises number_of f b es → Rises number_of g b es
  rises-lower f g b [] le rises = omega (arith, le, rises)
  rises-lower f g b (e ∷ es) le rises =
      (omega (arith, le, rises.0), fits-lower f g (e.1).below (number_in e.1) le rises.1, rises.2)

  rises-within : (f b : ℕ) (es : List (List ℕ × Slot M)) → Rises number_of f b es → f ≤ b
  rises-within f b [] rises = rises
  rises-within f b (e ∷ es) rises = omega (arith, rises.0, rises-within (e.1).below b es rises.2)

  -- one more stands behind the others
  rises-append : (f b : ℕ) (es : List (List ℕ × Slot M)) (t : List ℕ) (s : Slot M) → Rises number_of f b es → b ≤ s.below
      → Fits b s.below (number_in s) → Rises number_of f s.below (es ++ (t, s) ∷ [])
  rises-append f b [] t s rises le fit = (omega (arith, rises, le), fits-lower b f s.below (number_in s) rises fit, omega arith)
  rises-append f b (e ∷ es) t s rises le fit = (rises.0, rises.1, rises-append (e.1).below b es t s rises.2 le fit)

  -- the last is gone
  rises-front : (f b : ℕ) (es : List (List ℕ × Slot M)) (x : List ℕ × Slot M) → Rises number_of f b (es ++ x ∷ []) → Rises number_of f b es
  rises-front f b [] x rises = omega (arith, rises.0, rises.2)
  rises-front f b (e ∷ es) x rises = (rises.0, rises.1, rises-front (e.1).below b es x rises.2)

  -- those are gone that are without a value
  rises-swept : (f b : ℕ) (es : List (List ℕ × Slot M)) → Rises number_of f b es → Rises number_of f b (filter (λ e. is_some (e.1).kept) es)
  rises-swept f b [] rises = rises
  rises-swept f b (e ∷ es) rises = by (is_some (e.1).kept) (rises-swept (e.1).below b es rises.2)
    where
      by : (c : Bool) → Rises number_of (e.1).below b (filter (λ e. is_some (e.1).kept) es)
          → Rises number_of f b (cond c (e ∷ filter (λ e. is_some (e.1).kept) es) (filter (λ e. is_some (e.1).kept) es))
      by true rest = (rises.0, rises.1, rest)
      by false rest = rises-lower (e.1).below f b (filter (λ e. is_some (e.1).kept) es) rises.0 rest

  -- another slot in the place of one, whose number fits as well
  rises-set : (test : List ℕ → Bool) (f b : ℕ) (es : List (List ℕ × Slot M)) (s w : Slot M) → lookup test es ≡ Some s
      → s.below ≡ w.below → ((g : ℕ) → Fits g s.below (number_in s) → Fits g w.below (number_in w))
      → Rises number_of f b es → Rises number_of f b (set_value test es w)
  rises-set test f b [] s w found same fits rises = rises
  rises-set test f b (e ∷ es) s w found same fits rises = by (test e.0) found (λ h. rises-set test (e.1).below b es s w h same fits rises.2)
    where
      by : (c : Bool) → cond c (Some e.1) (lookup test es) ≡ Some s
          → (lookup test es ≡ Some s → Rises number_of (e.1).below b (set_value test es w))
          → Rises number_of f b (cond c ((e.0, w) ∷ es) (e ∷ set_value test es w))
      by true here rest =
          let it : e.1 ≡ s = some_is e.1 s here in
          let was : Rises number_of f b ((e.0, s) ∷ es) = subst (λ (x : Slot M). Rises number_of f b ((e.0, x) ∷ es)) it rises in (
            omega (arith, was.0, same),
            fits f was.1,
            subst (λ (n : ℕ). Rises number_of n b es) same was.2,
          )
      by false here rest = (rises.0, rises.1, rest here)

  -- another slot in the place of the last, which fits behind them all
  rises-last : (f b : ℕ) (es : List (List ℕ × Slot M)) (i : ℕ) (w : Slot M) → i + 1 ≡ length es → b ≤ w.below → Fits b w.below (number_in w)
      → Rises number_of f b es → Rises number_of f w.below (set_value_at es i w)
  rises-last f b [] i w last le fit rises = absurd (omega (arith, last))
  rises-last f b (e ∷ []) zero w last le fit rises =
      let low : f ≤ b = omega (arith, rises.0, rises.2) in
      (omega (arith, low, le), fits-lower b f w.below (number_in w) low fit, omega arith)
  rises-last f b (e ∷ []) (suc i) w last le fit rises = absurd (omega (arith, last))
  rises-last f b (e ∷ x ∷ es) zero w last le fit rises = absurd (omega (arith, last))
  rises-last f b (e ∷ x ∷ es) (suc i) w last le fit rises =
      (rises.0, rises.1, rises-last (e.1).below b (x ∷ es) i w (omega (arith, last)) le fit rises.2)

  -- ---- the two parts of a list
  ends-grow : (f b : ℕ) (xs ys : List (List ℕ × Slot M)) → Rises number_of f b (xs ++ ys) → f ≤ ends f xs
  ends-grow f b [] ys rises = omega arith
  ends-grow f b (x ∷ xs) ys rises = omega (arith, rises.0, ends-grow (x.1).below b xs ys rises.2)

  pub rises-first : (f b : ℕ) (xs ys : List (List ℕ × Slot M)) → Rises number_of f b (xs ++ ys) → Rises number_of f (ends f xs) xs
  rises-first f b [] ys rises = omega arith
  rises-first f b (x ∷ xs) ys rises = (rises.0, rises.1, rises-first (x.1).below b xs ys rises.2)

  pub rises-second : (f b : ℕ) (xs ys : List (List ℕ × Slot M)) → Rises number_of f b (xs ++ ys) → Rises number_of (ends f xs) b ys
  rises-second f b [] ys rises = rises
  rises-second f b (x ∷ xs) ys rises = rises-second (x.1).below b xs ys rises.2

  module _ (n : ℕ) where
    abbrev tag_in : List (List ℕ × Slot M) → Option (List ℕ)
    tag_in es = tag_with number_of n (standing es)

    -- a slot that doesn't bear the number is passed over
    passed-over : (t : List ℕ) (k : Option M) (es : List (List ℕ × Slot M)) → is_number n (kept_number number_of k) ≡ false
        → tag_with number_of n (unless_gone t k (standing es)) ≡ tag_in es
    passed-over t None es other = refl
    passed-over t (Some m) es other = ap (λ (c : Bool). cond c (Some t) (tag_in es)) other

    none-above : (f b : ℕ) (es : List (List ℕ × Slot M)) → Rises number_of f b es → n < f → tag_in es ≡ None
    none-above f b [] rises lt = refl
    none-above f b (e ∷ es) rises lt =
        passed-over e.0 (e.1).kept es (not-above f (e.1).below n (number_in e.1) rises.1 lt)
        ∙ none-above (e.1).below b es rises.2 (omega (arith, rises.0, lt))

    -- the number is in the second part, where the first ends below it
    pub first-passed : (f b : ℕ) (xs ys : List (List ℕ × Slot M)) → Rises number_of f b (xs ++ ys) → ends f xs ≤ n → tag_in (xs ++ ys) ≡ tag_in ys
    first-passed f b [] ys rises le = refl
    first-passed f b (x ∷ xs) ys rises le =
        passed-over x.0 (x.1).kept (xs ++ ys)
        (not-below f (x.1).below n (number_in x.1) rises.1 (omega (arith, le, ends-grow (x.1).below b xs ys rises.2)))
        ∙ first-passed (x.1).below b xs ys rises.2 le

    -- and else in the first
    pub second-passed : (f b : ℕ) (xs ys : List (List ℕ × Slot M)) → Rises number_of f b (xs ++ ys) → n < ends f xs → tag_in (xs ++ ys) ≡ tag_in xs
    second-passed f b [] ys rises lt = none-above f b ys rises lt
    second-passed f b (x ∷ xs) ys rises lt = by (x.1).kept (second-passed (x.1).below b xs ys rises.2 lt)
      where
        by : (k : Option M) → tag_in (xs ++ ys) ≡ tag_in xs
            → tag_with number_of n (unless_gone x.0 k (standing (xs ++ ys))) ≡ tag_with number_of n (unless_gone x.0 k (standing xs))
        by None rest = rest
        by (Some m) rest = ap (λ (o : Option (List ℕ)). cond (is_number n (number_of m)) (Some x.0) o) rest

    -- of one slot alone
    pub tag-of-one : (t : List ℕ) (s : Slot M) (es : List (List ℕ × Slot M)) → length es ≡ 0
        → tag_in ((t, s) ∷ es) ≡ cond (is_number n (number_in s)) (Some t) None
    tag-of-one t s [] none = by s.kept
      where
        by : (k : Option M) → tag_with number_of n (unless_gone t k []) ≡ cond (is_number n (kept_number number_of k)) (Some t) None
        by None = refl
        by (Some m) = refl
    tag-of-one t s (e ∷ es) none = absurd (omega (arith, none))

module _ {M : Type 0} where
  -- where a list ends
  pub ends-append : (f : ℕ) (xs : List (List ℕ × Slot M)) (x : List ℕ × Slot M) → ends f (xs ++ x ∷ []) ≡ (x.1).below
  ends-append f [] x = refl
  ends-append f (y ∷ xs) x = ends-append (y.1).below xs x

  pub ends-same : (f g : ℕ) (xs : List (List ℕ × Slot M)) → 0 < length xs → ends f xs ≡ ends g xs
  ends-same f g [] some = absurd (omega (arith, some))
  ends-same f g (x ∷ xs) some = refl

-- ---- a bound that is known, or none

abbrev or_zero : Option ℕ → ℕ
or_zero o = unwrap_or o 0

-- the bound that is raised is more than the number, and as much as before
raised-fits : (b : ℕ) (o : Option ℕ) (r : ℕ) → raised_to b o ≡ Some r → (b ≤ r) × Fits b r o
raised-fits b None r is =
    let same : b ≡ r = some_is b r is in
    (omega (arith, same), tt)
raised-fits b (Some n) r is = by (nat_lt n b) (n == 2 ^ 64 - 1) refl is
  where
    by : (c d : Bool) → nat_lt n b ≡ c → cond c None (cond d None (Some (n + 1))) ≡ Some r → (b ≤ r) × ((b ≤ n) × (r ≡ n + 1))
    by true d low e = absurd cc
    by false true low e = absurd cc
    by false false low e =
        let same : n + 1 ≡ r = some_is (n + 1) r e in
        let le : b ≤ n = ltb-false n b low in
        (omega (arith, same, le), (le, sym same))

same-number-is : (a b : Option ℕ) → same_number a b ≡ true → a ≡ b
same-number-is None None same = refl
same-number-is (Some m) None same = absurd (true≢false (sym same))
same-number-is None (Some n) same = absurd (true≢false (sym same))
same-number-is (Some m) (Some n) same = ap (λ (k : ℕ). Some k) (eqb-true m n same)

module _ {M : Type 0} (number_of : M → Option ℕ) where
  -- behind the others
  pub order-append : (bound : Option ℕ) (m : M) (es : List (List ℕ × Slot M)) (t : List ℕ) → InOrder number_of bound es
      → InOrder number_of (raised bound (number_of m)) (es ++ (t, record { below = or_zero (raised bound (number_of m)); kept = Some m }) ∷ [])
  order-append None m es t order = tt
  order-append (Some b) m es t order = by (raised_to b (number_of m)) refl
    where
      by : (r : Option ℕ) → raised_to b (number_of m) ≡ r → InOrder number_of r (es ++ (t, record { below = or_zero r; kept = Some m }) ∷ [])
      by None is = tt
      by (Some r) is =
          let fit = raised-fits b (number_of m) r is in
          rises-append number_of 0 b es t (record { below = r; kept = Some m }) order fit.0 fit.1

  pub order-swept : (bound : Option ℕ) (es : List (List ℕ × Slot M)) → InOrder number_of bound es → InOrder number_of bound (filter (λ e. is_some (e.1).kept) es)
  order-swept None es order = tt
  order-swept (Some b) es order = rises-swept number_of 0 b es order

  pub order-front : (bound : Option ℕ) (es : List (List ℕ × Slot M)) (x : List ℕ × Slot M) → InOrder number_of bound (es ++ x ∷ []) → InOrder number_of bound es
  order-front None es x order = tt
  order-front (Some b) es x order = rises-front number_of 0 b es x order

  -- a value is taken out
  pub order-taken : (test : List ℕ → Bool) (bound : Option ℕ) (es : List (List ℕ × Slot M)) (s w : Slot M) → lookup test es ≡ Some s
      → s.below ≡ w.below → w.kept ≡ None → InOrder number_of bound es → InOrder number_of bound (set_value test es w)
  order-taken test None es s w found same none order = tt
  order-taken test (Some b) es s w found same none order =
      rises-set number_of test 0 b es s w found same
      (λ g fit. subst (λ (o : Option M). Fits g w.below (kept_number number_of o)) (sym none) tt) order

  -- a value bears another number, or the same
  module _ (test : List ℕ → Bool) (es : List (List ℕ × Slot M)) (s w : Slot M) (found : lookup test es ≡ Some s) where
    order-same : (bound : Option ℕ) → s.below ≡ w.below → kept_number number_of s.kept ≡ kept_number number_of w.kept
        → InOrder number_of bound es → InOrder number_of bound (set_value test es w)
    order-same None below number order = tt
    order-same (Some b) below number order =
        rises-set number_of test 0 b es s w found below
        (λ g fit. subst (λ (n : ℕ). Fits g n (kept_number number_of w.kept)) below (subst (λ (o : Option ℕ). Fits g s.below o) number fit)) order

    order-last : (bound : Option ℕ) (i : ℕ) → set_value_at es i w ≡ set_value test es w → i + 1 ≡ length es
        → w.below ≡ (stamp s.below (raised bound (kept_number number_of w.kept))).0 → InOrder number_of bound es
        → InOrder number_of (stamp s.below (raised bound (kept_number number_of w.kept))).1 (set_value test es w)
    order-last None i at last below order = tt
    order-last (Some b) i at last below order = by (raised_to b (kept_number number_of w.kept)) refl below
      where
        by : (r : Option ℕ) → raised_to b (kept_number number_of w.kept) ≡ r → w.below ≡ (stamp s.below r).0 → InOrder number_of (stamp s.below r).1 (set_value test es w)
        by None is low = tt
        by (Some r) is low =
            let fit = raised-fits b (kept_number number_of w.kept) r is in
            let here : Rises number_of 0 w.below (set_value_at es i w) =
            rises-last number_of 0 b es i w last (omega (arith, low, fit.0))
            (subst (λ (n : ℕ). Fits b n (kept_number number_of w.kept)) (sym low) fit.1) order in
            subst (λ (n : ℕ). Rises number_of 0 n (set_value test es w)) low
            (subst (λ (xs : List (List ℕ × Slot M)). Rises number_of 0 w.below xs) at here)

    pub order-restamped : (bound : Option ℕ) (is_last : Bool) (i : ℕ) → set_value_at es i w ≡ set_value test es w → (is_last ≡ true → i + 1 ≡ length es)
        → w.below ≡ (restamped s.below bound is_last (kept_number number_of s.kept) (kept_number number_of w.kept)).0 → InOrder number_of bound es
        → InOrder number_of (restamped s.below bound is_last (kept_number number_of s.kept) (kept_number number_of w.kept)).1 (set_value test es w)
    order-restamped bound is_last i at last below order = by (same_number (kept_number number_of s.kept) (kept_number number_of w.kept)) is_last refl last below
      where
        by : (c d : Bool) → same_number (kept_number number_of s.kept) (kept_number number_of w.kept) ≡ c → (d ≡ true → i + 1 ≡ length es)
            → w.below ≡ (cond c (s.below, bound) (cond d (stamp s.below (raised bound (kept_number number_of w.kept))) (s.below, None))).0
            → InOrder number_of (cond c (s.below, bound) (cond d (stamp s.below (raised bound (kept_number number_of w.kept))) (s.below, None))).1 (set_value test es w)
        by true d same last low = order-same bound (sym low) (same-number-is (kept_number number_of s.kept) (kept_number number_of w.kept) same) order
        by false true same last low = order-last bound i at (last refl) low order
        by false false same last low = tt

-- a value at the place of the first key that passes
pub set-at : {M : Type 0} (test : List ℕ → Bool) (es : List (List ℕ × Slot M)) (w : Slot M)
    → set_value_at es (position_or_len test (keys_of es)) w ≡ set_value test es w
set-at test [] w = refl
set-at test (e ∷ es) w = by (test e.0) (set-at test es w)
  where
    by : (b : Bool) → set_value_at es (position_or_len test (keys_of es)) w ≡ set_value test es w
        → set_value_at (e ∷ es) (cond (not b) (1 + position_or_len test (keys_of es)) 0) w ≡ cond b ((e.0, w) ∷ es) (e ∷ set_value test es w)
    by true rest = refl
    by false rest =
        let j = position_or_len test (keys_of es) in
        let next : 1 + j ≡ suc j = omega arith in
        ap (λ (i : ℕ). set_value_at (e ∷ es) i w) next ∙ ap (λ (fs : List (List ℕ × Slot _)). e ∷ fs) rest

module _ {M : Type 0} (number_of : M → Option ℕ) where
  -- a delivery is entered
  pub order-entered : (bound r number : Option ℕ) (below : ℕ) (m : M) (es new : List (List ℕ × Slot M)) (t : List ℕ) → InOrder number_of bound es
      → r ≡ raised bound number → number ≡ number_of m → below ≡ unwrap_or r 0 → new ≡ es ++ (t, record { below = below; kept = Some m }) ∷ []
      → InOrder number_of r new
  order-entered bound r number below m es new t order rise bears low is =
      let same : r ≡ raised bound (number_of m) = rise ∙ ap (λ (o : Option ℕ). raised bound o) bears in
      subst (λ (xs : List (List ℕ × Slot M)). InOrder number_of r xs) (sym is)
      (subst (λ (n : ℕ). InOrder number_of r (es ++ (t, record { below = n; kept = Some m }) ∷ [])) (sym low)
      (subst (λ (o : Option ℕ). InOrder number_of o (es ++ (t, record { below = unwrap_or o 0; kept = Some m }) ∷ [])) (sym same)
      (order-append number_of bound m es t order)))

  -- a delivery bears another number
  pub order-stamped : (test : List ℕ → Bool) (es new : List (List ℕ × Slot M)) (s w : Slot M) (found : lookup test es ≡ Some s) (bound before after : Option ℕ) (is_last : Bool) (i : ℕ) (r : ℕ × Option ℕ)
      → new ≡ set_value test es w → set_value_at es i w ≡ set_value test es w → (is_last ≡ true → i + 1 ≡ length es)
      → r ≡ restamped s.below bound is_last before after → before ≡ kept_number number_of s.kept → after ≡ kept_number number_of w.kept → w.below ≡ r.0
      → InOrder number_of bound es → InOrder number_of r.1 new
  order-stamped test es new s w found bound before after is_last i r is at last stamped was bears low order =
      let same : r ≡ restamped s.below bound is_last (kept_number number_of s.kept) (kept_number number_of w.kept) =
      stamped
      ∙ ap (λ (o : Option ℕ). restamped s.below bound is_last o after) was
      ∙ ap (λ (o : Option ℕ). restamped s.below bound is_last (kept_number number_of s.kept) o) bears in
      subst (λ (xs : List (List ℕ × Slot M)). InOrder number_of r.1 xs) (sym is)
      (subst (λ (x : ℕ × Option ℕ). InOrder number_of x.1 (set_value test es w)) (sym same)
      (order-restamped number_of test es s w found bound is_last i at last (low ∙ ap (λ (x : ℕ × Option ℕ). x.0) same) order))
