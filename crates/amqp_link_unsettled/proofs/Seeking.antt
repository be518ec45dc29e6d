-- A delivery is looked for by its number, one after the other, and by halves.
use Rattle.std.proofs.Common.{◌≡◌, ◌∙◌, ℕ, zero, suc, ◌<◌, ◌≤◌, List, [], ◌∷◌, ◌++◌, take, drop, take-append-drop, length, length-drop, Bool, true, false, leb-true, leb-false, nat_le, Option, Some, None, refl, ap, sym, subst, arith, if◌then◌else◌}
use Rattle.amqp_link_unsettled.specs.declared.slot.Slot.{Slot}
use Rattle.amqp_link_unsettled.specs.Numbers.{is_number, kept_number, tag_with}
use Rattle.amqp_link_unsettled.specs.Rising.{Rises, Rising, ends, standing}
use Rattle.amqp_link_unsettled.proofs.Ascending.{ends-same, first-passed, rises-first, rises-second, second-passed, tag-of-one}

module _ {M : Type 0} (number_of : M → Option ℕ) (es all rest : List (List ℕ × M)) (tag : List ℕ) (m : M) (n : ℕ) (b : Bool)
    (left : tag_with number_of n all ≡ tag_with number_of n es) (first : es ≡ (tag, m) ∷ rest) (is : b ≡ is_number n (number_of m))
  where
    -- by whether the first that is left bears it
    by-first : tag_with number_of n all ≡ (if is_number n (number_of m) then Some tag else tag_with number_of n rest)
    by-first = left ∙ ap (λ (l : List (List ℕ × M)). tag_with number_of n l) first

    -- it bears it, and is the one that is looked for
    pub first-bears : b ≡ true → Some tag ≡ tag_with number_of n all
    first-bears is_it =
        sym (by-first ∙ ap (λ (x : Bool). if x then Some tag else tag_with number_of n rest) (sym is ∙ is_it))

    -- it doesn't, and is passed over
    pub goes-on : b ≡ false → tag_with number_of n all ≡ tag_with number_of n rest
    goes-on is_not = by-first ∙ ap (λ (x : Bool). if x then Some tag else tag_with number_of n rest) (sym is ∙ is_not)

some-taken : {X : Type 0} (k : ℕ) (es : List X) → 0 < k → k ≤ length es → 0 < length (take k es)
some-taken zero es some within = absurd (omega (arith, some))
some-taken (suc k) [] some within = absurd (omega (arith, within))
some-taken (suc k) (e ∷ es) some within = omega arith

pub taken-length : {X : Type 0} (k : ℕ) (es : List X) → k ≤ length es → length (take k es) ≡ k
taken-length zero es within = refl
taken-length (suc k) [] within = absurd (omega (arith, within))
taken-length (suc k) (e ∷ es) within = omega (arith, taken-length k es (omega (arith, within)))

-- some deliveries are cut in two parts
module _ {M : Type 0} (number_of : M → Option ℕ) (n : ℕ) (es : List (List ℕ × Slot M)) (k : ℕ) (some : 0 < k) (within : k ≤ length es) (r : Rising number_of es) where
  abbrev front : List (List ℕ × Slot M)
  front = take k es

  abbrev back : List (List ℕ × Slot M)
  back = drop k es

  parts : front ++ back ≡ es
  parts = take-append-drop k es

  in-parts : Rises number_of r.floor r.bound (front ++ back)
  in-parts = subst (λ (l : List (List ℕ × Slot M)). Rises number_of r.floor r.bound l) (sym parts) r.rises

  end-is : ends 0 front ≡ ends r.floor front
  end-is = ends-same 0 r.floor front (some-taken k es some within)

  -- what is left, where the first part ends below the number
  pub in-second : (xs : List (List ℕ × Slot M)) → xs ≡ back → true ≡ nat_le (ends 0 front) n
      → tag_with number_of n (standing xs) ≡ tag_with number_of n (standing es)
  in-second xs is low =
      ap (λ (l : List (List ℕ × Slot M)). tag_with number_of n (standing l)) is
      ∙ sym (first-passed number_of n r.floor r.bound front back in-parts (omega (arith, end-is, leb-true (ends 0 front) n (sym low))))
      ∙ ap (λ (l : List (List ℕ × Slot M)). tag_with number_of n (standing l)) parts

  pub second-rises : (xs : List (List ℕ × Slot M)) → xs ≡ back → Rising number_of xs
  second-rises xs is =
      record {
        floor = ends r.floor front;
        bound = r.bound;
        rises = subst (λ (l : List (List ℕ × Slot M)). Rises number_of (ends r.floor front) r.bound l) (sym is)
            (rises-second number_of r.floor r.bound front back in-parts);
      }

  pub second-shorter : (xs : List (List ℕ × Slot M)) → xs ≡ back → length xs < length es
  second-shorter xs is = omega (arith, ap (λ (l : List (List ℕ × Slot M)). length l) is, length-drop k es, some, within)

  -- and where it doesn't
  pub in-first : (xs : List (List ℕ × Slot M)) → xs ≡ front → false ≡ nat_le (ends 0 front) n
      → tag_with number_of n (standing xs) ≡ tag_with number_of n (standing es)
  in-first xs is high =
      ap (λ (l : List (List ℕ × Slot M)). tag_with number_of n (standing l)) is
      ∙ sym (second-passed number_of n r.floor r.bound front back in-parts (omega (arith, end-is, leb-false (ends 0 front) n (sym high))))
      ∙ ap (λ (l : List (List ℕ × Slot M)). tag_with number_of n (standing l)) parts

  pub first-rises : (xs : List (List ℕ × Slot M)) → xs ≡ front → Rising number_of xs
  first-rises xs is =
      record {
        floor = r.floor;
        bound = ends r.floor front;
        rises = subst (λ (l : List (List ℕ × Slot M)). Rises number_of r.floor (ends r.floor front) l) (sym is)
            (rises-first number_of r.floor r.bound front back in-parts);
      }

  pub first-shorter : (xs : List (List ℕ × Slot M)) → xs ≡ front → k < length es → length xs < length es
  first-shorter xs is less = omega (arith, ap (λ (l : List (List ℕ × Slot M)). length l) is, taken-length k es within, less)

-- one is left, or none
module _ {M : Type 0} (number_of : M → Option ℕ) (n : ℕ) (es : List (List ℕ × Slot M)) where
  pub none-left : length es ≡ 0 → None ≡ tag_with number_of n (standing es)
  none-left none = by es none
    where
      by : (l : List (List ℕ × Slot M)) → length l ≡ 0 → None ≡ tag_with number_of n (standing l)
      by [] e = refl
      by (x ∷ xs) e = absurd (omega (arith, e))

  pub one-left : (t : List ℕ) (s : Slot M) (others : List (List ℕ × Slot M)) (b : Bool) → es ≡ (t, s) ∷ others → length es ≤ 1
      → b ≡ is_number n (kept_number number_of s.kept) → (if b then Some t else None) ≡ tag_with number_of n (standing es)
  one-left t s others b is short bears =
      ap (λ (c : Bool). if c then Some t else None) bears
      ∙ sym (tag-of-one number_of n t s others (omega (arith, ap (λ (l : List (List ℕ × Slot M)). length l) is, short)))
      ∙ sym (ap (λ (l : List (List ℕ × Slot M)). tag_with number_of n (standing l)) is)
