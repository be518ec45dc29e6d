-- What lives, beside its numbers, as one comes, goes or changes.
use Rattle.std.proofs.lemmas.Bool.{cases_Bool, cond-false, cond-true}
use Rattle.std.proofs.lemmas.Bool.Decides.{eqb_tells}
use Rattle.std.proofs.lemmas.Option.{none-some, same_Some, slice_get_past}
use Rattle.std.proofs.Common.{◌≡◌, ◌≢◌, ◌⊎◌, inl, inr, ℕ, zero, suc, ◌+◌, ◌-◌, ◌<◌, Bool, true, false, cond, not, List, [], ◌∷◌, ◌++◌, Option, Some, None, refl, sym, ap, ◌∙◌, length, nat_eq, slice_get, slice_index_or, slice_set, swap_remove, take, subst, arith}
use Rattle.std.specs.Cmp.{nat_eq_equiv}
use Rattle.std.specs.List.{IsDistinct, position_or_len}
use Rattle.std.specs.Map.{keys_of, lookup, set_value}
use Rattle.indexmap.proofs.MapLemmas.{Found-position, Missing-position}
use Rattle.indexmap.proofs.RemoveLemmas.{swap_out}
use Rattle.std.specs.Prelude.{position}
use Rattle.amqp_endpoint_tables.specs.Spread.{beside}

module _ {U X : Type 0} where
  pub length-beside : (ps : List (ℕ × U)) (xs : List X) → length xs ≡ length ps → length (beside ps xs) ≡ length ps
  length-beside [] xs e = refl
  length-beside (p ∷ ps) [] e = absurd (omega (arith, e))
  length-beside (p ∷ ps) (x ∷ xs) e = omega (arith, length-beside ps xs (omega (arith, e)))

  pub keys-beside : (ps : List (ℕ × U)) (xs : List X) → length xs ≡ length ps → keys_of (beside ps xs) ≡ keys_of ps
  keys-beside [] xs e = refl
  keys-beside (p ∷ ps) [] e = absurd (omega (arith, e))
  keys-beside (p ∷ ps) (x ∷ xs) e = ap (λ (ks : List ℕ). p.0 ∷ ks) (keys-beside ps xs (omega (arith, e)))

  module _ (t : ℕ → Bool) where
    -- what is found stands where its number does
    pub lookup-beside : (ps : List (ℕ × U)) (xs : List X) → length xs ≡ length ps
        → lookup t (beside ps xs) ≡ slice_get xs (position_or_len t (keys_of ps))
    lookup-beside [] [] e = refl
    lookup-beside [] (x ∷ xs) e = absurd (omega (arith, e))
    lookup-beside (p ∷ ps) [] e = absurd (omega (arith, e))
    lookup-beside (p ∷ ps) (x ∷ xs) e = by (t p.0) (lookup-beside ps xs (omega (arith, e)))
      where
        by : (b : Bool) → lookup t (beside ps xs) ≡ slice_get xs (position_or_len t (keys_of ps))
            → cond b (Some x) (lookup t (beside ps xs))
            ≡ slice_get (x ∷ xs) (cond (not b) (1 + position_or_len t (keys_of ps)) 0)
        by true rest = refl
        by false rest =
            let j = position_or_len t (keys_of ps) in
            let next : 1 + j ≡ suc j = omega arith in
            rest ∙ ap (slice_get (x ∷ xs)) (sym next)

    -- and changes there
    pub beside-set : (ps : List (ℕ × U)) (xs : List X) (w : X)
        → beside ps (slice_set xs (position_or_len t (keys_of ps)) w) ≡ set_value t (beside ps xs) w
    beside-set [] xs w = refl
    beside-set (p ∷ ps) [] w = refl
    beside-set (p ∷ ps) (x ∷ xs) w = by (t p.0) (beside-set ps xs w)
      where
        by : (b : Bool) → beside ps (slice_set xs (position_or_len t (keys_of ps)) w) ≡ set_value t (beside ps xs) w
            → beside (p ∷ ps) (slice_set (x ∷ xs) (cond (not b) (1 + position_or_len t (keys_of ps)) 0) w)
            ≡ cond b ((p.0, w) ∷ beside ps xs) ((p.0, x) ∷ set_value t (beside ps xs) w)
        by true rest = refl
        by false rest =
            let j = position_or_len t (keys_of ps) in
            let next : 1 + j ≡ suc j = omega arith in
            ap (λ (i : ℕ). beside (p ∷ ps) (slice_set (x ∷ xs) i w)) next
            ∙ ap (λ (es : List (ℕ × X)). (p.0, x) ∷ es) rest

    -- a number under which nothing is found isn't there
    pub none-beside : (ps : List (ℕ × U)) (xs : List X) → length xs ≡ length ps → lookup t (beside ps xs) ≡ None
        → lookup t ps ≡ None
    none-beside [] xs e none = refl
    none-beside (p ∷ ps) [] e none = absurd (omega (arith, e))
    none-beside (p ∷ ps) (x ∷ xs) e none = by (cases_Bool (t p.0)) (none-beside ps xs (omega (arith, e)))
      where
        by : ((t p.0 ≡ true) ⊎ (t p.0 ≡ false)) → (lookup t (beside ps xs) ≡ None → lookup t ps ≡ None)
            → cond (t p.0) (Some p.1) (lookup t ps) ≡ None
        by (inl y) rest = absurd (none-some _ (sym none ∙ cond-true (t p.0) (Some x) (lookup t (beside ps xs)) y))
        by (inr n) rest =
            cond-false (t p.0) (Some p.1) (lookup t ps) n
            ∙ rest (sym (cond-false (t p.0) (Some x) (lookup t (beside ps xs)) n) ∙ none)

  -- one comes
  pub beside-push : (ps : List (ℕ × U)) (xs : List X) (p : ℕ × U) (x : X) → length xs ≡ length ps
      → beside (ps ++ p ∷ []) (xs ++ x ∷ []) ≡ beside ps xs ++ (p.0, x) ∷ []
  beside-push [] [] p x e = refl
  beside-push [] (y ∷ xs) p x e = absurd (omega (arith, e))
  beside-push (q ∷ ps) [] p x e = absurd (omega (arith, e))
  beside-push (q ∷ ps) (y ∷ xs) p x e =
      ap (λ (es : List (ℕ × X)). (q.0, y) ∷ es) (beside-push ps xs p x (omega (arith, e)))

  -- one goes, and the last takes its place
  beside-take : (n : ℕ) (ps : List (ℕ × U)) (xs : List X) → beside (take n ps) (take n xs) ≡ take n (beside ps xs)
  beside-take zero ps xs = refl
  beside-take (suc n) [] xs = refl
  beside-take (suc n) (p ∷ ps) [] = refl
  beside-take (suc n) (p ∷ ps) (x ∷ xs) = ap (λ (es : List (ℕ × X)). (p.0, x) ∷ es) (beside-take n ps xs)

  beside-put : (ps : List (ℕ × U)) (xs : List X) (i : ℕ) (p : ℕ × U) (x : X)
      → beside (slice_set ps i p) (slice_set xs i x) ≡ slice_set (beside ps xs) i (p.0, x)
  beside-put [] xs i p x = refl
  beside-put (q ∷ ps) [] zero p x = refl
  beside-put (q ∷ ps) [] (suc i) p x = refl
  beside-put (q ∷ ps) (y ∷ xs) zero p x = refl
  beside-put (q ∷ ps) (y ∷ xs) (suc i) p x = ap (λ (es : List (ℕ × X)). (q.0, y) ∷ es) (beside-put ps xs i p x)

  beside-at : (ps : List (ℕ × U)) (xs : List X) (i : ℕ) (p : ℕ × U) (x : X) → i < length ps → i < length xs
      → slice_index_or (beside ps xs) i (p.0, x) ≡ ((slice_index_or ps i p).0, slice_index_or xs i x)
  beside-at [] xs i p x h g = absurd (omega (arith, h))
  beside-at (q ∷ ps) [] i p x h g = absurd (omega (arith, g))
  beside-at (q ∷ ps) (y ∷ xs) zero p x h g = refl
  beside-at (q ∷ ps) (y ∷ xs) (suc i) p x h g = beside-at ps xs i p x (omega (arith, h)) (omega (arith, g))

  pub beside-get : (ps : List (ℕ × U)) (xs : List X) (i : ℕ) (p : ℕ × U) (x : X) → slice_get ps i ≡ Some p
      → slice_get xs i ≡ Some x → slice_get (beside ps xs) i ≡ Some (p.0, x)
  beside-get [] xs i p x h g = absurd (none-some _ h)
  beside-get (q ∷ ps) [] i p x h g = absurd (none-some _ g)
  beside-get (q ∷ ps) (y ∷ xs) zero p x h g =
      let same : ◌≡◌ {A = ℕ × X} (q.0, y) (p.0, x) =
      λ j. (ap (λ (z : ℕ × U). z.0) (same_Some q p h) j, same_Some y x g j) in
      ap (λ (f : ℕ × X). Some f) same
  beside-get (q ∷ ps) (y ∷ xs) (suc i) p x h g = beside-get ps xs i p x h g

  beside-swap : (ps : List (ℕ × U)) (xs : List X) (i : ℕ) (p : ℕ × U) (x : X) → length xs ≡ length ps
      → 0 < length ps → beside (swap_remove ps i p) (swap_remove xs i x) ≡ swap_remove (beside ps xs) i (p.0, x)
  beside-swap ps xs i p x e some =
      let n = length ps - 1 in
      let es = beside ps xs in
      let last = slice_index_or ps n p in
      let end = slice_index_or xs n x in
      let long : length xs - 1 ≡ n = omega (arith, e) in
      let whole : length es - 1 ≡ n = omega (arith, length-beside ps xs e) in
      ap (λ (m : ℕ). beside (take n (slice_set ps i last)) (take m (slice_set xs i (slice_index_or xs m x)))) long
      ∙ beside-take n (slice_set ps i last) (slice_set xs i end)
      ∙ ap (λ (fs : List (ℕ × X)). take n fs) (beside-put ps xs i last end)
      ∙ ap (λ (f : ℕ × X). take n (slice_set es i f))
      (sym (beside-at ps xs n p x (omega (arith, some)) (omega (arith, some, e))))
      ∙ ap (λ (m : ℕ). take m (slice_set es i (slice_index_or es m (p.0, x)))) (sym whole)

  pub gone-beside : (k : ℕ) (ps qs : List (ℕ × U)) (xs ys : List X) (i : ℕ) (p : ℕ × U) (x : X)
      → length xs ≡ length ps → IsDistinct nat_eq (keys_of ps) → position (nat_eq k) (keys_of ps) ≡ Some i
      → slice_get ps i ≡ Some p → slice_get xs i ≡ Some x → 0 < length ps → qs ≡ swap_remove ps i p
      → ys ≡ swap_remove xs i x → (q : ℕ)
      → lookup (nat_eq q) (beside qs ys) ≡ cond (nat_eq k q) None (lookup (nat_eq q) (beside ps xs))
  gone-beside k ps qs xs ys i p x e distinct index at here some left rest =
      let keys = sym (keys-beside ps xs e) in
      (swap_out nat_eq nat_eq_equiv (nat_eq k) (nat_eq_equiv.congr k) (beside ps xs) i (p.0, x)
      (subst (λ (ks : List ℕ). position (nat_eq k) ks ≡ Some i) keys index) (beside-get ps xs i p x at here)
      (subst (λ (ks : List ℕ). IsDistinct nat_eq ks) keys distinct) (beside qs ys)
      ((λ j. beside (left j) (rest j)) ∙ beside-swap ps xs i p x e some)).updated.0

module _ {U X : Type 0} (ps : List (ℕ × U)) (xs : List X) (e : length xs ≡ length ps) (k : ℕ) where
  -- what lives at a number whose place is known, or that has none
  pub found-at : (i : ℕ) → position (nat_eq k) (keys_of ps) ≡ Some i
      → lookup (nat_eq k) (beside ps xs) ≡ slice_get xs i
  found-at i p =
      lookup-beside (nat_eq k) ps xs e ∙ ap (λ (j : ℕ). slice_get xs j) (Found-position (nat_eq k) ps i p).or_len

  pub missing : position (nat_eq k) (keys_of ps) ≡ None → lookup (nat_eq k) (beside ps xs) ≡ None
  missing p =
      lookup-beside (nat_eq k) ps xs e ∙ ap (λ (j : ℕ). slice_get xs j) (Missing-position (nat_eq k) ps p).or_len
      ∙ slice_get_past xs (length ps) (omega (arith, e))

  pub put-at : (i : ℕ) → position (nat_eq k) (keys_of ps) ≡ Some i → (w : X)
      → beside ps (slice_set xs i w) ≡ set_value (nat_eq k) (beside ps xs) w
  put-at i p w =
      ap (λ (j : ℕ). beside ps (slice_set xs j w)) (sym (Found-position (nat_eq k) ps i p).or_len)
      ∙ beside-set (nat_eq k) ps xs w

-- one that comes last, and that wasn't there
module _ {X : Type 0} where
  abbrev or-else : Option X → Option X → Option X
  or-else None other = other
  or-else (Some x) other = Some x

  lookup-push : (t : ℕ → Bool) (es : List (ℕ × X)) (e : ℕ × X)
      → lookup t (es ++ e ∷ []) ≡ or-else (lookup t es) (cond (t e.0) (Some e.1) None)
  lookup-push t [] e = refl
  lookup-push t (f ∷ es) e = by (t f.0) (lookup-push t es e)
    where
      by : (b : Bool) → lookup t (es ++ e ∷ []) ≡ or-else (lookup t es) (cond (t e.0) (Some e.1) None)
          → cond b (Some f.1) (lookup t (es ++ e ∷ []))
          ≡ or-else (cond b (Some f.1) (lookup t es)) (cond (t e.0) (Some e.1) None)
      by true rest = refl
      by false rest = rest

  or-none : (o : Option X) → or-else o None ≡ o
  or-none None = refl
  or-none (Some x) = refl

  pub pushed : (es : List (ℕ × X)) (k : ℕ) (x : X) → lookup (nat_eq k) es ≡ None → (q : ℕ)
      → lookup (nat_eq q) (es ++ (k, x) ∷ []) ≡ cond (nat_eq k q) (Some x) (lookup (nat_eq q) es)
  pushed es k x none q =
      lookup-push (nat_eq q) es (k, x)
      ∙ ap (λ (b : Bool). or-else (lookup (nat_eq q) es) (cond b (Some x) None)) (nat_eq_equiv.symm q k)
      ∙ by (eqb_tells k q)
    where
      by : ((nat_eq k q ≡ true) × (k ≡ q)) ⊎ ((nat_eq k q ≡ false) × (k ≢ q))
          → or-else (lookup (nat_eq q) es) (cond (nat_eq k q) (Some x) None)
          ≡ cond (nat_eq k q) (Some x) (lookup (nat_eq q) es)
      by (inl p) =
          ap (λ (o : Option X). or-else o (cond (nat_eq k q) (Some x) None))
          (ap (λ (j : ℕ). lookup (nat_eq j) es) (sym p.1) ∙ none)
          ∙ ap (λ (b : Bool). cond b (Some x) None) p.0
          ∙ sym (ap (λ (b : Bool). cond b (Some x) (lookup (nat_eq q) es)) p.0)
      by (inr p) =
          ap (λ (b : Bool). or-else (lookup (nat_eq q) es) (cond b (Some x) None)) p.0
          ∙ or-none (lookup (nat_eq q) es)
          ∙ sym (ap (λ (b : Bool). cond b (Some x) (lookup (nat_eq q) es)) p.0)
