-- What the calls of `IndexMap` make of its entries is what the words of `Pairs` say.
use Rattle.std.proofs.Common.{◌≡◌, ◌∙◌, ℕ, suc, ◌-◌, ◌+◌, Bool, true, false, cond, nat_lt, List, [], ◌∷◌, ◌++◌, length, take, drop, swap_remove, slice_set, slice_index_or, position, Option, None, Some, is_some, if◌then◌else◌, refl, sym, ap, arith}
use Rattle.std.proofs.lemmas.Bool.Decides.{nat_tests}
use Rattle.std.specs.List.{position_or_len}
use Prim.Native.Nat.compare
use lib.Dec.{is_le}
use Rattle.std.specs.Option.{option_map, option_map_or}
use Rattle.std.specs.Map.{keys_of, lookup, lookup_entry, lookup_key, set_value}
use Rattle.indexmap.specs.IndexMap.{insert_entry, insert_all, swap_remove_entry}
use Rattle.serde_amqp_values.specs.Pairs.{all_inserted, last_first, pairs_inserted, pairs_swapped}

-- the last of a list
last_is : {X : Type 0} (d x : X) (xs : List X) → drop (length xs) (x ∷ xs) ≡ slice_index_or (x ∷ xs) (length xs) d ∷ []
last_is d x [] = refl
last_is d x (y ∷ xs) = last_is d y xs

last_any : {X : Type 0} (c d x : X) (xs : List X) → slice_index_or (x ∷ xs) (length xs) c ≡ slice_index_or (x ∷ xs) (length xs) d
last_any c d x [] = refl
last_any c d x (y ∷ xs) = last_any c d y xs

swap_is : {X : Type 0} (x : X) (xs : List X) (i : ℕ) (d : X) → swap_remove (x ∷ xs) i d ≡ take (length xs) (slice_set (x ∷ xs) i (slice_index_or (x ∷ xs) (length xs) d))
swap_is x xs i d =
    let less : suc (length xs) - 1 ≡ length xs = omega arith in
    ap (λ (n : ℕ). take n (slice_set (x ∷ xs) i (slice_index_or (x ∷ xs) n d))) less

-- where the first element that passes stands
one_more : (n : ℕ) → 1 + n ≡ suc n
one_more n = omega arith

later_place : (n : ℕ) (b : Bool) → cond b (Some (suc n)) None ≡ option_map suc (cond b (Some n) None)
later_place n true = refl
later_place n false = refl

lt_first : (m : ℕ) → nat_lt 0 (suc m) ≡ true
lt_first m = grind (arith, nat_tests)

lt_later : (n m : ℕ) → nat_lt (suc n) (suc m) ≡ nat_lt n m
lt_later n m = ap is_le (compare.suc-suc (suc n) m)

place_later : (n m : ℕ) → cond (nat_lt (1 + n) (suc m)) (Some (1 + n)) None ≡ option_map suc (cond (nat_lt n m) (Some n) None)
place_later n m =
    ap (λ (j : ℕ). cond (nat_lt j (suc m)) (Some j) None) (one_more n)
    ∙ ap (λ (b : Bool). cond b (Some (suc n)) None) (lt_later n m)
    ∙ later_place n (nat_lt n m)

place_by : {X : Type 0} (test : X → Bool) (x : X) (xs : List X) (b : Bool) → test x ≡ b → position test (x ∷ xs) ≡ cond b (Some 0) (option_map suc (position test xs))
place_by test x xs true e = rw e (ap (λ (b : Bool). cond b (Some 0) None) (lt_first (length xs)))
place_by test x xs false e = rw e (place_later (position_or_len test xs) (length xs))

module _ {K V : Type 0} (same : K → K → Bool) (k : K) where
  later : (p : K × V) (ps : List (K × V)) (v : V) (b : Bool) → p ∷ (if b then set_value (same k) ps v else ps ++ (k, v) ∷ []) ≡ (if b then p ∷ set_value (same k) ps v else p ∷ (ps ++ (k, v) ∷ []))
  later p ps v true = refl
  later p ps v false = refl

  inserted_by : (p : K × V) (ps : List (K × V)) (v : V) → insert_entry same ps k v ≡ pairs_inserted same ps k v → (b : Bool) → same k p.0 ≡ b → insert_entry same (p ∷ ps) k v ≡ pairs_inserted same (p ∷ ps) k v
  inserted_by p ps v so true e = rw e refl
  inserted_by p ps v so false e = rw e (ap (λ (qs : List (K × V)). p ∷ qs) so ∙ later p ps v (is_some (lookup (same k) ps)))

  pub inserted : (ps : List (K × V)) (v : V) → insert_entry same ps k v ≡ pairs_inserted same ps k v
  inserted [] v = refl
  inserted (p ∷ ps) v = inserted_by p ps v (inserted ps v) (same k p.0) refl

  first_swapped : (p : K × V) (ps : List (K × V)) → swap_remove (p ∷ ps) 0 p ≡ last_first ps
  first_swapped p [] = swap_is p [] 0 p
  first_swapped p (q ∷ ps) = swap_is p (q ∷ ps) 0 p ∙ ap (λ (l : List (K × V)). l ++ take (length ps) (q ∷ ps)) (sym (last_is p q ps))

  later_swapped : (p : K × V) (q : K × V) (ps : List (K × V)) (i : ℕ) → swap_remove (p ∷ q ∷ ps) (suc i) p ≡ p ∷ swap_remove (q ∷ ps) i q
  later_swapped p q ps i =
      swap_is p (q ∷ ps) (suc i) p
      ∙ ap (λ (x : K × V). p ∷ take (length ps) (slice_set (q ∷ ps) i x)) (last_any p q q ps)
      ∙ ap (λ (l : List (K × V)). p ∷ l) (sym (swap_is q ps i q))

  swapped_at : (p q : K × V) (ps : List (K × V)) (r : Option ℕ) → option_map_or (λ i. swap_remove (p ∷ q ∷ ps) i p) (option_map suc r) (p ∷ q ∷ ps) ≡ p ∷ option_map_or (λ i. swap_remove (q ∷ ps) i q) r (q ∷ ps)
  swapped_at p q ps None = refl
  swapped_at p q ps (Some i) = later_swapped p q ps i

  swapped_by : (p : K × V) (ps : List (K × V)) → swap_remove_entry (same k) ps ≡ pairs_swapped same ps k → (b : Bool) → same k p.0 ≡ b → swap_remove_entry (same k) (p ∷ ps) ≡ cond b (last_first ps) (p ∷ pairs_swapped same ps k)
  swapped_by p ps so true e = ap (λ (r : Option ℕ). option_map_or (λ i. swap_remove (p ∷ ps) i p) r (p ∷ ps)) (place_by (same k) p.0 (keys_of ps) true e) ∙ first_swapped p ps
  swapped_by p [] so false e = ap (λ (r : Option ℕ). option_map_or (λ i. swap_remove (p ∷ []) i p) r (p ∷ [])) (place_by (same k) p.0 [] false e)
  swapped_by p (q ∷ ps) so false e =
      ap (λ (r : Option ℕ). option_map_or (λ i. swap_remove (p ∷ q ∷ ps) i p) r (p ∷ q ∷ ps)) (place_by (same k) p.0 (keys_of (q ∷ ps)) false e)
      ∙ swapped_at p q ps (position (same k) (keys_of (q ∷ ps)))
      ∙ ap (λ (l : List (K × V)). p ∷ l) so

  pub swapped : (ps : List (K × V)) → swap_remove_entry (same k) ps ≡ pairs_swapped same ps k
  swapped [] = refl
  swapped (p ∷ ps) = swapped_by p ps (swapped ps) (same k p.0) refl

-- a key and a value that were found are a pair that was found
module _ {K V : Type 0} (test : K → Bool) where
  key_by : (p : K × V) (b : Bool) (r : Option (K × V)) (s : Option K) → s ≡ option_map (λ q. q.0) r → cond b (Some p.0) s ≡ option_map (λ q. q.0) (cond b (Some p) r)
  key_by p true r s e = refl
  key_by p false r s e = e

  value_by : (p : K × V) (b : Bool) (r : Option (K × V)) (s : Option V) → s ≡ option_map (λ q. q.1) r → cond b (Some p.1) s ≡ option_map (λ q. q.1) (cond b (Some p) r)
  value_by p true r s e = refl
  value_by p false r s e = e

  key_of : (ps : List (K × V)) → lookup_key test ps ≡ option_map (λ p. p.0) (lookup_entry test ps)
  key_of [] = refl
  key_of (p ∷ ps) = key_by p (test p.0) (lookup_entry test ps) (lookup_key test ps) (key_of ps)

  value_of : (ps : List (K × V)) → lookup test ps ≡ option_map (λ p. p.1) (lookup_entry test ps)
  value_of [] = refl
  value_of (p ∷ ps) = value_by p (test p.0) (lookup_entry test ps) (lookup test ps) (value_of ps)

  parts : (r s : Option (K × V)) → option_map (λ p. p.0) r ≡ option_map (λ p. p.0) s → option_map (λ p. p.1) r ≡ option_map (λ p. p.1) s → r ≡ s
  parts None None e f = refl
  parts None (Some q) e f = absurd cc
  parts (Some p) None e f = absurd cc
  parts (Some p) (Some q) e f =
      let a : p.0 ≡ q.0 = cc in
      let b : p.1 ≡ q.1 = cc in
      λ i. Some (a i, b i)

  pub entry_found : (ps : List (K × V)) (r : Option (K × V)) → option_map (λ p. p.0) r ≡ lookup_key test ps → option_map (λ p. p.1) r ≡ lookup test ps → r ≡ lookup_entry test ps
  entry_found ps r e f = parts r (lookup_entry test ps) (e ∙ key_of ps) (f ∙ value_of ps)

pub all : {K V : Type 0} (same : K → K → Bool) (ps xs : List (K × V)) → insert_all same ps xs ≡ all_inserted same ps xs
all same ps [] = refl
all same ps (x ∷ xs) = ap (λ (qs : List _). insert_all same qs xs) (inserted same x.0 ps x.1) ∙ all same (pairs_inserted same ps x.0 x.1) xs

pub ruleset rules = (inserted, swapped, entry_found)
