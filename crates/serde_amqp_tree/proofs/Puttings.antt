-- The heads of the texts of values that hold others.
use Rattle.std.proofs.Common.{◌≡◌, ◌≢◌, ℕ, ◌+◌, ◌<◌, ◌≤◌, ◌^◌, List, [], ◌∷◌, ◌++◌, length, Bool, true, false, cond, Option, Some, None, sym, ◌∙◌, ap, refl, arith, append_assoc}
use Rattle.std.specs.Prelude.{nat_lt, ◌==◌}
use Rattle.std.specs.Int.{w32, to_be_bytes}
use Rattle.std.proofs.lemmas.Bool.Decides.{nat_tests}
use Rattle.serde_amqp_item.specs.Canon.{◌>>=◌, same_constructor, counted_wide, list_text}
use Rattle.serde_amqp_tree.specs.Tree.{Puts, PutsWide, counted_of, list_of_text}

pub on_true : {A : Type 0} (b : Bool) (x y : A) → b ≡ true → cond b x y ≡ x
on_true true x y e = refl
on_true false x y e = absurd cc

pub on_false : {A : Type 0} (b : Bool) (x y : A) → b ≡ false → cond b x y ≡ y
on_false false x y e = refl
on_false true x y e = absurd cc

pub is_below : (m n : ℕ) → m < n → nat_lt m n ≡ true
is_below m n h = grind (arith, nat_tests)

pub not_below : (m n : ℕ) → n ≤ m → nat_lt m n ≡ false
not_below m n h = grind (arith, nat_tests)

pub is_equal : (m : ℕ) → (m == m) ≡ true
is_equal m = grind (arith, nat_tests)

pub not_equal : (m n : ℕ) → m ≢ n → (m == n) ≡ false
not_equal m n h = grind (arith, nat_tests)

-- what is written behind its own constructor
pub of_same : (c : ℕ) (t : List ℕ) → same_constructor c (c, t) ≡ Some t
of_same c t = on_true (c == c) (Some t) None (is_equal c)

abbrev wide_head : ℕ → List ℕ → List ℕ
wide_head count content = to_be_bytes w32 (length content + 4) ++ to_be_bytes w32 count ++ content

counted_wide_is : (c count : ℕ) (content : List ℕ) → length content + 4 < 2 ^ 32 → counted_wide c count content ≡ Some (c, wide_head count content)
counted_wide_is c count content l = on_true (nat_lt (length content + 4) (2 ^ 32)) (Some (c, wide_head count content)) None (is_below _ _ l)

head_put : (count long : ℕ) (old new content behind : List ℕ) → PutsWide count long old new → old ≡ content ++ behind → length content ≡ long → new ≡ wide_head count content ++ behind
head_put count long old new content behind p e l =
    let s = to_be_bytes w32 (length content + 4) in
    let n = to_be_bytes w32 count in
    p.put ∙ (ap (λ (k : ℕ). to_be_bytes w32 (k + 4) ++ (n ++ old)) (sym l) ∙ (ap (λ (t : List ℕ). s ++ (n ++ t)) e ∙ (ap (λ (t : List ℕ). s ++ t) (sym (append_assoc n content behind)) ∙ (sym (append_assoc s (n ++ content) behind) ∙ ap (λ (t : List ℕ). t ++ behind) (sym (append_assoc s n content))))))

pub puts_inherited : (inherited : Bool) (narrow wide count long : ℕ) (old new : List ℕ) → inherited ≡ true → PutsWide count long old new → Puts (counted_of inherited narrow wide count) long old new
puts_inherited false narrow wide count long old new i p = absurd cc
puts_inherited true narrow wide count long old new i p = record {
  there = λ content behind e l.
      let fits : length content + 4 < 2 ^ 32 = omega (arith, p.fits, l) in
      (wide_head count content, ap (λ (o : Option (ℕ × List ℕ)). o >>= same_constructor wide) (counted_wide_is wide count content fits) ∙ of_same wide (wide_head count content), head_put count long old new content behind p e l);
}

pub puts_narrow : (inherited : Bool) (narrow wide count long : ℕ) (old new : List ℕ) → inherited ≡ false → long < 255 → new ≡ narrow ∷ (long + 1) ∷ count ∷ old → Puts (counted_of inherited narrow wide count) long old new
puts_narrow true narrow wide count long old new i s p = absurd cc
puts_narrow false narrow wide count long old new i s p = record {
  there = λ content behind e l.
      let short : length content < 255 = omega (arith, s, l) in
      (narrow ∷ (length content + 1) ∷ count ∷ content, on_true (nat_lt (length content) 255) _ _ (is_below _ _ short), p ∙ (ap (λ (k : ℕ). narrow ∷ (k + 1) ∷ count ∷ old) (sym l) ∙ ap (λ (t : List ℕ). narrow ∷ (length content + 1) ∷ count ∷ t) e));
}

pub puts_wide : (inherited : Bool) (narrow wide count long : ℕ) (old mid new : List ℕ) → inherited ≡ false → 255 ≤ long → PutsWide count long old mid → new ≡ wide ∷ mid → Puts (counted_of inherited narrow wide count) long old new
puts_wide true narrow wide count long old mid new i s p e = absurd cc
puts_wide false narrow wide count long old mid new i s p e = record {
  there = λ content behind f l.
      let large : 255 ≤ length content = omega (arith, s, l) in
      let fits : length content + 4 < 2 ^ 32 = omega (arith, p.fits, l) in
      (wide ∷ wide_head count content, on_false (nat_lt (length content) 255) _ _ (not_below _ _ large) ∙ on_true (nat_lt (length content + 4) (2 ^ 32)) _ _ (is_below _ _ fits), e ∙ ap (λ (t : List ℕ). wide ∷ t) (head_put count long old mid content behind p f l));
}

pub wide_fits : (size long : ℕ) → size ≡ long + 4 → size < 2 ^ 32 → long + 4 < 2 ^ 32
wide_fits size long e l = omega (arith, e, l)

pub puts_words : (size n count long : ℕ) (old mid new : List ℕ) → size ≡ long + 4 → n ≡ count → size < 2 ^ 32 → mid ≡ to_be_bytes w32 n ++ old → new ≡ to_be_bytes w32 size ++ mid → PutsWide count long old new
puts_words size n count long old mid new s c l e f = record {
  fits = wide_fits size long s l;
  put = f ∙ (ap (λ (k : ℕ). to_be_bytes w32 k ++ mid) s ∙ ap (λ (t : List ℕ). to_be_bytes w32 (long + 4) ++ t) (e ∙ ap (λ (k : ℕ). to_be_bytes w32 k ++ old) c));
}

-- lists
pub puts_list_inherited : (inherited : Bool) (count long : ℕ) (old new : List ℕ) → inherited ≡ true → Puts (counted_of inherited 0xc0 0xd0 count) long old new → Puts (list_of_text inherited count) long old new
puts_list_inherited true count long old new i p = record { there = λ content behind e l. p.there content behind e l }
puts_list_inherited false count long old new i p = absurd cc

pub puts_list : (inherited : Bool) (count long : ℕ) (old new : List ℕ) → inherited ≡ false → long ≢ 0 → Puts (counted_of inherited 0xc0 0xd0 count) long old new → Puts (list_of_text inherited count) long old new
puts_list true count long old new i z p = absurd cc
puts_list false count long old new i z p = record {
  there = λ content behind e l.
      let t = p.there content behind e l in
      let filled : length content ≢ 0 = λ h. z (sym l ∙ h) in
      (t.0, on_false (length content == 0) (Some (0x45 ∷ [])) _ (not_equal _ _ filled) ∙ t.1, t.2);
}

nothing : (content : List ℕ) → length content ≡ 0 → content ≡ []
nothing [] e = refl
nothing (b ∷ content) e = absurd (omega (arith, e))

pub puts_empty_list : (inherited : Bool) (count long : ℕ) (old new : List ℕ) → inherited ≡ false → long ≡ 0 → new ≡ 0x45 ∷ old → Puts (list_of_text inherited count) long old new
puts_empty_list true count long old new i z p = absurd cc
puts_empty_list false count long old new i z p = record {
  there = λ content behind e l.
      let n : content ≡ [] = nothing content (l ∙ z) in
      (0x45 ∷ [], ap (λ (t : List ℕ). list_text count t) n, p ∙ (ap (λ (t : List ℕ). 0x45 ∷ t) e ∙ ap (λ (t : List ℕ). 0x45 ∷ (t ++ behind)) n));
}

pub ruleset putting = (puts_inherited, puts_narrow, puts_wide, puts_words, puts_list_inherited, puts_list, puts_empty_list)
