-- Values that stand one behind the other.
use Rattle.std.proofs.Common.{◌≡◌, ℕ, ◌+◌, List, [], ◌∷◌, ◌++◌, reverse, Option, Some, None, sym, ◌∙◌, ap, subst, refl, arith, length-append, append_assoc}
use Rattle.std.proofs.lemmas.List.{reverse-append}
use Rattle.serde_amqp_item.specs.declared.codes.EncodingCodes.{EncodingCodes}
use Rattle.serde_amqp_item.specs.Item.{Item, Items, no_items, more_items}
use Rattle.serde_amqp_item.specs.Wire.{code_of, byte_of}
use Rattle.serde_amqp_item.specs.Canon.{◌>>=◌, canon, canon_all, wide, elements_of, same_constructor}
use Rattle.serde_amqp_item.proofs.Constructors.{row_of_byte, code_of_byte}
use Rattle.serde_amqp_tree.specs.declared.finished.Finished.{Finished}
use Rattle.serde_amqp_tree.specs.declared.finished.Lengths.{Lengths}
use Rattle.serde_amqp_tree.specs.Tree.{Value, Forest, Group, Joins, wide_byte}

-- constructors with the same byte are the same
pub same_code : (a b : EncodingCodes) → byte_of a ≡ byte_of b → a ≡ b
same_code a b e =
    let h : Some a ≡ Some b = sym (code_of_byte a) ∙ (ap code_of e ∙ code_of_byte b) in
    cc

-- the last of a stack is the first value
pub popped : (old new : List Finished) (f : Finished) → old ≡ new ++ f ∷ [] → reverse old ≡ f ∷ reverse new
popped old new f e = ap reverse e ∙ reverse-append new (f ∷ [])

canon_more : (x : Item) (xs : Items) (t u : List ℕ) → canon x ≡ Some t → canon_all xs ≡ Some u → canon_all (more_items x xs) ≡ Some (t ++ u)
canon_more x xs t u e f = ap (λ (o : Option (List ℕ)). o >>= λ a. canon_all xs >>= λ b. Some (a ++ b)) e ∙ ap (λ (o : Option (List ℕ)). o >>= λ b. Some (t ++ b)) f

wide_more : (c : ℕ) (x : Item) (xs : Items) (t u : List ℕ) → (wide x >>= same_constructor c) ≡ Some t → elements_of c xs ≡ Some u → elements_of c (more_items x xs) ≡ Some (t ++ u)
wide_more c x xs t u e f = ap (λ (o : Option (List ℕ)). o >>= λ a. elements_of c xs >>= λ b. Some (a ++ b)) e ∙ ap (λ (o : Option (List ℕ)). o >>= λ b. Some (t ++ b)) f

-- a group with one value more in front
group_more : (k : Option EncodingCodes) (count : ℕ) (a b t u : List ℕ) → Value k a t → Group k count b u → Group k (count + 1) (a ++ b) (t ++ u)
group_more None count a b t u (code, behind, e, v) g = record {
  items = more_items v.item g.items;
  counted = ap (λ (n : ℕ). n + 1) g.counted;
  plain = (v.plain, g.plain);
  forms = (byte_of code, behind, b, ap (λ (s : List ℕ). s ++ b) e, rw (row_of_byte code) (v.form (Some (byte_of code))), g.forms);
  written = canon_more v.item g.items t u v.written g.written;
}
group_more (Some code) count a b t u v g = record {
  items = more_items v.item g.items;
  counted = ap (λ (n : ℕ). n + 1) g.counted;
  plain = (v.plain, g.plain);
  forms = (byte_of code, a, b, (refl, refl), rw (row_of_byte code) (v.form None), g.forms);
  written = wide_more (wide_byte code) v.item g.items t u v.written g.written;
}

group_none : (k : Option EncodingCodes) → Group k 0 [] []
group_none None = record { items = no_items; counted = refl; plain = tt; forms = refl; written = refl }
group_none (Some code) = record { items = no_items; counted = refl; plain = tt; forms = refl; written = refl }

pub joins_none : (k : Option EncodingCodes) (l : Lengths) (fs : List Finished) → l.bytes ≡ 0 → l.text ≡ 0 → Joins k 0 l fs fs
joins_none k l fs e f = record {
  there = λ bytes text h. record {
    front = [];
    behind = bytes;
    front_text = [];
    behind_text = text;
    split = refl;
    texts = refl;
    long = sym e;
    long_text = sym f;
    group = group_none k;
    others = h;
  };
}

-- with one value more
pub joins_more : (k : Option EncodingCodes) (count : ℕ) (l m : Lengths) (f : Finished) (old mid new : List Finished) → old ≡ f ∷ mid → f.inherited ≡ k → m.bytes ≡ f.bytes + l.bytes → m.text ≡ f.text + l.text → Joins k count l mid new → Joins k (count + 1) m old new
joins_more k count l m f old mid new o i b t j = record {
  there = λ bytes text h.
      let p : Forest (f ∷ mid) bytes text = subst (λ (fs : List Finished). Forest fs bytes text) o h in
      let g = j.there p.1 p.3 p.9 in
      let v : Value k p.0 p.2 = subst (λ (c : Option EncodingCodes). Value c p.0 p.2) i p.8 in
      record {
        front = p.0 ++ g.front;
        behind = g.behind;
        front_text = p.2 ++ g.front_text;
        behind_text = g.behind_text;
        split = p.4 ∙ (ap (λ (s : List ℕ). p.0 ++ s) g.split ∙ sym (append_assoc p.0 g.front g.behind));
        texts = p.5 ∙ (ap (λ (s : List ℕ). p.2 ++ s) g.texts ∙ sym (append_assoc p.2 g.front_text g.behind_text));
        long = omega (arith, length-append p.0 g.front, p.6, g.long, b);
        long_text = omega (arith, length-append p.2 g.front_text, p.7, g.long_text, t);
        group = group_more k count p.0 g.front p.2 g.front_text v g.group;
        others = g.others;
      };
}

-- so many values were taken, and those that are still to be taken make all of them
pub record Taking (k : Option EncodingCodes) (count : ℕ) (l : Lengths) (first now : List Finished) : Type 0 where
  pub then : (more : ℕ) (m n : Lengths) (last : List Finished) → n.bytes ≡ l.bytes + m.bytes → n.text ≡ l.text + m.text → Joins k more m now last → Joins k (count + more) n first last

abbrev lengths : ℕ → ℕ → Lengths
lengths b t = record { bytes = b; text = t }

joins_long : (k : Option EncodingCodes) (count : ℕ) (l m : Lengths) (old new : List Finished) → m.bytes ≡ l.bytes → m.text ≡ l.text → Joins k count l old new → Joins k count m old new
joins_long k count l m old new b t j = record {
  there = λ bytes text h.
      let g = j.there bytes text h in
      record {
        front = g.front;
        behind = g.behind;
        front_text = g.front_text;
        behind_text = g.behind_text;
        split = g.split;
        texts = g.texts;
        long = g.long ∙ sym b;
        long_text = g.long_text ∙ sym t;
        group = g.group;
        others = g.others;
      };
}

nothing_more : (n : ℕ) → n ≡ 0 + n
nothing_more n = omega arith

pub taking_first : (k : Option EncodingCodes) (l : Lengths) (fs : List Finished) → l.bytes ≡ 0 → l.text ≡ 0 → Taking k 0 l fs fs
taking_first k l fs e f = record {
  then = λ more m n last b t j. subst (λ (c : ℕ). Joins k c n fs last) (nothing_more more) (joins_long k more m n fs last (omega (arith, b, e)) (omega (arith, t, f)) j);
}

pub taking_more : (k : Option EncodingCodes) (count : ℕ) (l m : Lengths) (f : Finished) (first now next : List Finished) → Taking k count l first now → now ≡ f ∷ next → f.inherited ≡ k → m.bytes ≡ l.bytes + f.bytes → m.text ≡ l.text + f.text → Taking k (count + 1) m first next
taking_more k count l m f first now next g o i b t = record {
  then = λ more v n last p q j.
      let w = lengths (f.bytes + v.bytes) (f.text + v.text) in
      let e : count + (more + 1) ≡ (count + 1) + more = omega arith in
      subst (λ (c : ℕ). Joins k c n first last) e
      (g.then (more + 1) w n last (omega (arith, p, b)) (omega (arith, q, t)) (joins_more k more v w f now next last o i refl refl j));
}

pub taking_last : (k : Option EncodingCodes) (count : ℕ) (l : Lengths) (first now : List Finished) → Taking k count l first now → Joins k count l first now
taking_last k count l first now g =
    let e : count + 0 ≡ count = omega arith in
    subst (λ (c : ℕ). Joins k c l first now) e (g.then 0 (lengths 0 0) l now (omega arith) (omega arith) (joins_none k (lengths 0 0) now refl refl))

pub ruleset joining = (same_code, popped, taking_first, taking_more, taking_last)
