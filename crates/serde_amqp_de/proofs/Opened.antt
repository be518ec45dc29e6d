-- An item that holds others, while they are read.
use Rattle.std.proofs.Common.{◌≡◌, ◌≢◌, ℕ, ◌+◌, ◌*◌, ◌/◌, ◌%◌, List, [], ◌∷◌, ◌++◌, length, Option, Some, None, Bool, true, false, sym, ◌∙◌, ap, subst, refl, arith, length-append, append_assoc, append-nil, ◌⊎◌, inl, inr}
use Rattle.serde_amqp_item.specs.declared.codes.EncodingCodes.TheVariants.{DescribedType}
use Rattle.std.specs.Prelude.{Result, Ok, Err, OnOk, OnErr, ◌==◌}
use Rattle.serde_amqp_item.specs.declared.error.Error.{Error}
use Rattle.serde_amqp_read.specs.Reads.{Refusal, Unless}
use Rattle.serde_amqp_item.specs.Item.{Item, Items, scalar, raw, list, array, map, described, no_items, more_items, items_of, item_count, Pairs, no_pairs, more_pairs, pairs_of, pair_count}
use Rattle.serde_amqp_item.specs.Wire.{Wire, Leads, Form, Forms, described_by, IsCapped, IsStrict}
use Rattle.serde_amqp_item.specs.Kind.{kind_of, raw_kind}
use Rattle.serde_amqp_item.proofs.Forms.{all_same}
use Rattle.serde_amqp_item.proofs.PairRows.{pair_items}
use Rattle.serde_amqp_de.specs.declared.content.Content.{Content}
use Rattle.serde_amqp_de.specs.Reads.{Reading, At, Moves, Head, Reads, Refuses, Took, Opens, at_of}
use Rattle.serde_amqp_de.specs.Maps.{pairs_in, map_in, map_taken, RefusesPairs}
use Rattle.serde_amqp_de.specs.Takes.{list_taken}
use Rattle.serde_amqp_de.specs.Apart.{leads_split}
use Rattle.serde_amqp_de.specs.Open.{Shape, a_list, an_array, a_map, a_described_value, whole, described_in, MayHave, counted_taken, variant_taken, in_turn, Fills, EndsAt, AtEnd, Begun, HasRead, TookNext, TookEntry, IsNot}
use Rattle.serde_amqp_de.proofs.Heads.{moves_then, stays, head_form, behind_head, refusal_weaker}
use Rattle.serde_amqp_de.proofs.Lists.{unkept}
use Rattle.serde_amqp_de.proofs.Maps.{twice_half, in_turn as turned}
use Rattle.serde_amqp_de.proofs.Naming.{named_passed, names_any_count}
use Rattle.serde_amqp_de.proofs.Pairs.{raw_or_not, refuses_key, refuses_value}
use Rattle.serde_amqp_item.proofs.Scalars.{equal}

pub counted : (xs : List Item) → item_count (items_of xs) ≡ length xs
counted [] = refl
counted (x ∷ xs) = omega (arith, counted xs)

-- one more behind the others
append_forms : (xs : List Item) (x : Item) (j : Option ℕ) (a b : List ℕ) → Forms IsCapped IsStrict (items_of xs) j a → Wire x j b → Forms IsCapped IsStrict (items_of (xs ++ x ∷ [])) j (a ++ b)
append_forms [] x j a b f w =
    let alone : Leads j (b ++ []) w.0 (w.1 ++ []) = leads_split j b w.1 [] w.0 w.2 in
    let all : b ++ [] ≡ a ++ b = append-nil b ∙ ap (λ (s : List ℕ). s ++ b) (sym f) in
    (w.0, w.1, [], subst (λ (s : List ℕ). Leads j s w.0 (w.1 ++ [])) all alone, w.3, refl)
append_forms (y ∷ ys) x j a b f w =
    let longer : Leads j (a ++ b) f.0 ((f.1 ++ f.2) ++ b) = leads_split j a (f.1 ++ f.2) b f.0 f.3 in
    (f.0, f.1, f.2 ++ b, subst (λ (s : List ℕ). Leads j (a ++ b) f.0 s) (append_assoc f.1 f.2 b) longer, f.4, append_forms ys x j f.2 b f.5 w)

pub one_more : {R : Type 0} (rest : R → List ℕ) (shape : Shape) (take : Item → Option Item) (j k : Option ℕ) (old : At) (xs : List Item) (y : Item) (c d : Content R)
    → HasRead rest shape j k old xs c → (t : Took take c.de.now.element (at_of rest c.de.now) (at_of rest d.de.now) y) → d.de.now.element ≡ c.de.now.element → c.left ≡ d.left + 1 → d.end ≡ c.end → d.outer ≡ c.outer → HasRead rest shape j k old (xs ++ t.item ∷ []) d
one_more rest shape take j k old xs y c d h t element l end outer = record {
  count = h.count;
  size = h.size;
  mid = h.mid;
  front = h.front ++ t.reads.front;
  begun = h.begun;
  forms = append_forms xs t.item j h.front t.reads.front h.forms (subst (λ (i : Option ℕ). Wire t.item i t.reads.front) h.inherits t.reads.wire);
  moves = moves_then h.mid (at_of rest c.de.now) (at_of rest d.de.now) h.front t.reads.front h.moves t.reads.moves;
  left_is = omega (arith, h.left_is, length-append xs (t.item ∷ []), l);
  end_is = subst (λ (e : Option ℕ). EndsAt h.size h.mid.pos e) (sym end) h.end_is;
  outer_is = outer ∙ h.outer_is;
  inherits = element ∙ h.inherits;
}

fills : (size : Option ℕ) (first last n : ℕ) (end : Option ℕ) → EndsAt size first end → last ≡ first + n → AtEnd end last → Fills size n
fills None first last n end e m a = tt
fills (Some size) first last n None e m a = absurd cc
fills (Some size) first last n (Some i) e m a = let same : i ≡ first + size = cc in omega (arith, same, m, a)

filled : (size : Option ℕ) (first last n : ℕ) (end : Option ℕ) → EndsAt size first end → last ≡ first + n → Fills size n → AtEnd end last
filled None first last n None e m f = tt
filled None first last n (Some i) e m f = absurd cc
filled (Some size) first last n None e m f = absurd cc
filled (Some size) first last n (Some i) e m f = let same : i ≡ first + size = cc in omega (arith, same, m, f)

-- all were read
pub all_read : {R : Type 0} (rest : R → List ℕ) (shape : Shape) (j k : Option ℕ) (old now : At) (xs : List Item) (c : Content R) → HasRead rest shape j k old xs c → c.left ≡ 0 → AtEnd c.end c.de.now.pos → now ≡ at_of rest c.de.now → Reads k old now (whole shape (items_of xs))
all_read rest shape j k old now xs c h none at same =
    subst (λ (a : At). Reads k old a (whole shape (items_of xs))) (sym same)
    (h.begun.there (items_of xs) h.front (at_of rest c.de.now) h.forms (counted xs ∙ omega (arith, h.left_is, none)) (fills h.size h.mid.pos c.de.now.pos (length h.front) c.end h.end_is h.moves.count at) h.moves)

described_plain : (xs : Items) → kind_of (described_in xs) ≢ raw_kind
described_plain no_items = λ e. cc
described_plain (more_items d no_items) = λ e. cc
described_plain (more_items d (more_items v xs)) = λ e. cc

whole_plain : (shape : Shape) (xs : Items) → kind_of (whole shape xs) ≢ raw_kind
whole_plain a_list xs = λ e. cc
whole_plain an_array xs = λ e. cc
whole_plain a_map xs = λ e. cc
whole_plain a_described_value xs = described_plain xs

-- of an even number each is in a pair
even_pairs : (xs : Items) → item_count xs % 2 ≡ 0 → item_count xs ≡ 2 * pair_count (pairs_in xs)
even_pairs xs e = sym (ap item_count (turned (item_count xs / 2) xs (twice_half (item_count xs) e))) ∙ pair_items (pairs_in xs)

-- as many in the whole
as_many : (shape : Shape) (xs ys : Items) → MayHave shape (item_count xs) → MayHave shape (item_count ys) → whole shape xs ≡ whole shape ys → item_count xs ≡ item_count ys
as_many a_list xs ys m n e = let same : xs ≡ ys = cc in ap item_count same
as_many an_array xs ys m n e = let same : xs ≡ ys = cc in ap item_count same
as_many a_map xs ys m n e =
    let same : pairs_in xs ≡ pairs_in ys = cc in
    let left : item_count xs ≡ 2 * pair_count (pairs_in xs) = even_pairs xs m in
    let right : item_count ys ≡ 2 * pair_count (pairs_in ys) = even_pairs ys n in
    left ∙ (ap (λ ps. 2 * pair_count ps) same ∙ sym right)
as_many a_described_value xs ys m n e = m ∙ sym n

-- some were not read
pub some_left : {R : Type 0} (rest : R → List ℕ) (shape : Shape) (j k : Option ℕ) (old : At) (xs : List Item) (c : Content R) → HasRead rest shape j k old xs c → MayHave shape (length xs) → c.left ≢ 0 → IsNot k old (whole shape (items_of xs))
some_left rest shape j k old xs c h may left = record {
  none = λ f more w e.
      let p = h.begun.back (whole shape (items_of xs)) f more w e (whole_plain shape (items_of xs)) in
      let same = as_many shape p.0 (items_of xs) (subst (MayHave shape) (sym p.3) h.begun.may) (subst (MayHave shape) (sym (counted xs)) may) (sym p.2) in
      left (omega (arith, same, p.3, counted xs, h.left_is));
}

-- they do not fill the size
pub wrong_end : {R : Type 0} (rest : R → List ℕ) (shape : Shape) (j k : Option ℕ) (old : At) (xs : List Item) (c : Content R) → HasRead rest shape j k old xs c → c.left ≡ 0 → (AtEnd c.end c.de.now.pos → ⊥) → IsNot k old (whole shape (items_of xs))
wrong_end rest shape j k old xs c h left bad = record {
  none = λ f more w e.
      let p = h.begun.back (whole shape (items_of xs)) f more w e (whole_plain shape (items_of xs)) in
      let counts : item_count (items_of xs) ≡ item_count p.0 = omega (arith, counted xs, h.left_is, left, p.3) in
      let same = all_same (items_of xs) p.0 j h.front p.1 (rest c.de.now.reader) more counts h.forms p.5 (sym h.moves.split ∙ p.6) in
      bad (filled h.size h.mid.pos c.de.now.pos (length h.front) c.end h.end_is h.moves.count (subst (λ (s : List ℕ). Fills h.size (length s)) (sym same.0) p.4));
}

-- the heads
pub begun_list : (k : Option ℕ) (old mid : At) (count size : ℕ) → Opens list None k old mid count size → Begun a_list None k old mid count (Some size)
begun_list k old mid count size o = record { may = tt; there = o.there; back = o.back }

pub begun_array : (j k : Option ℕ) (old mid : At) (count size : ℕ) → Opens array j k old mid count size → Begun an_array j k old mid count (Some size)
begun_array j k old mid count size o = record { may = tt; there = o.there; back = o.back }

pub begun_map : (k : Option ℕ) (old mid : At) (count size : ℕ) → Opens map_in None k old mid count size → count % 2 ≡ 0 → Begun a_map None k old mid count (Some size)
begun_map k old mid count size o even = record { may = even; there = o.there; back = o.back }

described_there : (k : Option ℕ) (old mid : At) → Head k old mid DescribedType → (xs : Items) (content : List ℕ) (new : At) → Forms IsCapped IsStrict xs None content → item_count xs ≡ 2 → Moves mid new content → Reads k old new (described_in xs)
described_there k old mid h no_items content new f c m = absurd (omega (arith, c))
described_there k old mid h (more_items d no_items) content new f c m = absurd (omega (arith, c))
described_there k old mid h (more_items d (more_items v no_items)) content new f c m =
    let shape : content ≡ f.0 ∷ (f.1 ++ f.5.0 ∷ f.5.1) = f.3 ∙ ap (λ (s : List ℕ). f.0 ∷ (f.1 ++ s)) (f.5.3 ∙ ap (λ (s : List ℕ). f.5.0 ∷ (f.5.1 ++ s)) f.5.5 ∙ ap (λ (s : List ℕ). f.5.0 ∷ s) (append-nil f.5.1)) in
    head_form k old mid new DescribedType (described d v) content h m (λ o. (f.0, f.1, f.5.0, f.5.1, shape, f.4, f.5.4))
described_there k old mid h (more_items d (more_items v (more_items w xs))) content new f c m = absurd (omega (arith, c))

-- what a described value of this form is like
described_parts : (x : Item) (a : List ℕ) → Form IsCapped IsStrict x None described_by a → (d : Item) × (v : Item) × (x ≡ described d v) × Forms IsCapped IsStrict (more_items d (more_items v no_items)) None a
described_parts (scalar s) a h = absurd h
described_parts (raw text) a h = absurd h
described_parts (list xs) a h = absurd h
described_parts (map ps) a h = absurd h
described_parts (array xs) a h = absurd h
described_parts (described d v) a h = (d, v, refl, (h.0, h.1, h.2 ∷ h.3, h.4, h.5, (h.2, h.3, [], ap (λ (s : List ℕ). h.2 ∷ s) (sym (append-nil h.3)), h.6, refl)))

pub begun_described : (k : Option ℕ) (old mid : At) → Head k old mid DescribedType → Begun a_described_value None k old mid 2 None
begun_described k old mid h = record {
  may = refl;
  there = λ xs content new f c s m. described_there k old mid h xs content new f c m;
  back = λ x front more w e n.
      let b = behind_head k old mid DescribedType x front more h w e in
      let p = described_parts x b.0 (unkept x _ _ b.0 n b.1) in
      (more_items p.0 (more_items p.1 no_items), b.0, p.2, refl, tt, p.3, b.2);
}

pub none_read : {R : Type 0} (rest : R → List ℕ) (shape : Shape) (j k : Option ℕ) (old mid : At) (count : ℕ) (size : Option ℕ) (c : Content R) → Begun shape j k old mid count size → mid ≡ at_of rest c.de.now → c.left ≡ count → EndsAt size mid.pos c.end → c.outer ≡ k → c.de.now.element ≡ j → HasRead rest shape j k old [] c
none_read rest shape j k old mid count size c b same left end outer element = record {
  count = count;
  size = size;
  mid = mid;
  front = [];
  begun = b;
  forms = refl;
  moves = subst (λ (a : At). Moves mid a []) same (stays mid);
  left_is = omega (arith, left);
  end_is = end;
  outer_is = outer;
  inherits = element;
}

pub took_next : {R : Type 0} (rest : R → List ℕ) (take : Item → Option Item) (y : Item) (c d : Content R)
    → Took take c.de.now.element (at_of rest c.de.now) (at_of rest d.de.now) y → d.de.now.element ≡ c.de.now.element → c.left ≡ d.left + 1 → d.end ≡ c.end → d.outer ≡ c.outer → TookNext rest take c d y
took_next rest take y c d t element l end outer = record {
  took = t;
  more = record { on = λ shape j k old xs h. one_more rest shape take j k old xs y c d h t element l end outer };
  element = element;
  left = l;
}

-- a head was read, and the place where the items end
pub opened : {R : Type 0} (rest : R → List ℕ) (shape : Shape) (j k : Option ℕ) (old : At) (head : Result (ℕ × ℕ) Error) (left end : ℕ) (mid now : Reading R) (c : Content R)
    → ((n size : ℕ) → head ≡ Ok (n, size) → Begun shape j k old (at_of rest mid) n (Some size)) → (size : ℕ) × (head ≡ Ok (left, size)) × (end ≡ mid.pos + size) → now ≡ mid
    → at_of rest c.de.now ≡ at_of rest now → c.left ≡ left → c.end ≡ Some end → c.outer ≡ k → c.de.now.element ≡ j → HasRead rest shape j k old [] c
opened {R} rest shape j k old head left end mid now c begun b same at lefts ends outer element =
    none_read rest shape j k old (at_of rest mid) left (Some b.0) c (begun left b.0 b.1) (sym (at ∙ ap (λ (d : Reading R). at_of rest d) same)) lefts (ends ∙ ap (λ (n : ℕ). Some n) b.2) outer element

pub ruleset opening = (took_next)

-- what an error that is passed on refuses
pub passed_on : {X : Type 0} (faulty : Error → Bool) (r : Result X Error) (e : Error) (P : Type 0) → r ≡ Err e → Unless faulty r P → Refusal faulty e P
passed_on faulty r e P same h = rw same at h

pub ruleset bounding = (passed_on, named_passed)

-- what the end of the whole says
pub ended : {R : Type 0} (rest : R → List ℕ) (shape : Shape) (r : Result (Unit {0}) Error) (c : Content R) (d : Reading R)
    → OnOk r ((c.left ≡ 0) × AtEnd c.end c.de.now.pos × (at_of rest d ≡ at_of rest c.de.now) × (d.element ≡ c.outer))
    → OnOk r ((j k : Option ℕ) (old : At) (xs : List Item) → HasRead rest shape j k old xs c → Reads k old (at_of rest d) (whole shape (items_of xs)) × (d.element ≡ k))
ended rest shape (Ok u) c d e = λ j k old xs h. (all_read rest shape j k old (at_of rest d) xs c h e.0 e.1 e.2, e.3 ∙ h.outer_is)
ended rest shape (Err f) c d e = tt

not_whole : {R : Type 0} (rest : R → List ℕ) (shape : Shape) (c : Content R) → (c.left ≢ 0) ⊎ ((c.left ≡ 0) × (AtEnd c.end c.de.now.pos → ⊥)) → (j k : Option ℕ) (old : At) (xs : List Item) → HasRead rest shape j k old xs c → MayHave shape (length xs) → IsNot k old (whole shape (items_of xs))
not_whole rest shape c (inl n) j k old xs h may = some_left rest shape j k old xs c h may n
not_whole rest shape c (inr n) j k old xs h may = wrong_end rest shape j k old xs c h n.0 n.1

-- and what its refusal says
pub unended : {R : Type 0} (rest : R → List ℕ) (shape : Shape) (r : Result (Unit {0}) Error) (c : Content R)
    → OnErr r ((c.left ≢ 0) ⊎ ((c.left ≡ 0) × (AtEnd c.end c.de.now.pos → ⊥)))
    → OnErr r ((j k : Option ℕ) (old : At) (xs : List Item) → HasRead rest shape j k old xs c → MayHave shape (length xs) → IsNot k old (whole shape (items_of xs)))
unended rest shape (Ok u) c e = tt
unended rest shape (Err f) c e = not_whole rest shape c e

pub ruleset heads = (begun_list, begun_array, begun_map, begun_described, none_read)

-- a key and its value
pub took_entry : {R : Type 0} (rest : R → List ℕ) (key value : Item → Option Item) (y z : Item) (c m d : Content R) → TookNext rest key c m y → TookNext rest value m d z → TookEntry rest key value c d y z
took_entry {R} rest key value y z c m d t u =
    let second : Took value c.de.now.element (at_of rest m.de.now) (at_of rest d.de.now) z = subst (λ (i : Option ℕ). Took value i (at_of rest m.de.now) (at_of rest d.de.now) z) t.element u.took in
    record {
      mid = at_of rest m.de.now;
      first = t.took;
      second = second;
      more = record { on = λ shape j k old xs h. subst (λ (zs : List Item). HasRead rest shape j k old zs d) (append_assoc xs (t.took.item ∷ []) (u.took.item ∷ [])) (u.more.on shape j k old (xs ++ t.took.item ∷ []) (t.more.on shape j k old xs h)) };
      element = u.element ∙ t.element;
      left = omega (arith, t.left, u.left);
    }

-- a key that is refused, or a value
pub no_key_entry : {R : Type 0} (rest : R → List ℕ) (key value : Item → Option Item) (c : Content R) → Refuses key c.de.now.element (at_of rest c.de.now) → c.de.now.element ≡ None → RefusesPairs key value 1 (at_of rest c.de.now)
no_key_entry rest key value c r none = refuses_key key value 0 (at_of rest c.de.now) (subst (λ (k : Option ℕ). Refuses key k (at_of rest c.de.now)) none r)

pub no_value_entry : {R : Type 0} (rest : R → List ℕ) (key value : Item → Option Item) (y : Item) (c m : Content R) → TookNext rest key c m y → Refuses value m.de.now.element (at_of rest m.de.now) → c.de.now.element ≡ None → RefusesPairs key value 1 (at_of rest c.de.now)
no_value_entry rest key value y c m t r none =
    refuses_value key value 0 (at_of rest c.de.now) (at_of rest m.de.now) y (subst (λ (k : Option ℕ). Took key k (at_of rest c.de.now) (at_of rest m.de.now) y) none t.took) (subst (λ (k : Option ℕ). Refuses value k (at_of rest m.de.now)) (t.element ∙ none) r)

-- behind a key of an even number a value is due
pub value_due : (n m : ℕ) → n % 2 ≡ 0 → n ≡ m + 1 → m % 2 ≢ 0
value_due n m e l = λ f. omega (arith, e, l, f)

pub key_refused : {R : Type 0} (rest : R → List ℕ) (key value : Item → Option Item) (c : Content R) → (c.left % 2 ≢ 0) ⊎ ((c.left ≢ 0) × Refuses key c.de.now.element (at_of rest c.de.now)) → (c.left % 2 ≢ 0) ⊎ ((c.left ≢ 0) × (c.de.now.element ≡ None → RefusesPairs key value 1 (at_of rest c.de.now)))
key_refused rest key value c (inl n) = inl n
key_refused rest key value c (inr n) = inr (n.0, λ none. no_key_entry rest key value c n.1 none)

pub value_refused : {R : Type 0} (rest : R → List ℕ) (key value : Item → Option Item) (y : Item) (c m : Content R) → c.left % 2 ≡ 0 → TookNext rest key c m y → (m.left % 2 ≡ 0) ⊎ Refuses value m.de.now.element (at_of rest m.de.now) → (c.left % 2 ≢ 0) ⊎ ((c.left ≢ 0) × (c.de.now.element ≡ None → RefusesPairs key value 1 (at_of rest c.de.now)))
value_refused rest key value y c m even t (inl e) = absurd (value_due c.left m.left even t.left e)
value_refused rest key value y c m even t (inr r) = inr ((λ z. omega (arith, z, t.left)), λ none. no_value_entry rest key value y c m t r none)

pub turned_pairs : (ps : List (Item × Item)) → pairs_in (items_of (in_turn ps)) ≡ pairs_of ps
turned_pairs [] = refl
turned_pairs (p ∷ ps) = ap (more_pairs p.0 p.1) (turned_pairs ps)

turned_length : (ps : List (Item × Item)) → length (in_turn ps) ≡ 2 * length ps
turned_length [] = refl
turned_length (p ∷ ps) = omega (arith, turned_length ps)

pub turned_even : (ps : List (Item × Item)) → length (in_turn ps) % 2 ≡ 0
turned_even ps = omega (arith, turned_length ps)

pub on_ok : {X E : Type 0} (r : Result X E) (P Q : Type 0) → (P → Q) → OnOk r P → OnOk r Q
on_ok (Ok x) P Q f h = f h
on_ok (Err e) P Q f h = tt

pub on_err : {X E : Type 0} (r : Result X E) (P Q : Type 0) → (P → Q) → OnErr r P → OnErr r Q
on_err (Ok x) P Q f h = tt
on_err (Err e) P Q f h = f h

not_length : (n : ℕ) (xs : Items) (b : Bool) → (item_count xs == n) ≡ b → item_count xs ≢ n → counted_taken n (list xs) ≡ None
unfolding counted_taken
not_length n xs true e d = absurd (d (equal (item_count xs) n e))
not_length n xs false e d = rw e refl

not_tuple : (n : ℕ) (x : Item) → ((text : List ℕ) × (x ≡ raw text)) ⊎ (kind_of x ≢ raw_kind) → (kind_of x ≢ raw_kind → (xs : Items) × (x ≡ list xs) × (item_count xs ≢ n)) → counted_taken n x ≡ None
unfolding counted_taken
not_tuple n x (inl t) p = ap (counted_taken n) t.1
not_tuple n x (inr d) p = let q = p d in ap (counted_taken n) q.1 ∙ not_length n q.0 (item_count q.0 == n) refl q.2

only_lists : (n : ℕ) (x : Item) → list_taken x ≡ None → counted_taken n x ≡ None
unfolding counted_taken
only_lists n (list xs) e = absurd cc
only_lists n x e = refl

not_one : (ps : Pairs) → pair_count ps ≢ 1 → variant_taken (map ps) ≡ None
not_one no_pairs d = refl
not_one (more_pairs x y no_pairs) d = absurd (d refl)
not_one (more_pairs x y (more_pairs v w ps)) d = refl

not_variant : (x : Item) → ((text : List ℕ) × (x ≡ raw text)) ⊎ (kind_of x ≢ raw_kind) → (kind_of x ≢ raw_kind → (ps : Pairs) × (x ≡ map ps) × (pair_count ps ≢ 1)) → variant_taken x ≡ None
not_variant x (inl t) p = ap variant_taken t.1
not_variant x (inr d) p = let q = p d in ap variant_taken q.1 ∙ not_one q.0 q.2

only_maps : (x : Item) → map_taken x ≡ None → variant_taken x ≡ None
only_maps (map ps) e = absurd cc
only_maps x e = refl

-- a list of another number of items
pub other_length : (n : ℕ) (k : Option ℕ) (old mid : At) (count size : ℕ) → Opens list None k old mid count size → count ≢ n → Refuses (counted_taken n) k old
other_length n k old mid count size o d = record {
  none = λ x f more w e. not_tuple n x (raw_or_not x) (λ plain. let p = o.back x f more w e plain in (p.0, p.2, λ c. d (sym p.3 ∙ c)));
}

pub no_tuple : (n : ℕ) (k : Option ℕ) (old : At) → Refuses list_taken k old → Refuses (counted_taken n) k old
no_tuple n k old r = record { none = λ x f more w e. only_lists n x (r.none x f more w e) }

-- a map of another number of pairs
pub other_pairs : (k : Option ℕ) (old mid : At) (count size : ℕ) → Opens map_in None k old mid count size → count ≢ 2 → count % 2 ≡ 0 → Refuses variant_taken k old
other_pairs k old mid count size o d even = record {
  none = λ x f more w e. not_variant x (raw_or_not x) (λ plain. let p = o.back x f more w e plain in (pairs_in p.0, p.2, λ c. d (sym p.3 ∙ (even_pairs p.0 (ap (λ (n : ℕ). n % 2) p.3 ∙ even) ∙ ap (λ (n : ℕ). 2 * n) c))));
}

pub no_variant : (k : Option ℕ) (old : At) → Refuses map_taken k old → Refuses variant_taken k old
no_variant k old r = record { none = λ x f more w e. only_maps x (r.none x f more w e) }

pub ruleset turns = (took_entry, no_key_entry, no_value_entry, value_due)

-- a head that was refused
pub passed_tuple : {X : Type 0} (faulty : Error → Bool) (r : Result X Error) (n : ℕ) (k : Option ℕ) (old : At) → Unless faulty r (Refuses list_taken k old) → Unless faulty r (Refuses (counted_taken n) k old)
passed_tuple faulty (Ok x) n k old h = tt
passed_tuple faulty (Err e) n k old h = refusal_weaker faulty e _ _ (no_tuple n k old) h

pub passed_variant : {X : Type 0} (faulty : Error → Bool) (r : Result X Error) (k : Option ℕ) (old : At) → Unless faulty r (Refuses map_taken k old) → Unless faulty r (Refuses variant_taken k old)
passed_variant faulty (Ok x) k old h = tt
passed_variant faulty (Err e) k old h = refusal_weaker faulty e _ _ (no_variant k old) h

pub ruleset others = (passed_tuple, passed_variant, names_any_count)
