-- The heads of arrays.
use Rattle.std.proofs.Common.{◌≡◌, ◌≢◌, ℕ, zero, suc, ◌+◌, ◌<◌, ◌≤◌, List, [], ◌∷◌, ◌++◌, length, Option, Some, None, IsSome, sym, ◌∙◌, ap, subst, refl, arith, length-append, ◌⊎◌, inl, inr}
use Rattle.serde_amqp_item.specs.declared.codes.EncodingCodes.{EncodingCodes}
use Rattle.serde_amqp_item.specs.declared.codes.EncodingCodes.TheVariants.{Array8, Array32}
use Rattle.serde_amqp_item.specs.Item.{Item, Items, scalar, raw, list, map, array, described, no_items, more_items, item_count}
use Rattle.serde_amqp_item.specs.Wire.{Wire, Width, one_byte, four_bytes, room, field, code_of, row_at, Row, array_of, Form, Forms, IsElementCode, IsBareArray, IsCapped, IsStrict}
use Rattle.serde_amqp_item.specs.Kind.{kind_of, kind_at, raw_kind, array_kind}
use Rattle.serde_amqp_de.specs.Reads.{At, Moves, Head, Reads, Refuses, ReadCount, NoElementCode, Opens, Holds}
use Rattle.serde_amqp_de.specs.Apart.{field_length, ArrayParts, bare_sized}
use Rattle.serde_amqp_de.specs.Takes.{TakesOnly, array_taken}
use Rattle.serde_amqp_de.proofs.Heads.{moves_then, head_form, behind_head, refuse_by, wrong_kind}
use Rattle.serde_amqp_de.proofs.Lists.{unkept, counted_same, counted_whole}

-- the constructor of elements
pub no_code_short : (count : ℕ) (bytes : List ℕ) → bytes ≡ [] → NoElementCode count bytes
no_code_short count bytes e = record { none = λ c others q i. absurd (let both : [] ≡ c ∷ others = sym e ∙ q in cc) }

code_is : (old new : At) (c d : ℕ) (others : List ℕ) → Moves old new (c ∷ []) → old.rest ≡ d ∷ others → d ≡ c
code_is old new c d others m e = let both : c ∷ new.rest ≡ d ∷ others = sym m.split ∙ e in cc

unknown_code : (c : ℕ) → IsSome (code_of c) → code_of c ≡ None → ⊥
unknown_code c s e = let w = subst (λ (o : Option EncodingCodes). IsSome o) e s in absurd cc

pub no_code_known : (count : ℕ) (old new : At) (c : ℕ) → Moves old new (c ∷ []) → code_of c ≡ None → NoElementCode count old.rest
no_code_known count old new c m e = record { none = λ d others q i. unknown_code d i.known (ap code_of (code_is old new c d others m q) ∙ e) }

pub no_code_null : (count : ℕ) (old new : At) (c : ℕ) → Moves old new (c ∷ []) → count ≢ 0 → c ≡ 0x40 → NoElementCode count old.rest
no_code_null count old new c m n e = record { none = λ d others q i. (i.plain (omega (arith, n))).0 (code_is old new c d others m q ∙ e) }

pub no_code_described : (count : ℕ) (old new : At) (c : ℕ) → Moves old new (c ∷ []) → count ≢ 0 → c ≡ 0x00 → NoElementCode count old.rest
no_code_described count old new c m n e = record { none = λ d others q i. (i.plain (omega (arith, n))).1 (code_is old new c d others m q ∙ e) }

pub code_of_none : (count c : ℕ) → IsSome (code_of c) → count ≡ 0 → IsElementCode count c
code_of_none count c s e = record { known = s; plain = λ l. absurd (omega (arith, e, l)) }

pub code_plain : (count c : ℕ) → IsSome (code_of c) → c ≢ 0x40 → c ≢ 0x00 → IsElementCode count c
code_plain count c s p q = record { known = s; plain = λ l. (p, q) }

pub ruleset element_codes = (no_code_short, no_code_known, no_code_null, no_code_described, code_of_none, code_plain)

parts : (w : Width) (x : Item) (a : List ℕ) → Form IsCapped IsStrict x None (array_of w) a → (xs : Items) × (x ≡ array xs) × (IsBareArray w xs a ⊎ ArrayParts w xs a)
parts w (scalar s) a h = absurd h
parts w (raw text) a h = absurd h
parts w (list xs) a h = absurd h
parts w (map ps) a h = absurd h
parts w (described d v) a h = absurd h
parts w (array xs) a h = (xs, refl, h)

room_some : (w : Width) → 0 < room w
room_some one_byte = omega arith
room_some four_bytes = omega arith

bare_total : (w : Width) (mid last : At) (total count : ℕ) (xs : Items) (a more : List ℕ) → ReadCount w mid last total count → IsBareArray w xs a → mid.rest ≡ a ++ more → (total ≡ length (field w 0)) × (count ≡ 0) × (last.rest ≡ more)
bare_total w mid last total count xs a more r h e =
    let s = counted_same w mid last total count 0 [] a more r (room_some w) (bare_sized w xs a h) e in
    (omega (arith, s.0), s.1, s.2)

-- a size, a count, and the elements' constructor
pub record ArrayHead (w : Width) (k : Option ℕ) (old mid last end : At) (total count c : ℕ) : Type 0 where
  pub code : EncodingCodes
  pub head : Head k old mid code
  pub row : row_at (Some code) ≡ array_of w
  pub read : ReadCount w mid last total count
  pub moves : Moves last end (c ∷ [])

-- what an array here is like
elements_same : (w : Width) (k : Option ℕ) (old mid last end : At) (total count c : ℕ) → ArrayHead w k old mid last end total count c → length (field w 0) < total → (xs : Items) (a more : List ℕ) → IsBareArray w xs a ⊎ ArrayParts w xs a → mid.rest ≡ a ++ more
    → (content : List ℕ) × (item_count xs ≡ count) × (item_count xs ≤ 65536) × (length (field w 0) + length content + 1 ≡ total) × IsElementCode (item_count xs) c × Forms IsCapped IsStrict xs (Some c) content × (end.rest ≡ content ++ more)
elements_same w k old mid last end total count c h big xs a more (inl b) e =
    let s = bare_total w mid last total count xs a more h.read b e in
    absurd (omega (arith, s.0, big))
elements_same w k old mid last end total count c h big xs a more (inr p) e =
    let s = counted_same w mid last total count (item_count xs) (p.0 ∷ p.1) a more h.read p.3 p.4 e in
    let both : c ∷ end.rest ≡ p.0 ∷ (p.1 ++ more) = sym h.moves.split ∙ s.2 in
    let same : p.0 ≡ c = cc in
    let rest : end.rest ≡ p.1 ++ more = cc in
    (p.1, sym s.1, p.2, omega (arith, s.0), subst (λ (i : ℕ). IsElementCode (item_count xs) i) same p.5, subst (λ (i : ℕ). Forms IsCapped IsStrict xs (Some i) p.1) same p.6, rest)

array_there : (w : Width) (k : Option ℕ) (old mid last end : At) (total count c size : ℕ) → ArrayHead w k old mid last end total count c → IsElementCode count c → length (field w 0) + size + 1 ≡ total → count ≤ 65536
    → (xs : Items) (content : List ℕ) (new : At) → Forms IsCapped IsStrict xs (Some c) content → item_count xs ≡ count → length content ≡ size → Moves end new content → Reads k old new (array xs)
array_there w k old mid last end total count c size h i t cap xs content new f n l m =
    let bytes = (field w total ++ field w count) ++ c ∷ content in
    let sized = counted_whole w mid last total count (item_count xs) (c ∷ content) h.read (omega (arith, t, l)) n in
    let there : ArrayParts w xs bytes = (c, content, omega (arith, n, cap), omega (arith, n, h.read.counts), sized, subst (λ (j : ℕ). IsElementCode j c) (sym n) i, f) in
    let form : Form IsCapped IsStrict (array xs) None (array_of w) bytes = inr there in
    head_form k old mid new h.code (array xs) bytes h.head (moves_then mid last new (field w total ++ field w count) (c ∷ content) h.read.moves (moves_then last end new (c ∷ []) content h.moves m))
    (λ o. subst (λ (row : Row). Form IsCapped IsStrict (array xs) o row bytes) (sym h.row) form)

opens_array : (w : Width) (k : Option ℕ) (old mid last end : At) (total count c size : ℕ) → ArrayHead w k old mid last end total count c → IsElementCode count c → length (field w 0) + size + 1 ≡ total → count ≤ 65536 → Opens array (Some c) k old end count size
opens_array w k old mid last end total count c size h i t cap = record {
  there = array_there w k old mid last end total count c size h i t cap;
  back = λ x f more wire e n.
      let b = behind_head k old mid h.code x f more h.head wire e in
      let p = parts w x b.0 (subst (λ (row : Row). Form IsCapped IsStrict x None row b.0) h.row (unkept x _ _ b.0 n b.1)) in
      let s = elements_same w k old mid last end total count c h (omega (arith, t)) p.0 b.0 more p.2 b.2 in
      (p.0, s.0, p.1, s.1, omega (arith, s.3, t), s.5, s.6);
}

-- a size and a count of an array's constructor
pub record Counted (w : Width) (k : Option ℕ) (old mid last : At) (total count : ℕ) : Type 0 where
  pub code : EncodingCodes
  pub head : Head k old mid code
  pub row : row_at (Some code) ≡ array_of w
  pub read : ReadCount w mid last total count

pub counted8 : (k : Option ℕ) (old mid last : At) (total count : ℕ) → Head k old mid Array8 → ReadCount one_byte mid last total count → Counted one_byte k old mid last total count
counted8 k old mid last total count h r = record { code = Array8; head = h; row = refl; read = r }

pub counted32 : (k : Option ℕ) (old mid last : At) (total count : ℕ) → Head k old mid Array32 → ReadCount four_bytes mid last total count → Counted four_bytes k old mid last total count
counted32 k old mid last total count h r = record { code = Array32; head = h; row = refl; read = r }

with_code : (w : Width) (k : Option ℕ) (old mid last end : At) (total count c : ℕ) → Counted w k old mid last total count → Moves last end (c ∷ []) → ArrayHead w k old mid last end total count c
with_code w k old mid last end total count c h m = record { code = h.code; head = h.head; row = h.row; read = h.read; moves = m }

pub array8 : (k : Option ℕ) (old mid last end : At) (total count c size : ℕ) → Counted one_byte k old mid last total count → Moves last end (c ∷ []) → IsElementCode count c → total ≡ size + 2 → Opens array (Some c) k old end count size
array8 k old mid last end total count c size h m i t = opens_array one_byte k old mid last end total count c size (with_code one_byte k old mid last end total count c h m) i (omega (arith, t)) (omega (arith, h.read.counts))

pub array32 : (k : Option ℕ) (old mid last end : At) (total count c size : ℕ) → Counted four_bytes k old mid last total count → Moves last end (c ∷ []) → IsElementCode count c → total ≡ size + 5 → count ≤ 65536 → Opens array (Some c) k old end count size
array32 k old mid last end total count c size h m i t cap = opens_array four_bytes k old mid last end total count c size (with_code four_bytes k old mid last end total count c h m) i (omega (arith, t)) cap

-- an array without a constructor
bare_there : (k : Option ℕ) (old mid last : At) (j : Option ℕ) → Head k old mid Array8 → ReadCount one_byte mid last 1 0 → (xs : Items) (content : List ℕ) (new : At) → Forms IsCapped IsStrict xs j content → item_count xs ≡ 0 → length content ≡ 0 → Moves last new content → Reads k old new (array xs)
bare_there k old mid last j h r no_items [] new f n l m =
    head_form k old mid new Array8 (array no_items) (1 ∷ 0 ∷ []) h (moves_then mid last new (1 ∷ 0 ∷ []) [] r.moves m) (λ o. inl (record { width = refl; empty = refl; whole = refl }))
bare_there k old mid last j h r no_items (b ∷ bs) new f n l m = absurd (omega arith)
bare_there k old mid last j h r (more_items x xs) content new f n l m = absurd (omega arith)

bare_back : (k : Option ℕ) (old mid last : At) (j : Option ℕ) → Head k old mid Array8 → ReadCount one_byte mid last 1 0 → (x : Item) (f more : List ℕ) → Wire x k f → old.rest ≡ f ++ more → kind_of x ≢ raw_kind → Holds array j x 0 0 last.rest more
bare_back k old mid last j h r x f more wire e n =
    let b = behind_head k old mid Array8 x f more h wire e in
    let p = parts one_byte x b.0 (unkept x _ _ b.0 n b.1) in
    elim p.2 [
      | inl q ↦ let s = bare_total one_byte mid last 1 0 p.0 b.0 more r q b.2 in (no_items, [], p.1 ∙ ap array q.empty, refl, refl, refl, s.2)
      | inr q ↦ let s = counted_same one_byte mid last 1 0 (item_count p.0) (q.0 ∷ q.1) b.0 more r q.3 q.4 b.2 in absurd (omega (arith, s.0))
    ]

pub bare_array : (k : Option ℕ) (old mid last : At) (j : Option ℕ) (total count : ℕ) → Head k old mid Array8 → ReadCount one_byte mid last total count → total ≡ 1 → count ≡ 0 → Opens array j k old last 0 0
bare_array k old mid last j total count h r t c =
    let s = subst (λ (i : ℕ). ReadCount one_byte mid last i 0) t (subst (λ (i : ℕ). ReadCount one_byte mid last total i) c r) in
    record { there = bare_there k old mid last j h s; back = bare_back k old mid last j h s }

-- a size or a count that no array has
abbrev pub IsBad : Width → ℕ → ℕ → Type 0
IsBad w total count = (total < length (field w 0)) ⊎ ((65536 < count) ⊎ ((total ≡ length (field w 0)) × ((w ≢ one_byte) ⊎ (count ≢ 0))))

bad_bare : (w : Width) (mid last : At) (total count : ℕ) → ReadCount w mid last total count → IsBad w total count → (xs : Items) (a more : List ℕ) → IsBareArray w xs a → mid.rest ≡ a ++ more → ⊥
bad_bare w mid last total count r bad xs a more q e =
    let s = bare_total w mid last total count xs a more r q e in
    elim bad [
      | inl b ↦ absurd (omega (arith, s.0, b))
      | inr c ↦ elim c [ inl b ↦ absurd (omega (arith, s.1, b)) | inr b ↦ elim b.1 [ inl n ↦ n q.width | inr n ↦ n s.1 ] ]
    ]

bad_elements : (w : Width) (mid last : At) (total count : ℕ) → ReadCount w mid last total count → IsBad w total count → (xs : Items) (a more : List ℕ) → ArrayParts w xs a → mid.rest ≡ a ++ more → ⊥
bad_elements w mid last total count r bad xs a more p e =
    let s = counted_same w mid last total count (item_count xs) (p.0 ∷ p.1) a more r p.3 p.4 e in
    elim bad [
      | inl b ↦ absurd (omega (arith, s.0, b))
      | inr c ↦ elim c [ inl b ↦ absurd (omega (arith, s.1, p.2, b)) | inr b ↦ absurd (omega (arith, s.0, b.0)) ]
    ]

bad_array : (w : Width) (k : Option ℕ) (old mid last : At) (total count : ℕ) → Counted w k old mid last total count → IsBad w total count → Refuses array_taken k old
bad_array w k old mid last total count h bad = record {
  none = refuse_by array_taken k old mid h.code (λ t. refl) h.head (λ x a more f e.
      let p = parts w x a (subst (λ (row : Row). Form IsCapped IsStrict x None row a) h.row f) in
      absurd (elim p.2 [ inl q ↦ bad_bare w mid last total count h.read bad p.0 a more q e | inr q ↦ bad_elements w mid last total count h.read bad p.0 a more q e ]));
}

pub four_or_less : (total count : ℕ) → total < 5 → IsBad four_bytes total count
four_or_less zero count l = inl (omega arith)
four_or_less (suc zero) count l = inl (omega arith)
four_or_less (suc (suc zero)) count l = inl (omega arith)
four_or_less (suc (suc (suc zero))) count l = inl (omega arith)
four_or_less (suc (suc (suc (suc zero)))) count l = inr (inr (refl, inl (λ e. cc)))
four_or_less (suc (suc (suc (suc (suc n))))) count l = absurd (omega arith)

pub small_array8 : (k : Option ℕ) (old mid last : At) (total count : ℕ) → Counted one_byte k old mid last total count → total < 1 → Refuses array_taken k old
small_array8 k old mid last total count h l = bad_array one_byte k old mid last total count h (inl l)

pub not_bare : (k : Option ℕ) (old mid last : At) (total count : ℕ) → Counted one_byte k old mid last total count → total ≡ 1 → count ≢ 0 → Refuses array_taken k old
not_bare k old mid last total count h e n = bad_array one_byte k old mid last total count h (inr (inr (e, inr n)))

pub small_array32 : (k : Option ℕ) (old mid last : At) (total count : ℕ) → Counted four_bytes k old mid last total count → total < 5 → Refuses array_taken k old
small_array32 k old mid last total count h l = bad_array four_bytes k old mid last total count h (four_or_less total count l)

pub long_array32 : (k : Option ℕ) (old mid last : At) (total count : ℕ) → Counted four_bytes k old mid last total count → 65536 < count → Refuses array_taken k old
long_array32 k old mid last total count h l = bad_array four_bytes k old mid last total count h (inr (inl l))

-- a constructor that no elements have
no_elements : (w : Width) (k : Option ℕ) (old mid last : At) (total count : ℕ) → Counted w k old mid last total count → length (field w 0) < total → NoElementCode count last.rest → Refuses array_taken k old
no_elements w k old mid last total count h big n = record {
  none = refuse_by array_taken k old mid h.code (λ t. refl) h.head (λ x a more f e.
      let p = parts w x a (subst (λ (row : Row). Form IsCapped IsStrict x None row a) h.row f) in
      absurd (elim p.2 [
        | inl q ↦ let s = bare_total w mid last total count p.0 a more h.read q e in absurd (omega (arith, s.0, big))
        | inr q ↦
            let s = counted_same w mid last total count (item_count p.0) (q.0 ∷ q.1) a more h.read q.3 q.4 e in
            n.none q.0 (q.1 ++ more) s.2 (subst (λ (j : ℕ). IsElementCode j q.0) (sym s.1) q.5)
      ]));
}

pub no_elements8 : (k : Option ℕ) (old mid last : At) (total count : ℕ) → Counted one_byte k old mid last total count → NoElementCode count last.rest → 2 ≤ total → Refuses array_taken k old
no_elements8 k old mid last total count h n l = no_elements one_byte k old mid last total count h l n

pub no_elements32 : (k : Option ℕ) (old mid last : At) (total count : ℕ) → Counted four_bytes k old mid last total count → NoElementCode count last.rest → 5 ≤ total → Refuses array_taken k old
no_elements32 k old mid last total count h n l = no_elements four_bytes k old mid last total count h l n

-- too few bytes for a size and a count
least : (w : Width) (xs : Items) (a : List ℕ) → IsBareArray w xs a ⊎ ArrayParts w xs a → length (field w 0) + length (field w 0) ≤ length a
least w xs a (inl h) =
    let s = bare_sized w xs a h in
    omega (arith, ap length s.whole, length-append (field w (length (field w 0 ++ []))) (field w 0 ++ []), length-append (field w 0) [], field_length w (length (field w 0 ++ [])))
least w xs a (inr h) =
    let inner = field w (item_count xs) ++ h.0 ∷ h.1 in
    omega (arith, ap length h.4.whole, length-append (field w (length inner)) inner, length-append (field w (item_count xs)) (h.0 ∷ h.1), field_length w (length inner), field_length w (item_count xs))

short_array : (w : Width) (k : Option ℕ) (old mid : At) (code : EncodingCodes) → Head k old mid code → row_at (Some code) ≡ array_of w → length mid.rest < length (field w 0) + length (field w 0) → Refuses array_taken k old
short_array w k old mid code h row s = record {
  none = refuse_by array_taken k old mid code (λ t. refl) h (λ x a more f e.
      let p = parts w x a (subst (λ (i : Row). Form IsCapped IsStrict x None i a) row f) in
      let l = least w p.0 a p.2 in
      absurd (omega (arith, ap length e, length-append a more, l, s)));
}

pub short_array8 : (k : Option ℕ) (old mid : At) → Head k old mid Array8 → length mid.rest < 2 → Refuses array_taken k old
short_array8 k old mid h z = short_array one_byte k old mid Array8 h refl z

pub short_array32 : (k : Option ℕ) (old mid : At) → Head k old mid Array32 → length mid.rest < 8 → Refuses array_taken k old
short_array32 k old mid h z = short_array four_bytes k old mid Array32 h refl z

only_array : TakesOnly array_taken array_kind
only_array (array xs) p = absurd (p refl)
only_array x p = refl

pub not_array : (code : EncodingCodes) → code ≢ Array8 → code ≢ Array32 → kind_at code ≢ array_kind
not_array Array8 p q = absurd (p refl)
not_array Array32 p q = absurd (q refl)
not_array code p q = λ e. cc

pub wrong_array : (k : Option ℕ) (old mid : At) (code : EncodingCodes) → Head k old mid code → code ≢ Array8 → code ≢ Array32 → Refuses array_taken k old
wrong_array k old mid code h p q = wrong_kind array_taken array_kind k old mid code only_array (λ e. cc) h (not_array code p q)

pub ruleset arrays = (wrong_array, counted8, counted32, array8, array32, bare_array, small_array8, not_bare, small_array32, long_array32, no_elements8, no_elements32, short_array8, short_array32)
