-- The heads of maps.
use Rattle.std.proofs.Common.{◌≡◌, ◌≢◌, ℕ, zero, suc, ◌+◌, ◌*◌, ◌/◌, ◌%◌, ◌<◌, ◌≤◌, List, ◌++◌, length, Option, Some, None, sym, ◌∙◌, ap, subst, refl, arith, length-append, ◌⊎◌, inl, inr}
use Rattle.serde_amqp_item.specs.declared.codes.EncodingCodes.{EncodingCodes}
use Rattle.serde_amqp_item.specs.declared.codes.EncodingCodes.TheVariants.{Map8, Map32}
use Rattle.serde_amqp_item.specs.Item.{Item, Items, scalar, raw, list, map, array, described, no_items, more_items, item_count, Pairs, no_pairs, more_pairs, pair_count, keys_and_values}
use Rattle.serde_amqp_item.specs.Wire.{Wire, Width, one_byte, four_bytes, room, field, row_at, Row, map_of, Form, Forms, PairForms, IsSized, IsCapped, IsStrict}
use Rattle.serde_amqp_item.specs.Kind.{kind_of, kind_at, raw_kind, map_kind}
use Rattle.serde_amqp_item.proofs.PairRows.{pair_items, pairs_as_forms, forms_as_pairs}
use Rattle.serde_amqp_de.specs.Reads.{At, Moves, Head, Reads, Refuses, ReadCount, Opens, Holds}
use Rattle.serde_amqp_de.specs.Apart.{field_length}
use Rattle.serde_amqp_de.specs.Takes.{TakesOnly}
use Rattle.serde_amqp_de.specs.Maps.{pairs_in, map_in, map_taken}
use Rattle.serde_amqp_de.proofs.Heads.{moves_then, head_form, behind_head, refuse_by, wrong_kind}
use Rattle.serde_amqp_de.proofs.Lists.{unkept, counted_same, counted_whole}

pub pairs_in_turn : (ps : Pairs) → pairs_in (keys_and_values ps) ≡ ps
pairs_in_turn no_pairs = refl
pairs_in_turn (more_pairs x y ps) = ap (more_pairs x y) (pairs_in_turn ps)

pub in_turn : (n : ℕ) (xs : Items) → item_count xs ≡ 2 * n → keys_and_values (pairs_in xs) ≡ xs
in_turn n no_items e = refl
in_turn n (more_items x no_items) e = absurd (omega (arith, e))
in_turn zero (more_items x (more_items y xs)) e = absurd (omega (arith, e))
in_turn (suc n) (more_items x (more_items y xs)) e =
    let less : item_count xs ≡ 2 * n = omega (arith, e) in
    ap (λ (i : Items). more_items x (more_items y i)) (in_turn n xs less)

pub twice_half : (n : ℕ) → n % 2 ≡ 0 → n ≡ 2 * (n / 2)
twice_half n e = omega (arith, e)

twice_even : (n m : ℕ) → n ≡ 2 * m → n % 2 ≡ 0
twice_even n m e = omega (arith, e)

-- what a map of this form is like
map_parts : (w : Width) (x : Item) (a : List ℕ) → Form IsCapped IsStrict x None (map_of w) a → (ps : Pairs) × (content : List ℕ) × (x ≡ map ps) × (2 * pair_count ps ≤ 65536) × (2 * pair_count ps < room w) × IsSized w (field w (2 * pair_count ps) ++ content) a × PairForms IsCapped IsStrict ps content
map_parts w (scalar s) a h = absurd h
map_parts w (raw text) a h = absurd h
map_parts w (list xs) a h = absurd h
map_parts w (array xs) a h = absurd h
map_parts w (described d v) a h = absurd h
map_parts w (map ps) a h = (ps, h.0, refl, h.1, h.2, h.3, h.4)

map_there : (w : Width) (k : Option ℕ) (old mid last : At) (code : EncodingCodes) (total count size : ℕ) → Head k old mid code → row_at (Some code) ≡ map_of w → ReadCount w mid last total count → total ≡ length (field w 0) + size → count ≤ 65536 → count % 2 ≡ 0
    → (xs : Items) (content : List ℕ) (new : At) → Forms IsCapped IsStrict xs None content → item_count xs ≡ count → length content ≡ size → Moves last new content → Reads k old new (map_in xs)
map_there w k old mid last code total count size h row r t cap even xs content new f c l m =
    let ps = pairs_in xs in
    let turn : keys_and_values ps ≡ xs = in_turn (count / 2) xs (c ∙ twice_half count even) in
    let forms : PairForms IsCapped IsStrict ps content = forms_as_pairs IsCapped IsStrict ps content (subst (λ (i : Items). Forms IsCapped IsStrict i None content) (sym turn) f) in
    let counts : 2 * pair_count ps ≡ count = sym (pair_items ps) ∙ (ap item_count turn ∙ c) in
    let bytes = (field w total ++ field w count) ++ content in
    let form : Form IsCapped IsStrict (map ps) None (map_of w) bytes = (content, omega (arith, counts, cap), omega (arith, counts, r.counts), counted_whole w mid last total count (2 * pair_count ps) content r (omega (arith, t, l)) counts, forms) in
    head_form k old mid new code (map ps) bytes h (moves_then mid last new (field w total ++ field w count) content r.moves m) (λ o. subst (λ (i : Row). Form IsCapped IsStrict (map ps) o i bytes) (sym row) form)

map_back : (w : Width) (k : Option ℕ) (old mid last : At) (code : EncodingCodes) (total count size : ℕ) → Head k old mid code → row_at (Some code) ≡ map_of w → ReadCount w mid last total count → total ≡ length (field w 0) + size
    → (x : Item) (front more : List ℕ) → Wire x k front → old.rest ≡ front ++ more → kind_of x ≢ raw_kind → Holds map_in None x count size last.rest more
map_back w k old mid last code total count size h row r t x front more wire e n =
    let b = behind_head k old mid code x front more h wire e in
    let p = map_parts w x b.0 (subst (λ (i : Row). Form IsCapped IsStrict x None i b.0) row (unkept x _ _ b.0 n b.1)) in
    let s = counted_same w mid last total count (2 * pair_count p.0) p.1 b.0 more r p.4 p.5 b.2 in
    (keys_and_values p.0, p.1, p.2 ∙ ap map (sym (pairs_in_turn p.0)), pair_items p.0 ∙ sym s.1, omega (arith, s.0, t), pairs_as_forms IsCapped IsStrict p.0 p.1 p.6, s.2)

opens_map : (w : Width) (k : Option ℕ) (old mid last : At) (code : EncodingCodes) (total count size : ℕ) → Head k old mid code → row_at (Some code) ≡ map_of w → ReadCount w mid last total count → total ≡ length (field w 0) + size → count ≤ 65536 → count % 2 ≡ 0 → Opens map_in None k old last count size
opens_map w k old mid last code total count size h row r t cap even = record {
  there = map_there w k old mid last code total count size h row r t cap even;
  back = map_back w k old mid last code total count size h row r t;
}

pub map8 : (k : Option ℕ) (old mid last : At) (total count size : ℕ) → Head k old mid Map8 → ReadCount one_byte mid last total count → total ≡ size + 1 → count % 2 ≡ 0 → Opens map_in None k old last count size
map8 k old mid last total count size h r t even = opens_map one_byte k old mid last Map8 total count size h refl r (omega (arith, t)) (omega (arith, r.counts)) even

pub map32 : (k : Option ℕ) (old mid last : At) (total count size : ℕ) → Head k old mid Map32 → ReadCount four_bytes mid last total count → total ≡ size + 4 → count ≤ 65536 → count % 2 ≡ 0 → Opens map_in None k old last count size
map32 k old mid last total count size h r t cap even = opens_map four_bytes k old mid last Map32 total count size h refl r (omega (arith, t)) cap even

-- a size or a count that no map has
bad_map : (w : Width) (k : Option ℕ) (old mid last : At) (code : EncodingCodes) (total count : ℕ) → Head k old mid code → row_at (Some code) ≡ map_of w → ReadCount w mid last total count → (total < length (field w 0)) ⊎ ((65536 < count) ⊎ (count % 2 ≢ 0)) → Refuses map_taken k old
bad_map w k old mid last code total count h row r bad = record {
  none = refuse_by map_taken k old mid code (λ t. refl) h (λ x a more f e.
      let p = map_parts w x a (subst (λ (i : Row). Form IsCapped IsStrict x None i a) row f) in
      let s = counted_same w mid last total count (2 * pair_count p.0) p.1 a more r p.4 p.5 e in
      elim bad [ inl b ↦ absurd (omega (arith, s.0, b)) | inr c ↦ elim c [ inl b ↦ absurd (omega (arith, s.1, p.3, b)) | inr b ↦ absurd (b (twice_even count (pair_count p.0) s.1)) ] ]);
}

pub small_map8 : (k : Option ℕ) (old mid last : At) (total count : ℕ) → Head k old mid Map8 → ReadCount one_byte mid last total count → total < 1 → Refuses map_taken k old
small_map8 k old mid last total count h r b = bad_map one_byte k old mid last Map8 total count h refl r (inl b)

pub small_map32 : (k : Option ℕ) (old mid last : At) (total count : ℕ) → Head k old mid Map32 → ReadCount four_bytes mid last total count → total < 4 → Refuses map_taken k old
small_map32 k old mid last total count h r b = bad_map four_bytes k old mid last Map32 total count h refl r (inl b)

pub long_map32 : (k : Option ℕ) (old mid last : At) (total count : ℕ) → Head k old mid Map32 → ReadCount four_bytes mid last total count → 65536 < count → Refuses map_taken k old
long_map32 k old mid last total count h r b = bad_map four_bytes k old mid last Map32 total count h refl r (inr (inl b))

pub odd_map8 : (k : Option ℕ) (old mid last : At) (total count : ℕ) → Head k old mid Map8 → ReadCount one_byte mid last total count → count % 2 ≢ 0 → Refuses map_taken k old
odd_map8 k old mid last total count h r b = bad_map one_byte k old mid last Map8 total count h refl r (inr (inr b))

pub odd_map32 : (k : Option ℕ) (old mid last : At) (total count : ℕ) → Head k old mid Map32 → ReadCount four_bytes mid last total count → count % 2 ≢ 0 → Refuses map_taken k old
odd_map32 k old mid last total count h r b = bad_map four_bytes k old mid last Map32 total count h refl r (inr (inr b))

-- too few bytes for a size and a count
least : (w : Width) (x : Item) (a : List ℕ) → Form IsCapped IsStrict x None (map_of w) a → length (field w 0) + length (field w 0) ≤ length a
least w x a h =
    let p = map_parts w x a h in
    let inner = field w (2 * pair_count p.0) ++ p.1 in
    omega (arith, ap length p.5.whole, length-append (field w (length inner)) inner, length-append (field w (2 * pair_count p.0)) p.1, field_length w (length inner), field_length w (2 * pair_count p.0))

short_map : (w : Width) (k : Option ℕ) (old mid : At) (code : EncodingCodes) → Head k old mid code → row_at (Some code) ≡ map_of w → length mid.rest < length (field w 0) + length (field w 0) → Refuses map_taken k old
short_map w k old mid code h row short = record {
  none = refuse_by map_taken k old mid code (λ t. refl) h (λ x a more f e.
      let l = least w x a (subst (λ (i : Row). Form IsCapped IsStrict x None i a) row f) in
      absurd (omega (arith, ap length e, length-append a more, l, short)));
}

pub short_map8 : (k : Option ℕ) (old mid : At) → Head k old mid Map8 → length mid.rest < 2 → Refuses map_taken k old
short_map8 k old mid h z = short_map one_byte k old mid Map8 h refl z

pub short_map32 : (k : Option ℕ) (old mid : At) → Head k old mid Map32 → length mid.rest < 8 → Refuses map_taken k old
short_map32 k old mid h z = short_map four_bytes k old mid Map32 h refl z

only_map : TakesOnly map_taken map_kind
only_map (map ps) p = absurd (p refl)
only_map x p = refl

pub not_map : (code : EncodingCodes) → code ≢ Map8 → code ≢ Map32 → kind_at code ≢ map_kind
not_map Map8 p q = absurd (p refl)
not_map Map32 p q = absurd (q refl)
not_map code p q = λ e. cc

pub wrong_map : (k : Option ℕ) (old mid : At) (code : EncodingCodes) → Head k old mid code → code ≢ Map8 → code ≢ Map32 → Refuses map_taken k old
wrong_map k old mid code h p q = wrong_kind map_taken map_kind k old mid code only_map (λ e. cc) h (not_map code p q)

pub ruleset maps = (wrong_map, map8, map32, small_map8, small_map32, long_map32, odd_map8, odd_map32, short_map8, short_map32)
