-- The heads of lists.
use Rattle.std.proofs.Common.{◌≡◌, ◌≢◌, ℕ, ◌+◌, ◌<◌, ◌≤◌, ◌^◌, List, [], ◌∷◌, ◌++◌, length, Option, Some, None, sym, ◌∙◌, ap, subst, refl, arith, length-append, append_assoc, ◌⊎◌, inl, inr}
use Rattle.std.specs.Int.{w32, to_be_bytes}
use Rattle.serde_amqp_item.specs.declared.codes.EncodingCodes.{EncodingCodes}
use Rattle.serde_amqp_item.specs.declared.codes.EncodingCodes.TheVariants.{List0, List8, List32}
use Rattle.serde_amqp_item.specs.Item.{Item, Items, scalar, raw, list, map, array, described, no_items, more_items, item_count}
use Rattle.serde_amqp_item.specs.Wire.{Wire, Width, one_byte, four_bytes, room, field, row_at, Row, empty_list, list_of, Form, Forms, IsSized, IsCapped, IsStrict}
use Rattle.serde_amqp_item.specs.Kind.{kind_of, kind_at, raw_kind, list_kind}
use Rattle.serde_amqp_item.proofs.Forms.{field_same}
use Rattle.serde_amqp_de.specs.Reads.{At, Moves, Head, Reads, Refuses, ReadCount, Opens, Holds}
use Rattle.serde_amqp_de.specs.Apart.{field_length}
use Rattle.serde_amqp_de.specs.Takes.{TakesOnly, list_taken}
use Rattle.serde_amqp_de.proofs.Heads.{moves_then, head_form, behind_head, plain_form, refuse_by, wrong_kind}

pub count8 : (old mid new : At) (total count : ℕ) → Moves old mid (total ∷ []) → Moves mid new (count ∷ []) → total < 256 → count < 256 → ReadCount one_byte old new total count
count8 old mid new total count m n f c = record { moves = moves_then old mid new (total ∷ []) (count ∷ []) m n; fits = f; counts = c }

pub count32 : (old mid new : At) (total count : ℕ) → Moves old mid (to_be_bytes w32 total) → Moves mid new (to_be_bytes w32 count) → total < 2 ^ 32 → count < 2 ^ 32 → ReadCount four_bytes old new total count
count32 old mid new total count m n f c = record { moves = moves_then old mid new (to_be_bytes w32 total) (to_be_bytes w32 count) m n; fits = f; counts = c }

pub ruleset counting = (count8, count32)

-- a form of an item that isn't a kept one has no need of a constructor of its own
pub unkept : (x : Item) (o : Option ℕ) (r : Row) (a : List ℕ) → kind_of x ≢ raw_kind → Form IsCapped IsStrict x o r a → Form IsCapped IsStrict x None r a
unkept x o r a n h = elim (plain_form x o r a h) [ inl t ↦ absurd (n (ap kind_of t.1)) | inr f ↦ f ]

-- what a list of this form is like
parts : (w : Width) (x : Item) (a : List ℕ) → Form IsCapped IsStrict x None (list_of w) a → (xs : Items) × (content : List ℕ) × (x ≡ list xs) × (item_count xs ≤ 65536) × (item_count xs < room w) × IsSized w (field w (item_count xs) ++ content) a × Forms IsCapped IsStrict xs None content
parts w (scalar s) a h = absurd h
parts w (raw text) a h = absurd h
parts w (map ps) a h = absurd h
parts w (array xs) a h = absurd h
parts w (described d v) a h = absurd h
parts w (list xs) a h = (xs, h.0, refl, h.1, h.2, h.3, h.4)

-- what stands behind a size and a count
pub counted_same : (w : Width) (mid last : At) (total count n : ℕ) (content a more : List ℕ) → ReadCount w mid last total count → n < room w → IsSized w (field w n ++ content) a → mid.rest ≡ a ++ more
    → (total ≡ length (field w 0) + length content) × (count ≡ n) × (last.rest ≡ content ++ more)
counted_same w mid last total count n content a more r fits s e =
    let inner = field w n ++ content in
    let both : field w total ++ (field w count ++ last.rest) ≡ field w (length inner) ++ (inner ++ more) =
    sym (append_assoc (field w total) (field w count) last.rest) ∙ (sym r.moves.split ∙ (e ∙ (ap (λ (t : List ℕ). t ++ more) s.whole ∙ append_assoc (field w (length inner)) inner more))) in
    let totals = field_same w total (length inner) (field w count ++ last.rest) (inner ++ more) r.fits s.fits both in
    let counted = field_same w count n last.rest (content ++ more) r.counts fits (totals.1 ∙ append_assoc (field w n) content more) in
    (omega (arith, totals.0, length-append (field w n) content, field_length w n), counted.0, counted.1)

-- likewise, put together
pub counted_whole : (w : Width) (mid last : At) (total count n : ℕ) (content : List ℕ) → ReadCount w mid last total count → total ≡ length (field w 0) + length content → n ≡ count → IsSized w (field w n ++ content) ((field w total ++ field w count) ++ content)
counted_whole w mid last total count n content r t c =
    let long : length (field w n ++ content) ≡ total = omega (arith, length-append (field w n) content, field_length w n, t) in
    record {
      fits = omega (arith, long, r.fits);
      whole = append_assoc (field w total) (field w count) content ∙ (ap (λ (i : ℕ). field w i ++ (field w count ++ content)) (sym long) ∙ ap (λ (i : ℕ). field w (length (field w n ++ content)) ++ (field w i ++ content)) (sym c));
    }

list_there : (w : Width) (k : Option ℕ) (old mid last : At) (code : EncodingCodes) (total count size : ℕ) → Head k old mid code → row_at (Some code) ≡ list_of w → ReadCount w mid last total count → total ≡ length (field w 0) + size → count ≤ 65536
    → (xs : Items) (content : List ℕ) (new : At) → Forms IsCapped IsStrict xs None content → item_count xs ≡ count → length content ≡ size → Moves last new content → Reads k old new (list xs)
list_there w k old mid last code total count size h row r t cap xs content new f c l m =
    let bytes = (field w total ++ field w count) ++ content in
    let form : Form IsCapped IsStrict (list xs) None (list_of w) bytes = (content, omega (arith, c, cap), omega (arith, c, r.counts), counted_whole w mid last total count (item_count xs) content r (omega (arith, t, l)) c, f) in
    head_form k old mid new code (list xs) bytes h (moves_then mid last new (field w total ++ field w count) content r.moves m) (λ o. subst (λ (i : Row). Form IsCapped IsStrict (list xs) o i bytes) (sym row) form)

list_back : (w : Width) (k : Option ℕ) (old mid last : At) (code : EncodingCodes) (total count size : ℕ) → Head k old mid code → row_at (Some code) ≡ list_of w → ReadCount w mid last total count → total ≡ length (field w 0) + size
    → (x : Item) (front more : List ℕ) → Wire x k front → old.rest ≡ front ++ more → kind_of x ≢ raw_kind → Holds list None x count size last.rest more
list_back w k old mid last code total count size h row r t x front more wire e n =
    let b = behind_head k old mid code x front more h wire e in
    let p = parts w x b.0 (subst (λ (i : Row). Form IsCapped IsStrict x None i b.0) row (unkept x _ _ b.0 n b.1)) in
    let s = counted_same w mid last total count (item_count p.0) p.1 b.0 more r p.4 p.5 b.2 in
    (p.0, p.1, p.2, sym s.1, omega (arith, s.0, t), p.6, s.2)

opens_list : (w : Width) (k : Option ℕ) (old mid last : At) (code : EncodingCodes) (total count size : ℕ) → Head k old mid code → row_at (Some code) ≡ list_of w → ReadCount w mid last total count → total ≡ length (field w 0) + size → count ≤ 65536 → Opens list None k old last count size
opens_list w k old mid last code total count size h row r t cap = record {
  there = list_there w k old mid last code total count size h row r t cap;
  back = list_back w k old mid last code total count size h row r t;
}

pub list8 : (k : Option ℕ) (old mid last : At) (total count size : ℕ) → Head k old mid List8 → ReadCount one_byte mid last total count → total ≡ size + 1 → Opens list None k old last count size
list8 k old mid last total count size h r t = opens_list one_byte k old mid last List8 total count size h refl r (omega (arith, t)) (omega (arith, r.counts))

pub list32 : (k : Option ℕ) (old mid last : At) (total count size : ℕ) → Head k old mid List32 → ReadCount four_bytes mid last total count → total ≡ size + 4 → count ≤ 65536 → Opens list None k old last count size
list32 k old mid last total count size h r t cap = opens_list four_bytes k old mid last List32 total count size h refl r (omega (arith, t)) cap

-- a size or a count that no list has
bad_list : (w : Width) (k : Option ℕ) (old mid last : At) (code : EncodingCodes) (total count : ℕ) → Head k old mid code → row_at (Some code) ≡ list_of w → ReadCount w mid last total count → (total < length (field w 0)) ⊎ (65536 < count) → Refuses list_taken k old
bad_list w k old mid last code total count h row r bad = record {
  none = refuse_by list_taken k old mid code (λ t. refl) h (λ x a more f e.
      let p = parts w x a (subst (λ (i : Row). Form IsCapped IsStrict x None i a) row f) in
      let s = counted_same w mid last total count (item_count p.0) p.1 a more r p.4 p.5 e in
      elim bad [ inl b ↦ absurd (omega (arith, s.0, b)) | inr b ↦ absurd (omega (arith, s.1, p.3, b)) ]);
}

pub small_list8 : (k : Option ℕ) (old mid last : At) (total count : ℕ) → Head k old mid List8 → ReadCount one_byte mid last total count → total < 1 → Refuses list_taken k old
small_list8 k old mid last total count h r b = bad_list one_byte k old mid last List8 total count h refl r (inl b)

pub small_list32 : (k : Option ℕ) (old mid last : At) (total count : ℕ) → Head k old mid List32 → ReadCount four_bytes mid last total count → total < 4 → Refuses list_taken k old
small_list32 k old mid last total count h r b = bad_list four_bytes k old mid last List32 total count h refl r (inl b)

pub long_list32 : (k : Option ℕ) (old mid last : At) (total count : ℕ) → Head k old mid List32 → ReadCount four_bytes mid last total count → 65536 < count → Refuses list_taken k old
long_list32 k old mid last total count h r b = bad_list four_bytes k old mid last List32 total count h refl r (inr b)

-- too few bytes for a size and a count
least : (w : Width) (x : Item) (a : List ℕ) → Form IsCapped IsStrict x None (list_of w) a → length (field w 0) + length (field w 0) ≤ length a
least w x a h =
    let p = parts w x a h in
    let inner = field w (item_count p.0) ++ p.1 in
    omega (arith, ap length p.5.whole, length-append (field w (length inner)) inner, length-append (field w (item_count p.0)) p.1, field_length w (length inner), field_length w (item_count p.0))

short_list : (w : Width) (k : Option ℕ) (old mid : At) (code : EncodingCodes) → Head k old mid code → row_at (Some code) ≡ list_of w → length mid.rest < length (field w 0) + length (field w 0) → Refuses list_taken k old
short_list w k old mid code h row short = record {
  none = refuse_by list_taken k old mid code (λ t. refl) h (λ x a more f e.
      let l = least w x a (subst (λ (i : Row). Form IsCapped IsStrict x None i a) row f) in
      absurd (omega (arith, ap length e, length-append a more, l, short)));
}

pub short_list8 : (k : Option ℕ) (old mid : At) → Head k old mid List8 → length mid.rest < 2 → Refuses list_taken k old
short_list8 k old mid h z = short_list one_byte k old mid List8 h refl z

pub short_list32 : (k : Option ℕ) (old mid : At) → Head k old mid List32 → length mid.rest < 8 → Refuses list_taken k old
short_list32 k old mid h z = short_list four_bytes k old mid List32 h refl z

-- the list with no bytes
empty_parts : (x : Item) (a : List ℕ) → Form IsCapped IsStrict x None empty_list a → (x ≡ list no_items) × (a ≡ [])
empty_parts (scalar s) a h = absurd h
empty_parts (raw text) a h = absurd h
empty_parts (map ps) a h = absurd h
empty_parts (array xs) a h = absurd h
empty_parts (described d v) a h = absurd h
empty_parts (list xs) a h = (ap list h.0, h.1)

empty_there : (k : Option ℕ) (old mid : At) → Head k old mid List0 → (xs : Items) (content : List ℕ) (new : At) → Forms IsCapped IsStrict xs None content → item_count xs ≡ 0 → length content ≡ 0 → Moves mid new content → Reads k old new (list xs)
empty_there k old mid h no_items [] new f c l m = head_form k old mid new List0 (list no_items) [] h m (λ o. (refl, refl))
empty_there k old mid h no_items (b ∷ bs) new f c l m = absurd (omega arith)
empty_there k old mid h (more_items x xs) content new f c l m = absurd (omega arith)

pub list0 : (k : Option ℕ) (old mid : At) → Head k old mid List0 → Opens list None k old mid 0 0
list0 k old mid h = record {
  there = empty_there k old mid h;
  back = λ x f more w e n.
      let b = behind_head k old mid List0 x f more h w e in
      let p = empty_parts x b.0 (unkept x _ _ b.0 n b.1) in
      (no_items, [], p.0, refl, refl, refl, b.2 ∙ ap (λ (s : List ℕ). s ++ more) p.1);
}

only_list : TakesOnly list_taken list_kind
only_list (list xs) p = absurd (p refl)
only_list x p = refl

pub not_list : (code : EncodingCodes) → code ≢ List0 → code ≢ List8 → code ≢ List32 → kind_at code ≢ list_kind
not_list List0 p q r = absurd (p refl)
not_list List8 p q r = absurd (q refl)
not_list List32 p q r = absurd (r refl)
not_list code p q r = λ e. cc

pub wrong_list : (k : Option ℕ) (old mid : At) (code : EncodingCodes) → Head k old mid code → code ≢ List0 → code ≢ List8 → code ≢ List32 → Refuses list_taken k old
wrong_list k old mid code h p q r = wrong_kind list_taken list_kind k old mid code only_list (λ e. cc) h (not_list code p q r)

pub ruleset lists = (wrong_list, list0, list8, list32, small_list8, small_list32, long_list32, short_list8, short_list32)
