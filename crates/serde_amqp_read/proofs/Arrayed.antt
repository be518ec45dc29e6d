-- What stands behind an array's constructor.
use Rattle.std.proofs.Common.{◌≡◌, ◌≢◌, ℕ, ◌+◌, ◌<◌, List, [], ◌∷◌, ◌++◌, length, Option, Some, None, true, false, sym, ◌∙◌, ap, subst, refl, arith, append_assoc, ◌⊎◌, inl, inr}
use Rattle.std.specs.Prelude.{◌==◌}
use Rattle.serde_amqp_item.specs.declared.codes.EncodingCodes.{EncodingCodes}
use Rattle.serde_amqp_item.specs.declared.codes.EncodingCodes.TheVariants.{Null, DescribedType}
use Rattle.serde_amqp_item.specs.declared.codes.Category.TheVariants.{Array}
use Rattle.serde_amqp_item.specs.Item.{Item, scalar, raw, list, map, array, described, Items, no_items, item_count}
use Rattle.serde_amqp_item.specs.Wire.{Width, one_byte, four_bytes, room, field, field_width, Row, fixed, variable, empty_list, list_of, map_of, array_of, described_by, no_row, category_of, code_of, IsSized, IsElementCode, Forms, AnyCount, NoRaw}
use Rattle.serde_amqp_item.proofs.Forms.{no_raw_form, bare_sized}
use Rattle.serde_amqp_item.proofs.Constructors.{byte_of_code}
use Rattle.serde_amqp_read.specs.Pending.{Place, Moves, TookField, is_element, Bare, Opens, NoRow}
use Rattle.serde_amqp_read.proofs.Opened.{frame, closed, AForm, moves_then, opens_leaf, no_field, field_is, field_filled, size_covers, sized_whole, covers_back}

zero_of : (n : ℕ) → (n == 0) ≡ true → n ≡ 0
zero_of n e = grind (arith)

not_zero_of : (n : ℕ) → (n == 0) ≡ false → n ≢ 0
not_zero_of n e = λ z. grind (arith)

-- a constructor of so many elements
element_plain : (d n : ℕ) → is_element (code_of d) n ≡ true → 0 < n → (d ≢ 0x40) × (d ≢ 0x00)
unfolding code_of
element_plain d n e l = (
  (λ z. let f : (n == 0) ≡ true = sym (ap (λ (b : ℕ). is_element (code_of b) n) z) ∙ e in omega (arith, l, zero_of n f)),
  (λ z. let f : (n == 0) ≡ true = sym (ap (λ (b : ℕ). is_element (code_of b) n) z) ∙ e in omega (arith, l, zero_of n f)),
)

element_known : (code : Option EncodingCodes) (n : ℕ) → is_element code n ≡ true → (k : EncodingCodes) × (code ≡ Some k)
element_known None n e = absurd cc
element_known (Some k) n e = (k, refl)

element_is : (d n : ℕ) → is_element (code_of d) n ≡ true → IsElementCode n d
element_is d n e =
    let k = element_known (code_of d) n e in
    record { known = rw k.1 refl; plain = element_plain d n e }

no_element : (d n : ℕ) (code : Option EncodingCodes) → code_of d ≡ code → is_element code n ≡ false → IsElementCode n d → ⊥
no_element d n None c e i = let k = i.known in let f = c in absurd cc
no_element d n (Some Null) c e i = let l : 0 < n = (let z = not_zero_of n e in omega (arith, z)) in (i.plain l).0 (byte_of_code Null d c)
no_element d n (Some DescribedType) c e i = let l : 0 < n = (let z = not_zero_of n e in omega (arith, z)) in (i.plain l).1 (byte_of_code DescribedType d c)
no_element d n (Some k) c e i = absurd cc

-- elements behind their constructor
abbrev Elements : ℕ → List ℕ → Type 0
Elements n b = (d : ℕ) × (c : List ℕ) × (b ≡ d ∷ c) × IsElementCode n d × (xs : Items) × Forms AnyCount NoRaw xs (Some d) c × (item_count xs ≡ n)

-- no constructor
abbrev Nothing : Width → ℕ → List ℕ → Type 0
Nothing w n b = (w ≡ one_byte) × (n ≡ 0) × (b ≡ [])

-- a size, a count, and what stands behind them
abbrev Parts : Width → List ℕ → Type 0
Parts w a = (n : ℕ) × (b : List ℕ) × (n < room w) × IsSized w (field w n ++ b) a × (Nothing w n b ⊎ Elements n b)

parts_of : (w : Width) (x : Item) (o : Option ℕ) (a : List ℕ) → AForm x o (array_of w) a → Parts w a
parts_of w (raw text) o a f = absurd (no_raw_form AnyCount text o (array_of w) a f)
parts_of w (scalar s) o a f = absurd f
parts_of w (list xs) o a f = absurd f
parts_of w (map ps) o a f = absurd f
parts_of w (described d v) o a f = absurd f
parts_of one_byte (array xs) o a (inl h) = (0, [], omega arith, bare_sized one_byte xs a h, inl (refl, refl, refl))
parts_of four_bytes (array xs) o a (inl h) = let e = h.width in absurd cc
parts_of w (array xs) o a (inr h) = (item_count xs, h.0 ∷ h.1, h.3, h.4, inr (h.0, h.1, refl, h.5, xs, h.6, refl))

array_row : (r : Row) (k : ℕ) → category_of r ≡ Some (Array k) → (w : Width) × (field_width w ≡ k) × (r ≡ array_of w)
array_row (array_of w) k c = (w, (let e : field_width w ≡ k = cc in e), refl)
array_row (fixed n read) k c = absurd cc
array_row (variable w read) k c = absurd cc
array_row empty_list k c = absurd cc
array_row (list_of w) k c = absurd cc
array_row (map_of w) k c = absurd cc
array_row described_by k c = absurd cc
array_row no_row k c = absurd cc

-- what the fields say of a form
fields_say : (w : Width) (old mid new : Place) (size count : ℕ) (x : Item) (o : Option ℕ) (a more : List ℕ) → TookField w old mid size → TookField w mid new count → AForm x o (array_of w) a → old.rest ≡ a ++ more
    → (b : List ℕ) × (length (field w count ++ b) ≡ size) × (a ≡ field w size ++ (field w count ++ b)) × (new.rest ≡ b ++ more) × (Nothing w count b ⊎ Elements count b)
fields_say w old mid new size count x o a more s t f e =
    let p = parts_of w x o a f in
    let content = field w p.0 ++ p.1 in
    let first = field_is w (length content) size old mid a content more s p.3.fits p.3.whole e in
    let second = field_is w p.0 count mid new content p.1 more t p.2 refl first.1 in (
      p.1,
      ap (λ (i : ℕ). length (field w i ++ p.1)) (sym second.0) ∙ first.0,
      p.3.whole ∙ (ap (λ (i : ℕ). field w i ++ content) first.0 ∙ ap (λ (i : ℕ). field w size ++ (field w i ++ p.1)) second.0),
      second.1,
      subst (λ (i : ℕ). Nothing w i p.1 ⊎ Elements i p.1) second.0 p.4,
    )

bare_of : (w : Width) (k size count : ℕ) (b : List ℕ) → field_width w ≡ k → length (field w count ++ b) ≡ size → Nothing w count b → Bare k size count
bare_of one_byte k size count [] e l n = record { one = sym e; size_is = sym l; empty = n.1 }
bare_of one_byte k size count (c ∷ b) e l n = let z = n.2 in absurd cc
bare_of four_bytes k size count b e l n = let z = n.0 in absurd cc

bare_form : (w : Width) (k size count : ℕ) (o : Option ℕ) → field_width w ≡ k → Bare k size count → AForm (array no_items) o (array_of w) (field w size ++ field w count)
bare_form one_byte k size count o e b = let s = b.size_is in let n = b.empty in inl (record { width = refl; empty = refl; whole = cc })
bare_form four_bytes k size count o e b = absurd (omega (arith, e, b.one))

pub opens_bare : (r : Row) (old mid new : Place) (k size count : ℕ) → category_of r ≡ Some (Array k) → ((w : Width) → field_width w ≡ k → TookField w old mid size) → ((w : Width) → field_width w ≡ k → TookField w mid new count) → Bare k size count → Opens r old new closed
opens_bare r old mid new k size count c s t b =
    let row = array_row r k c in
    let w = row.0 in
    subst (λ (q : Row). Opens q old new closed) (sym row.2)
    (opens_leaf (array_of w) old new (field w size ++ field w count) (array no_items) (moves_then old mid new (field w size) (field w count) (s w row.1).moves (t w row.1).moves) (λ o. bare_form w k size count o row.1 b) (λ u. field_filled w size (field w count)))

opens_elements : (w : Width) (old mid last new : Place) (k size count d : ℕ) → field_width w ≡ k → TookField w old mid size → TookField w mid last count → Moves last new (d ∷ []) → is_element (code_of d) count ≡ true → (Bare k size count → ⊥) → Opens (array_of w) old new (frame count (Some d) (Some (length mid.taken + size)))
opens_elements w old mid last new k size count d is s t m e filled =
    let code = element_is d count e in
    let inner = moves_then mid last new (field w count) (d ∷ []) t.moves m in
    let head = field w count ++ d ∷ [] in
    record {
      front = field w size ++ head;
      moves = moves_then old mid new (field w size) head s.moves inner;
      there = λ xs content o h.
          let covers = size_covers w mid new size head content inner.joined h.2 in
          let apart : head ++ content ≡ field w count ++ d ∷ content = append_assoc (field w count) (d ∷ []) content in
          let sized : IsSized w (field w count ++ d ∷ content) ((field w size ++ head) ++ content) = subst (λ (b : List ℕ). IsSized w b ((field w size ++ head) ++ content)) apart (sized_whole w size head content s.fits covers) in
          let counts : count ≡ item_count xs = sym h.1 in (
            array xs,
            inr (
              d,
              content,
              tt,
              subst (λ (i : ℕ). i < room w) counts t.fits,
              subst (λ (i : ℕ). IsSized w (field w i ++ d ∷ content) ((field w size ++ head) ++ content)) counts sized,
              subst (λ (i : ℕ). IsElementCode i d) counts code,
              h.0,
            ),
          );
      back = λ x o a more f z.
          let said = fields_say w old mid last size count x o a more s t f z in
          elim said.4 [
            | inl n ↦ absurd (filled (bare_of w k size count said.0 is said.1 n))
            | inr g ↦
                (let rest : last.rest ≡ g.0 ∷ (g.1 ++ more) = said.3 ∙ ap (λ (b : List ℕ). b ++ more) g.2 in
                let both : g.0 ∷ (g.1 ++ more) ≡ d ∷ new.rest = sym rest ∙ m.split in
                let same : g.0 ≡ d = cc in
                let b_is : said.0 ≡ d ∷ g.1 = g.2 ∙ ap (λ (i : ℕ). i ∷ g.1) same in
                let apart : field w count ++ said.0 ≡ head ++ g.1 = ap (λ (b : List ℕ). field w count ++ b) b_is ∙ sym (append_assoc (field w count) (d ∷ []) g.1) in
                let whole : a ≡ (field w size ++ head) ++ g.1 = said.2 ∙ (ap (λ (b : List ℕ). field w size ++ b) apart ∙ sym (append_assoc (field w size) head g.1)) in
                let long : length (head ++ g.1) ≡ size = ap length (sym apart) ∙ said.1 in
                (g.4, g.1, whole, (subst (λ (i : ℕ). Forms AnyCount NoRaw g.4 (Some i) g.1) same g.5, g.6, covers_back mid new size head g.1 inner.joined long)))
          ];
      filled = λ u. field_filled w size head;
      sound = λ l z. let zero : d ≡ 0 = cc in (code.plain l).1 zero;
    }

pub opens_array : (r : Row) (old mid last new : Place) (k size count d : ℕ) → category_of r ≡ Some (Array k) → ((w : Width) → field_width w ≡ k → TookField w old mid size) → ((w : Width) → field_width w ≡ k → TookField w mid last count) → Moves last new (d ∷ []) → is_element (code_of d) count ≡ true → (Bare k size count → ⊥) → Opens r old new (frame count (Some d) (Some (length mid.taken + size)))
opens_array r old mid last new k size count d c s t m e filled =
    let row = array_row r k c in
    subst (λ (q : Row). Opens q old new (frame count (Some d) (Some (length mid.taken + size)))) (sym row.2)
    (opens_elements row.0 old mid last new k size count d row.1 (s row.0 row.1) (t row.0 row.1) m e filled)

pub no_array_size : (r : Row) (k : ℕ) (rest : List ℕ) → category_of r ≡ Some (Array k) → ((w : Width) → field_width w ≡ k → length rest < field_width w) → NoRow r rest
no_array_size r k rest c s =
    let row = array_row r k c in
    record {
      none = λ x o a more f e.
          let p = parts_of row.0 x o a (subst (λ (q : Row). AForm x o q a) row.2 f) in
          let content = field row.0 p.0 ++ p.1 in
          no_field row.0 (length content) rest content more (e ∙ ap (λ (t : List ℕ). t ++ more) p.3.whole) (s row.0 row.1);
    }

pub no_array_count : (r : Row) (old mid : Place) (k size : ℕ) → category_of r ≡ Some (Array k) → ((w : Width) → field_width w ≡ k → TookField w old mid size) → ((w : Width) → field_width w ≡ k → length mid.rest < field_width w) → NoRow r old.rest
no_array_count r old mid k size c s t =
    let row = array_row r k c in
    record {
      none = λ x o a more f e.
          let p = parts_of row.0 x o a (subst (λ (q : Row). AForm x o q a) row.2 f) in
          let content = field row.0 p.0 ++ p.1 in
          let first = field_is row.0 (length content) size old mid a content more (s row.0 row.1) p.3.fits p.3.whole e in
          no_field row.0 p.0 mid.rest p.1 more first.1 (t row.0 row.1);
    }

-- neither an empty array without a constructor nor one with this constructor
no_code : (w : Width) (old mid last : Place) (k size count : ℕ) (x : Item) (o : Option ℕ) (a more : List ℕ) → field_width w ≡ k → TookField w old mid size → TookField w mid last count → (Bare k size count → ⊥) → ((d : ℕ) (others : List ℕ) → last.rest ≡ d ∷ others → IsElementCode count d → ⊥) → AForm x o (array_of w) a → old.rest ≡ a ++ more → ⊥
no_code w old mid last k size count x o a more is s t filled none f e =
    let said = fields_say w old mid last size count x o a more s t f e in
    elim said.4 [
      | inl n ↦ filled (bare_of w k size count said.0 is said.1 n)
      | inr g ↦ none g.0 (g.1 ++ more) (said.3 ∙ ap (λ (b : List ℕ). b ++ more) g.2) g.3
    ]

pub no_array_byte : (r : Row) (old mid last : Place) (k size count : ℕ) → category_of r ≡ Some (Array k) → ((w : Width) → field_width w ≡ k → TookField w old mid size) → ((w : Width) → field_width w ≡ k → TookField w mid last count) → (Bare k size count → ⊥) → last.rest ≡ [] → NoRow r old.rest
no_array_byte r old mid last k size count c s t filled empty =
    let row = array_row r k c in
    record {
      none = λ x o a more f e. no_code row.0 old mid last k size count x o a more row.1 (s row.0 row.1) (t row.0 row.1) filled (λ d others z i. let both : d ∷ others ≡ [] = sym z ∙ empty in absurd cc) (subst (λ (q : Row). AForm x o q a) row.2 f) e;
    }

pub no_array_element : (r : Row) (old mid last new : Place) (k size count d : ℕ) → category_of r ≡ Some (Array k) → ((w : Width) → field_width w ≡ k → TookField w old mid size) → ((w : Width) → field_width w ≡ k → TookField w mid last count) → Moves last new (d ∷ []) → is_element (code_of d) count ≡ false → (Bare k size count → ⊥) → NoRow r old.rest
no_array_element r old mid last new k size count d c s t m z filled =
    let row = array_row r k c in
    record {
      none = λ x o a more f e. no_code row.0 old mid last k size count x o a more row.1 (s row.0 row.1) (t row.0 row.1) filled
          (λ i others y code.
          let both : i ∷ others ≡ d ∷ new.rest = sym y ∙ m.split in
          let same : i ≡ d = cc in
          no_element d count (code_of d) refl z (subst (λ (j : ℕ). IsElementCode count j) same code)) (subst (λ (q : Row). AForm x o q a) row.2 f) e;
    }

pub ruleset arraying = (opens_bare, opens_array, no_array_size, no_array_count, no_array_byte, no_array_element)
