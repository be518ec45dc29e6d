-- What stands behind a constructor.
use Rattle.std.proofs.Common.{◌≡◌, ◌≢◌, ℕ, ◌+◌, ◌*◌, ◌%◌, ◌<◌, List, [], ◌∷◌, ◌++◌, length, Option, Some, None, Bool, true, false, is_some, sym, ◌∙◌, ap, subst, refl, arith, length-append, append_assoc, append-nil}
use Rattle.std.specs.Prelude.{◌==◌}
use Rattle.serde_amqp_item.specs.declared.codes.Category.{Category}
use Rattle.serde_amqp_item.specs.declared.codes.Category.TheVariants.{Fixed, Variable, Compound}
use Rattle.serde_amqp_item.specs.Item.{Item, scalar, raw, list, map, array, described, Items, no_items, more_items, item_count, Pairs, no_pairs, more_pairs, pair_count, keys_and_values}
use Rattle.serde_amqp_item.specs.Wire.{Width, one_byte, four_bytes, room, field, field_width, Row, fixed, variable, empty_list, list_of, map_of, array_of, described_by, no_row, category_of, IsSized, Form, Forms, AnyCount, NoRaw}
use Rattle.serde_amqp_item.proofs.Forms.{field_same, form_same, no_raw_form}
use Rattle.serde_amqp_item.proofs.PairRows.{pair_items, pairs_as_forms, forms_as_pairs}
use Rattle.serde_amqp_read.specs.Pending.{Place, Moves, TookField, TookContent, NoContent, is_read, admits, TakesBytes, Held, Opens, NoRow}
use Rattle.serde_amqp_read.specs.declared.measure.Frame.{Frame}

abbrev pub frame : ℕ → Option ℕ → Option ℕ → Frame
frame left inherited end = record { left = left; inherited = inherited; end = end }

abbrev pub closed : Frame
closed = frame 0 None None

abbrev pub AForm : Item → Option ℕ → Row → List ℕ → Type 0
AForm x o r a = Form AnyCount NoRaw x o r a

pub moves_then : (a b c : Place) (x y : List ℕ) → Moves a b x → Moves b c y → Moves a c (x ++ y)
moves_then a b c x y m n = record {
  split = m.split ∙ (ap (λ (s : List ℕ). x ++ s) n.split ∙ sym (append_assoc x y c.rest));
  joined = n.joined ∙ (ap (λ (s : List ℕ). s ++ y) m.joined ∙ append_assoc a.taken x y);
  counted = omega (arith, m.counted, n.counted, length-append x y);
  ending = n.ending ∙ m.ending;
  ahead = omega (arith, m.ahead, n.ahead, length-append x y);
}

pub stays : (a : Place) → Moves a a []
stays a = record { split = refl; joined = sym (append-nil a.taken); counted = refl; ending = refl; ahead = omega arith }

pub none_held : (at : ℕ) (xs : Items) (content : List ℕ) → Held closed at xs content → content ≡ []
none_held at no_items content h = h.0
none_held at (more_items x xs) content h = absurd (omega (arith, h.1))

-- a form that holds no others
pub opens_leaf : (r : Row) (old new : Place) (front : List ℕ) (x : Item) → Moves old new front → ((o : Option ℕ) → AForm x o r front) → (TakesBytes r → 0 < length front) → Opens r old new closed
opens_leaf r old new front x m f n = record {
  front = front;
  moves = m;
  there = λ xs content o h.
      let none = none_held (length new.taken) xs content h in
      (x, subst (λ (a : List ℕ). AForm x o r a) (sym (ap (λ (s : List ℕ). front ++ s) none ∙ append-nil front)) (f o));
  back = λ y o a more g e.
      let same = form_same AnyCount y x o r a front more new.rest g (f o) (sym e ∙ m.split) in
      (no_items, [], same.1 ∙ sym (append-nil front), (refl, refl, tt));
  filled = n;
  sound = λ l. absurd (omega (arith, l));
}

some_of : {X : Type 0} (o : Option X) → is_some o ≡ true → (x : X) × (o ≡ Some x)
some_of None e = absurd cc
some_of (Some x) e = (x, refl)

is_some_of : {X : Type 0} (o : Option X) (x : X) → o ≡ Some x → is_some o ≡ true
is_some_of None x e = absurd cc
is_some_of (Some y) x e = refl

fixed_form : (r : Row) (n : ℕ) (a : List ℕ) → category_of r ≡ Some (Fixed n) → length a ≡ n → is_read r a ≡ true → (x : Item) × ((o : Option ℕ) → AForm x o r a) × (TakesBytes r → 0 < length a)
fixed_form (fixed m read) n a c l e =
    let same : m ≡ n = cc in
    let s = some_of (read a) e in
    (scalar s.0, λ o. (l ∙ sym same, s.1), λ t. omega (arith, t, l, same))
fixed_form empty_list n [] c l e = (list no_items, λ o. (refl, refl), λ t. absurd t)
fixed_form empty_list n (b ∷ a) c l e = let none : 0 ≡ n = cc in absurd (omega (arith, l, none))
fixed_form (variable w read) n a c l e = absurd cc
fixed_form (list_of w) n a c l e = absurd cc
fixed_form (map_of w) n a c l e = absurd cc
fixed_form (array_of w) n a c l e = absurd cc
fixed_form described_by n a c l e = absurd cc
fixed_form no_row n a c l e = absurd cc

fixed_back : (x : Item) (o : Option ℕ) (r : Row) (n : ℕ) (a : List ℕ) → category_of r ≡ Some (Fixed n) → AForm x o r a → (length a ≡ n) × (is_read r a ≡ true)
fixed_back (raw text) o r n a c f = absurd (no_raw_form AnyCount text o r a f)
fixed_back (scalar s) o (fixed m read) n a c f = let same : m ≡ n = cc in (f.0 ∙ same, is_some_of (read a) s f.1)
fixed_back (scalar s) o (variable w read) n a c f = absurd cc
fixed_back (scalar s) o r n a c f = absurd f
fixed_back (list xs) o empty_list n a c f = let none : 0 ≡ n = cc in (ap length f.1 ∙ none, refl)
fixed_back (list xs) o (list_of w) n a c f = absurd cc
fixed_back (list xs) o r n a c f = absurd f
fixed_back (map ps) o (map_of w) n a c f = absurd cc
fixed_back (map ps) o r n a c f = absurd f
fixed_back (array xs) o (array_of w) n a c f = absurd cc
fixed_back (array xs) o r n a c f = absurd f
fixed_back (described d v) o described_by n a c f = absurd cc
fixed_back (described d v) o r n a c f = absurd f

pub opens_fixed : (r : Row) (old new : Place) (n : ℕ) → category_of r ≡ Some (Fixed n) → TookContent r n old new → Opens r old new closed
opens_fixed r old new n c t =
    let f = fixed_form r n t.front c t.long t.read in
    opens_leaf r old new t.front f.0 t.moves f.1 f.2

pub unread : (b : Bool) → b ≡ true → b ≡ false → ⊥
unread true e f = absurd cc
unread false e f = absurd cc

pub no_fixed : (r : Row) (n : ℕ) (rest : List ℕ) → category_of r ≡ Some (Fixed n) → NoContent r n rest → NoRow r rest
no_fixed r n rest c t = record {
  none = λ x o a more f e.
      let b = fixed_back x o r n a c f in
      unread (is_read r a) b.1 (t.none a more e b.0);
}

-- what stands behind a size of this width
abbrev SizedContent : Row → ℕ → List ℕ → Type 0
SizedContent r k a = (w : Width) × (content : List ℕ) × (field_width w ≡ k) × IsSized w content a × (is_read r content ≡ true)

variable_form : (r : Row) (k n : ℕ) (content : List ℕ) → category_of r ≡ Some (Variable k) → ((w : Width) → field_width w ≡ k → n < room w) → length content ≡ n → is_read r content ≡ true → (w : Width) × (field_width w ≡ k) × (x : Item) × ((o : Option ℕ) → AForm x o r (field w n ++ content))
variable_form (variable w read) k n content c fits l e =
    let same : field_width w ≡ k = cc in
    let s = some_of (read content) e in
    let sized : IsSized w content (field w n ++ content) = record { fits = subst (λ (i : ℕ). i < room w) (sym l) (fits w same); whole = ap (λ (i : ℕ). field w i ++ content) (sym l) } in
    (w, same, scalar s.0, λ o. (content, sized, s.1))
variable_form (fixed m read) k n content c fits l e = absurd cc
variable_form empty_list k n content c fits l e = absurd cc
variable_form (list_of w) k n content c fits l e = absurd cc
variable_form (map_of w) k n content c fits l e = absurd cc
variable_form (array_of w) k n content c fits l e = absurd cc
variable_form described_by k n content c fits l e = absurd cc
variable_form no_row k n content c fits l e = absurd cc

variable_back : (x : Item) (o : Option ℕ) (r : Row) (k : ℕ) (a : List ℕ) → category_of r ≡ Some (Variable k) → AForm x o r a → SizedContent r k a
variable_back (raw text) o r k a c f = absurd (no_raw_form AnyCount text o r a f)
variable_back (scalar s) o (variable w read) k a c f = let same : field_width w ≡ k = cc in (w, f.0, same, f.1, is_some_of (read f.0) s f.2)
variable_back (scalar s) o (fixed m read) k a c f = absurd cc
variable_back (scalar s) o r k a c f = absurd f
variable_back (list xs) o empty_list k a c f = absurd cc
variable_back (list xs) o (list_of w) k a c f = absurd cc
variable_back (list xs) o r k a c f = absurd f
variable_back (map ps) o (map_of w) k a c f = absurd cc
variable_back (map ps) o r k a c f = absurd f
variable_back (array xs) o (array_of w) k a c f = absurd cc
variable_back (array xs) o r k a c f = absurd f
variable_back (described d v) o described_by k a c f = absurd cc
variable_back (described d v) o r k a c f = absurd f

pub field_long : (w : Width) (n : ℕ) → length (field w n) ≡ field_width w
field_long one_byte n = refl
field_long four_bytes n = refl

pub width_long : (w : Width) → 0 < field_width w
width_long one_byte = omega arith
width_long four_bytes = omega arith

pub field_filled : (w : Width) (n : ℕ) (a : List ℕ) → 0 < length (field w n ++ a)
field_filled w n a = omega (arith, field_long w n, width_long w, length-append (field w n) a)

pub opens_variable : (r : Row) (old mid new : Place) (k n : ℕ) → category_of r ≡ Some (Variable k) → ((w : Width) → field_width w ≡ k → TookField w old mid n) → TookContent r n mid new → Opens r old new closed
opens_variable r old mid new k n c s t =
    let f = variable_form r k n t.front c (λ w e. (s w e).fits) t.long t.read in
    opens_leaf r old new (field f.0 n ++ t.front) f.2 (moves_then old mid new (field f.0 n) t.front (s f.0 f.1).moves t.moves) f.3 (λ b. field_filled f.0 n t.front)

-- a number field that is short
pub no_field : (w : Width) (n : ℕ) (rest a more : List ℕ) → rest ≡ (field w n ++ a) ++ more → length rest < field_width w → ⊥
no_field w n rest a more e s = omega (arith, ap length e, length-append (field w n ++ a) more, length-append (field w n) a, field_long w n, s)

pub no_variable_size : (r : Row) (k : ℕ) (rest : List ℕ) → category_of r ≡ Some (Variable k) → ((w : Width) → field_width w ≡ k → length rest < field_width w) → NoRow r rest
no_variable_size r k rest c s = record {
  none = λ x o a more f e.
      let b = variable_back x o r k a c f in
      no_field b.0 (length b.1) rest b.1 more (e ∙ ap (λ (t : List ℕ). t ++ more) b.3.whole) (s b.0 b.2);
}

-- a number field is what was taken
pub field_is : (w : Width) (m n : ℕ) (old new : Place) (a b more : List ℕ) → TookField w old new n → m < room w → a ≡ field w m ++ b → old.rest ≡ a ++ more → (m ≡ n) × (new.rest ≡ b ++ more)
field_is w m n old new a b more t l h e =
    let whole : field w m ++ (b ++ more) ≡ field w n ++ new.rest = sym (append_assoc (field w m) b more) ∙ (ap (λ (s : List ℕ). s ++ more) (sym h) ∙ (sym e ∙ t.moves.split)) in
    let same = field_same w m n (b ++ more) new.rest l t.fits whole in
    (same.0, sym same.1)

pub no_variable_content : (r : Row) (old mid : Place) (k n : ℕ) → category_of r ≡ Some (Variable k) → ((w : Width) → field_width w ≡ k → TookField w old mid n) → NoContent r n mid.rest → NoRow r old.rest
no_variable_content r old mid k n c s t = record {
  none = λ x o a more f e.
      let b = variable_back x o r k a c f in
      let same = field_is b.0 (length b.1) n old mid a b.1 more (s b.0 b.2) b.3.fits b.3.whole e in
      unread (is_read r b.1) b.4 (t.none b.1 more same.1 same.0);
}

-- a list or a map: a size, a count, and so many items
abbrev Counted : Row → Width → List ℕ → Type 0
Counted r w a = (xs : Items) × (content : List ℕ) × (item_count xs < room w) × IsSized w (field w (item_count xs) ++ content) a × (admits r (item_count xs) ≡ true) × Forms AnyCount NoRaw xs None content

pub record ItemsRow (r : Row) (w : Width) : Type 0 where
  pub into : (o : Option ℕ) (a : List ℕ) → Counted r w a → (x : Item) × AForm x o r a
  pub from : (x : Item) (o : Option ℕ) (a : List ℕ) → AForm x o r a → Counted r w a

list_from : (w : Width) (x : Item) (o : Option ℕ) (a : List ℕ) → AForm x o (list_of w) a → Counted (list_of w) w a
list_from w (raw text) o a f = absurd (no_raw_form AnyCount text o (list_of w) a f)
list_from w (scalar s) o a f = absurd f
list_from w (list xs) o a f = (xs, f.0, f.2, f.3, refl, f.4)
list_from w (map ps) o a f = absurd f
list_from w (array xs) o a f = absurd f
list_from w (described d v) o a f = absurd f

list_row : (w : Width) → ItemsRow (list_of w) w
list_row w = record {
  into = λ o a h. (list h.0, (h.1, tt, h.2, h.3, h.5));
  from = list_from w;
}

even_twice : (n : ℕ) → ((2 * n) % 2 == 0) ≡ true
even_twice n = let e : (2 * n) % 2 ≡ 0 = omega arith in rw e refl

map_from : (w : Width) (x : Item) (o : Option ℕ) (a : List ℕ) → AForm x o (map_of w) a → Counted (map_of w) w a
map_from w (raw text) o a f = absurd (no_raw_form AnyCount text o (map_of w) a f)
map_from w (scalar s) o a f = absurd f
map_from w (list xs) o a f = absurd f
map_from w (map ps) o a f =
    let n = sym (pair_items ps) in
    (keys_and_values ps, f.0, subst (λ (i : ℕ). i < room w) n f.2, subst (λ (i : ℕ). IsSized w (field w i ++ f.0) a) n f.3, subst (λ (i : ℕ). (i % 2 == 0) ≡ true) n (even_twice (pair_count ps)), pairs_as_forms AnyCount NoRaw ps f.0 f.4)
map_from w (array xs) o a f = absurd f
map_from w (described d v) o a f = absurd f

even_of : (n : ℕ) → (n % 2 == 0) ≡ true → n % 2 ≡ 0
even_of n e = grind (arith)

pairs_in : (xs : Items) → item_count xs % 2 ≡ 0 → (ps : Pairs) × (keys_and_values ps ≡ xs)
pairs_in no_items e = (no_pairs, refl)
pairs_in (more_items x no_items) e = absurd (omega (arith, e))
pairs_in (more_items x (more_items y xs)) e =
    let h = pairs_in xs (omega (arith, e)) in
    (more_pairs x y h.0, ap (λ (s : Items). more_items x (more_items y s)) h.1)

map_row : (w : Width) → ItemsRow (map_of w) w
map_row w = record {
  into = λ o a h.
      let p = pairs_in h.0 (even_of (item_count h.0) h.4) in
      let n : item_count h.0 ≡ 2 * pair_count p.0 = ap item_count (sym p.1) ∙ pair_items p.0 in
      (map p.0, (h.1, tt, subst (λ (i : ℕ). i < room w) n h.2, subst (λ (i : ℕ). IsSized w (field w i ++ h.1) a) n h.3, forms_as_pairs AnyCount NoRaw p.0 h.1 (subst (λ (s : Items). Forms AnyCount NoRaw s None h.1) (sym p.1) h.5)));
  from = map_from w;
}

items_row : (r : Row) (k : ℕ) → category_of r ≡ Some (Compound k) → (w : Width) × (field_width w ≡ k) × ItemsRow r w
items_row (list_of w) k c = (w, (let e : field_width w ≡ k = cc in e), list_row w)
items_row (map_of w) k c = (w, (let e : field_width w ≡ k = cc in e), map_row w)
items_row (fixed n read) k c = absurd cc
items_row (variable w read) k c = absurd cc
items_row empty_list k c = absurd cc
items_row (array_of w) k c = absurd cc
items_row described_by k c = absurd cc
items_row no_row k c = absurd cc

-- the size field covers what was taken behind it
pub size_covers : (w : Width) (mid new : Place) (size : ℕ) (front content : List ℕ) → new.taken ≡ mid.taken ++ front → length new.taken + length content ≡ length mid.taken + size → length (front ++ content) ≡ size
size_covers w mid new size front content j e = omega (arith, ap length j, length-append mid.taken front, length-append front content, e)

pub sized_whole : (w : Width) (size : ℕ) (front content : List ℕ) → size < room w → length (front ++ content) ≡ size → IsSized w (front ++ content) ((field w size ++ front) ++ content)
sized_whole w size front content l e = record {
  fits = subst (λ (i : ℕ). i < room w) (sym e) l;
  whole = append_assoc (field w size) front content ∙ ap (λ (i : ℕ). field w i ++ (front ++ content)) (sym e);
}

pub covers_back : (mid new : Place) (size : ℕ) (front content : List ℕ) → new.taken ≡ mid.taken ++ front → length (front ++ content) ≡ size → length new.taken + length content ≡ length mid.taken + size
covers_back mid new size front content j e = omega (arith, ap length j, length-append mid.taken front, length-append front content, e)

pub opens_items : (r : Row) (old mid new : Place) (k size count : ℕ) → category_of r ≡ Some (Compound k) → ((w : Width) → field_width w ≡ k → TookField w old mid size) → ((w : Width) → field_width w ≡ k → TookField w mid new count) → admits r count ≡ true → Opens r old new (frame count None (Some (length mid.taken + size)))
opens_items r old mid new k size count c s t even =
    let row = items_row r k c in
    let w = row.0 in
    let fs = s w row.1 in
    let ft = t w row.1 in
    record {
      front = field w size ++ field w count;
      moves = moves_then old mid new (field w size) (field w count) fs.moves ft.moves;
      there = λ xs content o h.
          let covers = size_covers w mid new size (field w count) content ft.moves.joined h.2 in
          let sized = sized_whole w size (field w count) content fs.fits covers in
          let counts : count ≡ item_count xs = sym h.1 in
          row.2.into o ((field w size ++ field w count) ++ content) (
            xs,
            content,
            subst (λ (i : ℕ). i < room w) counts ft.fits,
            subst (λ (i : ℕ). IsSized w (field w i ++ content) ((field w size ++ field w count) ++ content)) counts sized,
            subst (λ (i : ℕ). admits r i ≡ true) counts even,
            h.0,
          );
      back = λ x o a more f e.
          let b = row.2.from x o a f in
          let first = field_is w (length (field w (item_count b.0) ++ b.1)) size old mid a (field w (item_count b.0) ++ b.1) more fs b.3.fits b.3.whole e in
          let second = field_is w (item_count b.0) count mid new (field w (item_count b.0) ++ b.1) b.1 more ft b.2 refl first.1 in
          let long : length (field w count ++ b.1) ≡ size = ap (λ (i : ℕ). length (field w i ++ b.1)) (sym second.0) ∙ first.0 in
          let whole : a ≡ (field w size ++ field w count) ++ b.1 =
          b.3.whole ∙ (ap (λ (i : ℕ). field w i ++ (field w (item_count b.0) ++ b.1)) first.0 ∙ (ap (λ (i : ℕ). field w size ++ (field w i ++ b.1)) second.0 ∙ sym (append_assoc (field w size) (field w count) b.1))) in
          (b.0, b.1, whole, (b.5, second.0, covers_back mid new size (field w count) b.1 ft.moves.joined long));
      filled = λ u. field_filled w size (field w count);
      sound = λ l e. absurd cc;
    }

pub no_items_size : (r : Row) (k : ℕ) (rest : List ℕ) → category_of r ≡ Some (Compound k) → ((w : Width) → field_width w ≡ k → length rest < field_width w) → NoRow r rest
no_items_size r k rest c s =
    let row = items_row r k c in
    record {
      none = λ x o a more f e.
          let b = row.2.from x o a f in
          let content = field row.0 (item_count b.0) ++ b.1 in
          no_field row.0 (length content) rest content more (e ∙ ap (λ (t : List ℕ). t ++ more) b.3.whole) (s row.0 row.1);
    }

pub no_items_count : (r : Row) (old mid : Place) (k size : ℕ) → category_of r ≡ Some (Compound k) → ((w : Width) → field_width w ≡ k → TookField w old mid size) → ((w : Width) → field_width w ≡ k → length mid.rest < field_width w) → NoRow r old.rest
no_items_count r old mid k size c s t =
    let row = items_row r k c in
    record {
      none = λ x o a more f e.
          let b = row.2.from x o a f in
          let content = field row.0 (item_count b.0) ++ b.1 in
          let first = field_is row.0 (length content) size old mid a content more (s row.0 row.1) b.3.fits b.3.whole e in
          no_field row.0 (item_count b.0) mid.rest b.1 more first.1 (t row.0 row.1);
    }

pub no_items_admitted : (r : Row) (old mid new : Place) (k size count : ℕ) → category_of r ≡ Some (Compound k) → ((w : Width) → field_width w ≡ k → TookField w old mid size) → ((w : Width) → field_width w ≡ k → TookField w mid new count) → admits r count ≡ false → NoRow r old.rest
no_items_admitted r old mid new k size count c s t odd =
    let row = items_row r k c in
    record {
      none = λ x o a more f e.
          let b = row.2.from x o a f in
          let content = field row.0 (item_count b.0) ++ b.1 in
          let first = field_is row.0 (length content) size old mid a content more (s row.0 row.1) b.3.fits b.3.whole e in
          let second = field_is row.0 (item_count b.0) count mid new content b.1 more (t row.0 row.1) b.2 refl first.1 in
          unread (admits r (item_count b.0)) b.4 (ap (admits r) second.0 ∙ odd);
    }

two_in : (xs : Items) (content : List ℕ) (o : Option ℕ) → Forms AnyCount NoRaw xs None content → item_count xs ≡ 2 → (x : Item) × AForm x o described_by content
two_in no_items content o f n = absurd (omega (arith, n))
two_in (more_items x no_items) content o f n = absurd (omega (arith, n))
two_in (more_items x (more_items y no_items)) content o f n =
    let value : f.2 ≡ f.5.0 ∷ f.5.1 = f.5.3 ∙ ap (λ (s : List ℕ). f.5.0 ∷ s) (ap (λ (s : List ℕ). f.5.1 ++ s) f.5.5 ∙ append-nil f.5.1) in
    (described x y, (f.0, f.1, f.5.0, f.5.1, f.3 ∙ ap (λ (s : List ℕ). f.0 ∷ (f.1 ++ s)) value, f.4, f.5.4))
two_in (more_items x (more_items y (more_items z xs))) content o f n = absurd (omega (arith, n))

two_back : (x : Item) (o : Option ℕ) (a : List ℕ) → AForm x o described_by a → (xs : Items) × Forms AnyCount NoRaw xs None a × (item_count xs ≡ 2)
two_back (raw text) o a f = absurd (no_raw_form AnyCount text o described_by a f)
two_back (scalar s) o a f = absurd f
two_back (list xs) o a f = absurd f
two_back (map ps) o a f = absurd f
two_back (array xs) o a f = absurd f
two_back (described d v) o a f = (more_items d (more_items v no_items), (f.0, f.1, f.2 ∷ f.3, f.4, f.5, (f.2, f.3, [], sym (ap (λ (s : List ℕ). f.2 ∷ s) (append-nil f.3)), f.6, refl)), refl)

pub described_row : (r : Row) → category_of r ≡ None → r ≢ no_row → r ≡ described_by
described_row described_by c n = refl
described_row no_row c n = absurd (n refl)
described_row (fixed m read) c n = absurd cc
described_row (variable w read) c n = absurd cc
described_row empty_list c n = absurd cc
described_row (list_of w) c n = absurd cc
described_row (map_of w) c n = absurd cc
described_row (array_of w) c n = absurd cc

pub fixed_count : (c : Option Category) (k : ℕ) → c ≡ Some (Fixed k) → (n : ℕ) → c ≡ Some (Fixed n) → k ≡ n
fixed_count c k e n f = cc

pub variable_count : (c : Option Category) (k s : ℕ) → c ≡ Some (Variable k) → (n : ℕ) → c ≡ Some (Fixed n) → s ≡ n
variable_count c k s e n f = absurd cc

-- a descriptor and a value, each with its constructor
pub opens_described : (r : Row) (old : Place) → category_of r ≡ None → r ≡ described_by → Opens r old old (frame 2 None None)
opens_described r old c e = subst (λ (q : Row). Opens q old old (frame 2 None None)) (sym e) (record {
  front = [];
  moves = stays old;
  there = λ xs content o h. two_in xs content o h.0 h.1;
  back = λ x o a more f e.
      let b = two_back x o a f in
      (b.0, a, refl, (b.1, b.2, tt));
  filled = λ u. absurd u;
  sound = λ l f. absurd cc;
})

pub ruleset opening = (fixed_count, variable_count, opens_described, opens_fixed, no_fixed, opens_variable, no_variable_size, no_variable_content, opens_items, no_items_size, no_items_count, no_items_admitted)
