-- No wire form begins another.
use Rattle.std.proofs.Common.{◌≡◌, ℕ, ◌+◌, ◌*◌, ◌<◌, List, [], ◌∷◌, ◌++◌, length, Option, Some, None, sym, ◌∙◌, ap, subst, refl, arith, length-append, append_assoc, ◌⊎◌, inl, inr}
use Rattle.std.specs.Int.{w32, to_be_bytes, from_be_bytes}
use Rattle.std.proofs.lemmas.Nat.{from_be_bytes-to_be_bytes_4}
use Rattle.std.proofs.lemmas.List.{append_cancel_left}
use Rattle.serde_amqp_item.specs.Item.{Scalar, Item, scalar, raw, list, map, array, described, Items, no_items, more_items, item_count, Pairs, no_pairs, more_pairs, pair_count}
use Rattle.serde_amqp_item.specs.Wire.{Width, one_byte, four_bytes, room, field, Row, fixed, variable, empty_list, list_of, map_of, array_of, described_by, row_of, Leads, own, IsSized, IsElementCode, IsBareArray, ScalarForm, Form, Forms, PairForms, Wire, IsCapped, IsStrict, NoRaw, AnyCount}
use Rattle.serde_amqp_item.specs.Canon.{RawKept, EachRawKept, EachPairRawKept, WithoutRaw}

pub append_same : (a b x y : List ℕ) → length a ≡ length b → a ++ x ≡ b ++ y → (a ≡ b) × (x ≡ y)
append_same [] [] x y l e = (refl, e)
append_same [] (c ∷ b) x y l e = absurd (omega arith)
append_same (c ∷ a) [] x y l e = absurd (omega arith)
append_same (c ∷ a) (d ∷ b) x y l e =
    let tails : a ++ x ≡ b ++ y = cc in
    let lens : length a ≡ length b = omega arith in
    let h = append_same a b x y lens tails in
    let head : c ≡ d = cc in
    let front : a ≡ b = h.0 in
    (cc, h.1)

pub field_same : (w : Width) (m n : ℕ) (x y : List ℕ) → m < room w → n < room w → field w m ++ x ≡ field w n ++ y → (m ≡ n) × (x ≡ y)
field_same one_byte m n x y hm hn e = (cc, cc)
field_same four_bytes m n x y hm hn e =
    let h = append_same (to_be_bytes w32 m) (to_be_bytes w32 n) x y refl e in
    (sym (from_be_bytes-to_be_bytes_4 m hm) ∙ (ap (from_be_bytes w32) h.0 ∙ from_be_bytes-to_be_bytes_4 n hn), h.1)

pub field_long : (w : Width) (n : ℕ) → 0 < length (field w n)
field_long one_byte n = omega arith
field_long four_bytes n = omega arith

pub sized_same : (w : Width) (c d a b x y : List ℕ) → IsSized w c a → IsSized w d b → a ++ x ≡ b ++ y → (c ≡ d) × (a ≡ b)
sized_same w c d a b x y h k e =
    let whole : (field w (length c) ++ c) ++ x ≡ (field w (length d) ++ d) ++ y = rw (← h.whole, ← k.whole) e in
    let apart : field w (length c) ++ (c ++ x) ≡ field w (length d) ++ (d ++ y) = sym (append_assoc (field w (length c)) c x) ∙ (whole ∙ append_assoc (field w (length d)) d y) in
    let f = field_same w (length c) (length d) (c ++ x) (d ++ y) h.fits k.fits apart in
    let t = append_same c d x y f.0 f.1 in
    (t.0, h.whole ∙ (ap (λ (s : List ℕ). field w (length s) ++ s) t.0 ∙ sym k.whole))

pub leads_same : (k : Option ℕ) (a b : List ℕ) (c d : ℕ) (p q x y : List ℕ) → Leads k a c p → Leads k b d q → a ++ x ≡ b ++ y → (c ≡ d) × (p ++ x ≡ q ++ y)
leads_same None a b c d p q x y h l e =
    let whole : (c ∷ p) ++ x ≡ (d ∷ q) ++ y = ap (λ (s : List ℕ). s ++ x) (sym h) ∙ (e ∙ ap (λ (s : List ℕ). s ++ y) l) in
    (cc, cc)
leads_same (Some i) a b c d p q x y h l e = (h.0 ∙ sym l.0, rw (← h.1, ← l.1) e)

pub leads_back : (k : Option ℕ) (a b : List ℕ) (c d : ℕ) (p q : List ℕ) → Leads k a c p → Leads k b d q → c ≡ d → p ≡ q → a ≡ b
leads_back None a b c d p q h l e f = cc
leads_back (Some i) a b c d p q h l e f = cc

pub scalar_same : (s t : Scalar) (r : Row) (a b x y : List ℕ) → ScalarForm s r a → ScalarForm t r b → a ++ x ≡ b ++ y → (s ≡ t) × (a ≡ b)
scalar_same s t (fixed n read) a b x y h k e =
    let z = append_same a b x y (h.0 ∙ sym k.0) e in
    let same : Some s ≡ Some t = sym h.1 ∙ (ap read z.0 ∙ k.1) in
    (cc, z.0)
scalar_same s t (variable w read) a b x y h k e =
    let z = sized_same w h.0 k.0 a b x y h.1 k.1 e in
    let same : Some s ≡ Some t = sym h.2 ∙ (ap read z.0 ∙ k.2) in
    (cc, z.1)
scalar_same s t r a b x y h k e = absurd h

-- an empty array without a constructor has the size 1
pub bare_sized : (w : Width) (xs : Items) (a : List ℕ) → IsBareArray w xs a → IsSized w (0 ∷ []) a
bare_sized one_byte xs a h = record { fits = omega arith; whole = h.whole }
bare_sized four_bytes xs a h = let w = h.width in absurd cc

not_bare : (w : Width) (n d : ℕ) (content : List ℕ) → 0 ∷ [] ≡ field w n ++ d ∷ content → ⊥
not_bare w n d content e = omega (arith, ap length e, length-append (field w n) (d ∷ content), field_long w n)

abbrev ArrayParts : (ℕ → Type 0) → (ℕ → List ℕ → Type 0) → Width → Items → List ℕ → Type 0
ArrayParts within kept w xs bytes =
    (d : ℕ) × (content : List ℕ) × within (item_count xs) × (item_count xs < room w)
    × IsSized w (field w (item_count xs) ++ d ∷ content) bytes × IsElementCode (item_count xs) d × Forms within kept xs (Some d) content

-- arrays, where the elements are known to be the same
array_same : (within : ℕ → Type 0) (w : Width) (xs ys : Items) (a b x y : List ℕ)
    → ((d : ℕ) (p q : List ℕ) → item_count xs ≡ item_count ys → Forms within NoRaw xs (Some d) p → Forms within NoRaw ys (Some d) q → p ++ [] ≡ q ++ [] → (xs ≡ ys) × (p ≡ q))
    → IsBareArray w xs a ⊎ ArrayParts within NoRaw w xs a → IsBareArray w ys b ⊎ ArrayParts within NoRaw w ys b → a ++ x ≡ b ++ y → (array xs ≡ array ys) × (a ≡ b)
array_same within w xs ys a b x y elements (inl h) (inl k) e = (ap array (h.empty ∙ sym k.empty), h.whole ∙ sym k.whole)
array_same within w xs ys a b x y elements (inl h) (inr k) e =
    let z = sized_same w (0 ∷ []) (field w (item_count ys) ++ k.0 ∷ k.1) a b x y (bare_sized w xs a h) k.4 e in
    absurd (not_bare w (item_count ys) k.0 k.1 z.0)
array_same within w xs ys a b x y elements (inr h) (inl k) e =
    let z = sized_same w (field w (item_count xs) ++ h.0 ∷ h.1) (0 ∷ []) a b x y h.4 (bare_sized w ys b k) e in
    absurd (not_bare w (item_count xs) h.0 h.1 (sym z.0))
array_same within w xs ys a b x y elements (inr h) (inr k) e =
    let z = sized_same w (field w (item_count xs) ++ h.0 ∷ h.1) (field w (item_count ys) ++ k.0 ∷ k.1) a b x y h.4 k.4 e in
    let f = field_same w (item_count xs) (item_count ys) (h.0 ∷ h.1) (k.0 ∷ k.1) h.3 k.3 z.0 in
    let both : h.0 ∷ h.1 ≡ k.0 ∷ k.1 = f.1 in
    let same : h.0 ≡ k.0 = cc in
    let content : h.1 ≡ k.1 = cc in
    let rest : h.1 ++ [] ≡ k.1 ++ [] = ap (λ (s : List ℕ). s ++ []) content in
    let there : Forms within NoRaw ys (Some h.0) k.1 = subst (λ (c : ℕ). Forms within NoRaw ys (Some c) k.1) (sym same) k.6 in
    (ap array (elements h.0 h.1 k.1 f.0 h.6 there rest).0, z.1)

pub no_raw_form : (within : ℕ → Type 0) (text : List ℕ) (o : Option ℕ) (r : Row) (a : List ℕ) → Form within NoRaw (raw text) o r a → ⊥
no_raw_form within text (Some c) r a h = h.1
no_raw_form within text None r a h = h

mutual
  -- of items without raw ones
  pub form_same : (within : ℕ → Type 0) (m n : Item) (o : Option ℕ) (r : Row) (a b x y : List ℕ) → Form within NoRaw m o r a → Form within NoRaw n o r b → a ++ x ≡ b ++ y → (m ≡ n) × (a ≡ b)
  form_same within (raw text) n o r a b x y h k e = absurd (no_raw_form within text o r a h)
  form_same within m (raw text) o r a b x y h k e = absurd (no_raw_form within text o r b k)
  form_same within (scalar s) (scalar t) o r a b x y h k e =
      let z = scalar_same s t r a b x y h k e in
      (ap scalar z.0, z.1)
  form_same within (scalar s) n o (fixed w read) a b x y h k e = absurd k
  form_same within (scalar s) n o (variable w read) a b x y h k e = absurd k
  form_same within (scalar s) n o r a b x y h k e = absurd h
  form_same within (list xs) (list ys) o empty_list a b x y h k e = (ap list (h.0 ∙ sym k.0), h.1 ∙ sym k.1)
  form_same within (list xs) (list ys) o (list_of w) a b x y h k e =
      let z = sized_same w (field w (item_count xs) ++ h.0) (field w (item_count ys) ++ k.0) a b x y h.3 k.3 e in
      let f = field_same w (item_count xs) (item_count ys) h.0 k.0 h.2 k.2 z.0 in
      let rest : h.0 ++ [] ≡ k.0 ++ [] = ap (λ (s : List ℕ). s ++ []) f.1 in
      (ap list (forms_same within xs ys None h.0 k.0 [] [] f.0 h.4 k.4 rest).0, z.1)
  form_same within (list xs) n o empty_list a b x y h k e = absurd k
  form_same within (list xs) n o (list_of w) a b x y h k e = absurd k
  form_same within (list xs) n o r a b x y h k e = absurd h
  form_same within (map ps) (map qs) o (map_of w) a b x y h k e =
      let z = sized_same w (field w (2 * pair_count ps) ++ h.0) (field w (2 * pair_count qs) ++ k.0) a b x y h.3 k.3 e in
      let f = field_same w (2 * pair_count ps) (2 * pair_count qs) h.0 k.0 h.2 k.2 z.0 in
      let rest : h.0 ++ [] ≡ k.0 ++ [] = ap (λ (s : List ℕ). s ++ []) f.1 in
      (ap map (pairs_same within ps qs h.0 k.0 [] [] (omega (arith, f.0)) h.4 k.4 rest).0, z.1)
  form_same within (map ps) n o (map_of w) a b x y h k e = absurd k
  form_same within (map ps) n o r a b x y h k e = absurd h
  form_same within (array xs) (array ys) o (array_of w) a b x y h k e = array_same within w xs ys a b x y (λ d p q c f g j. forms_same within xs ys (Some d) p q [] [] c f g j) h k e
  form_same within (array xs) n o (array_of w) a b x y h k e = absurd k
  form_same within (array xs) n o r a b x y h k e = absurd h
  form_same within (described d v) (described d' v') o described_by a b x y h k e =
      let whole : (h.0 ∷ (h.1 ++ h.2 ∷ h.3)) ++ x ≡ (k.0 ∷ (k.1 ++ k.2 ∷ k.3)) ++ y = ap (λ (s : List ℕ). s ++ x) (sym h.4) ∙ (e ∙ ap (λ (s : List ℕ). s ++ y) k.4) in
      let same : h.0 ≡ k.0 = cc in
      let rest : (h.1 ++ h.2 ∷ h.3) ++ x ≡ (k.1 ++ k.2 ∷ k.3) ++ y = cc in
      let apart : h.1 ++ ((h.2 ∷ h.3) ++ x) ≡ k.1 ++ ((k.2 ∷ k.3) ++ y) = sym (append_assoc h.1 (h.2 ∷ h.3) x) ∙ (rest ∙ append_assoc k.1 (k.2 ∷ k.3) y) in
      let there : Form within NoRaw d' (Some h.0) (row_of h.0) k.1 = subst (λ (c : ℕ). Form within NoRaw d' (Some c) (row_of c) k.1) (sym same) k.5 in
      let first = form_same within d d' (Some h.0) (row_of h.0) h.1 k.1 ((h.2 ∷ h.3) ++ x) ((k.2 ∷ k.3) ++ y) h.5 there apart in
      let onward : h.1 ++ ((h.2 ∷ h.3) ++ x) ≡ h.1 ++ ((k.2 ∷ k.3) ++ y) = apart ∙ ap (λ (s : List ℕ). s ++ ((k.2 ∷ k.3) ++ y)) (sym first.1) in
      let second : (h.2 ∷ h.3) ++ x ≡ (k.2 ∷ k.3) ++ y = append_cancel_left h.1 _ _ onward in
      let same2 : h.2 ≡ k.2 = cc in
      let rest2 : h.3 ++ x ≡ k.3 ++ y = cc in
      let there2 : Form within NoRaw v' (Some h.2) (row_of h.2) k.3 = subst (λ (c : ℕ). Form within NoRaw v' (Some c) (row_of c) k.3) (sym same2) k.6 in
      let last = form_same within v v' (Some h.2) (row_of h.2) h.3 k.3 x y h.6 there2 rest2 in
      let ed : d ≡ d' = first.0 in
      let ev : v ≡ v' = last.0 in
      let ea : h.1 ≡ k.1 = first.1 in
      let eb : h.3 ≡ k.3 = last.1 in
      let wa = h.4 in
      let wb = k.4 in
      (cc, cc)
  form_same within (described d v) n o described_by a b x y h k e = absurd k
  form_same within (described d v) n o r a b x y h k e = absurd h

  pub forms_same : (within : ℕ → Type 0) (xs ys : Items) (k : Option ℕ) (a b x y : List ℕ) → item_count xs ≡ item_count ys → Forms within NoRaw xs k a → Forms within NoRaw ys k b → a ++ x ≡ b ++ y → (xs ≡ ys) × (a ≡ b)
  forms_same within no_items no_items k a b x y l g h e = (refl, g ∙ sym h)
  forms_same within no_items (more_items n ys) k a b x y l g h e = absurd (omega arith)
  forms_same within (more_items m xs) no_items k a b x y l g h e = absurd (omega arith)
  forms_same within (more_items m xs) (more_items n ys) k a b x y l g h e =
      let counts : item_count xs ≡ item_count ys = omega arith in
      let led = leads_same k a b g.0 h.0 (g.1 ++ g.2) (h.1 ++ h.2) x y g.3 h.3 e in
      let apart : g.1 ++ (g.2 ++ x) ≡ h.1 ++ (h.2 ++ y) = sym (append_assoc g.1 g.2 x) ∙ (led.1 ∙ append_assoc h.1 h.2 y) in
      let there : Form within NoRaw n (own k g.0) (row_of g.0) h.1 = subst (λ (c : ℕ). Form within NoRaw n (own k c) (row_of c) h.1) (sym led.0) h.4 in
      let first = form_same within m n (own k g.0) (row_of g.0) g.1 h.1 (g.2 ++ x) (h.2 ++ y) g.4 there apart in
      let onward : g.1 ++ (g.2 ++ x) ≡ g.1 ++ (h.2 ++ y) = apart ∙ ap (λ (s : List ℕ). s ++ (h.2 ++ y)) (sym first.1) in
      let rest : g.2 ++ x ≡ h.2 ++ y = append_cancel_left g.1 _ _ onward in
      let others = forms_same within xs ys k g.2 h.2 x y counts g.5 h.5 rest in
      let em : m ≡ n = first.0 in
      let es : xs ≡ ys = others.0 in
      let ea : g.1 ≡ h.1 = first.1 in
      let eb : g.2 ≡ h.2 = others.1 in
      let joined : g.1 ++ g.2 ≡ h.1 ++ h.2 = cc in
      (cc, leads_back k a b g.0 h.0 (g.1 ++ g.2) (h.1 ++ h.2) g.3 h.3 led.0 joined)

  pub pairs_same : (within : ℕ → Type 0) (ps qs : Pairs) (a b x y : List ℕ) → pair_count ps ≡ pair_count qs → PairForms within NoRaw ps a → PairForms within NoRaw qs b → a ++ x ≡ b ++ y → (ps ≡ qs) × (a ≡ b)
  pairs_same within no_pairs no_pairs a b x y l g h e = (refl, g ∙ sym h)
  pairs_same within no_pairs (more_pairs n n' qs) a b x y l g h e = absurd (omega arith)
  pairs_same within (more_pairs m m' ps) no_pairs a b x y l g h e = absurd (omega arith)
  pairs_same within (more_pairs m m' ps) (more_pairs n n' qs) a b x y l g h e =
      let counts : pair_count ps ≡ pair_count qs = omega arith in
      let whole : (g.0 ∷ (g.1 ++ g.2 ∷ (g.3 ++ g.4))) ++ x ≡ (h.0 ∷ (h.1 ++ h.2 ∷ (h.3 ++ h.4))) ++ y = ap (λ (s : List ℕ). s ++ x) (sym g.5) ∙ (e ∙ ap (λ (s : List ℕ). s ++ y) h.5) in
      let same : g.0 ≡ h.0 = cc in
      let behind : (g.1 ++ g.2 ∷ (g.3 ++ g.4)) ++ x ≡ (h.1 ++ h.2 ∷ (h.3 ++ h.4)) ++ y = cc in
      let apart : g.1 ++ ((g.2 ∷ (g.3 ++ g.4)) ++ x) ≡ h.1 ++ ((h.2 ∷ (h.3 ++ h.4)) ++ y) = sym (append_assoc g.1 (g.2 ∷ (g.3 ++ g.4)) x) ∙ (behind ∙ append_assoc h.1 (h.2 ∷ (h.3 ++ h.4)) y) in
      let there : Form within NoRaw n (Some g.0) (row_of g.0) h.1 = subst (λ (c : ℕ). Form within NoRaw n (Some c) (row_of c) h.1) (sym same) h.6 in
      let key = form_same within m n (Some g.0) (row_of g.0) g.1 h.1 ((g.2 ∷ (g.3 ++ g.4)) ++ x) ((h.2 ∷ (h.3 ++ h.4)) ++ y) g.6 there apart in
      let onward : g.1 ++ ((g.2 ∷ (g.3 ++ g.4)) ++ x) ≡ g.1 ++ ((h.2 ∷ (h.3 ++ h.4)) ++ y) = apart ∙ ap (λ (s : List ℕ). s ++ ((h.2 ∷ (h.3 ++ h.4)) ++ y)) (sym key.1) in
      let second : (g.2 ∷ (g.3 ++ g.4)) ++ x ≡ (h.2 ∷ (h.3 ++ h.4)) ++ y = append_cancel_left g.1 _ _ onward in
      let same2 : g.2 ≡ h.2 = cc in
      let behind2 : (g.3 ++ g.4) ++ x ≡ (h.3 ++ h.4) ++ y = cc in
      let apart2 : g.3 ++ (g.4 ++ x) ≡ h.3 ++ (h.4 ++ y) = sym (append_assoc g.3 g.4 x) ∙ (behind2 ∙ append_assoc h.3 h.4 y) in
      let there2 : Form within NoRaw n' (Some g.2) (row_of g.2) h.3 = subst (λ (c : ℕ). Form within NoRaw n' (Some c) (row_of c) h.3) (sym same2) h.7 in
      let value = form_same within m' n' (Some g.2) (row_of g.2) g.3 h.3 (g.4 ++ x) (h.4 ++ y) g.7 there2 apart2 in
      let onward2 : g.3 ++ (g.4 ++ x) ≡ g.3 ++ (h.4 ++ y) = apart2 ∙ ap (λ (s : List ℕ). s ++ (h.4 ++ y)) (sym value.1) in
      let rest : g.4 ++ x ≡ h.4 ++ y = append_cancel_left g.3 _ _ onward2 in
      let others = pairs_same within ps qs g.4 h.4 x y counts g.8 h.8 rest in
      let em : m ≡ n = key.0 in
      let ev : m' ≡ n' = value.0 in
      let es : ps ≡ qs = others.0 in
      let ea : g.1 ≡ h.1 = key.1 in
      let eb : g.3 ≡ h.3 = value.1 in
      let ec : g.4 ≡ h.4 = others.1 in
      let wa = g.5 in
      let wb = h.5 in
      (cc, cc)

-- the row is that of an item's own constructor
abbrev pub OwnRow : Option ℕ → Row → Type 0
OwnRow None r = Unit {0}
OwnRow (Some c) r = r ≡ row_of c

pub own_row : (k : Option ℕ) (c : ℕ) → OwnRow (own k c) (row_of c)
own_row None c = refl
own_row (Some i) c = tt

-- the bytes are a strict form, of the item itself where it has no raw ones
pub record Strict (x : Item) (o : Option ℕ) (r : Row) (bytes : List ℕ) : Type 0 where
  pub item : Item
  pub form : Form AnyCount NoRaw item o r bytes
  pub same : WithoutRaw x → item ≡ x

pub record AllStrict (xs : Items) (k : Option ℕ) (bytes : List ℕ) : Type 0 where
  pub items : Items
  pub count : item_count items ≡ item_count xs
  pub forms : Forms AnyCount NoRaw items k bytes
  pub same : EachRawKept NoRaw xs → items ≡ xs

pub record PairsStrict (ps : Pairs) (bytes : List ℕ) : Type 0 where
  pub pairs : Pairs
  pub count : pair_count pairs ≡ pair_count ps
  pub forms : PairForms AnyCount NoRaw pairs bytes
  pub same : EachPairRawKept NoRaw ps → pairs ≡ ps

array_strict : (within : ℕ → Type 0) (w : Width) (xs : Items) (o : Option ℕ) (a : List ℕ) → ((d : ℕ) (p : List ℕ) → Forms within IsStrict xs (Some d) p → AllStrict xs (Some d) p) → IsBareArray w xs a ⊎ ArrayParts within IsStrict w xs a → Strict (array xs) o (array_of w) a
array_strict within w xs o a elements (inl h) = record { item = array xs; form = inl h; same = λ n. refl }
array_strict within w xs o a elements (inr h) =
    let s = elements h.0 h.1 h.6 in
    let there : ArrayParts AnyCount NoRaw w s.items a = (
      h.0,
      h.1,
      tt,
      omega (arith, s.count, h.3),
      subst (λ (n : ℕ). IsSized w (field w n ++ h.0 ∷ h.1) a) (sym s.count) h.4,
      subst (λ (n : ℕ). IsElementCode n h.0) (sym s.count) h.5,
      s.forms,
    ) in
    record { item = array s.items; form = inr there; same = λ n. ap array (s.same n) }

mutual
  pub strict_of : (within : ℕ → Type 0) (x : Item) (o : Option ℕ) (r : Row) (a : List ℕ) → OwnRow o r → Form within IsStrict x o r a → Strict x o r a
  strict_of within (raw text) (Some c) r a m f = record {
    item = f.1.0;
    form = subst (λ (row : Row). Form AnyCount NoRaw f.1.0 (Some c) row a) (sym m) f.1.1;
    same = λ n. absurd (subst (λ (t : List ℕ). RawKept NoRaw (raw t)) f.0 n);
  }
  strict_of within (raw text) None r a m f = absurd f
  strict_of within (scalar s) o r a m f = record { item = scalar s; form = f; same = λ n. refl }
  strict_of within (list xs) o empty_list a m f = record { item = list xs; form = f; same = λ n. refl }
  strict_of within (list xs) o (list_of w) a m f =
      let s = all_strict within xs None f.0 f.4 in
      record {
        item = list s.items;
        form = (f.0, tt, omega (arith, s.count, f.2), subst (λ (n : ℕ). IsSized w (field w n ++ f.0) a) (sym s.count) f.3, s.forms);
        same = λ n. ap list (s.same n);
      }
  strict_of within (list xs) o r a m f = absurd f
  strict_of within (map ps) o (map_of w) a m f =
      let s = pairs_strict within ps f.0 f.4 in
      record {
        item = map s.pairs;
        form = (f.0, tt, omega (arith, s.count, f.2), subst (λ (n : ℕ). IsSized w (field w (2 * n) ++ f.0) a) (sym s.count) f.3, s.forms);
        same = λ n. ap map (s.same n);
      }
  strict_of within (map ps) o r a m f = absurd f
  strict_of within (array xs) o (array_of w) a m f = array_strict within w xs o a (λ d p g. all_strict within xs (Some d) p g) f
  strict_of within (array xs) o r a m f = absurd f
  strict_of within (described d v) o described_by a m f =
      let s = strict_of within d (Some f.0) (row_of f.0) f.1 refl f.5 in
      let t = strict_of within v (Some f.2) (row_of f.2) f.3 refl f.6 in
      record {
        item = described s.item t.item;
        form = (f.0, f.1, f.2, f.3, f.4, s.form, t.form);
        same = λ n. ap (λ (i : Item). described i t.item) (s.same n.0) ∙ ap (described d) (t.same n.1);
      }
  strict_of within (described d v) o r a m f = absurd f

  pub all_strict : (within : ℕ → Type 0) (xs : Items) (k : Option ℕ) (a : List ℕ) → Forms within IsStrict xs k a → AllStrict xs k a
  all_strict within no_items k a f = record { items = no_items; count = refl; forms = f; same = λ n. refl }
  all_strict within (more_items x xs) k a f =
      let s = strict_of within x (own k f.0) (row_of f.0) f.1 (own_row k f.0) f.4 in
      let t = all_strict within xs k f.2 f.5 in
      record {
        items = more_items s.item t.items;
        count = ap (λ (n : ℕ). n + 1) t.count;
        forms = (f.0, f.1, f.2, f.3, s.form, t.forms);
        same = λ n. ap (λ (i : Item). more_items i t.items) (s.same n.0) ∙ ap (more_items x) (t.same n.1);
      }

  pub pairs_strict : (within : ℕ → Type 0) (ps : Pairs) (a : List ℕ) → PairForms within IsStrict ps a → PairsStrict ps a
  pairs_strict within no_pairs a f = record { pairs = no_pairs; count = refl; forms = f; same = λ n. refl }
  pairs_strict within (more_pairs x y ps) a f =
      let s = strict_of within x (Some f.0) (row_of f.0) f.1 refl f.6 in
      let t = strict_of within y (Some f.2) (row_of f.2) f.3 refl f.7 in
      let u = pairs_strict within ps f.4 f.8 in
      record {
        pairs = more_pairs s.item t.item u.pairs;
        count = ap (λ (n : ℕ). n + 1) u.count;
        forms = (f.0, f.1, f.2, f.3, f.4, f.5, s.form, t.form, u.forms);
        same = λ n. ap (λ (i : Item). more_pairs i t.item u.pairs) (s.same n.0) ∙ (ap (λ (i : Item). more_pairs x i u.pairs) (t.same n.1) ∙ ap (more_pairs x y) (u.same n.2));
      }

pub wire_strict : (x : Item) (c : ℕ) (rest : List ℕ) → Wire x None (c ∷ rest) → IsStrict c rest
wire_strict x c rest h =
    let led : c ∷ rest ≡ h.0 ∷ h.1 = h.2 in
    let same : c ≡ h.0 = cc in
    let behind : rest ≡ h.1 = cc in
    let s = strict_of IsCapped x (Some h.0) (row_of h.0) h.1 refl h.3 in
    subst (λ (a : List ℕ). IsStrict c a) (sym behind) (subst (λ (b : ℕ). IsStrict b h.1) (sym same) (s.item, s.form))

-- two wire forms at the front of the same bytes
pub wire_same : (m n : Item) (k : Option ℕ) (a b x y : List ℕ) → Wire m k a → Wire n k b → a ++ x ≡ b ++ y → (a ≡ b) × (WithoutRaw m → WithoutRaw n → m ≡ n)
wire_same m n k a b x y g h e =
    let led = leads_same k a b g.0 h.0 g.1 h.1 x y g.2 h.2 e in
    let there : Form IsCapped IsStrict n (own k g.0) (row_of g.0) h.1 = subst (λ (c : ℕ). Form IsCapped IsStrict n (own k c) (row_of c) h.1) (sym led.0) h.3 in
    let s = strict_of IsCapped m (own k g.0) (row_of g.0) g.1 (own_row k g.0) g.3 in
    let t = strict_of IsCapped n (own k g.0) (row_of g.0) h.1 (own_row k g.0) there in
    let z = form_same AnyCount s.item t.item (own k g.0) (row_of g.0) g.1 h.1 x y s.form t.form led.1 in
    (leads_back k a b g.0 h.0 g.1 h.1 g.2 h.2 led.0 z.1, λ p q. sym (s.same p) ∙ (z.0 ∙ t.same q))

-- likewise so many forms one behind the other
pub all_same : (xs ys : Items) (k : Option ℕ) (a b x y : List ℕ) → item_count xs ≡ item_count ys → Forms IsCapped IsStrict xs k a → Forms IsCapped IsStrict ys k b → a ++ x ≡ b ++ y → (a ≡ b) × (EachRawKept NoRaw xs → EachRawKept NoRaw ys → xs ≡ ys)
all_same xs ys k a b x y l g h e =
    let s = all_strict IsCapped xs k a g in
    let t = all_strict IsCapped ys k b h in
    let z = forms_same AnyCount s.items t.items k a b x y (s.count ∙ (l ∙ sym t.count)) s.forms t.forms e in
    (z.1, λ p q. sym (s.same p) ∙ (z.0 ∙ t.same q))
