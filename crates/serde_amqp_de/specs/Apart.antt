-- Forms one behind the other, taken apart.
use Rattle.std.proofs.Common.{◌≡◌, ℕ, ◌<◌, ◌≤◌, List, [], ◌∷◌, ◌++◌, length, Option, Some, None, sym, ◌∙◌, ap, subst, refl, arith, length-append, ◌⊎◌, inl, inr}
use Rattle.std.proofs.lemmas.List.{append_cancel_left}
use Rattle.serde_amqp_item.specs.Item.{Item, Items, list, array, described, no_items, items_of, item_count}
use Rattle.serde_amqp_item.specs.Wire.{Width, one_byte, four_bytes, room, field, Row, empty_list, list_of, array_of, described_by, row_of, own, Wire, Leads, Form, Forms, IsSized, IsBareArray, IsElementCode, IsCapped, IsStrict}
use Rattle.serde_amqp_item.proofs.Forms.{wire_same, sized_same, field_same}

pub leads_split : (k : Option ℕ) (f a b : List ℕ) (c : ℕ) → Leads k f c a → Leads k (f ++ b) c (a ++ b)
leads_split None f a b c h = ap (λ (s : List ℕ). s ++ b) h
leads_split (Some i) f a b c h = (h.0, ap (λ (s : List ℕ). s ++ b) h.1)

-- the first of items, and the others behind it
pub apart : (k : Option ℕ) (front a b : List ℕ) (c : ℕ) → Leads k front c (a ++ b) → (f : List ℕ) × Leads k f c a × (front ≡ f ++ b)
apart None front a b c h = (c ∷ a, refl, h)
apart (Some i) front a b c h = (a, (h.0, refl), h.1)

pub leads_one : (k : Option ℕ) (a : List ℕ) (c d : ℕ) (p q : List ℕ) → Leads k a c p → Leads k a d q → (c ≡ d) × (p ≡ q)
leads_one None a c d p q g h = let both : c ∷ p ≡ d ∷ q = sym g ∙ h in (cc, cc)
leads_one (Some i) a c d p q g h = (g.0 ∙ sym h.0, sym g.1 ∙ h.1)

-- two rows of as many items with the same bytes
pub record Together (xs ys : Items) : Type 0 where
  pub element : Option ℕ
  pub content : List ℕ
  pub count : item_count xs ≡ item_count ys
  pub left : Forms IsCapped IsStrict xs element content
  pub right : Forms IsCapped IsStrict ys element content

none_together : (xs ys : Items) → xs ≡ no_items → ys ≡ no_items → Together xs ys
none_together xs ys e f = record {
  element = None;
  content = [];
  count = ap item_count (e ∙ sym f);
  left = subst (λ (i : Items). Forms IsCapped IsStrict i None []) (sym e) refl;
  right = subst (λ (i : Items). Forms IsCapped IsStrict i None []) (sym f) refl;
}

list_together : (xs ys : Items) (o : Option ℕ) (r : Row) (a : List ℕ) → Form IsCapped IsStrict (list xs) o r a → Form IsCapped IsStrict (list ys) o r a → Together xs ys
list_together xs ys o empty_list a g h = none_together xs ys g.0 h.0
list_together xs ys o (list_of w) a g h =
    let z = sized_same w (field w (item_count xs) ++ g.0) (field w (item_count ys) ++ h.0) a a [] [] g.3 h.3 refl in
    let f = field_same w (item_count xs) (item_count ys) g.0 h.0 g.2 h.2 z.0 in
    record { element = None; content = g.0; count = f.0; left = g.4; right = subst (λ (s : List ℕ). Forms IsCapped IsStrict ys None s) (sym f.1) h.4 }
list_together xs ys o r a g h = absurd g

-- two forms behind the same constructor
pub both_forms : (x y : Item) (k : Option ℕ) (a : List ℕ) → Wire x k a → Wire y k a → (c : ℕ) × (p : List ℕ) × Form IsCapped IsStrict x (own k c) (row_of c) p × Form IsCapped IsStrict y (own k c) (row_of c) p
both_forms x y k a g h =
    let led = leads_one k a g.0 h.0 g.1 h.1 g.2 h.2 in
    (g.0, g.1, g.3, subst (λ (p : List ℕ). Form IsCapped IsStrict y (own k g.0) (row_of g.0) p) (sym led.1) (subst (λ (c : ℕ). Form IsCapped IsStrict y (own k c) (row_of c) h.1) (sym led.0) h.3))

pub lists_together : (xs ys : Items) (k : Option ℕ) (a : List ℕ) → Wire (list xs) k a → Wire (list ys) k a → Together xs ys
lists_together xs ys k a g h = let b = both_forms (list xs) (list ys) k a g h in list_together xs ys (own k b.0) (row_of b.0) b.1 b.2 b.3

-- the parts of an array with a constructor
abbrev pub ArrayParts : Width → Items → List ℕ → Type 0
ArrayParts w xs bytes =
    (d : ℕ) × (content : List ℕ) × (item_count xs ≤ 65536) × (item_count xs < room w)
    × IsSized w (field w (item_count xs) ++ d ∷ content) bytes × IsElementCode (item_count xs) d × Forms IsCapped IsStrict xs (Some d) content

-- an array without a constructor has the size 1
pub bare_sized : (w : Width) (xs : Items) (a : List ℕ) → IsBareArray w xs a → IsSized w (field w 0 ++ []) a
bare_sized one_byte xs a h = record { fits = omega arith; whole = h.whole }
bare_sized four_bytes xs a h = let w = h.width in absurd cc

pub field_length : (w : Width) (n : ℕ) → length (field w n) ≡ length (field w 0)
field_length one_byte n = refl
field_length four_bytes n = refl

not_bare : (w : Width) (n d : ℕ) (content : List ℕ) → field w 0 ++ [] ≡ field w n ++ d ∷ content → ⊥
not_bare w n d content e = omega (arith, ap length e, length-append (field w n) (d ∷ content), length-append (field w 0) [], field_length w n)

array_together : (w : Width) (xs ys : Items) (a : List ℕ) → IsBareArray w xs a ⊎ ArrayParts w xs a → IsBareArray w ys a ⊎ ArrayParts w ys a → Together xs ys
array_together w xs ys a (inl g) (inl h) = none_together xs ys g.empty h.empty
array_together w xs ys a (inl g) (inr h) =
    let z = sized_same w (field w 0 ++ []) (field w (item_count ys) ++ h.0 ∷ h.1) a a [] [] (bare_sized w xs a g) h.4 refl in
    absurd (not_bare w (item_count ys) h.0 h.1 z.0)
array_together w xs ys a (inr g) (inl h) =
    let z = sized_same w (field w 0 ++ []) (field w (item_count xs) ++ g.0 ∷ g.1) a a [] [] (bare_sized w ys a h) g.4 refl in
    absurd (not_bare w (item_count xs) g.0 g.1 z.0)
array_together w xs ys a (inr g) (inr h) =
    let z = sized_same w (field w (item_count xs) ++ g.0 ∷ g.1) (field w (item_count ys) ++ h.0 ∷ h.1) a a [] [] g.4 h.4 refl in
    let f = field_same w (item_count xs) (item_count ys) (g.0 ∷ g.1) (h.0 ∷ h.1) g.3 h.3 z.0 in
    let both : g.0 ∷ g.1 ≡ h.0 ∷ h.1 = f.1 in
    let same : h.0 ≡ g.0 = cc in
    let content : h.1 ≡ g.1 = cc in
    record {
      element = Some g.0;
      content = g.1;
      count = f.0;
      left = g.6;
      right = subst (λ (d : ℕ). Forms IsCapped IsStrict ys (Some d) g.1) same (subst (λ (s : List ℕ). Forms IsCapped IsStrict ys (Some h.0) s) content h.6);
    }

array_form_together : (xs ys : Items) (o : Option ℕ) (r : Row) (a : List ℕ) → Form IsCapped IsStrict (array xs) o r a → Form IsCapped IsStrict (array ys) o r a → Together xs ys
array_form_together xs ys o (array_of w) a g h = array_together w xs ys a g h
array_form_together xs ys o r a g h = absurd g

pub arrays_together : (xs ys : Items) (k : Option ℕ) (a : List ℕ) → Wire (array xs) k a → Wire (array ys) k a → Together xs ys
arrays_together xs ys k a g h = let b = both_forms (array xs) (array ys) k a g h in array_form_together xs ys (own k b.0) (row_of b.0) b.1 b.2 b.3

-- two descriptors and two values with the same bytes
pub record DescribedTogether (d v e w : Item) : Type 0 where
  pub first : List ℕ
  pub second : List ℕ
  pub first_left : Wire d None first
  pub first_right : Wire e None first
  pub second_left : Wire v None second
  pub second_right : Wire w None second

described_form_together : (d v e w : Item) (o : Option ℕ) (r : Row) (a : List ℕ) → Form IsCapped IsStrict (described d v) o r a → Form IsCapped IsStrict (described e w) o r a → DescribedTogether d v e w
described_form_together d v e w o described_by a g h =
    let whole : (g.0 ∷ g.1) ++ (g.2 ∷ g.3) ≡ (h.0 ∷ h.1) ++ (h.2 ∷ h.3) = sym g.4 ∙ h.4 in
    let same = wire_same d e None (g.0 ∷ g.1) (h.0 ∷ h.1) (g.2 ∷ g.3) (h.2 ∷ h.3) (g.0, g.1, refl, g.5) (h.0, h.1, refl, h.5) whole in
    let rest : g.2 ∷ g.3 ≡ h.2 ∷ h.3 = append_cancel_left (g.0 ∷ g.1) _ _ (whole ∙ ap (λ (s : List ℕ). s ++ (h.2 ∷ h.3)) (sym same.0)) in
    record {
      first = g.0 ∷ g.1;
      second = g.2 ∷ g.3;
      first_left = (g.0, g.1, refl, g.5);
      first_right = subst (λ (s : List ℕ). Wire e None s) (sym same.0) (h.0, h.1, refl, h.5);
      second_left = (g.2, g.3, refl, g.6);
      second_right = subst (λ (s : List ℕ). Wire w None s) (sym rest) (h.2, h.3, refl, h.6);
    }
described_form_together d v e w o r a g h = absurd g

pub described_together : (d v e w : Item) (k : Option ℕ) (a : List ℕ) → Wire (described d v) k a → Wire (described e w) k a → DescribedTogether d v e w
described_together d v e w k a g h = let b = both_forms (described d v) (described e w) k a g h in described_form_together d v e w (own k b.0) (row_of b.0) b.1 b.2 b.3

pub items_of_same : (xs ys : List Item) → items_of xs ≡ items_of ys → xs ≡ ys
items_of_same [] [] e = refl
items_of_same [] (y ∷ ys) e = absurd cc
items_of_same (x ∷ xs) [] e = absurd cc
items_of_same (x ∷ xs) (y ∷ ys) e =
    let head : x ≡ y = cc in
    let tail : items_of xs ≡ items_of ys = cc in
    let rest : xs ≡ ys = items_of_same xs ys tail in
    cc
