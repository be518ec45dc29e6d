-- What stands behind a size is as long as it says.
use Rattle.std.proofs.Common.{◌≡◌, ℕ, ◌*◌, ◌<◌, inl, inr, List, [], ◌∷◌, ◌++◌, length, Option, Some, None, sym, ◌∙◌, ap, subst, refl, append-nil}
use Rattle.serde_amqp_item.specs.Item.{Item, scalar, raw, list, map, array, described, Items, item_count, pair_count}
use Rattle.serde_amqp_item.specs.Wire.{Width, room, field, Row, fixed, variable, empty_list, list_of, map_of, array_of, described_by, row_of, IsSized, Form, Wire, IsCapped, IsStrict, NoRaw, AnyCount, HasSize}
use Rattle.serde_amqp_item.proofs.Forms.{field_same, leads_same, bare_sized, no_raw_form, strict_of}

array_sized : (w : Width) (xs : Items) (o : Option ℕ) (a : List ℕ) → Form AnyCount NoRaw (array xs) o (array_of w) a → (content : List ℕ) × IsSized w content a
array_sized w xs o a (inl h) = (0 ∷ [], bare_sized w xs a h)
array_sized w xs o a (inr h) = (field w (item_count xs) ++ h.0 ∷ h.1, h.4)

pub form_sized : (w : Width) (x : Item) (o : Option ℕ) (r : Row) (a : List ℕ) → HasSize w r → Form AnyCount NoRaw x o r a → (content : List ℕ) × IsSized w content a
form_sized w (raw text) o r a s h = absurd (no_raw_form AnyCount text o r a h)
form_sized w (scalar s) o (variable v read) a e h = (h.0, subst (λ (u : Width). IsSized u h.0 a) e h.1)
form_sized w (scalar s) o (fixed n read) a e h = absurd e
form_sized w (scalar s) o r a e h = absurd h
form_sized w (list xs) o (list_of v) a e h = (field v (item_count xs) ++ h.0, subst (λ (u : Width). IsSized u (field v (item_count xs) ++ h.0) a) e h.3)
form_sized w (list xs) o empty_list a e h = absurd e
form_sized w (list xs) o r a e h = absurd h
form_sized w (map ps) o (map_of v) a e h = (field v (2 * pair_count ps) ++ h.0, subst (λ (u : Width). IsSized u (field v (2 * pair_count ps) ++ h.0) a) e h.3)
form_sized w (map ps) o r a e h = absurd h
form_sized w (array xs) o (array_of v) a e h = let z = array_sized v xs o a h in (z.0, subst (λ (u : Width). IsSized u z.0 a) e z.1)
form_sized w (array xs) o r a e h = absurd h
form_sized w (described d v) o described_by a e h = absurd e
form_sized w (described d v) o r a e h = absurd h

behind : (a b : List ℕ) → a ++ [] ≡ b ++ [] → a ≡ b
behind a b e = sym (append-nil a) ∙ (e ∙ append-nil b)

pub wire_sized : (w : Width) (x : Item) (c n : ℕ) (rest : List ℕ) → HasSize w (row_of c) → n < room w → Wire x None (c ∷ (field w n ++ rest)) → length rest ≡ n
wire_sized w x c n rest s l h =
    let led = leads_same None (c ∷ (field w n ++ rest)) (c ∷ (field w n ++ rest)) c h.0 (field w n ++ rest) h.1 [] [] refl h.2 refl in
    let form : Form IsCapped IsStrict x (Some c) (row_of c) h.1 = subst (λ (i : ℕ). Form IsCapped IsStrict x (Some i) (row_of i) h.1) (sym led.0) h.3 in
    let strict = strict_of IsCapped x (Some c) (row_of c) h.1 refl form in
    let sized = form_sized w strict.item (Some c) (row_of c) h.1 s strict.form in
    let whole : field w n ++ rest ≡ field w (length sized.0) ++ sized.0 = behind (field w n ++ rest) h.1 led.1 ∙ sized.1.whole in
    let same = field_same w n (length sized.0) rest sized.0 l sized.1.fits whole in
    ap length same.1 ∙ sym same.0
