-- What bytes say, taken apart and put together.
use Rattle.std.proofs.Common.{◌≡◌, ℕ, List, [], ◌∷◌, ◌++◌, Some, None, sym, ◌∙◌, ap, subst, refl, append_assoc}
use Rattle.std.proofs.lemmas.List.{append_cancel_left}
use Rattle.serde_amqp_item.specs.Item.{Item, items_of}
use Rattle.serde_amqp_item.specs.Wire.{Wire, IsCapped, IsStrict}
use Rattle.serde_amqp_item.proofs.Forms.{wire_same}
use Rattle.serde_amqp_item.proofs.Texts.{all_forms}
use Rattle.amqp_link_message.specs.Payload.{Says, payload_text, IsWithinBounds, IsOfForms, EachWithoutRaw}

pub says_none : Says [] []
unfolding Says
says_none = refl

pub nothing_said : (bytes : List ℕ) → Says bytes [] → bytes ≡ []
unfolding Says
nothing_said bytes h = h

pub says_more : (x : Item) (xs : List Item) (front rest : List ℕ) → Wire x None front → Says rest xs
    → Says (front ++ rest) (x ∷ xs)
unfolding Says
says_more x xs front rest w s = (w.0, w.1, rest, ap (λ (b : List ℕ). b ++ rest) w.2, w.3, s)

pub says_one : (x : Item) (front bytes : List ℕ) → Wire x None front → bytes ≡ front ++ [] → Says bytes (x ∷ [])
says_one x front bytes w e = subst (λ (b : List ℕ). Says b (x ∷ [])) (sym e) (says_more x [] front [] w says_none)

-- the first item, and the others behind it
pub record SaysFirst (x : Item) (xs : List Item) (bytes : List ℕ) : Type 0 where
  pub front : List ℕ
  pub rest : List ℕ
  pub split : bytes ≡ front ++ rest
  pub wire : Wire x None front
  pub others : Says rest xs

pub said_first : (x : Item) (xs : List Item) (bytes : List ℕ) → Says bytes (x ∷ xs) → SaysFirst x xs bytes
unfolding Says
said_first x xs bytes h =
    record { front = h.0 ∷ h.1; rest = h.2; split = h.3; wire = (h.0, h.1, refl, h.4); others = h.5 }

pub says_append : (xs ys : List Item) (a b : List ℕ) → Says a xs → Says b ys → Says (a ++ b) (xs ++ ys)
says_append [] ys a b g h = subst (λ (c : List ℕ). Says (c ++ b) ys) (sym (nothing_said a g)) h
says_append (x ∷ xs) ys a b g h =
    let f = said_first x xs a g in
    let whole = says_more x (xs ++ ys) f.front (f.rest ++ b) f.wire (says_append xs ys f.rest b f.others h) in
    subst (λ (c : List ℕ). Says c (x ∷ xs ++ ys))
    (sym (ap (λ (c : List ℕ). c ++ b) f.split ∙ append_assoc f.front f.rest b)) whole

-- some items, and others behind them
pub record SaysBoth (xs ys : List Item) (bytes : List ℕ) : Type 0 where
  pub front : List ℕ
  pub rest : List ℕ
  pub split : bytes ≡ front ++ rest
  pub left : Says front xs
  pub right : Says rest ys

pub said_both : (xs ys : List Item) (bytes : List ℕ) → Says bytes (xs ++ ys) → SaysBoth xs ys bytes
said_both [] ys bytes h = record { front = []; rest = bytes; split = refl; left = says_none; right = h }
said_both (x ∷ xs) ys bytes h =
    let f = said_first x (xs ++ ys) bytes h in
    let b = said_both xs ys f.rest f.others in
    record {
      front = f.front ++ b.front;
      rest = b.rest;
      split = f.split ∙ (ap (λ (c : List ℕ). f.front ++ c) b.split ∙ sym (append_assoc f.front b.front b.rest));
      left = says_more x xs f.front b.front f.wire b.left;
      right = b.right;
    }

-- the joined canonical texts of items say these items
pub text_says : (xs : List Item) (text : List ℕ) → IsWithinBounds xs → IsOfForms xs → payload_text xs ≡ Some text
    → Says text xs
unfolding Says
text_says xs text w k e = all_forms IsCapped IsStrict (items_of xs) text w k e

-- two forms at the front of the same bytes, and what stands behind them
pub fronts_same : (x y : Item) (a b s t : List ℕ) → Wire x None a → Wire y None b → a ++ s ≡ b ++ t → (a ≡ b) × (s ≡ t)
fronts_same x y a b s t g h e =
    let same = (wire_same x y None a b s t g h e).0 in
    (same, append_cancel_left a s t (e ∙ ap (λ (c : List ℕ). c ++ t) (sym same)))

-- a form has a constructor
pub form_not_empty : (x : Item) (a rest : List ℕ) → Wire x None a → [] ≡ a ++ rest → ⊥
form_not_empty x a rest w e =
    let led : a ≡ w.0 ∷ w.1 = w.2 in
    let whole : [] ≡ w.0 ∷ (w.1 ++ rest) = e ∙ ap (λ (c : List ℕ). c ++ rest) led in
    absurd cc

-- bytes say at most one list of items without kept ones
pub said_once : (xs ys : List Item) (bytes : List ℕ) → EachWithoutRaw xs → EachWithoutRaw ys → Says bytes xs
    → Says bytes ys → xs ≡ ys
said_once [] [] bytes p q g h = refl
said_once [] (y ∷ ys) bytes p q g h =
    let f = said_first y ys bytes h in
    absurd (form_not_empty y f.front f.rest f.wire (sym (nothing_said bytes g) ∙ f.split))
said_once (x ∷ xs) [] bytes p q g h =
    let f = said_first x xs bytes g in
    absurd (form_not_empty x f.front f.rest f.wire (sym (nothing_said bytes h) ∙ f.split))
said_once (x ∷ xs) (y ∷ ys) bytes p q g h =
    let f = said_first x xs bytes g in
    let l = said_first y ys bytes h in
    let whole : f.front ++ f.rest ≡ l.front ++ l.rest = sym f.split ∙ l.split in
    let first : x ≡ y = (wire_same x y None f.front l.front f.rest l.rest f.wire l.wire whole).1 p.0 q.0 in
    let behind = (fronts_same x y f.front l.front f.rest l.rest f.wire l.wire whole).1 in
    let others : xs ≡ ys =
    said_once xs ys f.rest p.1 q.1 f.others (subst (λ (b : List ℕ). Says b ys) (sym behind) l.others) in
    cc
