-- Elements of an array, written one behind the other.
use Rattle.std.proofs.Common.{◌≡◌, ℕ, ◌<◌, List, [], ◌∷◌, ◌++◌, length, Option, Some, None, sym, ◌∙◌, ap, subst, refl, arith, append_assoc, append-nil}
use Rattle.serde_amqp_item.specs.Item.{Item, Items, array, items_of, item_count}
use Rattle.serde_amqp_item.specs.Canon.{◌>>=◌, Place, alone, first, next, placed, settled, same_constructor, wide, elements, elements_of, array_placed}
use Rattle.serde_amqp_item.proofs.Texts.{bind_some, array_is_placed, array_not_placed}
use Rattle.serde_amqp_ser.specs.Written.{Written, extended, inside, Keeps}
use Rattle.serde_amqp_ser.specs.Puts.{State, behind, serialized, counted_placed}
use Rattle.serde_amqp_ser.proofs.Grown.{extended-extended, keeps_inside}
use Rattle.serde_amqp_ser.proofs.Listed.{behind_none}

-- the state behind elements, where the content of the array begins at w
abbrev pub arrayed : Written → List Item → Option State
arrayed w [] = Some (record { written = extended w []; place = first })
arrayed w (x ∷ xs) = wide x >>= λ e. elements_of e.0 (items_of xs) >>= λ b. Some (record { written = extended w (e.0 ∷ e.1 ++ b); place = next e.0 })

some_is : (x y : State) → Some x ≡ Some y → x ≡ y
some_is x y e = cc

abbrev at_next : ℕ → Option (List ℕ) → Option (Place × List ℕ)
at_next c o = o >>= λ a. Some (next c, a)

abbrev grown : State → ℕ → List ℕ → State
grown s c a = record { written = extended s.written a; place = next c }

next_of : (o : Option (List ℕ)) (s t : State) (c : ℕ) → behind s (at_next c o) ≡ Some t → (a : List ℕ) × (o ≡ Some a) × (grown s c a ≡ t)
next_of None s t c e = absurd cc
next_of (Some a) s t c e = (a, refl, some_is _ _ e)

next_gives : (o : Option (ℕ × List ℕ)) (s t : State) (c : ℕ) → behind s (o >>= settled (next c)) ≡ Some t → (a : List ℕ) × ((o >>= same_constructor c) ≡ Some a) × (grown s c a ≡ t)
next_gives None s t c e = absurd cc
next_gives (Some p) s t c e = next_of (same_constructor c p) s t c e

next_none_of : (o : Option (List ℕ)) (c : ℕ) → at_next c o ≡ None → o ≡ None
next_none_of None c e = refl
next_none_of (Some a) c e = absurd cc

next_none : (o : Option (ℕ × List ℕ)) (c : ℕ) → (o >>= settled (next c)) ≡ None → (o >>= same_constructor c) ≡ None
next_none None c e = refl
next_none (Some p) c e = next_none_of (same_constructor c p) c e

first_gives : (o : Option (ℕ × List ℕ)) (s t : State) → behind s (o >>= settled first) ≡ Some t → (p : ℕ × List ℕ) × (o ≡ Some p) × (grown s p.0 (p.0 ∷ p.1) ≡ t)
first_gives None s t e = absurd cc
first_gives (Some p) s t e = (p, refl, some_is _ _ e)

first_none : (o : Option (ℕ × List ℕ)) → (o >>= settled first) ≡ None → o ≡ None
first_none None e = refl
first_none (Some p) e = absurd cc

stuck_behind : (o r : Option (List ℕ)) → r ≡ None → (o >>= λ s. r >>= λ t. Some (s ++ t)) ≡ None
stuck_behind None r e = refl
stuck_behind (Some s) r e = ap (λ (o : Option (List ℕ)). o >>= λ t. Some (s ++ t)) e

elements_of_more : (c : ℕ) (xs : List Item) (x : Item) (a b : List ℕ) → elements_of c (items_of xs) ≡ Some a → (wide x >>= same_constructor c) ≡ Some b → elements_of c (items_of (xs ++ x ∷ [])) ≡ Some (a ++ b)
elements_of_more c [] x a b e f =
    let z : [] ≡ a = cc in
    ap (λ (o : Option (List ℕ)). o >>= λ s. Some (s ++ [])) f ∙ (simp append-nil (ap (λ (s : List ℕ). Some (s ++ b)) z))
elements_of_more c (y ∷ xs) x a b e f =
    let h = bind_some (wide y >>= same_constructor c) (λ s. elements_of c (items_of xs) >>= λ t. Some (s ++ t)) a e in
    let t = bind_some (elements_of c (items_of xs)) (λ s. Some (h.0 ++ s)) a h.2 in
    let rest = elements_of_more c xs x t.0 b t.1 f in
    let whole : h.0 ++ t.0 ≡ a = cc in
    ap (λ (o : Option (List ℕ)). o >>= λ s. elements_of c (items_of (xs ++ x ∷ [])) >>= λ r. Some (s ++ r)) h.1
    ∙ (ap (λ (o : Option (List ℕ)). o >>= λ r. Some (h.0 ++ r)) rest
    ∙ (ap (λ (s : List ℕ). Some s) (sym (append_assoc h.0 t.0 b)) ∙ ap (λ (s : List ℕ). Some (s ++ b)) whole))

elements_of_stuck : (c : ℕ) (xs ys : List Item) (x : Item) → (wide x >>= same_constructor c) ≡ None → elements_of c (items_of (xs ++ x ∷ ys)) ≡ None
elements_of_stuck c [] ys x e = ap (λ (o : Option (List ℕ)). o >>= λ s. elements_of c (items_of ys) >>= λ r. Some (s ++ r)) e
elements_of_stuck c (y ∷ xs) ys x e = stuck_behind (wide y >>= same_constructor c) (elements_of c (items_of (xs ++ x ∷ ys))) (elements_of_stuck c xs ys x e)

-- the first element with its constructor, and the others
record Parts (w : Written) (x : Item) (xs : List Item) (s : State) : Type 0 where
  pub head : ℕ × List ℕ
  pub others : List ℕ
  pub wide_is : wide x ≡ Some head
  pub others_are : elements_of head.0 (items_of xs) ≡ Some others
  pub state : record { written = extended w (head.0 ∷ head.1 ++ others); place = next head.0 } ≡ s

parts : (w : Written) (x : Item) (xs : List Item) (s : State) → arrayed w (x ∷ xs) ≡ Some s → Parts w x xs s
parts w x xs s e =
    let h = bind_some (wide x) (λ e. elements_of e.0 (items_of xs) >>= λ b. Some (record { written = extended w (e.0 ∷ e.1 ++ b); place = next e.0 })) s e in
    let t = bind_some (elements_of h.0.0 (items_of xs)) (λ b. Some (record { written = extended w (h.0.0 ∷ h.0.1 ++ b); place = next h.0.0 })) s h.2 in
    record { head = h.0; others = t.0; wide_is = h.1; others_are = t.1; state = some_is _ _ t.2 }

pub arrayed_more : (w : Written) (xs : List Item) (x : Item) (s t : State) → arrayed w xs ≡ Some s → serialized s x ≡ Some t → arrayed w (xs ++ x ∷ []) ≡ Some t
arrayed_more w [] x s t e f =
    let at : record { written = extended w []; place = first } ≡ s = some_is _ _ e in
    let p = first_gives (wide x) (record { written = extended w []; place = first }) t (subst (λ (u : State). serialized u x ≡ Some t) (sym at) f) in
    ap (λ (o : Option (ℕ × List ℕ)). o >>= λ e. Some (record { written = extended w (e.0 ∷ e.1 ++ []); place = next e.0 })) p.1
    ∙ (ap (λ (a : List ℕ). Some (record { written = extended w (p.0.0 ∷ a); place = next p.0.0 })) (append-nil p.0.1)
    ∙ (ap (λ (v : Written). Some (record { written = v; place = next p.0.0 })) (sym (extended-extended w [] (p.0.0 ∷ p.0.1))) ∙ ap (λ (u : State). Some u) p.2))
arrayed_more w (y ∷ xs) x s t e f =
    let h = parts w y xs s e in
    let p = next_gives (wide x) (record { written = extended w (h.head.0 ∷ h.head.1 ++ h.others); place = next h.head.0 }) t h.head.0 (subst (λ (u : State). serialized u x ≡ Some t) (sym h.state) f) in
    let more = elements_of_more h.head.0 xs x h.others p.0 h.others_are p.1 in
    ap (λ (o : Option (ℕ × List ℕ)). o >>= λ e. elements_of e.0 (items_of (xs ++ x ∷ [])) >>= λ b. Some (record { written = extended w (e.0 ∷ e.1 ++ b); place = next e.0 })) h.wide_is
    ∙ (ap (λ (o : Option (List ℕ)). o >>= λ b. Some (record { written = extended w (h.head.0 ∷ h.head.1 ++ b); place = next h.head.0 })) more
    ∙ (ap (λ (a : List ℕ). Some (record { written = extended w (h.head.0 ∷ a); place = next h.head.0 })) (sym (append_assoc h.head.1 h.others p.0))
    ∙ (ap (λ (v : Written). Some (record { written = v; place = next h.head.0 })) (sym (extended-extended w (h.head.0 ∷ h.head.1 ++ h.others) p.0)) ∙ ap (λ (u : State). Some u) p.2)))

elements_stuck : (w : Written) (xs ys : List Item) (x : Item) (s : State) → arrayed w xs ≡ Some s → serialized s x ≡ None → elements (items_of (xs ++ x ∷ ys)) ≡ None
elements_stuck w [] ys x s e f =
    let at : record { written = extended w []; place = first } ≡ s = some_is _ _ e in
    let none = first_none (wide x) (behind_none (record { written = extended w []; place = first }) (wide x >>= settled first) (subst (λ (u : State). serialized u x ≡ None) (sym at) f)) in
    ap (λ (o : Option (ℕ × List ℕ)). o >>= λ e. elements_of e.0 (items_of ys) >>= λ b. Some (e.0 ∷ e.1 ++ b)) none
elements_stuck w (y ∷ xs) ys x s e f =
    let h = parts w y xs s e in
    let none = next_none (wide x) h.head.0 (behind_none (record { written = extended w (h.head.0 ∷ h.head.1 ++ h.others); place = next h.head.0 }) (wide x >>= settled (next h.head.0)) (subst (λ (u : State). serialized u x ≡ None) (sym h.state) f)) in
    ap (λ (o : Option (ℕ × List ℕ)). o >>= λ e. elements_of e.0 (items_of (xs ++ x ∷ ys)) >>= λ b. Some (e.0 ∷ e.1 ++ b)) h.wide_is
    ∙ ap (λ (o : Option (List ℕ)). o >>= λ b. Some (h.head.0 ∷ h.head.1 ++ b)) (elements_of_stuck h.head.0 xs ys x none)

-- an element that can't be written
pub arrayed_stuck : (w : Written) (xs ys : List Item) (x : Item) (s t : State) → arrayed w xs ≡ Some s → serialized s x ≡ None → serialized t (array (items_of (xs ++ x ∷ ys))) ≡ None
arrayed_stuck w xs ys x s t e f = ap (behind t) (array_not_placed t.place (items_of (xs ++ x ∷ ys)) (elements_stuck w xs ys x s e f))

-- the content of an array that has elements
pub arrayed_text : (w : Written) (xs : List Item) (s : State) → arrayed w xs ≡ Some s → 0 < length xs → (text : List ℕ) × (elements (items_of xs) ≡ Some text) × (s.written ≡ extended w text)
arrayed_text w [] s e n = absurd (omega arith)
arrayed_text w (x ∷ xs) s e n =
    let h = parts w x xs s e in (
      h.head.0 ∷ h.head.1 ++ h.others,
      ap (λ (o : Option (ℕ × List ℕ)). o >>= λ e. elements_of e.0 (items_of xs) >>= λ b. Some (e.0 ∷ e.1 ++ b)) h.wide_is ∙ ap (λ (o : Option (List ℕ)). o >>= λ b. Some (h.head.0 ∷ h.head.1 ++ b)) h.others_are,
      ap (λ (u : State). u.written) (sym h.state),
    )

-- the bytes before an array stay while its elements are written
pub arrayed_keeps : (begins : ℕ → ℕ) (w : Written) (xs : List Item) (s : State) → arrayed (inside begins w) xs ≡ Some s → Keeps w s.written
arrayed_keeps begins w [] s e = let at : record { written = extended (inside begins w) []; place = first } ≡ s = some_is _ _ e in keeps_inside begins w s.written [] (ap (λ (u : State). u.written) (sym at))
arrayed_keeps begins w (x ∷ xs) s e = let h = parts (inside begins w) x xs s e in keeps_inside begins w s.written (h.head.0 ∷ h.head.1 ++ h.others) (ap (λ (u : State). u.written) (sym h.state))

-- an array of no elements
pub bare : (begins : ℕ → ℕ) (w opened now : Written) → opened ≡ extended (inside begins w) [] → now ≡ extended opened (0x40 ∷ []) → now ≡ extended (inside begins w) (0x40 ∷ [])
bare begins w opened now e f = f ∙ (ap (λ (v : Written). extended v (0x40 ∷ [])) e ∙ extended-extended (inside begins w) [] (0x40 ∷ []))

counted : (p : Place) (n : ℕ) (content : List ℕ) → array_placed p n content ≡ counted_placed p 0xe0 0xf0 n content
counted alone n content = refl
counted first n content = refl
counted (next c) n content = refl

-- an array is written by its content
pub array_counted : (p : Place) (xs : Items) (content : List ℕ) → elements xs ≡ Some content → placed p (array xs) ≡ counted_placed p 0xe0 0xf0 (item_count xs) content
array_counted p xs content e = array_is_placed p xs content e ∙ counted p (item_count xs) content
