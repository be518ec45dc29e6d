-- Items written one behind the other.
use Rattle.std.proofs.Common.{◌≡◌, ℕ, List, [], ◌∷◌, ◌++◌, Option, Some, None, sym, ◌∙◌, ap, refl, append_assoc, append-nil, ◌⊎◌, inl, inr}
use Rattle.serde_amqp_item.specs.Item.{Item, items_of}
use Rattle.serde_amqp_item.specs.Canon.{◌>>=◌, canon, canon_all, alone}
use Rattle.serde_amqp_item.proofs.Texts.{bind_some}
use Rattle.serde_amqp_ser.specs.Written.{Written, extended}
use Rattle.serde_amqp_ser.specs.Puts.{State, listed, serialized}
use Rattle.serde_amqp_ser.proofs.Grown.{extended-extended}
use Rattle.serde_amqp_ser.proofs.Listed.{listed_text, listed_more, alone_gives, alone_none_of}
pub use Rattle.serde_amqp_ser.proofs.Listed.{alone_stays}
use Rattle.amqp_link_message.specs.Payload.{payload_text}

-- joined texts
texts_join : (xs ys : List Item) (a b : List ℕ) → canon_all (items_of xs) ≡ Some a → canon_all (items_of ys) ≡ Some b → canon_all (items_of (xs ++ ys)) ≡ Some (a ++ b)
texts_join [] ys a b e f = let z : [] ≡ a = cc in f ∙ ap (λ (s : List ℕ). Some (s ++ b)) z
texts_join (x ∷ xs) ys a b e f =
    let h = bind_some (canon x) (λ s. canon_all (items_of xs) >>= λ t. Some (s ++ t)) a e in
    let t = bind_some (canon_all (items_of xs)) (λ s. Some (h.0 ++ s)) a h.2 in
    let whole : h.0 ++ t.0 ≡ a = cc in
    ap (λ (o : Option (List ℕ)). o >>= λ s. canon_all (items_of (xs ++ ys)) >>= λ r. Some (s ++ r)) h.1
    ∙ (ap (λ (o : Option (List ℕ)). o >>= λ r. Some (h.0 ++ r)) (texts_join xs ys t.0 b t.1 f)
    ∙ (ap (λ (s : List ℕ). Some s) (sym (append_assoc h.0 t.0 b)) ∙ ap (λ (s : List ℕ). Some (s ++ b)) whole))

stuck_bind : (o r : Option (List ℕ)) → r ≡ None → (o >>= λ s. r >>= λ t. Some (s ++ t)) ≡ None
stuck_bind None r e = refl
stuck_bind (Some s) r e = ap (λ (q : Option (List ℕ)). q >>= λ t. Some (s ++ t)) e

stuck_first : (o r : Option (List ℕ)) → o ≡ None → (o >>= λ s. r >>= λ t. Some (s ++ t)) ≡ None
stuck_first o r e = ap (λ (q : Option (List ℕ)). q >>= λ s. r >>= λ t. Some (s ++ t)) e

either_stuck : (o r : Option (List ℕ)) → (o >>= λ s. r >>= λ t. Some (s ++ t)) ≡ None → (o ≡ None) ⊎ (r ≡ None)
either_stuck None r e = inl refl
either_stuck (Some s) None e = inr refl
either_stuck (Some s) (Some t) e = absurd cc

-- where the first items or the others have no text, all have none
texts_stuck_left : (xs ys : List Item) → canon_all (items_of xs) ≡ None → canon_all (items_of (xs ++ ys)) ≡ None
texts_stuck_left [] ys e = absurd cc
texts_stuck_left (x ∷ xs) ys e =
    elim (either_stuck (canon x) (canon_all (items_of xs)) e) [
      | inl h ↦ stuck_first (canon x) (canon_all (items_of (xs ++ ys))) h
      | inr h ↦ stuck_bind (canon x) (canon_all (items_of (xs ++ ys))) (texts_stuck_left xs ys h)
    ]

texts_stuck_right : (xs ys : List Item) → canon_all (items_of ys) ≡ None → canon_all (items_of (xs ++ ys)) ≡ None
texts_stuck_right [] ys e = e
texts_stuck_right (x ∷ xs) ys e = stuck_bind (canon x) (canon_all (items_of (xs ++ ys))) (texts_stuck_right xs ys e)

no_text : (o : Option (List ℕ)) (w : Written) → (o >>= λ r. Some (extended w r)) ≡ None → o ≡ None
no_text None w e = refl
no_text (Some r) w e = absurd cc

-- what a sink holds behind the first items and then the others
pub listed_both : (w m n : Written) (xs ys : List Item) → listed w (items_of xs) ≡ Some m → listed m (items_of ys) ≡ Some n → listed w (items_of (xs ++ ys)) ≡ Some n
listed_both w m n xs ys e f =
    let a = listed_text w m (items_of xs) e in
    let b = listed_text m n (items_of ys) f in
    let there : extended w (a.0 ++ b.0) ≡ n = sym (extended-extended w a.0 b.0) ∙ (ap (λ (v : Written). extended v b.0) (sym a.2) ∙ sym b.2) in
    ap (λ (o : Option (List ℕ)). o >>= λ t. Some (extended w t)) (texts_join xs ys a.0 b.0 a.1 b.1) ∙ ap (λ (v : Written). Some v) there

pub listed_left_stuck : (w : Written) (xs ys : List Item) → listed w (items_of xs) ≡ None → listed w (items_of (xs ++ ys)) ≡ None
listed_left_stuck w xs ys e = ap (λ (o : Option (List ℕ)). o >>= λ t. Some (extended w t)) (texts_stuck_left xs ys (no_text (canon_all (items_of xs)) w e))

pub listed_right_stuck : (w m : Written) (xs ys : List Item) → listed m (items_of ys) ≡ None → listed w (items_of (xs ++ ys)) ≡ None
listed_right_stuck w m xs ys e = ap (λ (o : Option (List ℕ)). o >>= λ t. Some (extended w t)) (texts_stuck_right xs ys (no_text (canon_all (items_of ys)) m e))

-- one item
pub listed_one : (x : Item) (s t : State) → s.place ≡ alone → serialized s x ≡ Some t → listed s.written (items_of (x ∷ [])) ≡ Some t.written
listed_one x s t p e =
    let a = alone_gives x s t p e in
    let whole : canon_all (items_of (x ∷ [])) ≡ Some a.0 = ap (λ (o : Option (List ℕ)). o >>= λ u. Some (u ++ [])) a.1 ∙ ap (λ (u : List ℕ). Some u) (append-nil a.0) in
    ap (λ (o : Option (List ℕ)). o >>= λ b. Some (extended s.written b)) whole ∙ ap (λ (v : Written). Some v) (sym a.2)

pub listed_one_stuck : (x : Item) (s : State) → s.place ≡ alone → serialized s x ≡ None → listed s.written (items_of (x ∷ [])) ≡ None
listed_one_stuck x s p e = ap (λ (o : Option (List ℕ)). (o >>= λ u. Some (u ++ [])) >>= λ b. Some (extended s.written b)) (alone_none_of x s p e)

-- no items
pub listed_nothing : (w : Written) → extended w [] ≡ w → listed w (items_of []) ≡ Some w
listed_nothing w e = ap (λ (v : Written). Some v) e

pub listed_here : (w : Written) (xs ys : List Item) (n : Written) → xs ≡ ys → listed w (items_of ys) ≡ Some n → listed w (items_of xs) ≡ Some n
listed_here w xs ys n e f = ap (λ (l : List Item). listed w (items_of l)) e ∙ f

-- items behind others, one more at a time
pub listed_then : (w now : Written) (xs : List Item) (x : Item) (s t : State) → listed w (items_of xs) ≡ Some now → s.written ≡ now → s.place ≡ alone → serialized s x ≡ Some t → listed w (items_of (xs ++ x ∷ [])) ≡ Some t.written
listed_then w now xs x s t e same p f = listed_more w now xs x s t e same p f

pub listed_middle_stuck : (w now : Written) (xs ys : List Item) (x : Item) (s : State) → s.place ≡ alone → serialized s x ≡ None → listed w (items_of (xs ++ x ∷ ys)) ≡ None
listed_middle_stuck w now xs ys x s p e =
    let first : canon_all (items_of (x ∷ ys)) ≡ None = ap (λ (o : Option (List ℕ)). o >>= λ u. canon_all (items_of ys) >>= λ v. Some (u ++ v)) (alone_none_of x s p e) in
    ap (λ (o : Option (List ℕ)). o >>= λ t. Some (extended w t)) (texts_stuck_right xs (x ∷ ys) first)

-- an item, and others behind it
pub listed_first : (w n : Written) (x : Item) (ys : List Item) (s t : State) → s.place ≡ alone → s.written ≡ w → serialized s x ≡ Some t → listed t.written (items_of ys) ≡ Some n → listed w (items_of (x ∷ ys)) ≡ Some n
listed_first w n x ys s t p q e f = listed_both w t.written n (x ∷ []) ys (ap (λ (v : Written). listed v (items_of (x ∷ []))) (sym q) ∙ listed_one x s t p e) f

pub listed_first_stuck : (x : Item) (ys : List Item) (s : State) → s.place ≡ alone → serialized s x ≡ None → listed s.written (items_of (x ∷ ys)) ≡ None
listed_first_stuck x ys s p e = listed_left_stuck s.written (x ∷ []) ys (listed_one_stuck x s p e)

pub listed_others_stuck : (w m : Written) (x : Item) (ys : List Item) → listed m (items_of ys) ≡ None → listed w (items_of (x ∷ ys)) ≡ None
listed_others_stuck w m x ys e = listed_right_stuck w m (x ∷ []) ys e

pub ruleset several = (listed_first, listed_first_stuck, listed_others_stuck, alone_stays)

pub ruleset listing = (listed_both, listed_left_stuck, listed_right_stuck, listed_one, listed_one_stuck, listed_nothing, alone_stays)

-- items that can't be listed have no text
pub no_payload : (w : Written) (xs : List Item) → listed w (items_of xs) ≡ None → payload_text xs ≡ None
no_payload w xs e = no_text (canon_all (items_of xs)) w e

pub ruleset texts = (no_payload)
