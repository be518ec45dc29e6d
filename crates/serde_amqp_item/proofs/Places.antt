-- What items add one behind the other, in a list, a map or an array.
use Rattle.std.proofs.Common.{◌≡◌, ℕ, List, [], ◌∷◌, ◌++◌, Option, Some, None, sym, ◌∙◌, ap, subst, refl, append_assoc, append-nil, ◌⊎◌, inl, inr}
use Rattle.serde_amqp_item.specs.Item.{Item, Items, no_items, more_items, items_of, pairs_of}
use Rattle.serde_amqp_item.specs.Canon.{◌>>=◌, same_constructor, canon, canon_all, canon_pairs, wide, elements, elements_of, Place, alone, first, next, placed, settled, added, added_behind}
use Rattle.serde_amqp_item.proofs.Texts.{bind_some}

abbrev pub at_place : Place → List ℕ → Option (Place × List ℕ)
at_place p a = Some (p, a)

abbrev pub content_of : Option (Place × List ℕ) → Option (List ℕ)
content_of None = None
content_of (Some r) = Some r.1

-- one item more behind others
abbrev pub and_then : Option (Place × List ℕ) → (Place → Option (Place × List ℕ)) → Option (Place × List ℕ)
and_then None f = None
and_then (Some s) f = added_behind s.1 (f s.0)

same_place : (p : Place) (o r : Option (List ℕ)) (xs : Items) → added p xs ≡ (r >>= at_place p) → ((o >>= at_place p) >>= λ q. added_behind q.1 (added q.0 xs)) ≡ ((o >>= λ a. r >>= λ b. Some (a ++ b)) >>= at_place p)
same_place p None r xs e = refl
same_place p (Some a) None xs e = ap (added_behind a) e
same_place p (Some a) (Some b) xs e = ap (added_behind a) e

-- outside of an array
pub added_alone : (xs : Items) → added alone xs ≡ (canon_all xs >>= at_place alone)
added_alone no_items = refl
added_alone (more_items x xs) = same_place alone (canon x) (canon_all xs) xs (added_alone xs)

next_behind : (c : ℕ) (w : Option (ℕ × List ℕ)) (r : Option (List ℕ)) (xs : Items) → added (next c) xs ≡ (r >>= at_place (next c)) → ((w >>= settled (next c)) >>= λ q. added_behind q.1 (added q.0 xs)) ≡ (((w >>= same_constructor c) >>= λ a. r >>= λ b. Some (a ++ b)) >>= at_place (next c))
next_behind c None r xs e = refl
next_behind c (Some p) r xs e = same_place (next c) (same_constructor c p) r xs e

-- behind the first element of an array
pub added_next : (c : ℕ) (xs : Items) → added (next c) xs ≡ (elements_of c xs >>= at_place (next c))
added_next c no_items = refl
added_next c (more_items x xs) = next_behind c (wide x) (elements_of c xs) xs (added_next c xs)

first_content : (e : ℕ × List ℕ) (r : Option (List ℕ)) (o : Option (Place × List ℕ)) → o ≡ (r >>= at_place (next e.0)) → content_of (added_behind (e.0 ∷ e.1) o) ≡ (r >>= λ b. Some (e.0 ∷ e.1 ++ b))
first_content e None o h = ap (λ (s : Option (Place × List ℕ)). content_of (added_behind (e.0 ∷ e.1) s)) h
first_content e (Some b) o h = ap (λ (s : Option (Place × List ℕ)). content_of (added_behind (e.0 ∷ e.1) s)) h

first_behind : (w : Option (ℕ × List ℕ)) (xs : Items) → content_of ((w >>= settled first) >>= λ q. added_behind q.1 (added q.0 xs)) ≡ (w >>= λ e. elements_of e.0 xs >>= λ b. Some (e.0 ∷ e.1 ++ b))
first_behind None xs = refl
first_behind (Some e) xs = first_content e (elements_of e.0 xs) (added (next e.0) xs) (added_next e.0 xs)

-- the elements of an array that isn't empty
pub added_first : (x : Item) (xs : Items) → content_of (added first (more_items x xs)) ≡ elements (more_items x xs)
added_first x xs = first_behind (wide x) xs

joined_behind : (a b : List ℕ) (o : Option (Place × List ℕ)) → added_behind a (added_behind b o) ≡ added_behind (a ++ b) o
joined_behind a b None = refl
joined_behind a b (Some r) = ap (at_place r.0) (sym (append_assoc a b r.1))

joined : (a : List ℕ) (o : Option (Place × List ℕ)) (f : Place → Option (Place × List ℕ)) → added_behind a (and_then o f) ≡ and_then (added_behind a o) f
joined a None f = refl
joined a (Some s) f = joined_behind a s.1 (f s.0)

one_more : (o : Option (Place × List ℕ)) → (o >>= λ q. added_behind q.1 (Some (q.0, []))) ≡ added_behind [] o
one_more None = refl
one_more (Some q) = ap (at_place q.0) (append-nil q.1)

more_behind : (o : Option (Place × List ℕ)) (xs : List Item) (x : Item) → ((q : Place) → added q (items_of (xs ++ x ∷ [])) ≡ and_then (added q (items_of xs)) (λ s. placed s x))
    → (o >>= λ q. added_behind q.1 (added q.0 (items_of (xs ++ x ∷ [])))) ≡ and_then (o >>= λ q. added_behind q.1 (added q.0 (items_of xs))) (λ s. placed s x)
more_behind None xs x more = refl
more_behind (Some q) xs x more = ap (added_behind q.1) (more q.0) ∙ joined q.1 (added q.0 (items_of xs)) (λ s. placed s x)

-- one item more at the end
pub added_more : (p : Place) (xs : List Item) (x : Item) → added p (items_of (xs ++ x ∷ [])) ≡ and_then (added p (items_of xs)) (λ s. placed s x)
added_more p [] x = one_more (placed p x)
added_more p (y ∷ xs) x = more_behind (placed p y) xs x (λ q. added_more q xs x)

behind_some : (a : List ℕ) (o : Option (Place × List ℕ)) (s : Place × List ℕ) → added_behind a o ≡ Some s → (t : Place × List ℕ) × (o ≡ Some t) × (t.0 ≡ s.0)
behind_some a None s e = absurd cc
behind_some a (Some t) s e = let same : (t.0, a ++ t.1) ≡ s = cc in (t, refl, ap (λ (q : Place × List ℕ). q.0) same)

-- an item that adds nothing at its place
pub added_stuck : (p : Place) (xs ys : List Item) (x : Item) (s : Place × List ℕ) → added p (items_of xs) ≡ Some s → placed s.0 x ≡ None → added p (items_of (xs ++ x ∷ ys)) ≡ None
added_stuck p [] ys x s e n =
    let same : (p, []) ≡ s = cc in
    let here : placed p x ≡ None = subst (λ (q : Place). placed q x ≡ None) (sym (ap (λ (q : Place × List ℕ). q.0) same)) n in
    ap (λ (o : Option (Place × List ℕ)). o >>= λ q. added_behind q.1 (added q.0 (items_of ys))) here
added_stuck p (y ∷ xs) ys x s e n =
    let h = bind_some (placed p y) (λ q. added_behind q.1 (added q.0 (items_of xs))) s e in
    let t = behind_some h.0.1 (added h.0.0 (items_of xs)) s h.2 in
    let rest = added_stuck h.0.0 xs ys x t.0 t.1 (subst (λ (q : Place). placed q x ≡ None) (sym t.2) n) in
    ap (λ (o : Option (Place × List ℕ)). o >>= λ q. added_behind q.1 (added q.0 (items_of (xs ++ x ∷ ys)))) h.1 ∙ ap (added_behind h.0.1) rest

-- a map's keys and values, one behind the other
pub canon_pairs_more : (ps : List (Item × Item)) (x y : Item) (a b d : List ℕ) → canon_pairs (pairs_of ps) ≡ Some a → canon x ≡ Some b → canon y ≡ Some d → canon_pairs (pairs_of (ps ++ (x, y) ∷ [])) ≡ Some (a ++ (b ++ d))
canon_pairs_more [] x y a b d e f g =
    let z : [] ≡ a = cc in
    ap (λ (o : Option (List ℕ)). o >>= λ s. canon y >>= λ t. Some (s ++ (t ++ []))) f
    ∙ (ap (λ (o : Option (List ℕ)). o >>= λ t. Some (b ++ (t ++ []))) g
    ∙ (ap (λ (s : List ℕ). Some (b ++ s)) (append-nil d) ∙ ap (λ (s : List ℕ). Some (s ++ (b ++ d))) z))
canon_pairs_more (p ∷ ps) x y a b d e f g =
    let h = bind_some (canon p.0) (λ s. canon p.1 >>= λ t. canon_pairs (pairs_of ps) >>= λ r. Some (s ++ (t ++ r))) a e in
    let k = bind_some (canon p.1) (λ t. canon_pairs (pairs_of ps) >>= λ r. Some (h.0 ++ (t ++ r))) a h.2 in
    let m = bind_some (canon_pairs (pairs_of ps)) (λ r. Some (h.0 ++ (k.0 ++ r))) a k.2 in
    let rest = canon_pairs_more ps x y m.0 b d m.1 f g in
    let whole : h.0 ++ (k.0 ++ m.0) ≡ a = cc in
    ap (λ (o : Option (List ℕ)). o >>= λ s. canon p.1 >>= λ t. canon_pairs (pairs_of (ps ++ (x, y) ∷ [])) >>= λ r. Some (s ++ (t ++ r))) h.1
    ∙ (ap (λ (o : Option (List ℕ)). o >>= λ t. canon_pairs (pairs_of (ps ++ (x, y) ∷ [])) >>= λ r. Some (h.0 ++ (t ++ r))) k.1
    ∙ (ap (λ (o : Option (List ℕ)). o >>= λ r. Some (h.0 ++ (k.0 ++ r))) rest
    ∙ (ap (λ (s : List ℕ). Some (h.0 ++ s)) (sym (append_assoc k.0 m.0 (b ++ d)))
    ∙ (ap (λ (s : List ℕ). Some s) (sym (append_assoc h.0 (k.0 ++ m.0) (b ++ d))) ∙ ap (λ (s : List ℕ). Some (s ++ (b ++ d))) whole))))

stuck_last : (o q r : Option (List ℕ)) → r ≡ None → (o >>= λ s. q >>= λ t. r >>= λ u. Some (s ++ (t ++ u))) ≡ None
stuck_last None q r e = refl
stuck_last (Some s) None r e = refl
stuck_last (Some s) (Some t) r e = ap (λ (o : Option (List ℕ)). o >>= λ u. Some (s ++ (t ++ u))) e

stuck_key : (o q r : Option (List ℕ)) → o ≡ None → (o >>= λ s. q >>= λ t. r >>= λ u. Some (s ++ (t ++ u))) ≡ None
stuck_key o q r e = ap (λ (i : Option (List ℕ)). i >>= λ s. q >>= λ t. r >>= λ u. Some (s ++ (t ++ u))) e

stuck_value : (o q r : Option (List ℕ)) → q ≡ None → (o >>= λ s. q >>= λ t. r >>= λ u. Some (s ++ (t ++ u))) ≡ None
stuck_value None q r e = refl
stuck_value (Some s) q r e = ap (λ (i : Option (List ℕ)). i >>= λ t. r >>= λ u. Some (s ++ (t ++ u))) e

pub canon_pairs_stuck : (ps qs : List (Item × Item)) (x y : Item) → (canon x ≡ None) ⊎ (canon y ≡ None) → canon_pairs (pairs_of (ps ++ (x, y) ∷ qs)) ≡ None
canon_pairs_stuck [] qs x y (inl e) = stuck_key (canon x) (canon y) (canon_pairs (pairs_of qs)) e
canon_pairs_stuck [] qs x y (inr e) = stuck_value (canon x) (canon y) (canon_pairs (pairs_of qs)) e
canon_pairs_stuck (p ∷ ps) qs x y e = stuck_last (canon p.0) (canon p.1) (canon_pairs (pairs_of (ps ++ (x, y) ∷ qs))) (canon_pairs_stuck ps qs x y e)
