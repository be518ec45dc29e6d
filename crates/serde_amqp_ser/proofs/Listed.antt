-- Items written one behind the other.
use Rattle.std.proofs.Common.{◌≡◌, ℕ, ◌+◌, ◌<◌, ◌^◌, List, [], ◌∷◌, ◌++◌, length, map, take, drop, get_or, Option, Some, None, Bool, true, false, cond, Result, Ok, Err, sym, ◌∙◌, ap, subst, refl, arith}
use Rattle.std.specs.Prelude.{◌≢◌, ◌==◌, nat_lt}
use Rattle.std.proofs.lemmas.List.{take_more, map-append, take-append-drop, drop_more}
use Rattle.std.specs.Int.{w32, to_be_bytes}
use Rattle.std.proofs.lemmas.Bool.Decides.{nat_tests}
use Rattle.serde_amqp_item.specs.Item.{Item, Items, list, items_of, no_items, item_count}
use Rattle.serde_amqp_item.specs.Canon.{◌>>=◌, canon, canon_all, Place, alone, first, next, placed, list_placed, counted_text}
use Rattle.serde_amqp_item.proofs.Texts.{bind_some, canon_all_more, canon_all_stuck, list_is_placed, list_not_placed}
use Rattle.serde_amqp_item.specs.declared.error.Error.{Error}
use Rattle.serde_amqp_item.specs.declared.error.Error.TheVariants.{Memory, InvalidLength}
use Rattle.serde_amqp_ser.specs.Written.{Written, capped, extended, inside, Keeps}
use Rattle.serde_amqp_ser.specs.Puts.{State, behind, serialized, listed, counted_placed, OnlyWhere}
use Rattle.serde_amqp_ser.proofs.Grown.{extended-extended, keeps_inside, not_beyond}

-- a refusal that stays one
pub only_where : {X Y Z : Type 0} (r : Result X Error) (o : Option Y) (q : Option Z) → (o ≡ None → q ≡ None) → OnlyWhere r o → OnlyWhere r q
only_where (Ok x) o q f h = tt
only_where (Err e) o q f h = λ n. f (h n)

-- a sink's refusal to close content that began there
pub closing : {Y : Type 0} (e : Error) (begins : ℕ → ℕ) (w now : Written) (content : List ℕ) (start : ℕ) (o : Option Y) → (e ≢ Memory → (e ≡ InvalidLength) × (now.size < capped (begins start))) → now ≡ extended (inside begins w) content → w.size ≡ start → e ≢ Memory → o ≡ None
closing e begins w now content start o f n s = λ d. absurd (not_beyond begins w now content start n s (f d).1)

some_is : (x y : State) → Some x ≡ Some y → x ≡ y
some_is x y e = cc

gives_of : (o : Option (List ℕ)) (s t : State) → behind s (o >>= λ a. Some (alone, a)) ≡ Some t → (text : List ℕ) × (o ≡ Some text) × (t.written ≡ extended s.written text)
gives_of None s t e = absurd cc
gives_of (Some text) s t e =
    let same : record { written = extended s.written text; place = alone } ≡ t = some_is _ _ e in
    (text, refl, ap (λ (r : State). r.written) (sym same))

-- what a value adds outside of arrays is its canonical text
pub alone_gives : (x : Item) (s t : State) → s.place ≡ alone → serialized s x ≡ Some t → (text : List ℕ) × (canon x ≡ Some text) × (t.written ≡ extended s.written text)
alone_gives x s t p e = gives_of (canon x) s t (subst (λ (q : Place). behind s (placed q x) ≡ Some t) p e)

stays_of : (o : Option (List ℕ)) (s t : State) → behind s (o >>= λ a. Some (alone, a)) ≡ Some t → t.place ≡ alone
stays_of None s t e = absurd cc
stays_of (Some text) s t e =
    let same : record { written = extended s.written text; place = alone } ≡ t = some_is _ _ e in
    ap (λ (r : State). r.place) (sym same)

-- and the place stays
pub alone_stays : (x : Item) (s t : State) → s.place ≡ alone → serialized s x ≡ Some t → t.place ≡ alone
alone_stays x s t p e = stays_of (canon x) s t (subst (λ (q : Place). behind s (placed q x) ≡ Some t) p e)

none_of : (o : Option (List ℕ)) (s : State) → behind s (o >>= λ a. Some (alone, a)) ≡ None → o ≡ None
none_of None s e = refl
none_of (Some text) s e = absurd cc

pub alone_none_of : (x : Item) (s : State) → s.place ≡ alone → serialized s x ≡ None → canon x ≡ None
alone_none_of x s p e = none_of (canon x) s (subst (λ (q : Place). behind s (placed q x) ≡ None) p e)

-- what was listed, with its text
pub listed_text : (w now : Written) (xs : Items) → listed w xs ≡ Some now → (text : List ℕ) × (canon_all xs ≡ Some text) × (now ≡ extended w text)
listed_text w now xs e =
    let b = bind_some (canon_all xs) (λ s. Some (extended w s)) now e in
    let same : extended w b.0 ≡ now = cc in
    (b.0, b.1, sym same)

pub listed_none : (w : Written) → w ≡ extended w [] → listed w no_items ≡ Some w
listed_none w e = ap (λ (v : Written). Some v) (sym e)

pub listed_more : (w now : Written) (xs : List Item) (x : Item) (s t : State) → listed w (items_of xs) ≡ Some now → s.written ≡ now → s.place ≡ alone → serialized s x ≡ Some t → listed w (items_of (xs ++ x ∷ [])) ≡ Some t.written
listed_more w now xs x s t e same p f =
    let a = listed_text w now (items_of xs) e in
    let b = alone_gives x s t p f in
    let text = canon_all_more xs x a.0 b.0 a.1 b.1 in
    let there : extended w (a.0 ++ b.0) ≡ t.written = sym (extended-extended w a.0 b.0) ∙ (ap (λ (v : Written). extended v b.0) (sym (same ∙ a.2)) ∙ sym b.2) in
    ap (λ (o : Option (List ℕ)). o >>= λ b. Some (extended w b)) text ∙ ap (λ (v : Written). Some v) there

pub listed_stuck : (xs ys : List Item) (x : Item) (s t : State) → s.place ≡ alone → serialized s x ≡ None → serialized t (list (items_of (xs ++ x ∷ ys))) ≡ None
listed_stuck xs ys x s t p e = ap (behind t) (list_not_placed t.place (items_of (xs ++ x ∷ ys)) (canon_all_stuck xs ys x (alone_none_of x s p e)))

pub item_count-items_of : (xs : List Item) → item_count (items_of xs) ≡ length xs
item_count-items_of [] = refl
item_count-items_of (x ∷ xs) = omega (arith, item_count-items_of xs)

pub map_take_more : {X : Type 0} (f : X → Item) (xs : List X) (i : ℕ) (x : X) → i < length xs → x ≡ get_or xs i x → map f (take (i + 1) xs) ≡ map f (take i xs) ++ f x ∷ []
map_take_more {X = X} f xs i x lt is =
    ap (λ (ys : List X). map f ys) (take_more xs i x lt) ∙ (map-append f (take i xs) (get_or xs i x ∷ []) ∙ ap (λ (y : X). map f (take i xs) ++ f y ∷ []) (sym is))

pub map_split : {X : Type 0} (f : X → Item) (xs : List X) (i : ℕ) (x : X) → i < length xs → x ≡ get_or xs i x → map f xs ≡ map f (take i xs) ++ f x ∷ map f (drop (i + 1) xs)
map_split {X = X} f xs i x lt is =
    ap (λ (ys : List X). map f ys) (sym (take-append-drop i xs)) ∙ (map-append f (take i xs) (drop i xs)
    ∙ (ap (λ (ys : List X). map f (take i xs) ++ map f ys) (drop_more xs i x lt) ∙ ap (λ (y : X). map f (take i xs) ++ f y ∷ map f (drop (i + 1) xs)) (sym is)))

-- where nothing is added
pub behind_none : (s : State) (o : Option (Place × List ℕ)) → behind s o ≡ None → o ≡ None
behind_none s None e = refl
behind_none s (Some p) e = absurd cc

abbrev at_alone : Option (List ℕ) → Option (Place × List ℕ)
at_alone o = o >>= λ a. Some (alone, a)

abbrev if_long : ℕ → List ℕ → Option (List ℕ)
if_long n text = cond (nat_lt (length text + 4) (2 ^ 32)) (Some (0xd0 ∷ (to_be_bytes w32 (length text + 4) ++ to_be_bytes w32 n ++ text))) None

long_stuck : (b : Bool) (n : ℕ) (text : List ℕ) → (length text == 0) ≡ b → at_alone (counted_text 0xc0 0xd0 n text) ≡ None → at_alone (cond b (Some (0x45 ∷ [])) (counted_text 0xc0 0xd0 n text)) ≡ None
long_stuck true n text t e =
    let short : nat_lt (length text) 255 ≡ true = grind (arith, nat_tests) in
    let there : at_alone (Some (0xc0 ∷ (length text + 1) ∷ n ∷ text)) ≡ None = ap (λ (b : Bool). at_alone (cond b (Some (0xc0 ∷ (length text + 1) ∷ n ∷ text)) (if_long n text))) (sym short) ∙ e in
    absurd cc
long_stuck false n text t e = e

counted_stuck : (p : Place) (n : ℕ) (text : List ℕ) → counted_placed p 0xc0 0xd0 n text ≡ None → list_placed p n text ≡ None
counted_stuck alone n text e = long_stuck (length text == 0) n text refl e
counted_stuck first n text e = e
counted_stuck (next c) n text e = e

-- a list that can't be closed
pub list_stuck : (w : Written) (p : Place) (xs : Items) (text : List ℕ) → canon_all xs ≡ Some text → behind (record { written = w; place = p }) (counted_placed p 0xc0 0xd0 (item_count xs) text) ≡ None → serialized (record { written = w; place = p }) (list xs) ≡ None
list_stuck w p xs text t e =
    ap (behind (record { written = w; place = p })) (list_is_placed p xs text t ∙ counted_stuck p (item_count xs) text (behind_none (record { written = w; place = p }) _ e))

-- the bytes before a list stay while its items are written
pub listed_keeps : (begins : ℕ → ℕ) (w now : Written) (xs : Items) → listed (inside begins w) xs ≡ Some now → Keeps w now
listed_keeps begins w now xs e = let t = listed_text (inside begins w) now xs e in keeps_inside begins w now t.0 t.2
