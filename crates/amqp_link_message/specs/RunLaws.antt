-- Sections of one type, one behind the other.
use Rattle.std.proofs.Common.{◌≡◌, ℕ, ◌<◌, List, [], ◌∷◌, ◌++◌, length, map, Option, Some, None, sym, ◌∙◌, ap, subst}
use Rattle.std.proofs.Common.{refl, arith, append_assoc, append-nil, length-append}
use Rattle.std.proofs.lemmas.List.{map-append}
use Rattle.serde_amqp_item.specs.Item.{Item}
use Rattle.serde_amqp_item.specs.Canon.{◌>>=◌}
use Rattle.serde_amqp_item.proofs.Texts.{bind_some}
use Rattle.amqp_link_message.specs.Payload.{Says}
use Rattle.amqp_link_message.specs.Parts.{any_number, one_or_more, ReadsParts, NoParts}
use Rattle.amqp_link_message.specs.Sections.{TakesCode}
use Rattle.amqp_link_message.specs.Front.{HasFront, HasNoFront, FrontTaken, Run, AllTaken}
use Rattle.amqp_link_message.specs.SayingLaws.{says_none, nothing_said, says_more, says_one, said_first, says_append}
use Rattle.amqp_link_message.specs.SayingLaws.{fronts_same}
use Rattle.amqp_link_message.specs.SectionLaws.{code_same}
use Rattle.amqp_link_message.specs.PartLaws.{Begins, not_behind, with_first, first_part, without_first, some_none}

abbrev Parts : Type 0
Parts = List (List Item → Option (List Item))

pub front_there : {S : Type 0} (take : Item → Option Item) (item : S → Item) (bytes rest : List ℕ) (o : Option S)
    (s : S) → o ≡ Some s → FrontTaken take item bytes o rest → HasFront take bytes rest (item s)
front_there {S = S} take item bytes rest o s e f = subst (λ (p : Option S). FrontTaken take item bytes p rest) e f

pub front_absent : {S : Type 0} (take : Item → Option Item) (item : S → Item) (bytes rest : List ℕ) (o : Option S)
    → o ≡ None → FrontTaken take item bytes o rest → HasNoFront take bytes
front_absent {S = S} take item bytes rest o e f =
    let g : FrontTaken take item bytes None rest = subst (λ (p : Option S). FrontTaken take item bytes p rest) e f in
    g.1

pub front_shorter : (take : Item → Option Item) (bytes rest : List ℕ) (y : Item) → HasFront take bytes rest y
    → length rest < length bytes
front_shorter take bytes rest y h =
    let led : h.front ≡ h.wire.0 ∷ h.wire.1 = h.wire.2 in
    omega (arith, ap length h.split, length-append h.front rest, ap length led)

pub run_none : (take : Item → Option Item) (bytes : List ℕ) → Run take bytes bytes []
run_none take bytes = record { items = []; front = []; said = says_none; split = refl; taken = refl }

taken_more : (take : Item → Option Item) (xs ys : List Item) (x y : Item) → any_number take xs ≡ Some ys
    → take x ≡ Some y → any_number take (xs ++ x ∷ []) ≡ Some (ys ++ y ∷ [])
taken_more take [] ys x y e f =
    let z : [] ≡ ys = cc in
    ap (λ (o : Option Item). o >>= λ u. Some (u ∷ [])) f ∙ ap (λ (s : List Item). Some (s ++ y ∷ [])) z
taken_more take (w ∷ xs) ys x y e f =
    let h = bind_some (take w) (λ u. any_number take xs >>= λ us. Some (u ∷ us)) ys e in
    let t = bind_some (any_number take xs) (λ us. Some (h.0 ∷ us)) ys h.2 in
    let whole : h.0 ∷ t.0 ≡ ys = cc in
    ap (λ (o : Option Item). o >>= λ u. any_number take (xs ++ x ∷ []) >>= λ us. Some (u ∷ us)) h.1
    ∙ (ap (λ (o : Option (List Item)). o >>= λ us. Some (h.0 ∷ us)) (taken_more take xs t.0 x y t.1 f) ∙ ap
    (λ (s : List Item). Some (s ++ y ∷ [])) whole)

pub run_more : (take : Item → Option Item) (bytes rest behind : List ℕ) (ys : List Item) (y : Item)
    → Run take bytes rest ys → HasFront take rest behind y → Run take bytes behind (ys ++ y ∷ [])
run_more take bytes rest behind ys y r h = record {
  items = r.items ++ h.item ∷ [];
  front = r.front ++ h.front;
  said =
      says_append r.items (h.item ∷ []) r.front h.front r.said
      (says_one h.item h.front h.front h.wire (sym (append-nil h.front)));
  split = r.split ∙ (ap (λ (b : List ℕ). r.front ++ b) h.split ∙ sym (append_assoc r.front h.front behind));
  taken = taken_more take r.items ys h.item y r.taken h.taken;
}

pub sections_none : {S : Type 0} (take : Item → Option Item) (item : S → Item) (bytes : List ℕ)
    → Run take bytes bytes (map item [])
sections_none take item bytes = run_none take bytes

pub sections_more : {S : Type 0} (take : Item → Option Item) (item : S → Item) (bytes rest behind : List ℕ)
    (sections : List S) (s : S) → Run take bytes rest (map item sections) → HasFront take rest behind (item s)
    → Run take bytes behind (map item (sections ++ s ∷ []))
sections_more take item bytes rest behind sections s r h =
    subst (λ (ys : List Item). Run take bytes behind ys) (sym (map-append item sections (s ∷ [])))
    (run_more take bytes rest behind (map item sections) (item s) r h)

-- the sections, and the parts behind them
pub more_read : (take : Item → Option Item) (takes : List (List Item → Option (List Item))) (bytes rest : List ℕ)
    (ys : List Item) (parts : List (List Item)) → Run take bytes rest ys → ReadsParts takes rest parts
    → ReadsParts (any_number take ∷ takes) bytes (ys ∷ parts)
more_read take takes bytes rest ys parts r p =
    with_first (any_number take) takes bytes r.front rest r.items ys parts r.split r.said r.taken p

pub all_read : {S : Type 0} (take : Item → Option Item) (takes : List (List Item → Option (List Item)))
    (item : S → Item) (bytes rest : List ℕ) (sections : List S) (parts : List (List Item))
    → AllTaken take item bytes rest sections → ReadsParts takes rest parts
    → ReadsParts (any_number take ∷ takes) bytes (map item sections ∷ parts)
all_read take takes item bytes rest sections parts a p =
    more_read take takes bytes rest (map item sections) parts a.run p

-- what is taken of the first item and of the others
pub first_taken : (take : Item → Option Item) (x : Item) (xs ys : List Item) → any_number take (x ∷ xs) ≡ Some ys
    → (y : Item) × (us : List Item) × (take x ≡ Some y) × (any_number take xs ≡ Some us)
first_taken take x xs ys e =
    let h = bind_some (take x) (λ u. any_number take xs >>= λ us. Some (u ∷ us)) ys e in
    let t = bind_some (any_number take xs) (λ us. Some (h.0 ∷ us)) ys h.2 in
    (h.0, t.0, h.1, t.1)

all_none_by : (take : Item → Option Item) (takes : Parts) (code least : ℕ) (xs zs ys us : List Item)
    (bytes front rest other behind : List ℕ) (parts : List (List Item)) → TakesCode take code → code < least
    → Begins least takes
    → Says front xs → bytes ≡ front ++ rest → any_number take xs ≡ Some ys → HasNoFront take rest → NoParts takes rest
    → Says other zs → bytes ≡ other ++ behind → any_number take zs ≡ Some us → ReadsParts takes behind parts → ⊥
all_none_by take takes code least [] [] ys us bytes front rest other behind parts c l b s e t n m g f k r =
    let left : bytes ≡ rest = e ∙ ap (λ (a : List ℕ). a ++ rest) (nothing_said front s) in
    let right : bytes ≡ behind = f ∙ ap (λ (a : List ℕ). a ++ behind) (nothing_said other g) in
    m.none parts (subst (λ (a : List ℕ). ReadsParts takes a parts) (sym right ∙ left) r)
all_none_by take takes code least [] (z ∷ zs) ys us bytes front rest other behind parts c l b s e t n m g f k r =
    let left : bytes ≡ rest = e ∙ ap (λ (a : List ℕ). a ++ rest) (nothing_said front s) in
    let o = said_first z zs other g in
    let y = first_taken take z zs us k in
    some_none y.0 (take z) y.2 (n.none z o.front (o.rest ++ behind) o.wire
    (sym left ∙ (f ∙ (ap (λ (a : List ℕ). a ++ behind) o.split ∙ append_assoc o.front o.rest behind))))
all_none_by take takes code least (x ∷ xs) [] ys us bytes front rest other behind parts c l b s e t n m g f k r =
    let right : behind ≡ bytes = sym (f ∙ ap (λ (a : List ℕ). a ++ behind) (nothing_said other g)) in
    let o = said_first x xs front s in
    let y = first_taken take x xs ys t in
    let h : HasFront take bytes (o.rest ++ rest) y.0 =
    record {
      item = x;
      front = o.front;
      wire = o.wire;
      split = e ∙ (ap (λ (a : List ℕ). a ++ rest) o.split ∙ append_assoc o.front o.rest rest);
      taken = y.2;
    } in
    not_behind take code least bytes (o.rest ++ rest) y.0 c l h
    (b bytes parts (subst (λ (a : List ℕ). ReadsParts takes a parts) right r))
all_none_by take takes code least (x ∷ xs) (z ∷ zs) ys us bytes front rest other behind parts c l b s e t n m g f k r =
    let o = said_first x xs front s in
    let p = said_first z zs other g in
    let left : bytes ≡ o.front ++ (o.rest ++ rest) =
    e ∙ (ap (λ (a : List ℕ). a ++ rest) o.split ∙ append_assoc o.front o.rest rest) in
    let right : bytes ≡ p.front ++ (p.rest ++ behind) =
    f ∙ (ap (λ (a : List ℕ). a ++ behind) p.split ∙ append_assoc p.front p.rest behind) in
    let same = fronts_same x z o.front p.front (o.rest ++ rest) (p.rest ++ behind) o.wire p.wire (sym left ∙ right) in
    let u = first_taken take x xs ys t in
    let v = first_taken take z zs us k in
    all_none_by take takes code least xs zs u.1 v.1 (o.rest ++ rest) o.rest rest p.rest behind parts c l b o.others refl
    u.3 n m p.others same.1 v.3 r

pub all_none : {S : Type 0} (take : Item → Option Item) (takes : List (List Item → Option (List Item)))
    (item : S → Item) (code least : ℕ) (bytes rest : List ℕ) (sections : List S) → TakesCode take code → code < least
    → Begins least takes → AllTaken take item bytes rest sections → NoParts takes rest
    → NoParts (any_number take ∷ takes) bytes
all_none take takes item code least bytes rest sections c l b a m =
    without_first (any_number take) takes bytes (λ ys parts p.
    all_none_by take takes code least a.run.items p.part (map item sections) ys bytes a.run.front rest p.front
    p.rest parts c l b a.run.said a.run.split a.run.taken a.stop m p.said p.split p.taken p.others)

-- the first section, and any number behind it
pub first_read : (take : Item → Option Item) (takes : List (List Item → Option (List Item))) (bytes rest : List ℕ)
    (y : Item) (ys : List Item) (parts : List (List Item)) → HasFront take bytes rest y
    → ReadsParts (any_number take ∷ takes) rest (ys ∷ parts)
    → ReadsParts (one_or_more take ∷ takes) bytes ((y ∷ ys) ∷ parts)
first_read take takes bytes rest y ys parts h r =
    let p = first_part (any_number take) takes rest ys parts r in
    let both : any_number take (h.item ∷ p.part) ≡ Some (y ∷ ys) =
    ap (λ (o : Option Item). o >>= λ u. any_number take p.part >>= λ us. Some (u ∷ us)) h.taken ∙ ap
    (λ (o : Option (List Item)). o >>= λ us. Some (y ∷ us)) p.taken in
    with_first (one_or_more take) takes bytes (h.front ++ p.front) p.rest (h.item ∷ p.part) (y ∷ ys) parts
    (h.split ∙ (ap (λ (a : List ℕ). h.front ++ a) p.split ∙ sym (append_assoc h.front p.front p.rest)))
    (says_more h.item p.part h.front p.front h.wire p.said) both p.others

first_none_by : (take : Item → Option Item) (takes : Parts) (bytes rest front behind : List ℕ) (y : Item)
    (part ys : List Item) (parts : List (List Item)) → HasFront take bytes rest y
    → NoParts (any_number take ∷ takes) rest → bytes ≡ front ++ behind → Says front part
    → one_or_more take part ≡ Some ys → ReadsParts takes behind parts → ⊥
first_none_by take takes bytes rest front behind y [] ys parts h m e s t r = absurd cc
first_none_by take takes bytes rest front behind y (x ∷ xs) ys parts h m e s t r =
    let o = said_first x xs front s in
    let left : bytes ≡ o.front ++ (o.rest ++ behind) =
    e ∙ (ap (λ (a : List ℕ). a ++ behind) o.split ∙ append_assoc o.front o.rest behind) in
    let same = fronts_same h.item x h.front o.front rest (o.rest ++ behind) h.wire o.wire (sym h.split ∙ left) in
    let u = first_taken take x xs ys t in
    m.none (u.1 ∷ parts) (with_first (any_number take) takes rest o.rest behind xs u.1 parts same.1 o.others u.3 r)

pub first_none : (take : Item → Option Item) (takes : List (List Item → Option (List Item))) (bytes rest : List ℕ)
    (y : Item) → HasFront take bytes rest y → NoParts (any_number take ∷ takes) rest
    → NoParts (one_or_more take ∷ takes) bytes
first_none take takes bytes rest y h m =
    without_first (one_or_more take) takes bytes
    (λ ys parts p. first_none_by take takes bytes rest p.front p.rest y p.part ys parts h m p.split p.said p.taken
    p.others)

-- no section of the type, then not one or more of them
missing_by : (take : Item → Option Item) (bytes front behind : List ℕ) (part ys : List Item) → HasNoFront take bytes
    → bytes ≡ front ++ behind → Says front part → one_or_more take part ≡ Some ys → ⊥
missing_by take bytes front behind [] ys n e s t = absurd cc
missing_by take bytes front behind (x ∷ xs) ys n e s t =
    let o = said_first x xs front s in
    let u = first_taken take x xs ys t in
    some_none u.0 (take x) u.2 (n.none x o.front (o.rest ++ behind) o.wire
    (e ∙ (ap (λ (a : List ℕ). a ++ behind) o.split ∙ append_assoc o.front o.rest behind)))

pub none_missing : (take : Item → Option Item) (takes : List (List Item → Option (List Item))) (bytes : List ℕ)
    → HasNoFront take bytes → NoParts (one_or_more take ∷ takes) bytes
none_missing take takes bytes n =
    without_first (one_or_more take) takes bytes
    (λ ys parts p. missing_by take bytes p.front p.rest p.part ys n p.split p.said p.taken)

other_none : (o : Option Item) → ((u : Item) → o ≡ Some u → ⊥) → o ≡ None
other_none None f = refl
other_none (Some u) f = absurd (f u refl)

-- a section of another type in front is none of this type
pub other_front : (take other : Item → Option Item) (code own : ℕ) (bytes rest : List ℕ) (y : Item)
    → TakesCode take code → TakesCode other own → (code ≡ own → ⊥) → HasFront take bytes rest y → HasNoFront other bytes
other_front take other code own bytes rest y c d n h = record {
  none =
      λ x front more w e. other_none (other x)
      (λ u f. n (code_same h.item x h.front front rest more code own h.wire w (sym h.split ∙ e) (c h.item y h.taken)
      (d x u f)));
}
