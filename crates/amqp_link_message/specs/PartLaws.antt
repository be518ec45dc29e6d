-- Parts of a message, the first one and the others behind it.
use Rattle.std.proofs.Common.{◌≡◌, ℕ, ◌≤◌, ◌<◌, List, [], ◌∷◌, ◌++◌, Option, Some, None, Bool, true, false, sym, ◌∙◌}
use Rattle.std.proofs.Common.{ap, subst, refl, arith, append-nil, inl, inr}
use Rattle.std.specs.Prelude.{nat_lt, ◌&&◌}
use Rattle.std.proofs.lemmas.Bool.Decides.{nat_tests}
use Rattle.serde_amqp_item.specs.Item.{Item}
use Rattle.serde_amqp_item.specs.Wire.{Wire}
use Rattle.serde_amqp_item.specs.Canon.{◌>>=◌}
use Rattle.amqp_link_message.specs.Payload.{Says}
use Rattle.amqp_link_message.specs.Parts.{if_there, at_most_one, exactly_one, ReadsParts, NoParts, EndsOrBegins}
use Rattle.amqp_link_message.specs.Sections.{TakesCode}
use Rattle.amqp_link_message.specs.Front.{HasFront, HasNoFront, FrontTaken}
use Rattle.amqp_link_message.specs.SayingLaws.{says_none, nothing_said, says_one, said_first, says_append, said_both}
use Rattle.amqp_link_message.specs.SayingLaws.{fronts_same, form_not_empty}
use Rattle.amqp_link_message.specs.SectionLaws.{code_same}

-- the first part, and the others behind it
pub record FirstPart (take : List Item → Option (List Item)) (takes : List (List Item → Option (List Item)))
    (bytes : List ℕ) (ys : List Item) (parts : List (List Item)) : Type 0 where
  pub part : List Item
  pub front : List ℕ
  pub rest : List ℕ
  pub split : bytes ≡ front ++ rest
  pub said : Says front part
  pub taken : take part ≡ Some ys
  pub others : ReadsParts takes rest parts

pub first_part : (take : List Item → Option (List Item)) (takes : List (List Item → Option (List Item)))
    (bytes : List ℕ) (ys : List Item) (parts : List (List Item)) → ReadsParts (take ∷ takes) bytes (ys ∷ parts)
    → FirstPart take takes bytes ys parts
first_part take takes bytes ys parts r =
    let t = r.taken in
    let b = said_both t.0 t.1 bytes (subst (λ (xs : List Item). Says bytes xs) t.2 r.said) in
    record {
      part = t.0;
      front = b.front;
      rest = b.rest;
      split = b.split;
      said = b.left;
      taken = t.3;
      others =
          record { items = t.1; said = b.right; taken = t.4 };
    }

pub with_first : (take : List Item → Option (List Item)) (takes : List (List Item → Option (List Item)))
    (bytes front rest : List ℕ) (part ys : List Item) (parts : List (List Item)) → bytes ≡ front ++ rest
    → Says front part → take part ≡ Some ys → ReadsParts takes rest parts → ReadsParts (take ∷ takes) bytes (ys ∷ parts)
with_first take takes bytes front rest part ys parts e s t r = record {
  items = part ++ r.items;
  said = subst (λ (b : List ℕ). Says b (part ++ r.items)) (sym e) (says_append part r.items front rest s r.said);
  taken = (part, r.items, refl, t, r.taken);
}

pub no_part_of_none : (take : List Item → Option (List Item)) (takes : List (List Item → Option (List Item)))
    (bytes : List ℕ) → ReadsParts (take ∷ takes) bytes [] → ⊥
no_part_of_none take takes bytes r = r.taken

-- the end of the bytes
pub end_read : (bytes : List ℕ) → bytes ≡ [] → ReadsParts [] bytes []
end_read bytes e = record { items = []; said = subst (λ (b : List ℕ). Says b []) (sym e) says_none; taken = refl }

pub end_is : (bytes : List ℕ) (parts : List (List Item)) → ReadsParts [] bytes parts → bytes ≡ []
end_is bytes [] r = nothing_said bytes (subst (λ (xs : List Item). Says bytes xs) r.taken r.said)
end_is bytes (ys ∷ parts) r = absurd r.taken

pub no_end : (bytes : List ℕ) → (bytes ≡ [] → ⊥) → NoParts [] bytes
no_end bytes n = record { none = λ parts r. n (end_is bytes parts r) }

-- where the first part isn't there, whatever it is, there are no parts
no_first : (take : List Item → Option (List Item)) (takes : List (List Item → Option (List Item))) (bytes : List ℕ)
    → ((ys : List Item) (parts : List (List Item)) → FirstPart take takes bytes ys parts → ⊥)
    → (parts : List (List Item)) → ReadsParts (take ∷ takes) bytes parts → ⊥
no_first take takes bytes f [] r = r.taken
no_first take takes bytes f (ys ∷ parts) r = f ys parts (first_part take takes bytes ys parts r)

pub without_first : (take : List Item → Option (List Item)) (takes : List (List Item → Option (List Item)))
    (bytes : List ℕ) → ((ys : List Item) (parts : List (List Item)) → FirstPart take takes bytes ys parts → ⊥)
    → NoParts (take ∷ takes) bytes
without_first take takes bytes f = record { none = no_first take takes bytes f }

-- one item that is taken
taken_one : (o : Option Item) (y : Item) → o ≡ Some y → (o >>= λ z. Some (z ∷ [])) ≡ Some (y ∷ [])
taken_one o y e = ap (λ (p : Option Item). p >>= λ z. Some (z ∷ [])) e

pub some_none : {X : Type 0} (x : X) (o : Option X) → o ≡ Some x → o ≡ None → ⊥
some_none x o e f = absurd (let h : Some x ≡ None = sym e ∙ f in cc)

-- the only item of a part, and what stands behind it
pub one_behind : (x : Item) (bytes front rest : List ℕ) → bytes ≡ front ++ rest → Says front (x ∷ [])
    → (a : List ℕ) × Wire x None a × (bytes ≡ a ++ rest)
one_behind x bytes front rest e s =
    let f = said_first x [] front s in
    let whole : front ≡ f.front =
    f.split ∙ (ap (λ (b : List ℕ). f.front ++ b) (nothing_said f.rest f.others) ∙ append-nil f.front) in
    (f.front, f.wire, e ∙ ap (λ (b : List ℕ). b ++ rest) whole)

pub item_taken : (o : Option Item) (ys : List Item) → (o >>= λ z. Some (z ∷ [])) ≡ Some ys → (y : Item) × (o ≡ Some y)
item_taken None ys e = absurd cc
item_taken (Some y) ys e = (y, refl)

-- a section that may be absent, and the parts behind it
pub part_there : (take : Item → Option Item) (takes : List (List Item → Option (List Item))) (bytes rest : List ℕ)
    (y : Item) (parts : List (List Item)) → HasFront take bytes rest y → ReadsParts takes rest parts
    → ReadsParts (at_most_one take ∷ takes) bytes ((y ∷ []) ∷ parts)
part_there take takes bytes rest y parts h r =
    with_first (at_most_one take) takes bytes h.front rest (h.item ∷ []) (y ∷ []) parts h.split
    (says_one h.item h.front h.front h.wire (sym (append-nil h.front))) (taken_one (take h.item) y h.taken) r

pub part_absent : (take : Item → Option Item) (takes : List (List Item → Option (List Item))) (bytes rest : List ℕ)
    (parts : List (List Item)) → rest ≡ bytes → ReadsParts takes rest parts
    → ReadsParts (at_most_one take ∷ takes) bytes ([] ∷ parts)
part_absent take takes bytes rest parts e r =
    with_first (at_most_one take) takes bytes [] rest [] [] parts (sym e) says_none refl r

pub part_read : {S : Type 0} (item : S → Item) (take : Item → Option Item)
    (takes : List (List Item → Option (List Item))) (bytes rest : List ℕ) (o : Option S) (parts : List (List Item))
    → FrontTaken take item bytes o rest → ReadsParts takes rest parts
    → ReadsParts (at_most_one take ∷ takes) bytes (if_there item o ∷ parts)
part_read item take takes bytes rest None parts f r = part_absent take takes bytes rest parts f.0 r
part_read item take takes bytes rest (Some s) parts f r = part_there take takes bytes rest (item s) parts f r

-- the parts behind a section begin with another one
abbrev pub Begins : ℕ → List (List Item → Option (List Item)) → Type 0
Begins least takes =
    (bytes : List ℕ) (parts : List (List Item)) → ReadsParts takes bytes parts → EndsOrBegins least bytes

-- bytes that begin with a section aren't the parts behind it
pub not_behind : (take : Item → Option Item) (code least : ℕ) (bytes rest : List ℕ) (y : Item) → TakesCode take code
    → code < least → HasFront take bytes rest y → EndsOrBegins least bytes → ⊥
not_behind take code least bytes rest y t l h (inl e) = form_not_empty h.item h.front rest h.wire (sym e ∙ h.split)
not_behind take code least bytes rest y t l h (inr b) =
    let same =
    code_same h.item b.item h.front b.front rest b.more code b.code h.wire b.wire (sym h.split ∙ b.split)
    (t h.item y h.taken) b.coded in
    absurd (omega (arith, same, b.least_is, l))

abbrev Parts : Type 0
Parts = List (List Item → Option (List Item))

none_if_absent : (take : Item → Option Item) (takes : Parts) (bytes rest front behind : List ℕ) (part ys : List Item)
    (parts : List (List Item)) → rest ≡ bytes → HasNoFront take bytes → NoParts takes rest → bytes ≡ front ++ behind
    → Says front part → at_most_one take part ≡ Some ys → ReadsParts takes behind parts → ⊥
none_if_absent take takes bytes rest front behind [] ys parts e n m s p t r =
    let same : behind ≡ rest = sym (s ∙ ap (λ (b : List ℕ). b ++ behind) (nothing_said front p)) ∙ sym e in
    m.none parts (subst (λ (b : List ℕ). ReadsParts takes b parts) same r)
none_if_absent take takes bytes rest front behind (x ∷ []) ys parts e n m s p t r =
    let o = one_behind x bytes front behind s p in
    let y = item_taken (take x) ys t in
    some_none y.0 (take x) y.1 (n.none x o.0 behind o.1 o.2)
none_if_absent take takes bytes rest front behind (x ∷ z ∷ xs) ys parts e n m s p t r = absurd cc

none_if_there : (take : Item → Option Item) (takes : Parts) (code least : ℕ) (bytes rest front behind : List ℕ)
    (y : Item) (part ys : List Item) (parts : List (List Item)) → TakesCode take code → code < least
    → Begins least takes → HasFront take bytes rest y → NoParts takes rest → bytes ≡ front ++ behind → Says front part
    → at_most_one take part ≡ Some ys → ReadsParts takes behind parts → ⊥
none_if_there take takes code least bytes rest front behind y [] ys parts c l b h m s p t r =
    let same : behind ≡ bytes = sym (s ∙ ap (λ (b : List ℕ). b ++ behind) (nothing_said front p)) in
    not_behind take code least bytes rest y c l h
    (b bytes parts (subst (λ (b : List ℕ). ReadsParts takes b parts) same r))
none_if_there take takes code least bytes rest front behind y (x ∷ []) ys parts c l b h m s p t r =
    let o = one_behind x bytes front behind s p in
    let same = fronts_same h.item x h.front o.0 rest behind h.wire o.1 (sym h.split ∙ o.2) in
    m.none parts (subst (λ (b : List ℕ). ReadsParts takes b parts) (sym same.1) r)
none_if_there take takes code least bytes rest front behind y (x ∷ z ∷ xs) ys parts c l b h m s p t r = absurd cc

pub part_none : {S : Type 0} (item : S → Item) (take : Item → Option Item)
    (takes : List (List Item → Option (List Item))) (code least : ℕ) (bytes rest : List ℕ) (o : Option S)
    → TakesCode take code → code < least → Begins least takes → FrontTaken take item bytes o rest → NoParts takes rest
    → NoParts (at_most_one take ∷ takes) bytes
part_none item take takes code least bytes rest None c l b f m =
    without_first (at_most_one take) takes bytes
    (λ ys parts p. none_if_absent take takes bytes rest p.front p.rest p.part ys parts f.0 f.1 m p.split p.said
    p.taken p.others)
part_none item take takes code least bytes rest (Some s) c l b f m =
    without_first (at_most_one take) takes bytes
    (λ ys parts p. none_if_there take takes code least bytes rest p.front p.rest (item s) p.part ys parts c l b f m
    p.split p.said p.taken p.others)

-- what a section and the parts behind it begin with
lower : (code least : ℕ) (bytes : List ℕ) → code ≤ least → EndsOrBegins least bytes → EndsOrBegins code bytes
lower code least bytes l (inl e) = inl e
lower code least bytes l (inr b) =
    inr (record {
      item = b.item;
      front = b.front;
      more = b.more;
      code = b.code;
      wire = b.wire;
      split = b.split;
      coded = b.coded;
      least_is = omega (arith, b.least_is, l);
    })

begins_by : (take : Item → Option Item) (takes : Parts) (code least : ℕ) (bytes front behind : List ℕ)
    (part ys : List Item) (parts : List (List Item)) → TakesCode take code → code < least → Begins least takes
    → bytes ≡ front ++ behind → Says front part → at_most_one take part ≡ Some ys → ReadsParts takes behind parts
    → EndsOrBegins code bytes
begins_by take takes code least bytes front behind [] ys parts c l b s p t r =
    let same : behind ≡ bytes = sym (s ∙ ap (λ (b : List ℕ). b ++ behind) (nothing_said front p)) in
    lower code least bytes (omega (arith, l)) (b bytes parts (subst (λ (b : List ℕ). ReadsParts takes b parts) same r))
begins_by take takes code least bytes front behind (x ∷ []) ys parts c l b s p t r =
    let o = one_behind x bytes front behind s p in
    let y = item_taken (take x) ys t in
    inr (record {
      item = x;
      front = o.0;
      more = behind;
      code = code;
      wire = o.1;
      split = o.2;
      coded = c x y.0 y.1;
      least_is = omega arith;
    })
begins_by take takes code least bytes front behind (x ∷ z ∷ xs) ys parts c l b s p t r = absurd cc

pub part_begins : (take : Item → Option Item) (takes : List (List Item → Option (List Item))) (code least : ℕ)
    → TakesCode take code → code < least → Begins least takes → Begins code (at_most_one take ∷ takes)
part_begins take takes code least c l b bytes [] r = absurd r.taken
part_begins take takes code least c l b bytes (ys ∷ parts) r =
    let p = first_part (at_most_one take) takes bytes ys parts r in
    begins_by take takes code least bytes p.front p.rest p.part ys parts c l b p.split p.said p.taken p.others

-- a section that has to be there, and the parts behind it
pub one_read : (take : Item → Option Item) (takes : List (List Item → Option (List Item))) (bytes rest : List ℕ)
    (y : Item) (parts : List (List Item)) → HasFront take bytes rest y → ReadsParts takes rest parts
    → ReadsParts (exactly_one take ∷ takes) bytes ((y ∷ []) ∷ parts)
one_read take takes bytes rest y parts h r =
    with_first (exactly_one take) takes bytes h.front rest (h.item ∷ []) (y ∷ []) parts h.split
    (says_one h.item h.front h.front h.wire (sym (append-nil h.front))) (taken_one (take h.item) y h.taken) r

one_missing_by : (take : Item → Option Item) (bytes front behind : List ℕ) (part ys : List Item) → HasNoFront take bytes
    → bytes ≡ front ++ behind → Says front part → exactly_one take part ≡ Some ys → ⊥
one_missing_by take bytes front behind [] ys n s p t = absurd cc
one_missing_by take bytes front behind (x ∷ []) ys n s p t =
    let o = one_behind x bytes front behind s p in
    let y = item_taken (take x) ys t in
    some_none y.0 (take x) y.1 (n.none x o.0 behind o.1 o.2)
one_missing_by take bytes front behind (x ∷ z ∷ xs) ys n s p t = absurd cc

pub one_missing : (take : Item → Option Item) (takes : List (List Item → Option (List Item))) (bytes : List ℕ)
    → HasNoFront take bytes → NoParts (exactly_one take ∷ takes) bytes
one_missing take takes bytes n =
    without_first (exactly_one take) takes bytes
    (λ ys parts p. one_missing_by take bytes p.front p.rest p.part ys n p.split p.said p.taken)

one_none_by : (take : Item → Option Item) (takes : Parts) (bytes rest front behind : List ℕ) (y : Item)
    (part ys : List Item) (parts : List (List Item)) → HasFront take bytes rest y → NoParts takes rest
    → bytes ≡ front ++ behind → Says front part → exactly_one take part ≡ Some ys → ReadsParts takes behind parts → ⊥
one_none_by take takes bytes rest front behind y [] ys parts h m s p t r = absurd cc
one_none_by take takes bytes rest front behind y (x ∷ []) ys parts h m s p t r =
    let o = one_behind x bytes front behind s p in
    let same = fronts_same h.item x h.front o.0 rest behind h.wire o.1 (sym h.split ∙ o.2) in
    m.none parts (subst (λ (b : List ℕ). ReadsParts takes b parts) (sym same.1) r)
one_none_by take takes bytes rest front behind y (x ∷ z ∷ xs) ys parts h m s p t r = absurd cc

pub one_none : (take : Item → Option Item) (takes : List (List Item → Option (List Item))) (bytes rest : List ℕ)
    (y : Item) → HasFront take bytes rest y → NoParts takes rest → NoParts (exactly_one take ∷ takes) bytes
one_none take takes bytes rest y h m =
    without_first (exactly_one take) takes bytes
    (λ ys parts p. one_none_by take takes bytes rest p.front p.rest y p.part ys parts h m p.split p.said p.taken
    p.others)

-- the order of codes
both_of : (t rest : Bool) (a b : ℕ) → nat_lt a b ≡ t → (t && rest) ≡ true → (a < b) × (rest ≡ true)
both_of true true a b h e = (grind (arith, nat_tests), refl)
both_of true false a b h e = absurd cc
both_of false rest a b h e = absurd cc

pub below_of : (a b : ℕ) (rest : Bool) → (nat_lt a b && rest) ≡ true → (a < b) × (rest ≡ true)
below_of a b rest e = both_of (nat_lt a b) rest a b refl e

-- what a section and the parts behind it begin with, where they are in order
pub part_begins_in_order : (take : Item → Option Item) (takes : List (List Item → Option (List Item))) (code least : ℕ)
    (in_order : Bool) → TakesCode take code
    → (in_order ≡ true → (bytes : List ℕ) (parts : List (List Item)) → ReadsParts takes bytes parts
    → EndsOrBegins least bytes)
    → (nat_lt code least && in_order) ≡ true → (bytes : List ℕ) (parts : List (List Item))
    → ReadsParts (at_most_one take ∷ takes) bytes parts → EndsOrBegins code bytes
part_begins_in_order take takes code least in_order c b e =
    let o = below_of code least in_order e in
    part_begins take takes code least c o.0 (b o.1)

pub part_none_in_order : {S : Type 0} (item : S → Item) (take : Item → Option Item)
    (takes : List (List Item → Option (List Item))) (code least : ℕ) (in_order : Bool) (bytes rest : List ℕ)
    (o : Option S) → TakesCode take code
    → (in_order ≡ true → (bytes : List ℕ) (parts : List (List Item)) → ReadsParts takes bytes parts
    → EndsOrBegins least bytes)
    → (nat_lt code least && in_order) ≡ true → FrontTaken take item bytes o rest → NoParts takes rest
    → NoParts (at_most_one take ∷ takes) bytes
part_none_in_order item take takes code least in_order bytes rest o c b e f m =
    let l = below_of code least in_order e in
    part_none item take takes code least bytes rest o c l.0 (b l.1) f m

-- there is nothing at the end
pub nothing_begins : true ≡ true → (bytes : List ℕ) (parts : List (List Item)) → ReadsParts [] bytes parts
    → EndsOrBegins 0x79 bytes
nothing_begins t bytes parts r = inl (end_is bytes parts r)
