-- Bytes say one body, of one kind, and it is read as it is written.
use Rattle.std.proofs.Common.{◌≡◌, ℕ, List, [], ◌∷◌, map, Option, Some, None, sym, ◌∙◌, ap, subst, refl, arith, ◌⊎◌}
use Rattle.std.proofs.Common.{inl, inr}
use Rattle.serde_amqp_item.specs.Item.{Item}
use Rattle.serde_amqp_item.specs.Wire.{Wire}
use Rattle.serde_amqp_item.specs.Canon.{◌>>=◌}
use Rattle.serde_amqp_item.proofs.Texts.{bind_some}
use Rattle.serde_amqp_de.specs.Decides.{Decided}
use Rattle.amqp_link_sections.specs.Body.{data_item, data_taken, amqp_sequence_item, amqp_sequence_taken}
use Rattle.amqp_link_sections.specs.Body.{amqp_value_item, amqp_value_taken}
use Rattle.amqp_link_sections.specs.BodyLaws.{data_again, data_decided, amqp_sequence_again, amqp_sequence_decided}
use Rattle.amqp_link_sections.specs.BodyLaws.{amqp_sequence_same_item, amqp_value_again, amqp_value_decided}
use Rattle.amqp_link_sections.specs.BodyLaws.{amqp_value_same_item}
use Rattle.amqp_link_message.specs.Payload.{Says}
use Rattle.amqp_link_message.specs.Parts.{any_number, exactly_one, one_or_more, ReadsParts, NoParts, OneValue}
use Rattle.amqp_link_message.specs.Sections.{section_code, TakesCode, IsBody}
use Rattle.amqp_link_message.specs.Front.{HasFront, HasNoFront}
use Rattle.amqp_link_message.specs.Several.{each_item, NotSeveral}
use Rattle.amqp_link_message.specs.AnyBody.{or_else, body_takes, body_items}
use Rattle.amqp_link_message.specs.SayingLaws.{nothing_said, said_first, fronts_same, form_not_empty}
use Rattle.amqp_link_message.specs.SectionLaws.{code_same}
use Rattle.amqp_link_message.specs.PartLaws.{FirstPart, first_part, with_first, without_first, item_taken, one_missing}
use Rattle.amqp_link_message.specs.RunLaws.{first_taken, first_none, other_front, none_missing}
use Rattle.amqp_link_message.specs.CodeLaws.{data_coded, amqp_sequence_coded, amqp_value_coded, some_of_body}
use Rattle.amqp_link_message.specs.CodeLaws.{amqp_value_of_body}
use Rattle.amqp_link_message.specs.OneReading.{same_some, one_decided}
use Rattle.amqp_link_message.specs.RoundLaws.{one_again}
use Rattle.amqp_link_message.specs.declared.several.OneOrMore.{OneOrMore}
use Rattle.amqp_link_message.specs.declared.any_body.Body.{Body}
use Rattle.amqp_link_message.specs.declared.any_body.Body.TheVariants as is

abbrev Parts : Type 0
Parts = List (List Item → Option (List Item))

-- the kinds of a body
abbrev Kinds : (Item → Option Item) → List Item → List Item → Type 0
Kinds take xs ys =
    (one_or_more data_taken xs ≡ Some ys)
    ⊎ ((one_or_more (amqp_sequence_taken take) xs ≡ Some ys) ⊎ (exactly_one (amqp_value_taken take) xs ≡ Some ys))

either_kind : (a b c : Option (List Item)) (ys : List Item) → or_else a (or_else b c) ≡ Some ys
    → (a ≡ Some ys) ⊎ ((b ≡ Some ys) ⊎ (c ≡ Some ys))
either_kind (Some x) b c ys e = inl e
either_kind None (Some x) c ys e = inr (inl e)
either_kind None None c ys e = inr (inr e)

kinds : (take : Item → Option Item) (xs ys : List Item) → body_takes take xs ≡ Some ys → Kinds take xs ys
kinds take xs ys e =
    either_kind (one_or_more data_taken xs) (one_or_more (amqp_sequence_taken take) xs)
    (exactly_one (amqp_value_taken take) xs) ys e

-- a body of each kind has sections of a body
kind_of_body : (take : Item → Option Item) (xs ys : List Item) → Kinds take xs ys → IsBody xs
kind_of_body take xs ys (inl e) = some_of_body data_taken 0x75 data_coded (omega arith) (omega arith) xs ys e
kind_of_body take xs ys (inr (inl e)) =
    some_of_body (amqp_sequence_taken take) 0x76 (amqp_sequence_coded take) (omega arith) (omega arith) xs ys e
kind_of_body take xs ys (inr (inr e)) = amqp_value_of_body take xs ys e

pub body_of_body : (take : Item → Option Item) (xs ys : List Item) → body_takes take xs ≡ Some ys → IsBody xs
body_of_body take xs ys e = kind_of_body take xs ys (kinds take xs ys e)

-- the first item is a section of this code
abbrev Led : ℕ → List Item → Type 0
Led code [] = ⊥
Led code (x ∷ xs) = section_code x ≡ Some code

led_some : (take : Item → Option Item) (code : ℕ) → TakesCode take code → (xs ys : List Item)
    → one_or_more take xs ≡ Some ys → Led code xs
led_some take code c [] ys e = absurd cc
led_some take code c (x ∷ xs) ys e = let u = first_taken take x xs ys e in c x u.0 u.2

led_one : (take : Item → Option Item) (code : ℕ) → TakesCode take code → (xs ys : List Item)
    → exactly_one take xs ≡ Some ys → Led code xs
led_one take code c [] ys e = absurd cc
led_one take code c (x ∷ []) ys e = let y = item_taken (take x) ys e in c x y.0 y.1
led_one take code c (x ∷ z ∷ xs) ys e = absurd cc

led_data : (xs ys : List Item) → one_or_more data_taken xs ≡ Some ys → Led 0x75 xs
led_data = led_some data_taken 0x75 data_coded

led_sequence : (take : Item → Option Item) (xs ys : List Item) → one_or_more (amqp_sequence_taken take) xs ≡ Some ys
    → Led 0x76 xs
led_sequence take = led_some (amqp_sequence_taken take) 0x76 (amqp_sequence_coded take)

led_value : (take : Item → Option Item) (xs ys : List Item) → exactly_one (amqp_value_taken take) xs ≡ Some ys
    → Led 0x77 xs
led_value take = led_one (amqp_value_taken take) 0x77 (amqp_value_coded take)

led_same : (i j : ℕ) (bytes : List ℕ) (xs zs : List Item) → Led i xs → Led j zs → Says bytes xs → Says bytes zs → i ≡ j
led_same i j bytes [] zs p q g h = absurd p
led_same i j bytes (x ∷ xs) [] p q g h = absurd q
led_same i j bytes (x ∷ xs) (z ∷ zs) p q g h =
    let m = said_first x xs bytes g in
    let n = said_first z zs bytes h in
    code_same x z m.front n.front m.rest n.rest i j m.wire n.wire (sym m.split ∙ n.split) p q

-- sections of one type give one value each
taken_both : (take : Item → Option Item) (x : Item) (xs ys : List Item) → any_number take (x ∷ xs) ≡ Some ys
    → (y : Item) × (us : List Item) × (take x ≡ Some y) × (any_number take xs ≡ Some us) × (ys ≡ y ∷ us)
taken_both take x xs ys e =
    let h = bind_some (take x) (λ u. any_number take xs >>= λ us. Some (u ∷ us)) ys e in
    let t = bind_some (any_number take xs) (λ us. Some (h.0 ∷ us)) ys h.2 in
    let whole : h.0 ∷ t.0 ≡ ys = same_some (h.0 ∷ t.0) ys (Some (h.0 ∷ t.0)) refl t.2 in
    (h.0, t.0, h.1, t.1, sym whole)

each_decided : (take : Item → Option Item) → Decided take → (bytes : List ℕ) (xs zs ys us : List Item) → Says bytes xs
    → Says bytes zs → any_number take xs ≡ Some ys → any_number take zs ≡ Some us → ys ≡ us
each_decided take d bytes [] [] ys us g h s t = same_some ys us (Some []) s t
each_decided take d bytes [] (z ∷ zs) ys us g h s t =
    let n = said_first z zs bytes h in
    absurd (form_not_empty z n.front n.rest n.wire (sym (nothing_said bytes g) ∙ n.split))
each_decided take d bytes (x ∷ xs) [] ys us g h s t =
    let m = said_first x xs bytes g in
    absurd (form_not_empty x m.front m.rest m.wire (sym (nothing_said bytes h) ∙ m.split))
each_decided take d bytes (x ∷ xs) (z ∷ zs) ys us g h s t =
    let m = said_first x xs bytes g in
    let n = said_first z zs bytes h in
    let same = fronts_same x z m.front n.front m.rest n.rest m.wire n.wire (sym m.split ∙ n.split) in
    let y = taken_both take x xs ys s in
    let u = taken_both take z zs us t in
    let first : y.0 ≡ u.0 =
    d x z None n.front y.0 u.0 (subst (λ (c : List ℕ). Wire x None c) same.0 m.wire) n.wire y.2 u.2 in
    let others : y.1 ≡ u.1 =
    each_decided take d n.rest xs zs y.1 u.1 (subst (λ (c : List ℕ). Says c xs) same.1 m.others) n.others y.3 u.3 in
    y.4 ∙ (ap (λ (i : Item). i ∷ y.1) first ∙ (ap (λ (l : List Item). u.0 ∷ l) others ∙ sym u.4))

some_decided : (take : Item → Option Item) → Decided take → OneValue (one_or_more take)
some_decided take d bytes [] zs ys us g h s t = absurd cc
some_decided take d bytes (x ∷ xs) [] ys us g h s t = absurd cc
some_decided take d bytes (x ∷ xs) (z ∷ zs) ys us g h s t = each_decided take d bytes (x ∷ xs) (z ∷ zs) ys us g h s t

kinds_decided : (take : Item → Option Item) → Decided take → (bytes : List ℕ) (xs zs ys us : List Item) → Says bytes xs
    → Says bytes zs → Kinds take xs ys → Kinds take zs us → ys ≡ us
kinds_decided take d bytes xs zs ys us g h (inl s) (inl t) =
    some_decided data_taken data_decided bytes xs zs ys us g h s t
kinds_decided take d bytes xs zs ys us g h (inl s) (inr (inl t)) =
    absurd (omega (arith, led_same 0x75 0x76 bytes xs zs (led_data xs ys s) (led_sequence take zs us t) g h))
kinds_decided take d bytes xs zs ys us g h (inl s) (inr (inr t)) =
    absurd (omega (arith, led_same 0x75 0x77 bytes xs zs (led_data xs ys s) (led_value take zs us t) g h))
kinds_decided take d bytes xs zs ys us g h (inr (inl s)) (inl t) =
    absurd (omega (arith, led_same 0x76 0x75 bytes xs zs (led_sequence take xs ys s) (led_data zs us t) g h))
kinds_decided take d bytes xs zs ys us g h (inr (inl s)) (inr (inl t)) =
    some_decided (amqp_sequence_taken take) (amqp_sequence_decided take d) bytes xs zs ys us g h s t
kinds_decided take d bytes xs zs ys us g h (inr (inl s)) (inr (inr t)) =
    absurd (omega (arith, led_same 0x76 0x77 bytes xs zs (led_sequence take xs ys s) (led_value take zs us t) g h))
kinds_decided take d bytes xs zs ys us g h (inr (inr s)) (inl t) =
    absurd (omega (arith, led_same 0x77 0x75 bytes xs zs (led_value take xs ys s) (led_data zs us t) g h))
kinds_decided take d bytes xs zs ys us g h (inr (inr s)) (inr (inl t)) =
    absurd (omega (arith, led_same 0x77 0x76 bytes xs zs (led_value take xs ys s) (led_sequence take zs us t) g h))
kinds_decided take d bytes xs zs ys us g h (inr (inr s)) (inr (inr t)) =
    one_decided (amqp_value_taken take) (amqp_value_decided take d) bytes xs zs ys us g h s t

pub body_decided : (take : Item → Option Item) → Decided take → OneValue (body_takes take)
body_decided take d bytes xs zs ys us g h s t =
    kinds_decided take d bytes xs zs ys us g h (kinds take xs ys s) (kinds take zs us t)

-- what is taken as one kind is a body
led_code : (i j : ℕ) (xs : List Item) → Led i xs → Led j xs → i ≡ j
led_code i j [] p q = absurd p
led_code i j (x ∷ xs) p q = same_some i j (section_code x) p q

none_or : (o : Option (List Item)) → ((ys : List Item) → o ≡ Some ys → ⊥) → o ≡ None
none_or None f = refl
none_or (Some ys) f = absurd (f ys refl)

no_data : (xs : List Item) (code : ℕ) → (0x75 ≡ code → ⊥) → Led code xs → one_or_more data_taken xs ≡ None
no_data xs code n l = none_or (one_or_more data_taken xs) (λ ys e. n (led_code 0x75 code xs (led_data xs ys e) l))

no_sequence : (take : Item → Option Item) (xs : List Item) (code : ℕ) → (0x76 ≡ code → ⊥) → Led code xs
    → one_or_more (amqp_sequence_taken take) xs ≡ None
no_sequence take xs code n l =
    none_or (one_or_more (amqp_sequence_taken take) xs)
    (λ ys e. n (led_code 0x76 code xs (led_sequence take xs ys e) l))

or_first : (a b : Option (List Item)) (ys : List Item) → a ≡ Some ys → or_else a b ≡ Some ys
or_first a b ys e = ap (λ (o : Option (List Item)). or_else o b) e

or_second : (a b : Option (List Item)) (ys : List Item) → a ≡ None → b ≡ Some ys → or_else a b ≡ Some ys
or_second a b ys e f = ap (λ (o : Option (List Item)). or_else o b) e ∙ f

data_body : (take : Item → Option Item) (xs ys : List Item) → one_or_more data_taken xs ≡ Some ys
    → body_takes take xs ≡ Some ys
data_body take xs ys e = or_first (one_or_more data_taken xs) _ ys e

sequence_body : (take : Item → Option Item) (xs ys : List Item) → one_or_more (amqp_sequence_taken take) xs ≡ Some ys
    → body_takes take xs ≡ Some ys
sequence_body take xs ys e =
    let l = led_sequence take xs ys e in
    or_second (one_or_more data_taken xs) _ ys (no_data xs 0x76 (λ i. absurd (omega (arith, i))) l)
    (or_first (one_or_more (amqp_sequence_taken take) xs) (exactly_one (amqp_value_taken take) xs) ys e)

value_body : (take : Item → Option Item) (xs ys : List Item) → exactly_one (amqp_value_taken take) xs ≡ Some ys
    → body_takes take xs ≡ Some ys
value_body take xs ys e =
    let l = led_value take xs ys e in
    or_second (one_or_more data_taken xs) _ ys (no_data xs 0x77 (λ i. absurd (omega (arith, i))) l)
    (or_second (one_or_more (amqp_sequence_taken take) xs) (exactly_one (amqp_value_taken take) xs) ys
    (no_sequence take xs 0x77 (λ i. absurd (omega (arith, i))) l) e)

kind_read : (take : Item → Option Item) (kind : List Item → Option (List Item)) (takes : Parts) (bytes : List ℕ)
    (ys : List Item) (parts : List (List Item))
    → ((xs us : List Item) → kind xs ≡ Some us → body_takes take xs ≡ Some us)
    → ReadsParts (kind ∷ takes) bytes (ys ∷ parts) → ReadsParts (body_takes take ∷ takes) bytes (ys ∷ parts)
kind_read take kind takes bytes ys parts f r =
    let p = first_part kind takes bytes ys parts r in
    with_first (body_takes take) takes bytes p.front p.rest p.part ys parts p.split p.said (f p.part ys p.taken)
    p.others

pub data_read : (take : Item → Option Item) (takes : List (List Item → Option (List Item))) (bytes : List ℕ)
    (ys : List Item) (parts : List (List Item)) → ReadsParts (one_or_more data_taken ∷ takes) bytes (ys ∷ parts)
    → ReadsParts (body_takes take ∷ takes) bytes (ys ∷ parts)
data_read take takes bytes ys parts r = kind_read take (one_or_more data_taken) takes bytes ys parts (data_body take) r

pub sequence_read : (take : Item → Option Item) (takes : List (List Item → Option (List Item))) (bytes : List ℕ)
    (ys : List Item) (parts : List (List Item))
    → ReadsParts (one_or_more (amqp_sequence_taken take) ∷ takes) bytes (ys ∷ parts)
    → ReadsParts (body_takes take ∷ takes) bytes (ys ∷ parts)
sequence_read take takes bytes ys parts r =
    kind_read take (one_or_more (amqp_sequence_taken take)) takes bytes ys parts (sequence_body take) r

pub value_read : (take : Item → Option Item) (takes : List (List Item → Option (List Item))) (bytes : List ℕ)
    (ys : List Item) (parts : List (List Item))
    → ReadsParts (exactly_one (amqp_value_taken take) ∷ takes) bytes (ys ∷ parts)
    → ReadsParts (body_takes take ∷ takes) bytes (ys ∷ parts)
value_read take takes bytes ys parts r =
    kind_read take (exactly_one (amqp_value_taken take)) takes bytes ys parts (value_body take) r

-- bytes that say no body of any kind
no_kind : (take : Item → Option Item) (takes : Parts) (bytes : List ℕ) (ys : List Item) (parts : List (List Item))
    → NoParts (one_or_more data_taken ∷ takes) bytes
    → NoParts (one_or_more (amqp_sequence_taken take) ∷ takes) bytes
    → NoParts (exactly_one (amqp_value_taken take) ∷ takes) bytes
    → (p : FirstPart (body_takes take) takes bytes ys parts) → Kinds take p.part ys → ⊥
no_kind take takes bytes ys parts a b c p (inl e) =
    a.none (ys ∷ parts) (with_first (one_or_more data_taken) takes bytes p.front p.rest p.part ys parts p.split p.said e
    p.others)
no_kind take takes bytes ys parts a b c p (inr (inl e)) =
    b.none (ys ∷ parts) (with_first (one_or_more (amqp_sequence_taken take)) takes bytes p.front p.rest p.part ys parts
    p.split p.said e p.others)
no_kind take takes bytes ys parts a b c p (inr (inr e)) =
    c.none (ys ∷ parts) (with_first (exactly_one (amqp_value_taken take)) takes bytes p.front p.rest p.part ys parts
    p.split p.said e p.others)

no_body : (take : Item → Option Item) (takes : Parts) (bytes : List ℕ) → NoParts (one_or_more data_taken ∷ takes) bytes
    → NoParts (one_or_more (amqp_sequence_taken take) ∷ takes) bytes
    → NoParts (exactly_one (amqp_value_taken take) ∷ takes) bytes → NoParts (body_takes take ∷ takes) bytes
no_body take takes bytes a b c =
    without_first (body_takes take) takes bytes
    (λ ys parts p. no_kind take takes bytes ys parts a b c p (kinds take p.part ys p.taken))

-- what begins with a section and doesn't go on with others of its type
pub not_several : (take : Item → Option Item) (takes : List (List Item → Option (List Item))) (bytes rest : List ℕ)
    (y : Item) → HasFront take bytes rest y → NoParts (any_number take ∷ takes) rest → NotSeveral take takes bytes
not_several take takes bytes rest y h n =
    record { rest = rest; item = y; front = h; none = first_none take takes bytes rest y h n }

-- nor do bytes say one that begin with a section of one kind and don't go on so
pub not_data : (take : Item → Option Item) (takes : List (List Item → Option (List Item))) (bytes : List ℕ)
    → NotSeveral data_taken takes bytes → NoParts (body_takes take ∷ takes) bytes
not_data take takes bytes n =
    no_body take takes bytes n.none
    (none_missing (amqp_sequence_taken take) takes bytes
    (other_front data_taken (amqp_sequence_taken take) 0x75 0x76 bytes n.rest n.item data_coded
    (amqp_sequence_coded take) (λ i. absurd (omega (arith, i))) n.front))
    (one_missing (amqp_value_taken take) takes bytes
    (other_front data_taken (amqp_value_taken take) 0x75 0x77 bytes n.rest n.item data_coded (amqp_value_coded take)
    (λ i. absurd (omega (arith, i))) n.front))

pub not_sequence : (take : Item → Option Item) (takes : List (List Item → Option (List Item))) (bytes : List ℕ)
    → HasNoFront data_taken bytes → NotSeveral (amqp_sequence_taken take) takes bytes
    → NoParts (body_takes take ∷ takes) bytes
not_sequence take takes bytes d n =
    no_body take takes bytes (none_missing data_taken takes bytes d) n.none
    (one_missing (amqp_value_taken take) takes bytes
    (other_front (amqp_sequence_taken take) (amqp_value_taken take) 0x76 0x77 bytes n.rest n.item
    (amqp_sequence_coded take) (amqp_value_coded take) (λ i. absurd (omega (arith, i))) n.front))

pub not_value : (take : Item → Option Item) (takes : List (List Item → Option (List Item))) (bytes : List ℕ)
    → HasNoFront data_taken bytes → HasNoFront (amqp_sequence_taken take) bytes
    → NoParts (exactly_one (amqp_value_taken take) ∷ takes) bytes → NoParts (body_takes take ∷ takes) bytes
not_value take takes bytes d s n =
    no_body take takes bytes (none_missing data_taken takes bytes d)
    (none_missing (amqp_sequence_taken take) takes bytes s) n

-- what is written is what the body is
each_same : {S : Type 0} (written item : S → Item) → ((s : S) → written s ≡ item s) → (xs : List S)
    → map written xs ≡ map item xs
each_same written item same [] = refl
each_same written item same (x ∷ xs) =
    ap (λ (i : Item). i ∷ map written xs) (same x) ∙ ap (λ (l : List Item). item x ∷ l) (each_same written item same xs)

pub body_same : {X : Type 0} (written item : X → Item) → ((x : X) → written x ≡ item x) → (b : Body X)
    → body_items written b ≡ body_items item b
body_same written item same (is.Data d) = refl
body_same written item same (is.Sequence s) =
    each_same (amqp_sequence_item written) (amqp_sequence_item item) (amqp_sequence_same_item written item same)
    (s.first ∷ s.others.items)
body_same written item same (is.Value v) = ap (λ (x : Item). x ∷ []) (amqp_value_same_item written item same v)

-- and is taken as it is
each_again : {S : Type 0} (take : Item → Option Item) (item : S → Item) → ((s : S) → take (item s) ≡ Some (item s))
    → (xs : List S) → any_number take (map item xs) ≡ Some (map item xs)
each_again take item again [] = refl
each_again take item again (x ∷ xs) =
    ap (λ (o : Option Item). o >>= λ u. any_number take (map item xs) >>= λ us. Some (u ∷ us)) (again x)
    ∙ ap (λ (o : Option (List Item)). o >>= λ us. Some (item x ∷ us)) (each_again take item again xs)

pub body_again : {X : Type 0} (take : Item → Option Item) (item : X → Item) → ((x : X) → take (item x) ≡ Some (item x))
    → (b : Body X) → body_takes take (body_items item b) ≡ Some (body_items item b)
body_again take item again (is.Data d) =
    data_body take (each_item data_item d) (each_item data_item d)
    (each_again data_taken data_item data_again (d.first ∷ d.others.items))
body_again take item again (is.Sequence s) =
    sequence_body take (each_item (amqp_sequence_item item) s) (each_item (amqp_sequence_item item) s)
    (each_again (amqp_sequence_taken take) (amqp_sequence_item item) (amqp_sequence_again take item again)
    (s.first ∷ s.others.items))
body_again take item again (is.Value v) =
    value_body take (amqp_value_item item v ∷ []) (amqp_value_item item v ∷ [])
    (one_again (amqp_value_taken take) (amqp_value_item item v) (amqp_value_again take item again v))
