-- A payload is read in one way.
use Rattle.std.proofs.Common.{◌≡◌, ℕ, ◌<◌, List, [], ◌∷◌, ◌++◌, Option, Some, None, sym, ◌∙◌, ap, subst, refl, arith}
use Rattle.std.proofs.Common.{append_assoc, inl, inr}
use Rattle.serde_amqp_item.specs.Item.{Item}
use Rattle.serde_amqp_item.specs.Wire.{Wire}
use Rattle.serde_amqp_item.specs.Canon.{◌>>=◌}
use Rattle.serde_amqp_item.proofs.Texts.{bind_some}
use Rattle.serde_amqp_de.specs.Decides.{Decided}
use Rattle.amqp_link_sections.specs.Header.{header_taken}
use Rattle.amqp_link_sections.specs.HeaderLaws.{header_decided}
use Rattle.amqp_link_sections.specs.Annotations.{delivery_annotations_taken, message_annotations_taken}
use Rattle.amqp_link_sections.specs.Annotations.{application_properties_taken, footer_taken}
use Rattle.amqp_link_sections.specs.AnnotationLaws.{delivery_annotations_decided, message_annotations_decided}
use Rattle.amqp_link_sections.specs.AnnotationLaws.{application_properties_decided, footer_decided}
use Rattle.amqp_link_sections.specs.Properties.{properties_taken}
use Rattle.amqp_link_sections.specs.PropertiesLaws.{properties_decided}
use Rattle.amqp_link_message.specs.Payload.{Says}
use Rattle.amqp_link_message.specs.Parts.{at_most_one, exactly_one, ReadsParts, EndsOrBegins, OneValue}
use Rattle.amqp_link_message.specs.Message.{message_takes}
use Rattle.amqp_link_message.specs.Sections.{TakesCode, IsOfBody, EachOfBody, IsBody}
use Rattle.amqp_link_message.specs.SayingLaws.{nothing_said, said_first, fronts_same, form_not_empty}
use Rattle.amqp_link_message.specs.SectionLaws.{code_same}
use Rattle.amqp_link_message.specs.CodeLaws.{header_coded, delivery_annotations_coded, message_annotations_coded}
use Rattle.amqp_link_message.specs.CodeLaws.{properties_coded, application_properties_coded, footer_coded}
use Rattle.amqp_link_message.specs.PartLaws.{Begins, not_behind, first_part, one_behind, part_begins, nothing_begins}
use Rattle.amqp_link_message.specs.BodyLaws.{body_begins}

abbrev Parts : Type 0
Parts = List (List Item → Option (List Item))

-- the bytes are read as these parts in one way
abbrev Once : Parts → Type 0
Once takes = (bytes : List ℕ) (p q : List (List Item)) → ReadsParts takes bytes p → ReadsParts takes bytes q → p ≡ q

pub same_some : {X : Type 0} (x y : X) (o : Option X) → o ≡ Some x → o ≡ Some y → x ≡ y
same_some x y o e f = let h : Some x ≡ Some y = sym e ∙ f in cc

nothing_behind : Once []
nothing_behind bytes [] [] g h = refl
nothing_behind bytes (ys ∷ p) q g h = absurd g.taken
nothing_behind bytes [] (us ∷ q) g h = absurd h.taken

-- one item that is taken, and what it is taken as
taken_as : (take : Item → Option Item) (x : Item) (ys : List Item) → (take x >>= λ z. Some (z ∷ [])) ≡ Some ys
    → (y : Item) × (take x ≡ Some y) × (ys ≡ y ∷ [])
taken_as take x ys e =
    let h = bind_some (take x) (λ z. Some (z ∷ [])) ys e in
    let f : h.0 ∷ [] ≡ ys = same_some (h.0 ∷ []) ys (Some (h.0 ∷ [])) refl h.2 in
    (h.0, h.1, sym f)

-- two sections in front, and the parts behind them
one_and_one : (take : Item → Option Item) (takes : Parts) (a b rest behind : List ℕ) (x z : Item) (ys us : List Item)
    (p q : List (List Item)) → Decided take → Once takes
    → Wire x None a → Wire z None b → a ++ rest ≡ b ++ behind → (take x >>= λ w. Some (w ∷ [])) ≡ Some ys
    → (take z >>= λ w. Some (w ∷ [])) ≡ Some us
    → ReadsParts takes rest p → ReadsParts takes behind q → ys ∷ p ≡ us ∷ q
one_and_one take takes a b rest behind x z ys us p q d o v w e s t g h =
    let same = fronts_same x z a b rest behind v w e in
    let y = taken_as take x ys s in
    let u = taken_as take z us t in
    let first : y.0 ≡ u.0 = d x z None b y.0 u.0 (subst (λ (c : List ℕ). Wire x None c) same.0 v) w y.1 u.1 in
    let parts : ys ≡ us = y.2 ∙ (ap (λ (i : Item). i ∷ []) first ∙ sym u.2) in
    let others : p ≡ q = o behind p q (subst (λ (c : List ℕ). ReadsParts takes c p) same.1 g) h in
    ap (λ (l : List Item). l ∷ p) parts ∙ ap (λ (l : List (List Item)). us ∷ l) others

absent_or_there : (take : Item → Option Item) (takes : Parts) (code least : ℕ) (bytes behind front : List ℕ) (x : Item)
    (us : List Item) (p : List (List Item)) → TakesCode take code → code < least → Begins least takes
    → ReadsParts takes bytes p → Wire x None front → bytes ≡ front ++ behind → (take x >>= λ w. Some (w ∷ [])) ≡ Some us
    → ⊥
absent_or_there take takes code least bytes behind front x us p c l b g w e t =
    let u = taken_as take x us t in
    not_behind take code least bytes behind u.0 c l
    (record { item = x; front = front; wire = w; split = e; taken = u.1 }) (b bytes p g)

part_once_by : (take : Item → Option Item) (takes : Parts) (code least : ℕ) (bytes front rest other behind : List ℕ)
    (part items ys us : List Item) (p q : List (List Item)) → Decided take → TakesCode take code → code < least
    → Begins least takes → Once takes
    → bytes ≡ front ++ rest → Says front part → at_most_one take part ≡ Some ys → ReadsParts takes rest p
    → bytes ≡ other ++ behind → Says other items → at_most_one take items ≡ Some us → ReadsParts takes behind q
    → ys ∷ p ≡ us ∷ q
part_once_by take takes code least bytes front rest other behind [] [] ys us p q d c l b o e s t g f w k h =
    let left : rest ≡ bytes = sym (e ∙ ap (λ (a : List ℕ). a ++ rest) (nothing_said front s)) in
    let right : behind ≡ bytes = sym (f ∙ ap (λ (a : List ℕ). a ++ behind) (nothing_said other w)) in
    let parts : ys ≡ us = same_some ys us (Some []) t k in
    let others : p ≡ q =
    o bytes p q (subst (λ (a : List ℕ). ReadsParts takes a p) left g)
    (subst (λ (a : List ℕ). ReadsParts takes a q) right h) in
    ap (λ (a : List Item). a ∷ p) parts ∙ ap (λ (a : List (List Item)). us ∷ a) others
part_once_by take takes code least bytes front rest other behind [] (z ∷ []) ys us p q d c l b o e s t g f w k h =
    let left : rest ≡ bytes = sym (e ∙ ap (λ (a : List ℕ). a ++ rest) (nothing_said front s)) in
    let n = one_behind z bytes other behind f w in
    absurd (absent_or_there take takes code least bytes behind n.0 z us p c l b
    (subst (λ (a : List ℕ). ReadsParts takes a p) left g) n.1 n.2 k)
part_once_by take takes code least bytes front rest other behind (x ∷ []) [] ys us p q d c l b o e s t g f w k h =
    let right : behind ≡ bytes = sym (f ∙ ap (λ (a : List ℕ). a ++ behind) (nothing_said other w)) in
    let m = one_behind x bytes front rest e s in
    absurd (absent_or_there take takes code least bytes rest m.0 x ys q c l b
    (subst (λ (a : List ℕ). ReadsParts takes a q) right h) m.1 m.2 t)
part_once_by take takes code least bytes front rest other behind (x ∷ []) (z ∷ []) ys us p q d c l b o e s t g f w k h =
    let m = one_behind x bytes front rest e s in
    let n = one_behind z bytes other behind f w in
    one_and_one take takes m.0 n.0 rest behind x z ys us p q d o m.1 n.1 (sym m.2 ∙ n.2) t k g h
part_once_by take takes code least bytes front rest other behind (x ∷ y ∷ part) items ys us p q d c l b o e s t g f w k
    h = absurd cc
part_once_by take takes code least bytes front rest other behind [] (z ∷ y ∷ items) ys us p q d c l b o e s t g f w k
    h = absurd cc
part_once_by take takes code least bytes front rest other behind (x ∷ []) (z ∷ y ∷ items) ys us p q d c l b o e s t g f
    w k h = absurd cc

part_once : (take : Item → Option Item) (takes : Parts) (code least : ℕ) → Decided take → TakesCode take code
    → code < least → Begins least takes → Once takes → Once (at_most_one take ∷ takes)
part_once take takes code least d c l b o bytes [] q g h = absurd g.taken
part_once take takes code least d c l b o bytes (ys ∷ p) [] g h = absurd h.taken
part_once take takes code least d c l b o bytes (ys ∷ p) (us ∷ q) g h =
    let m = first_part (at_most_one take) takes bytes ys p g in
    let n = first_part (at_most_one take) takes bytes us q h in
    part_once_by take takes code least bytes m.front m.rest n.front n.rest m.part n.part ys us p q d c l b o m.split
    m.said m.taken m.others n.split n.said n.taken n.others

-- bytes that begin with a section of a body aren't what stands behind it
body_not_behind : (x : Item) (bytes front rest : List ℕ) → IsOfBody x → Wire x None front → bytes ≡ front ++ rest
    → EndsOrBegins 0x78 bytes → ⊥
body_not_behind x bytes front rest b w e (inl n) = form_not_empty x front rest w (sym n ∙ e)
body_not_behind x bytes front rest b w e (inr n) =
    let same = code_same x n.item front n.front rest n.more b.code n.code w n.wire (sym e ∙ n.split) b.coded n.coded in
    absurd (omega (arith, same, b.to_value, n.least_is))

-- sections of a body end where others begin
body_ends_by : (bytes front rest other behind : List ℕ) (xs zs : List Item) → EachOfBody xs → EachOfBody zs
    → Says front xs → Says other zs → bytes ≡ front ++ rest → bytes ≡ other ++ behind
    → EndsOrBegins 0x78 rest → EndsOrBegins 0x78 behind → (front ≡ other) × (rest ≡ behind)
body_ends_by bytes front rest other behind [] [] i j s w e f m n =
    let left = nothing_said front s in
    let right = nothing_said other w in
    (left ∙ sym right, sym (e ∙ ap (λ (a : List ℕ). a ++ rest) left) ∙ (f ∙ ap (λ (a : List ℕ). a ++ behind) right))
body_ends_by bytes front rest other behind [] (z ∷ zs) i j s w e f m n =
    let left : bytes ≡ rest = e ∙ ap (λ (a : List ℕ). a ++ rest) (nothing_said front s) in
    let o = said_first z zs other w in
    absurd (body_not_behind z rest o.front (o.rest ++ behind) j.0 o.wire
    (sym left ∙ (f ∙ (ap (λ (a : List ℕ). a ++ behind) o.split ∙ append_assoc o.front o.rest behind))) m)
body_ends_by bytes front rest other behind (x ∷ xs) [] i j s w e f m n =
    let right : bytes ≡ behind = f ∙ ap (λ (a : List ℕ). a ++ behind) (nothing_said other w) in
    let o = said_first x xs front s in
    absurd (body_not_behind x behind o.front (o.rest ++ rest) i.0 o.wire
    (sym right ∙ (e ∙ (ap (λ (a : List ℕ). a ++ rest) o.split ∙ append_assoc o.front o.rest rest))) n)
body_ends_by bytes front rest other behind (x ∷ xs) (z ∷ zs) i j s w e f m n =
    let o = said_first x xs front s in
    let p = said_first z zs other w in
    let left : bytes ≡ o.front ++ (o.rest ++ rest) =
    e ∙ (ap (λ (a : List ℕ). a ++ rest) o.split ∙ append_assoc o.front o.rest rest) in
    let right : bytes ≡ p.front ++ (p.rest ++ behind) =
    f ∙ (ap (λ (a : List ℕ). a ++ behind) p.split ∙ append_assoc p.front p.rest behind) in
    let same = fronts_same x z o.front p.front (o.rest ++ rest) (p.rest ++ behind) o.wire p.wire (sym left ∙ right) in
    let t = body_ends_by (o.rest ++ rest) o.rest rest p.rest behind xs zs i.1 j.1 o.others p.others refl same.1 m n in
    (o.split ∙ (ap (λ (a : List ℕ). a ++ o.rest) same.0 ∙ (ap (λ (a : List ℕ). p.front ++ a) t.0 ∙ sym p.split)), t.1)

each_of : (xs : List Item) → IsBody xs → EachOfBody xs
each_of [] b = absurd b
each_of (x ∷ xs) b = b

body_once : (take : List Item → Option (List Item)) (takes : Parts)
    → ((xs ys : List Item) → take xs ≡ Some ys → IsBody xs) → OneValue take → Begins 0x78 takes → Once takes
    → Once (take ∷ takes)
body_once take takes i d b o bytes [] q g h = absurd g.taken
body_once take takes i d b o bytes (ys ∷ p) [] g h = absurd h.taken
body_once take takes i d b o bytes (ys ∷ p) (us ∷ q) g h =
    let m = first_part take takes bytes ys p g in
    let n = first_part take takes bytes us q h in
    let same =
    body_ends_by bytes m.front m.rest n.front n.rest m.part n.part (each_of m.part (i m.part ys m.taken))
    (each_of n.part (i n.part us n.taken)) m.said n.said m.split n.split (b m.rest p m.others)
    (b n.rest q n.others) in
    let parts : ys ≡ us =
    d n.front m.part n.part ys us (subst (λ (a : List ℕ). Says a m.part) same.0 m.said) n.said m.taken n.taken in
    let others : p ≡ q = o n.rest p q (subst (λ (a : List ℕ). ReadsParts takes a p) same.1 m.others) n.others in
    ap (λ (a : List Item). a ∷ p) parts ∙ ap (λ (a : List (List Item)). us ∷ a) others

-- one section
pub one_decided : (take : Item → Option Item) → Decided take → OneValue (exactly_one take)
one_decided take d bytes [] zs ys us g h s t = absurd cc
one_decided take d bytes (x ∷ w ∷ xs) zs ys us g h s t = absurd cc
one_decided take d bytes (x ∷ []) [] ys us g h s t = absurd cc
one_decided take d bytes (x ∷ []) (z ∷ v ∷ zs) ys us g h s t = absurd cc
one_decided take d bytes (x ∷ []) (z ∷ []) ys us g h s t =
    let m = said_first x [] bytes g in
    let n = said_first z [] bytes h in
    let same = fronts_same x z m.front n.front m.rest n.rest m.wire n.wire (sym m.split ∙ n.split) in
    let y = taken_as take x ys s in
    let u = taken_as take z us t in
    let first : y.0 ≡ u.0 =
    d x z None n.front y.0 u.0 (subst (λ (c : List ℕ). Wire x None c) same.0 m.wire) n.wire y.1 u.1 in
    y.2 ∙ (ap (λ (i : Item). i ∷ []) first ∙ sym u.2)

-- a message, from its end to its beginning
pub message_once : (take : List Item → Option (List Item)) → ((xs ys : List Item) → take xs ≡ Some ys → IsBody xs)
    → OneValue take
    → (bytes : List ℕ) (p q : List (List Item)) → ReadsParts (message_takes take) bytes p
    → ReadsParts (message_takes take) bytes q → p ≡ q
message_once take i d =
    let t6 : Parts = at_most_one footer_taken ∷ [] in
    let b6 : Begins 0x78 t6 = part_begins footer_taken [] 0x78 0x79 footer_coded (omega arith) (nothing_begins refl) in
    let o6 : Once t6 =
    part_once footer_taken [] 0x78 0x79 footer_decided footer_coded (omega arith) (nothing_begins refl)
    nothing_behind in
    let t5 : Parts = take ∷ t6 in
    let b5 : Begins 0x75 t5 = body_begins take t6 i refl in
    let o5 : Once t5 = body_once take t6 i d b6 o6 in
    let t4 : Parts = at_most_one application_properties_taken ∷ t5 in
    let b4 : Begins 0x74 t4 =
    part_begins application_properties_taken t5 0x74 0x75 application_properties_coded (omega arith) b5 in
    let o4 : Once t4 =
    part_once application_properties_taken t5 0x74 0x75 application_properties_decided application_properties_coded
    (omega arith) b5 o5 in
    let t3 : Parts = at_most_one properties_taken ∷ t4 in
    let b3 : Begins 0x73 t3 = part_begins properties_taken t4 0x73 0x74 properties_coded (omega arith) b4 in
    let o3 : Once t3 =
    part_once properties_taken t4 0x73 0x74 properties_decided properties_coded (omega arith) b4 o4 in
    let t2 : Parts = at_most_one message_annotations_taken ∷ t3 in
    let b2 : Begins 0x72 t2 =
    part_begins message_annotations_taken t3 0x72 0x73 message_annotations_coded (omega arith) b3 in
    let o2 : Once t2 =
    part_once message_annotations_taken t3 0x72 0x73 message_annotations_decided message_annotations_coded
    (omega arith) b3 o3 in
    let t1 : Parts = at_most_one delivery_annotations_taken ∷ t2 in
    let b1 : Begins 0x71 t1 =
    part_begins delivery_annotations_taken t2 0x71 0x72 delivery_annotations_coded (omega arith) b2 in
    let o1 : Once t1 =
    part_once delivery_annotations_taken t2 0x71 0x72 delivery_annotations_decided delivery_annotations_coded
    (omega arith) b2 o2 in
    part_once header_taken t1 0x70 0x71 header_decided header_coded (omega arith) b1 o1
