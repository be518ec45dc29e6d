-- A list that is written behind room for its head.
use Rattle.std.proofs.Common.{◌≡◌, ℕ, ◌+◌, ◌<◌, ◌≤◌, ◌^◌, List, [], ◌∷◌, ◌++◌, length, Option, Some, None, true}
use Rattle.std.proofs.Common.{false, cond, sym, ◌∙◌, ap, refl, arith, Bool, Result, subst}
use Rattle.std.specs.Prelude.{◌≢◌, ◌==◌, nat_lt, OnOk}
use Rattle.std.specs.Int.{w32, to_be_bytes}
use Rattle.std.proofs.lemmas.Bool.Decides.{nat_tests}
use Rattle.serde_amqp_item.specs.Item.{Item, Items, no_items, scalar, ulong, list, described, items_of, item_count}
use Rattle.serde_amqp_item.specs.Record.{all_null, trimmed, record_item}
use Rattle.serde_amqp_item.specs.declared.error.Error.{Error}
use Rattle.serde_amqp_item.specs.Canon.{◌>>=◌, canon_all, Place, alone, list_text}
use Rattle.serde_amqp_item.proofs.Texts.{list_is_placed, count-le-length}
use Rattle.serde_amqp_ser.specs.Written.{Written, extended, inside, Keeps}
use Rattle.serde_amqp_ser.specs.Puts.{State, behind, serialized, listed, OnlyWhere}
use Rattle.serde_amqp_ser.specs.Open.{IsRoomy}
use Rattle.serde_amqp_ser.proofs.Grown.{extended-extended, keeps_inside, keeps_once, keeps_then}
use Rattle.serde_amqp_ser.proofs.Listed.{listed_text}
use Rattle.serde_amqp_ser.proofs.Fronts.{described_written, listed_from}
use Rattle.serde_amqp_ser.proofs.Counted.{four_bytes, fits_some}

abbrev pub at : Written → State
at w = record { written = w; place = alone }

empty_text : (n : ℕ) (text : List ℕ) → length text ≡ 0 → list_text n text ≡ Some (0x45 ∷ [])
empty_text n text e = let t : (length text == 0) ≡ true = grind (arith, nat_tests) in rw t refl

narrow_text : (n : ℕ) (text : List ℕ) → length text ≢ 0 → length text < 255
    → list_text n text ≡ Some (0xc0 ∷ (length text + 1) ∷ n ∷ text)
narrow_text n text e l =
    let t : (length text == 0) ≡ false = grind (arith, nat_tests) in
    let u : nat_lt (length text) 255 ≡ true = grind (arith, nat_tests) in
    rw (t, u) refl

wide_text : (n : ℕ) (text : List ℕ) → 255 ≤ length text → length text + 4 < 2 ^ 32
    → list_text n text ≡ Some (0xd0 ∷ four_bytes (length text + 4) n text)
wide_text n text l m =
    let t : (length text == 0) ≡ false = grind (arith, nat_tests) in
    let u : nat_lt (length text) 255 ≡ false = grind (arith, nat_tests) in
    let v : nat_lt (length text + 4) (2 ^ 32) ≡ true = grind (arith, nat_tests) in
    rw (t, u, v) refl

-- a list by its text
list_as : (w : Written) (xs : Items) (text : List ℕ) (o : Option (List ℕ)) → canon_all xs ≡ Some text
    → list_text (item_count xs) text ≡ o → serialized (at w) (list xs) ≡ behind (at w) (o >>= λ b. Some (alone, b))
list_as w xs text o t e = ap (behind (at w)) (list_is_placed alone xs text t)
    ∙ ap (λ (q : Option (List ℕ)). behind (at w) (q >>= λ b. Some (alone, b))) e

ends_at : (w new : Written) (p : Place) (xs : Items) (a : List ℕ) → p ≡ alone
    → serialized (at w) (list xs) ≡ Some (at (extended w a)) → new ≡ extended w a
    → serialized (at w) (list xs) ≡ Some (record { written = new; place = p })
ends_at w new p xs a q e n = e ∙ (ap (λ (v : Written). Some (at v)) (sym n)
    ∙ ap (λ (r : Place). Some (record { written = new; place = r })) (sym q))

-- what a sink says of the content
abbrev pub Lengthy : (ℕ → ℕ) → Written → ℕ → Option ℕ → Type 0
Lengthy begins now content o = (v : Written) (text : List ℕ) → now ≡ extended (inside begins v) text
    → v.size ≡ content → o ≡ cond (nat_lt (length text) (2 ^ 32)) (Some (length text)) None

len_is : (begins : ℕ → ℕ) (w now : Written) (start content len : ℕ) (xs : Items)
    → (h : IsRoomy begins w start content xs now) → Lengthy begins now content (Some len)
    → (text : List ℕ) × (canon_all xs ≡ Some text) × (now ≡ extended (inside begins (extended w h.room)) text)
    × (length text ≡ len) × (length text < 2 ^ 32)
len_is begins w now start content len xs h says =
    let t = listed_text (inside begins (extended w h.room)) now xs h.items in
    let f = fits_some (length t.0) len (sym (says (extended w h.room) t.0 t.2 h.inner)) in
    (t.0, t.1, t.2, f.0, f.1)

-- items behind the beginning of a list with room for its head
pub begun_roomy : (begins : ℕ → ℕ) (w placed opened now : Written) (start content : ℕ) (xs : Items) (room : List ℕ)
    → length room ≡ 3 → start ≡ w.size → placed ≡ extended w room → opened ≡ extended (inside begins placed) []
    → content ≡ placed.size → listed opened xs ≡ Some now → IsRoomy begins w start content xs now
begun_roomy begins w placed opened now start content xs room long begun put opens inner items =
    let there : opened ≡ extended (inside begins (extended w room)) [] =
    opens ∙ ap (λ (v : Written). extended (inside begins v) []) put in
    record {
      room = room;
      long = long;
      begun = sym begun;
      inner = sym (inner ∙ ap (λ (v : Written). v.size) put);
      items = listed_from (inside begins (extended w room)) opened now xs there items;
    }

-- the bytes before the room stay
pub roomy_kept : (begins : ℕ → ℕ) (w now : Written) (start content : ℕ) (xs : Items)
    → IsRoomy begins w start content xs now → Keeps w now
roomy_kept begins w now start content xs h =
    let t = listed_text (inside begins (extended w h.room)) now xs h.items in
    keeps_then w (extended w h.room) now (keeps_once w (extended w h.room) h.room refl)
    (keeps_inside begins (extended w h.room) now t.0 t.2)

pub roomy_empty : (begins : ℕ → ℕ) (w now new : Written) (start content len : ℕ) (xs : Items) (p : Place) → p ≡ alone
    → IsRoomy begins w start content xs now → Lengthy begins now content (Some len) → len ≡ 0
    → new ≡ extended w (0x45 ∷ []) → serialized (at w) (list xs) ≡ Some (record { written = new; place = p })
roomy_empty begins w now new start content len xs p alone_is h says z n =
    let t = len_is begins w now start content len xs h says in
    ends_at w new p xs (0x45 ∷ []) alone_is (list_as w xs t.0 (Some (0x45 ∷ [])) t.1
    (empty_text (item_count xs) t.0 (t.3 ∙ z))) n

-- what a sink says of ending content, and of putting bytes in the place of others
abbrev pub Joins : (ℕ → ℕ) → Written → Written → ℕ → Type 0
Joins begins now mid content = (v : Written) (text : List ℕ) → now ≡ extended (inside begins v) text
    → v.size ≡ content → mid ≡ extended v text

abbrev pub Closes : (ℕ → ℕ) → Written → Written → ℕ → List ℕ → Type 0
Closes begins now mid content head = (v : Written) (text : List ℕ) → now ≡ extended (inside begins v) text
    → v.size ≡ content → mid ≡ extended v (head ++ text)

abbrev pub Overwrites : Written → Written → ℕ → List ℕ → Type 0
Overwrites mid new start bytes = (v : Written) (room more : List ℕ) → mid ≡ extended v (room ++ more) → v.size ≡ start
    → length room ≡ length bytes → new ≡ extended v (bytes ++ more)

pub roomy_narrow : (begins : ℕ → ℕ) (w now mid new : Written) (start content len l n : ℕ) (xs : Items) (p : Place)
    → p ≡ alone → IsRoomy begins w start content xs now → Lengthy begins now content (Some len) → len ≢ 0 → len < 255
    → l ≡ len + 1 → item_count xs ≡ n → Joins begins now mid content → Overwrites mid new start (0xc0 ∷ l ∷ n ∷ [])
    → serialized (at w) (list xs) ≡ Some (record { written = new; place = p })
roomy_narrow begins w now mid new start content len l n xs p alone_is h says some short next count joins over =
    let t = len_is begins w now start content len xs h says in
    let there = over w h.room t.0 (joins (extended w h.room) t.0 t.2 h.inner ∙ extended-extended w h.room t.0) h.begun
    h.long in
    let text : list_text (item_count xs) t.0 ≡ Some (0xc0 ∷ l ∷ n ∷ t.0) =
    narrow_text (item_count xs) t.0 (λ z. some (sym t.3 ∙ z)) (omega (arith, t.3, short))
    ∙ (ap (λ (i : ℕ). Some (0xc0 ∷ i ∷ item_count xs ∷ t.0)) (omega (arith, t.3, next))
    ∙ ap (λ (i : ℕ). Some (0xc0 ∷ l ∷ i ∷ t.0)) count) in
    ends_at w new p xs (0xc0 ∷ l ∷ n ∷ t.0) alone_is (list_as w xs t.0 (Some (0xc0 ∷ l ∷ n ∷ t.0)) t.1 text) there

-- more items than bytes
pub roomy_full : (begins : ℕ → ℕ) (w now : Written) (start content len count : ℕ) (xs : Items)
    → IsRoomy begins w start content xs now → Lengthy begins now content (Some len) → len < 255
    → item_count xs ≡ count → 255 < count → ⊥
roomy_full begins w now start content len count xs h says short c many =
    let t = len_is begins w now start content len xs h says in
    omega (arith, t.3, short, c, many, count-le-length xs t.0 t.1)

pub roomy_wide : (begins : ℕ → ℕ) (w now mid new : Written) (start content len size n s0 s1 s2 s3 c0 c1 c2 c3 : ℕ)
    (xs : Items) (p : Place) → p ≡ alone → IsRoomy begins w start content xs now
    → Lengthy begins now content (Some len) → 255 ≤ len → len + 4 ≡ size → size < 2 ^ 32 → item_count xs ≡ n
    → to_be_bytes w32 size ≡ s0 ∷ s1 ∷ s2 ∷ s3 ∷ [] → to_be_bytes w32 n ≡ c0 ∷ c1 ∷ c2 ∷ c3 ∷ []
    → Closes begins now mid content (s2 ∷ s3 ∷ c0 ∷ c1 ∷ c2 ∷ c3 ∷ [])
    → Overwrites mid new start (0xd0 ∷ s0 ∷ s1 ∷ []) → serialized (at w) (list xs)
    ≡ Some (record { written = new; place = p })
roomy_wide begins w now mid new start content len size n s0 s1 s2 s3 c0 c1 c2 c3 xs p alone_is h says long sum fits
    count sized counted closes over =
    let t = len_is begins w now start content len xs h says in
    let behind_room = s2 ∷ s3 ∷ c0 ∷ c1 ∷ c2 ∷ c3 ∷ t.0 in
    let there = over w h.room behind_room (closes (extended w h.room) t.0 t.2 h.inner
    ∙ extended-extended w h.room behind_room) h.begun h.long in
    let same : length t.0 + 4 ≡ size = omega (arith, t.3, sum) in
    let a = 0xd0 ∷ s0 ∷ s1 ∷ s2 ∷ s3 ∷ c0 ∷ c1 ∷ c2 ∷ c3 ∷ t.0 in
    let text : list_text (item_count xs) t.0 ≡ Some a =
    wide_text (item_count xs) t.0 (omega (arith, t.3, long)) (omega (arith, same, fits))
    ∙ (ap (λ (i : ℕ). Some (0xd0 ∷ four_bytes i (item_count xs) t.0)) same
    ∙ (ap (λ (i : ℕ). Some (0xd0 ∷ four_bytes size i t.0)) count
    ∙ (ap (λ (b : List ℕ). Some (0xd0 ∷ (b ++ to_be_bytes w32 n ++ t.0))) sized
    ∙ ap (λ (b : List ℕ). Some (0xd0 ∷ s0 ∷ s1 ∷ s2 ∷ s3 ∷ (b ++ t.0))) counted))) in
    ends_at w new p xs a alone_is (list_as w xs t.0 (Some a) t.1 text) there

-- a described list with no items
pub empty_written : (s0 s1 : State) (w now : Written) (d : Item) (p : Place) → s0.place ≡ alone
    → s1.written ≡ extended s0.written (0x00 ∷ []) → s1.place ≡ alone → serialized s1 d ≡ Some (at w) → p ≡ alone
    → now ≡ extended w (0x45 ∷ []) → serialized s0 (described d (list no_items))
    ≡ Some (record { written = now; place = p })
empty_written s0 s1 w now d p p0 put p1 head q n =
    let last : serialized (at w) (list no_items) ≡ Some (at now) = ap (λ (v : Written). Some (at v)) (sym n) in
    described_written s0 s1 (at w) (at now) d (list no_items) p0 put p1 head refl last
    ∙ ap (λ (r : Place). Some (record { written = now; place = r })) (sym q)

none_left : (xs : List Item) → all_null xs ≡ true → trimmed xs ≡ []
none_left [] e = refl
none_left (x ∷ xs) e = ap (λ (b : Bool). cond b [] (x ∷ trimmed xs)) e

same_record : (code : ℕ) (xs : List Item) → all_null xs ≡ true → record_item code [] ≡ record_item code xs
same_record code xs e = ap (λ (ys : List Item). described (scalar (ulong code)) (list (items_of ys)))
    (sym (none_left xs e))

-- a record whose fields are all null
pub empty_ok : (r : Result (Unit {0}) Error) (s t : State) (code : ℕ) (xs : List Item) → all_null xs ≡ true
    → OnOk r (serialized s (record_item code []) ≡ Some t) → OnOk r (serialized s (record_item code xs) ≡ Some t)
empty_ok r s t code xs e h = subst (λ (x : Item). OnOk r (serialized s x ≡ Some t)) (same_record code xs e) h

pub empty_refused : (r : Result (Unit {0}) Error) (s : State) (code : ℕ) (xs : List Item) → all_null xs ≡ true
    → OnlyWhere r (serialized s (record_item code [])) → OnlyWhere r (serialized s (record_item code xs))
empty_refused r s code xs e h = subst (λ (x : Item). OnlyWhere r (serialized s x)) (same_record code xs e) h
