-- Items listed from the front.
use Rattle.std.proofs.Common.{◌≡◌, ℕ, ◌+◌, ◌≤◌, ◌^◌, List, [], ◌∷◌, ◌++◌, Option, Some, None, sym, ◌∙◌, ap, subst, refl, arith}
use Rattle.serde_amqp_item.specs.Item.{Item, Items, list, described, more_items, item_count}
use Rattle.serde_amqp_item.specs.Canon.{◌>>=◌, canon, canon_all, Place, alone, placed}
use Rattle.serde_amqp_item.proofs.Texts.{list_not_placed, count-le-length}
use Rattle.serde_amqp_ser.specs.Written.{Written, extended}
use Rattle.serde_amqp_ser.specs.Puts.{State, behind, serialized, listed}
use Rattle.serde_amqp_ser.proofs.Grown.{extended-extended}
use Rattle.serde_amqp_ser.proofs.Listed.{listed_text, list_stuck, alone_gives, alone_none_of, alone_stays}
use Rattle.serde_amqp_ser.proofs.Counted.{counted_long}

pub listed_front : (x : Item) (xs : Items) (s t : State) (now : Written) → s.place ≡ alone → serialized s x ≡ Some t → listed t.written xs ≡ Some now → listed s.written (more_items x xs) ≡ Some now
listed_front x xs s t now p e f =
    let a = alone_gives x s t p e in
    let b = listed_text t.written now xs f in
    let there : extended s.written (a.0 ++ b.0) ≡ now = sym (extended-extended s.written a.0 b.0) ∙ (ap (λ (v : Written). extended v b.0) (sym a.2) ∙ sym b.2) in
    ap (λ (o : Option (List ℕ)). (o >>= λ u. canon_all xs >>= λ v. Some (u ++ v)) >>= λ r. Some (extended s.written r)) a.1
    ∙ (ap (λ (o : Option (List ℕ)). (o >>= λ v. Some (a.0 ++ v)) >>= λ r. Some (extended s.written r)) b.1 ∙ ap (λ (v : Written). Some v) there)

pub listed_first_stuck : (x : Item) (xs : Items) (s : State) → s.place ≡ alone → serialized s x ≡ None → listed s.written (more_items x xs) ≡ None
listed_first_stuck x xs s p e =
    ap (λ (o : Option (List ℕ)). (o >>= λ u. canon_all xs >>= λ v. Some (u ++ v)) >>= λ r. Some (extended s.written r)) (alone_none_of x s p e)

none_behind : (o : Option (List ℕ)) (w : Written) → (o >>= λ r. Some (extended w r)) ≡ None → o ≡ None
none_behind None w e = refl
none_behind (Some r) w e = absurd cc

pub listed_others_stuck : (x : Item) (xs : Items) (s t : State) → s.place ≡ alone → serialized s x ≡ Some t → listed t.written xs ≡ None → listed s.written (more_items x xs) ≡ None
listed_others_stuck x xs s t p e f =
    let a = alone_gives x s t p e in
    ap (λ (o : Option (List ℕ)). (o >>= λ u. canon_all xs >>= λ v. Some (u ++ v)) >>= λ r. Some (extended s.written r)) a.1
    ∙ ap (λ (o : Option (List ℕ)). (o >>= λ v. Some (a.0 ++ v)) >>= λ r. Some (extended s.written r)) (none_behind (canon_all xs) t.written f)

pub state_is : (t : State) (w : Written) → t.written ≡ w → t.place ≡ alone → record { written = w; place = alone } ≡ t
state_is t w e p = ap (λ (v : Written). record { written = v; place = alone }) (sym e) ∙ ap (λ (q : Place). record { written = t.written; place = q }) (sym p)

-- a described value, by its parts
pub described_written : (s0 s1 s2 s3 : State) (d v : Item) → s0.place ≡ alone → s1.written ≡ extended s0.written (0x00 ∷ []) → s1.place ≡ alone → serialized s1 d ≡ Some s2 → s2.place ≡ alone → serialized s2 v ≡ Some s3 → serialized s0 (described d v) ≡ Some s3
described_written s0 s1 s2 s3 d v p0 w p1 e p2 f =
    let a = alone_gives d s1 s2 p1 e in
    let b = alone_gives v s2 s3 p2 f in
    let place = alone_stays v s2 s3 p2 f in
    let joined : s3.written ≡ extended s0.written (0x00 ∷ (a.0 ++ b.0)) =
    b.2 ∙ (ap (λ (x : Written). extended x b.0) (a.2 ∙ (ap (λ (x : Written). extended x a.0) w ∙ extended-extended s0.written (0x00 ∷ []) a.0)) ∙ extended-extended s0.written (0x00 ∷ a.0) b.0) in
    subst (λ (q : Place). behind s0 (placed q (described d v)) ≡ Some s3) (sym p0)
    (ap (λ (o : Option (List ℕ)). behind s0 ((o >>= λ x. canon v >>= λ y. Some (0x00 ∷ x ++ y)) >>= λ x. Some (alone, x))) a.1
    ∙ (ap (λ (o : Option (List ℕ)). behind s0 ((o >>= λ y. Some (0x00 ∷ a.0 ++ y)) >>= λ x. Some (alone, x))) b.1
    ∙ ap (λ (t : State). Some t) (state_is s3 (extended s0.written (0x00 ∷ (a.0 ++ b.0))) joined place)))

pub descriptor_stuck : (s0 s1 : State) (d v : Item) → s0.place ≡ alone → s1.place ≡ alone → serialized s1 d ≡ None → serialized s0 (described d v) ≡ None
descriptor_stuck s0 s1 d v p0 p1 e =
    subst (λ (q : Place). behind s0 (placed q (described d v)) ≡ None) (sym p0)
    (ap (λ (o : Option (List ℕ)). behind s0 ((o >>= λ x. canon v >>= λ y. Some (0x00 ∷ x ++ y)) >>= λ x. Some (alone, x))) (alone_none_of d s1 p1 e))

text_stuck : (o r : Option (List ℕ)) (s0 : State) → r ≡ None → behind s0 ((o >>= λ x. r >>= λ y. Some (0x00 ∷ x ++ y)) >>= λ x. Some (alone, x)) ≡ None
text_stuck None r s0 e = refl
text_stuck (Some x) r s0 e = ap (λ (q : Option (List ℕ)). behind s0 ((q >>= λ y. Some (0x00 ∷ x ++ y)) >>= λ x. Some (alone, x))) e

pub value_stuck : (s0 s2 : State) (d v : Item) → s0.place ≡ alone → s2.place ≡ alone → serialized s2 v ≡ None → serialized s0 (described d v) ≡ None
value_stuck s0 s2 d v p0 p2 e =
    subst (λ (q : Place). behind s0 (placed q (described d v)) ≡ None) (sym p0) (text_stuck (canon d) (canon v) s0 (alone_none_of v s2 p2 e))

-- a list whose items can't be written
pub items_stuck : (s : State) (xs : Items) → s.place ≡ alone → listed s.written xs ≡ None → serialized s (list xs) ≡ None
items_stuck s xs p e = ap (behind s) (list_not_placed s.place xs (none_behind (canon_all xs) s.written e))

-- items behind the beginning of a list
pub listed_from : (v opened now : Written) (xs : Items) → opened ≡ extended v [] → listed opened xs ≡ Some now → listed v xs ≡ Some now
listed_from v opened now xs o e =
    let t = listed_text opened now xs e in
    let there : extended v t.0 ≡ now = sym (extended-extended v [] t.0) ∙ (ap (λ (w : Written). extended w t.0) (sym o) ∙ sym t.2) in
    ap (λ (o : Option (List ℕ)). o >>= λ b. Some (extended v b)) t.1 ∙ ap (λ (w : Written). Some w) there

-- too many items for a list
pub list_long : (w v now : Written) (p : Place) (xs : Items) → listed v xs ≡ Some now → 2 ^ 32 ≤ item_count xs + 1 → serialized (record { written = w; place = p }) (list xs) ≡ None
list_long w v now p xs e n =
    let t = listed_text v now xs e in
    list_stuck w p xs t.0 t.1 (ap (behind (record { written = w; place = p })) (counted_long p 0xc0 0xd0 (item_count xs) t.0 (omega (arith, count-le-length xs t.0 t.1))))

pub ruleset fronts = (listed_front, listed_first_stuck, listed_others_stuck)
