-- Items read one behind the other.
use Rattle.std.proofs.Common.{◌≡◌, ◌≢◌, ℕ, suc, ◌+◌, ◌-◌, ◌<◌, List, [], ◌∷◌, ◌++◌, length, Option, Some, None, sym, ◌∙◌, ap, refl, arith, append_assoc}
use Rattle.std.proofs.lemmas.List.{append_cancel_left}
use Rattle.serde_amqp_item.specs.Item.{Item, Items, no_items, more_items, item_count}
use Rattle.serde_amqp_item.specs.Wire.{Forms, IsCapped, IsStrict}
use Rattle.serde_amqp_item.specs.Canon.{◌>>=◌}
use Rattle.serde_amqp_item.proofs.Forms.{wire_same, all_same}
use Rattle.serde_amqp_de.specs.Reads.{At, Refuses, Took, TookAll, RefusesAll, TookSized, RefusesSized}
use Rattle.serde_amqp_de.specs.Takes.{each_taken, fields_taken}
use Rattle.serde_amqp_de.specs.Apart.{apart, leads_split}
use Rattle.serde_amqp_de.proofs.Heads.{moves_then, stays}

-- no items
pub none_taken : (taking : Items → Option (List Item)) (k : Option ℕ) (at : At) (ys : List Item) → taking no_items ≡ Some ys → TookAll taking 0 k at at ys
none_taken taking k at ys e = record { items = no_items; front = []; forms = refl; moves = stays at; count_is = refl; taken = e }

no_count : (xs : Items) → item_count xs ≡ 0 → xs ≡ no_items
no_count no_items e = refl
no_count (more_items x xs) e = absurd (omega arith)

pub none_refused : (taking : Items → Option (List Item)) (k : Option ℕ) (at : At) → taking no_items ≡ None → RefusesAll taking 0 k at
none_refused taking k at e = record { none = λ xs front more f q c. ap taking (no_count xs c) ∙ e }

-- more than none
some_count : (n : ℕ) (xs : Items) → item_count xs ≡ n → 0 < n → fields_taken [] xs ≡ None
some_count n no_items e l = absurd (omega arith)
some_count n (more_items x xs) e l = refl

pub too_many : (k : Option ℕ) (at : At) (n : ℕ) → 0 < n → RefusesAll (fields_taken []) n k at
too_many k at n l = record { none = λ xs front more f q c. some_count n xs c l }

-- the whole takes the first item and then the others
abbrev pub Cons : (Items → Option (List Item)) → (Item → Option Item) → (Items → Option (List Item)) → Type 0
Cons whole take others = (x : Item) (xs : Items) → whole (more_items x xs) ≡ (take x >>= λ y. others xs >>= λ ys. Some (y ∷ ys))

pub took_cons : (whole others : Items → Option (List Item)) (take : Item → Option Item) → Cons whole take others → (m n : ℕ) (k : Option ℕ) (old mid new : At) (y : Item) (ys : List Item) → Took take k old mid y → TookAll others m k mid new ys → n ≡ m + 1 → TookAll whole n k old new (y ∷ ys)
took_cons whole others take cons m n k old mid new y ys t s p =
    let w = t.reads.wire in
    record {
      items = more_items t.item s.items;
      front = t.reads.front ++ s.front;
      forms = (w.0, w.1, s.front, leads_split k t.reads.front w.1 s.front w.0 w.2, w.3, s.forms);
      moves = moves_then old mid new t.reads.front s.front t.reads.moves s.moves;
      count_is = omega (arith, s.count_is, p);
      taken = cons t.item s.items ∙ (ap (λ (o : Option Item). o >>= λ y. others s.items >>= λ ys. Some (y ∷ ys)) t.taken ∙ ap (λ (o : Option (List Item)). o >>= λ ys. Some (y ∷ ys)) s.taken);
    }

pub first : (whole others : Items → Option (List Item)) (take : Item → Option Item) → Cons whole take others → (n : ℕ) (k : Option ℕ) (old : At) → Refuses take k old → n ≢ 0 → (xs : Items) (front more : List ℕ) → Forms IsCapped IsStrict xs k front → old.rest ≡ front ++ more → item_count xs ≡ n → whole xs ≡ None
first whole others take cons n k old r p no_items front more f e c = absurd (omega arith)
first whole others take cons n k old r p (more_items x xs) front more f e c =
    let q = apart k front f.1 f.2 f.0 f.3 in
    let none = r.none x q.0 (f.2 ++ more) (f.0, f.1, q.1, f.4) (e ∙ (ap (λ (s : List ℕ). s ++ more) q.2 ∙ append_assoc q.0 f.2 more)) in
    cons x xs ∙ ap (λ (o : Option Item). o >>= λ y. others xs >>= λ ys. Some (y ∷ ys)) none

stuck_at : (o : Option Item) (r : Option (List Item)) → r ≡ None → (o >>= λ y. r >>= λ ys. Some (y ∷ ys)) ≡ None
stuck_at None r e = refl
stuck_at (Some y) r e = ap (λ (o : Option (List Item)). o >>= λ ys. Some (y ∷ ys)) e

pub behind : (whole others : Items → Option (List Item)) (take : Item → Option Item) → Cons whole take others → (m n : ℕ) (k : Option ℕ) (old mid : At) (y : Item) → Took take k old mid y → RefusesAll others m k mid → n ≡ m + 1 → (xs : Items) (front more : List ℕ) → Forms IsCapped IsStrict xs k front → old.rest ≡ front ++ more → item_count xs ≡ n → whole xs ≡ None
behind whole others take cons m n k old mid y t r p no_items front more f e c = absurd (omega arith)
behind whole others take cons m n k old mid y t r p (more_items x xs) front more f e c =
    let q = apart k front f.1 f.2 f.0 f.3 in
    let here : old.rest ≡ q.0 ++ (f.2 ++ more) = e ∙ (ap (λ (s : List ℕ). s ++ more) q.2 ∙ append_assoc q.0 f.2 more) in
    let both : t.reads.front ++ mid.rest ≡ q.0 ++ (f.2 ++ more) = sym t.reads.moves.split ∙ here in
    let same = wire_same t.item x k t.reads.front q.0 mid.rest (f.2 ++ more) t.reads.wire (f.0, f.1, q.1, f.4) both in
    let rest : mid.rest ≡ f.2 ++ more = append_cancel_left t.reads.front _ _ (both ∙ ap (λ (s : List ℕ). s ++ (f.2 ++ more)) (sym same.0)) in
    cons x xs ∙ stuck_at (take x) (others xs) (r.none xs f.2 more f.5 rest (omega arith))

-- fields
pub took_field : (take : Item → Option Item) (takes : List (Item → Option Item)) (n : ℕ) (k : Option ℕ) (old mid new : At) (y : Item) (ys : List Item) → Took take k old mid y → TookAll (fields_taken takes) (n - 1) k mid new ys → n ≢ 0 → TookAll (fields_taken (take ∷ takes)) n k old new (y ∷ ys)
took_field take takes n k old mid new y ys t s p = took_cons (fields_taken (take ∷ takes)) (fields_taken takes) take (λ x xs. refl) (n - 1) n k old mid new y ys t s (omega (arith, p))

pub first_refused : (take : Item → Option Item) (takes : List (Item → Option Item)) (n : ℕ) (k : Option ℕ) (old : At) → Refuses take k old → n ≢ 0 → RefusesAll (fields_taken (take ∷ takes)) n k old
first_refused take takes n k old r p = record { none = first (fields_taken (take ∷ takes)) (fields_taken takes) take (λ x xs. refl) n k old r p }

pub others_refused : (take : Item → Option Item) (takes : List (Item → Option Item)) (n : ℕ) (k : Option ℕ) (old mid : At) (y : Item) → Took take k old mid y → RefusesAll (fields_taken takes) (n - 1) k mid → n ≢ 0 → RefusesAll (fields_taken (take ∷ takes)) n k old
others_refused take takes n k old mid y t r p = record { none = behind (fields_taken (take ∷ takes)) (fields_taken takes) take (λ x xs. refl) (n - 1) n k old mid y t r (omega (arith, p)) }

pub ruleset fields = (none_taken, none_refused, too_many, took_field, first_refused, others_refused)

-- items of one type
pub took_more : (take : Item → Option Item) (n : ℕ) (k : Option ℕ) (old mid new : At) (y : Item) (ys : List Item) → Took take k old mid y → TookAll (each_taken take) n k mid new ys → TookAll (each_taken take) (suc n) k old new (y ∷ ys)
took_more take n k old mid new y ys t s = took_cons (each_taken take) (each_taken take) take (λ x xs. refl) n (suc n) k old mid new y ys t s (omega arith)

pub refuses_first : (take : Item → Option Item) (n : ℕ) (k : Option ℕ) (old : At) → Refuses take k old → RefusesAll (each_taken take) (suc n) k old
refuses_first take n k old r = record { none = first (each_taken take) (each_taken take) take (λ x xs. refl) (suc n) k old r (λ e. cc) }

pub refuses_more : (take : Item → Option Item) (n : ℕ) (k : Option ℕ) (old mid : At) (y : Item) → Took take k old mid y → RefusesAll (each_taken take) n k mid → RefusesAll (each_taken take) (suc n) k old
refuses_more take n k old mid y t r = record { none = behind (each_taken take) (each_taken take) take (λ x xs. refl) n (suc n) k old mid y t r (omega arith) }

-- items that fill their bytes
pub sized_took : (taking : Items → Option (List Item)) (count size : ℕ) (k : Option ℕ) (old new : At) (ys : List Item) → TookAll taking count k old new ys → new.pos - old.pos ≡ size → TookSized taking count size k old new ys
sized_took taking count size k old new ys t e = record { all = t; size_is = omega (arith, t.moves.count, e) }

pub sized_wrong : (taking : Items → Option (List Item)) (count size : ℕ) (k : Option ℕ) (old new : At) (ys : List Item) → TookAll taking count k old new ys → new.pos - old.pos ≢ size → RefusesSized taking count size k old
sized_wrong taking count size k old new ys t n = record {
  none = λ xs front more f e c l.
      let same = all_same t.items xs k t.front front new.rest more (t.count_is ∙ sym c) t.forms f (sym t.moves.split ∙ e) in
      absurd (n (omega (arith, ap length same.0, l, t.moves.count)));
}

pub sized_refused : (taking : Items → Option (List Item)) (count size : ℕ) (k : Option ℕ) (old : At) → RefusesAll taking count k old → RefusesSized taking count size k old
sized_refused taking count size k old r = record { none = λ xs front more f e c l. r.none xs front more f e c }

pub ruleset sizes = (sized_took, sized_wrong, sized_refused)
