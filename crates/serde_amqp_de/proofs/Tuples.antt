-- Lists of exactly the parts of a tuple.
use Rattle.std.proofs.Common.{◌≡◌, ◌≢◌, ℕ, List, [], ◌∷◌, length, Option, Some, None, sym, ◌∙◌, ap, subst, refl, arith}
use Rattle.serde_amqp_item.specs.Item.{Item, Items, no_items, more_items, item_count, list, items_of}
use Rattle.serde_amqp_item.specs.Canon.{◌>>=◌}
use Rattle.serde_amqp_de.specs.Reads.{At, Refuses, Took, Opens, TookAll, RefusesAll, TookSized, RefusesSized}
use Rattle.serde_amqp_de.specs.Takes.{list_taken, row_taken, tuple_taken}
use Rattle.serde_amqp_de.proofs.Several.{none_taken, took_cons, first, behind}
use Rattle.serde_amqp_de.proofs.Sequences.{opened_refuses}

pub no_parts : (k : Option ℕ) (at : At) → TookAll (row_taken []) 0 k at at []
no_parts k at = none_taken (row_taken []) k at [] refl

pub took_part : (take : Item → Option Item) (takes : List (Item → Option Item)) (k : Option ℕ) (old mid new : At) (y : Item) (ys : List Item) → Took take k old mid y → TookAll (row_taken takes) (length takes) k mid new ys → TookAll (row_taken (take ∷ takes)) (length (take ∷ takes)) k old new (y ∷ ys)
took_part take takes k old mid new y ys t s = took_cons (row_taken (take ∷ takes)) (row_taken takes) take (λ x xs. refl) (length takes) (length (take ∷ takes)) k old mid new y ys t s (omega arith)

pub part_refused : (take : Item → Option Item) (takes : List (Item → Option Item)) (k : Option ℕ) (old : At) → Refuses take k old → RefusesAll (row_taken (take ∷ takes)) (length (take ∷ takes)) k old
part_refused take takes k old r = record { none = first (row_taken (take ∷ takes)) (row_taken takes) take (λ x xs. refl) (length (take ∷ takes)) k old r (λ e. omega (arith, e)) }

pub others_refused : (take : Item → Option Item) (takes : List (Item → Option Item)) (k : Option ℕ) (old mid : At) (y : Item) → Took take k old mid y → RefusesAll (row_taken takes) (length takes) k mid → RefusesAll (row_taken (take ∷ takes)) (length (take ∷ takes)) k old
others_refused take takes k old mid y t r = record { none = behind (row_taken (take ∷ takes)) (row_taken takes) take (λ x xs. refl) (length takes) (length (take ∷ takes)) k old mid y t r (omega arith) }

pub ruleset parts = (no_parts, took_part, part_refused, others_refused)

stuck : (o : Option Item) (r : Option (List Item)) → r ≡ None → (o >>= λ y. r >>= λ ys. Some (y ∷ ys)) ≡ None
stuck None r e = refl
stuck (Some y) r e = ap (λ (q : Option (List Item)). q >>= λ ys. Some (y ∷ ys)) e

-- a row of another number of items
other_count : (takes : List (Item → Option Item)) (xs : Items) → item_count xs ≢ length takes → row_taken takes xs ≡ None
other_count [] no_items n = absurd (n refl)
other_count [] (more_items x xs) n = refl
other_count (take ∷ takes) no_items n = refl
other_count (take ∷ takes) (more_items x xs) n = stuck (take x) (row_taken takes xs) (other_count takes xs (λ e. n (omega (arith, e))))

tuple_refuses : (takes : List (Item → Option Item)) (k : Option ℕ) (old mid : At) (count size : ℕ) → Opens list None k old mid count size → RefusesSized (row_taken takes) count size None mid → Refuses (tuple_taken takes) k old
unfolding tuple_taken
tuple_refuses takes k old mid count size o r = record {
  none = opened_refuses list (tuple_taken takes) None k old mid count size (row_taken takes) (λ t. refl) (λ xs e. ap (λ (q : Option (List Item)). q >>= λ zs. Some (list (items_of zs))) e) o r;
}

-- another number of items than there are parts
pub miscounted : (takes : List (Item → Option Item)) (k : Option ℕ) (old mid : At) (count size parts : ℕ) → Opens list None k old mid count size → count ≢ parts → parts ≡ length takes → Refuses (tuple_taken takes) k old
unfolding tuple_taken
miscounted takes k old mid count size parts o n c = tuple_refuses takes k old mid count size o (record { none = λ xs front more f e q l. other_count takes xs (λ p. n (omega (arith, p, q, c))) })

pub tuple_took : (takes : List (Item → Option Item)) (k : Option ℕ) (old mid new : At) (count size parts : ℕ) (ys : List Item) → Opens list None k old mid count size → count ≡ parts → parts ≡ length takes → TookSized (row_taken takes) (length takes) size None mid new ys → Took (tuple_taken takes) k old new (list (items_of ys))
unfolding tuple_taken
tuple_took takes k old mid new count size parts ys o c d t = record {
  item = list t.all.items;
  reads = o.there t.all.items t.all.front new t.all.forms (t.all.count_is ∙ sym (c ∙ d)) t.size_is t.all.moves;
  taken = ap (λ (q : Option (List Item)). q >>= λ zs. Some (list (items_of zs))) t.all.taken;
}

pub tuple_refused : (takes : List (Item → Option Item)) (k : Option ℕ) (old mid : At) (count size parts : ℕ) → Opens list None k old mid count size → count ≡ parts → parts ≡ length takes → RefusesSized (row_taken takes) (length takes) size None mid → Refuses (tuple_taken takes) k old
tuple_refused takes k old mid count size parts o c d r = tuple_refuses takes k old mid count size o (subst (λ (n : ℕ). RefusesSized (row_taken takes) n size None mid) (sym (c ∙ d)) r)

not_list : (takes : List (Item → Option Item)) (x : Item) → list_taken x ≡ None → tuple_taken takes x ≡ None
unfolding tuple_taken
not_list takes (list xs) e = absurd cc
not_list takes x e = refl

pub no_tuple : (takes : List (Item → Option Item)) (k : Option ℕ) (old : At) → Refuses list_taken k old → Refuses (tuple_taken takes) k old
no_tuple takes k old r = record { none = λ x f more w e. not_list takes x (r.none x f more w e) }

pub ruleset tuples = (miscounted, tuple_took, tuple_refused, no_tuple)
