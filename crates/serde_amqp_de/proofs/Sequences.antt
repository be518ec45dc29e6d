-- Lists, arrays and fields of several values.
use Rattle.std.proofs.Common.{◌≡◌, ◌≢◌, ℕ, List, [], ◌∷◌, ◌++◌, map, Option, Some, None, sym, ◌∙◌, ap, subst, refl, ◌⊎◌, inl, inr}
use Rattle.serde_amqp_item.specs.declared.codes.EncodingCodes.{EncodingCodes}
use Rattle.serde_amqp_item.specs.declared.codes.EncodingCodes.TheVariants.{Null, Array8, Array32}
use Rattle.serde_amqp_item.specs.Item.{Item, Items, scalar, null, raw, list, array, items_of}
use Rattle.serde_amqp_item.specs.Wire.{Wire}
use Rattle.serde_amqp_item.specs.Kind.{Kind, kind_of, kind_at, raw_kind, null_kind, array_kind}
use Rattle.serde_amqp_item.specs.Canon.{◌>>=◌}
use Rattle.serde_amqp_de.specs.Reads.{At, Reads, Refuses, Took, Opens, Foresees, TookOne, TookSized, RefusesSized}
use Rattle.serde_amqp_de.specs.Takes.{kind_seen, null_taken, list_taken, array_taken, each_taken, items_taken, elements_taken, sequence_taken, several, alone, unless_several, multiple_taken}
use Rattle.serde_amqp_de.specs.Apart.{items_of_same}
use Rattle.serde_amqp_de.specs.Deciding.{multiple_same}
use Rattle.serde_amqp_de.proofs.Heads.{no_head_refuses}
use Rattle.serde_amqp_de.proofs.Scalars.{not_null}
use Rattle.serde_amqp_de.proofs.Values.{foreseen_seen}

raw_or_not : (x : Item) → ((text : List ℕ) × (x ≡ raw text)) ⊎ (kind_of x ≢ raw_kind)
raw_or_not (raw text) = inl (text, refl)
raw_or_not (scalar null) = inr (λ e. cc)
raw_or_not (scalar s) = inr (λ e. cc)
raw_or_not x = inr (λ e. cc)

-- what isn't taken of the items isn't taken of what holds them
pub opened_refuses : {X : Type 0} (wrap : Items → Item) (take : Item → Option X) (j k : Option ℕ) (old mid : At) (count size : ℕ) (taking : Items → Option (List Item)) → ((text : List ℕ) → take (raw text) ≡ None) → ((xs : Items) → taking xs ≡ None → take (wrap xs) ≡ None) → Opens wrap j k old mid count size → RefusesSized taking count size j mid
    → (x : Item) (f more : List ℕ) → Wire x k f → old.rest ≡ f ++ more → take x ≡ None
opened_refuses wrap take j k old mid count size taking plain none o r x f more w e =
    elim (raw_or_not x) [
      | inl t ↦ ap take t.1 ∙ plain t.0
      | inr n ↦
          let p = o.back x f more w e n in
          ap take p.2 ∙ none p.0 (r.none p.0 p.1 more p.5 p.6 p.3 p.4)
    ]

pub list_took : (take : Item → Option Item) (k : Option ℕ) (old mid new : At) (count size : ℕ) (ys : List Item) → Opens list None k old mid count size → TookSized (each_taken take) count size None mid new ys → Took (items_taken take) k old new (list (items_of ys))
unfolding items_taken
list_took take k old mid new count size ys o t = record {
  item = list t.all.items;
  reads = o.there t.all.items t.all.front new t.all.forms t.all.count_is t.size_is t.all.moves;
  taken = ap (λ (q : Option (List Item)). q >>= λ zs. Some (list (items_of zs))) t.all.taken;
}

pub list_refused : (take : Item → Option Item) (k : Option ℕ) (old mid : At) (count size : ℕ) → Opens list None k old mid count size → RefusesSized (each_taken take) count size None mid → Refuses (items_taken take) k old
unfolding items_taken
list_refused take k old mid count size o r = record {
  none = opened_refuses list (items_taken take) None k old mid count size (each_taken take) (λ t. refl) (λ xs e. ap (λ (q : Option (List Item)). q >>= λ zs. Some (list (items_of zs))) e) o r;
}

not_list : (take : Item → Option Item) (x : Item) → list_taken x ≡ None → items_taken take x ≡ None
unfolding items_taken
not_list take (list xs) e = absurd cc
not_list take x e = refl

pub no_list : (take : Item → Option Item) (k : Option ℕ) (old : At) → Refuses list_taken k old → Refuses (items_taken take) k old
no_list take k old r = record { none = λ x f more w e. not_list take x (r.none x f more w e) }

pub ruleset lists = (list_took, list_refused, no_list)

pub array_took : (take : Item → Option Item) (j k : Option ℕ) (old mid new : At) (count size : ℕ) (ys : List Item) → Opens array j k old mid count size → TookSized (each_taken take) count size j mid new ys → Took (elements_taken take) k old new (array (items_of ys))
unfolding elements_taken
array_took take j k old mid new count size ys o t = record {
  item = array t.all.items;
  reads = o.there t.all.items t.all.front new t.all.forms t.all.count_is t.size_is t.all.moves;
  taken = ap (λ (q : Option (List Item)). q >>= λ zs. Some (array (items_of zs))) t.all.taken;
}

pub array_refused : (take : Item → Option Item) (j k : Option ℕ) (old mid : At) (count size : ℕ) → Opens array j k old mid count size → RefusesSized (each_taken take) count size j mid → Refuses (elements_taken take) k old
unfolding elements_taken
array_refused take j k old mid count size o r = record {
  none = opened_refuses array (elements_taken take) j k old mid count size (each_taken take) (λ t. refl) (λ xs e. ap (λ (q : Option (List Item)). q >>= λ zs. Some (array (items_of zs))) e) o r;
}

not_array : (take : Item → Option Item) (x : Item) → array_taken x ≡ None → elements_taken take x ≡ None
unfolding elements_taken
not_array take (array xs) e = absurd cc
not_array take x e = refl

pub no_array : (take : Item → Option Item) (k : Option ℕ) (old : At) → Refuses array_taken k old → Refuses (elements_taken take) k old
no_array take k old r = record { none = λ x f more w e. not_array take x (r.none x f more w e) }

pub ruleset arrays = (array_took, array_refused, no_array)

-- the elements of an array that was taken
each_of : (take : Item → Option Item) (o : Option (List Item)) (ys : List Item) → (o >>= λ zs. Some (array (items_of zs))) ≡ Some (array (items_of ys)) → o ≡ Some ys
each_of take None ys e = absurd cc
each_of take (Some zs) ys e =
    let same : items_of zs ≡ items_of ys = cc in
    ap (λ (s : List Item). Some s) (items_of_same zs ys same)

some_array : (take : Item → Option Item) (x : Item) (ys : List Item) → elements_taken take x ≡ Some (array (items_of ys)) → (xs : Items) × (x ≡ array xs) × (each_taken take xs ≡ Some ys)
unfolding elements_taken
some_array take (array xs) ys e = (xs, refl, each_of take (each_taken take xs) ys e)
some_array take x ys e = absurd cc

no_each : (o : Option (List Item)) → (o >>= λ zs. Some (array (items_of zs))) ≡ None → o ≡ None
no_each None e = refl
no_each (Some zs) e = absurd cc

-- an array as a list
as_list : (take : Item → Option Item) (x : Item) (ys : List Item) → elements_taken take x ≡ Some (array (items_of ys)) → sequence_taken take x ≡ Some (list (items_of ys))
unfolding sequence_taken
as_list take x ys e =
    let p = some_array take x ys e in
    rw (p.1) (ap (λ (o : Option (List Item)). o >>= λ zs. Some (list (items_of zs))) p.2)

pub array_sequence : (take : Item → Option Item) (k : Option ℕ) (old mid new : At) (ys : List Item) → mid ≡ old → Took (elements_taken take) k mid new (array (items_of ys)) → Took (sequence_taken take) k old new (list (items_of ys))
array_sequence take k old mid new ys same t =
    let s : Took (elements_taken take) k old new (array (items_of ys)) = subst (λ (a : At). Took (elements_taken take) k a new (array (items_of ys))) same t in
    record { item = s.item; reads = s.reads; taken = as_list take s.item ys s.taken }

not_elements : (take : Item → Option Item) (x : Item) → kind_seen x ≡ Some array_kind → elements_taken take x ≡ None → sequence_taken take x ≡ None
unfolding sequence_taken elements_taken
not_elements take (array xs) n e = ap (λ (o : Option (List Item)). o >>= λ zs. Some (list (items_of zs))) (no_each (each_taken take xs) e)
not_elements take (list xs) n e = absurd cc
not_elements take x n e = refl

no_array_sequence : (take : Item → Option Item) (k : Option ℕ) (old mid : At) (code : EncodingCodes) → kind_at code ≡ array_kind → Foresees k old code → mid ≡ old → Refuses (elements_taken take) k mid → Refuses (sequence_taken take) k old
no_array_sequence take k old mid code is p same r =
    let s : Refuses (elements_taken take) k old = subst (λ (a : At). Refuses (elements_taken take) k a) same r in
    record { none = λ x f more w e. not_elements take x (foreseen_seen k old code x f more p w e ∙ ap (λ (t : Kind). Some t) is) (s.none x f more w e) }

pub no_array8_sequence : (take : Item → Option Item) (k : Option ℕ) (old mid : At) → Foresees k old Array8 → mid ≡ old → Refuses (elements_taken take) k mid → Refuses (sequence_taken take) k old
no_array8_sequence take k old mid p same r = no_array_sequence take k old mid Array8 refl p same r

pub no_array32_sequence : (take : Item → Option Item) (k : Option ℕ) (old mid : At) → Foresees k old Array32 → mid ≡ old → Refuses (elements_taken take) k mid → Refuses (sequence_taken take) k old
no_array32_sequence take k old mid p same r = no_array_sequence take k old mid Array32 refl p same r

items_sequence : (take : Item → Option Item) (x y : Item) → items_taken take x ≡ Some y → sequence_taken take x ≡ Some y
unfolding items_taken sequence_taken
items_sequence take (list xs) y e = e
items_sequence take x y e = absurd cc

pub list_sequence : (take : Item → Option Item) (k : Option ℕ) (old mid new : At) (y : Item) → mid ≡ old → Took (items_taken take) k mid new y → Took (sequence_taken take) k old new y
list_sequence take k old mid new y same t =
    let s : Took (items_taken take) k old new y = subst (λ (a : At). Took (items_taken take) k a new y) same t in
    record { item = s.item; reads = s.reads; taken = items_sequence take s.item y s.taken }

not_array_kind : (code : EncodingCodes) → code ≢ Array8 → code ≢ Array32 → kind_at code ≢ array_kind
not_array_kind Array8 p q = absurd (p refl)
not_array_kind Array32 p q = absurd (q refl)
not_array_kind code p q = λ e. cc

not_items : (take : Item → Option Item) (x : Item) (t : Kind) → kind_seen x ≡ Some t → t ≢ array_kind → items_taken take x ≡ None → sequence_taken take x ≡ None
unfolding sequence_taken items_taken
not_items take (list xs) t s n e = e
not_items take (array xs) t s n e = absurd (n cc)
not_items take x t s n e = refl

pub no_list_sequence : (take : Item → Option Item) (k : Option ℕ) (old mid : At) (code : EncodingCodes) → Foresees k old code → code ≢ Array8 → code ≢ Array32 → mid ≡ old → Refuses (items_taken take) k mid → Refuses (sequence_taken take) k old
no_list_sequence take k old mid code p m n same r =
    let s : Refuses (items_taken take) k old = subst (λ (a : At). Refuses (items_taken take) k a) same r in
    record { none = λ x f more w e. not_items take x (kind_at code) (foreseen_seen k old code x f more p w e) (not_array_kind code m n) (s.none x f more w e) }

pub ruleset sequences = (no_head_refuses, array_sequence, no_array8_sequence, no_array32_sequence, list_sequence, no_list_sequence)

-- a field of several values: none
pub none_multiple : {X : Type 0} (take : Item → Option Item) (item : X → Item) (zs : List X) (k : Option ℕ) (old mid new : At) → zs ≡ [] → mid ≡ old → Reads k mid new (scalar null) → Took (multiple_taken take) k old new (several (map item zs))
unfolding multiple_taken
none_multiple take item zs k old mid new none same r = record {
  item = scalar null;
  reads = subst (λ (a : At). Reads k a new (scalar null)) same r;
  taken = rw none refl;
}

not_none : (take : Item → Option Item) (x : Item) → kind_seen x ≡ Some null_kind → null_taken x ≡ None → multiple_taken take x ≡ None
unfolding multiple_taken
not_none take (raw text) n e = ap (λ (t : Option Kind). unless_several t (alone (take (raw text)))) n
not_none take (scalar null) n e = absurd cc
not_none take (scalar s) n e = absurd cc
not_none take x n e = absurd cc

pub no_none_multiple : (take : Item → Option Item) (k : Option ℕ) (old mid : At) → Foresees k old Null → mid ≡ old → Refuses null_taken k mid → Refuses (multiple_taken take) k old
no_none_multiple take k old mid p same r =
    let s : Refuses null_taken k old = subst (λ (a : At). Refuses null_taken k a) same r in
    record { none = λ x f more w e. not_none take x (foreseen_seen k old Null x f more p w e) (s.none x f more w e) }

-- an array
as_several : (take : Item → Option Item) (x : Item) (ys : List Item) → elements_taken take x ≡ Some (array (items_of ys)) → multiple_taken take x ≡ Some (several ys)
unfolding multiple_taken
as_several take x ys e =
    let p = some_array take x ys e in
    rw (p.1) (ap (λ (o : Option (List Item)). o >>= λ zs. Some (several zs)) p.2)

pub array_multiple : (take : Item → Option Item) (k : Option ℕ) (old mid new : At) (ys : List Item) → mid ≡ old → Took (elements_taken take) k mid new (array (items_of ys)) → Took (multiple_taken take) k old new (several ys)
array_multiple take k old mid new ys same t =
    let s : Took (elements_taken take) k old new (array (items_of ys)) = subst (λ (a : At). Took (elements_taken take) k a new (array (items_of ys))) same t in
    record { item = s.item; reads = s.reads; taken = as_several take s.item ys s.taken }

not_several : (take : Item → Option Item) (x : Item) → kind_seen x ≡ Some array_kind → elements_taken take x ≡ None → multiple_taken take x ≡ None
unfolding multiple_taken elements_taken
not_several take (raw text) n e = ap (λ (t : Option Kind). unless_several t (alone (take (raw text)))) n
not_several take (array xs) n e = ap (λ (o : Option (List Item)). o >>= λ zs. Some (several zs)) (no_each (each_taken take xs) e)
not_several take (scalar null) n e = absurd cc
not_several take (scalar s) n e = absurd cc
not_several take x n e = absurd cc

no_array_multiple : (take : Item → Option Item) (k : Option ℕ) (old mid : At) (code : EncodingCodes) → kind_at code ≡ array_kind → Foresees k old code → mid ≡ old → Refuses (elements_taken take) k mid → Refuses (multiple_taken take) k old
no_array_multiple take k old mid code is p same r =
    let s : Refuses (elements_taken take) k old = subst (λ (a : At). Refuses (elements_taken take) k a) same r in
    record { none = λ x f more w e. not_several take x (foreseen_seen k old code x f more p w e ∙ ap (λ (t : Kind). Some t) is) (s.none x f more w e) }

pub no_array8_multiple : (take : Item → Option Item) (k : Option ℕ) (old mid : At) → Foresees k old Array8 → mid ≡ old → Refuses (elements_taken take) k mid → Refuses (multiple_taken take) k old
no_array8_multiple take k old mid p same r = no_array_multiple take k old mid Array8 refl p same r

pub no_array32_multiple : (take : Item → Option Item) (k : Option ℕ) (old mid : At) → Foresees k old Array32 → mid ≡ old → Refuses (elements_taken take) k mid → Refuses (multiple_taken take) k old
no_array32_multiple take k old mid p same r = no_array_multiple take k old mid Array32 refl p same r

-- one value
-- a constructor of neither null nor an array was foreseen
pub record Single (k : Option ℕ) (old mid : At) : Type 0 where
  pub code : EncodingCodes
  pub foresees : Foresees k old code
  pub same : mid ≡ old
  pub plain : kind_at code ≢ null_kind
  pub several : kind_at code ≢ array_kind

pub single : (k : Option ℕ) (old mid : At) (code : EncodingCodes) → Foresees k old code → mid ≡ old → code ≢ Null → code ≢ Array8 → code ≢ Array32 → Single k old mid
single k old mid code p same m n o = record { code = code; foresees = p; same = same; plain = not_null code m; several = not_array_kind code n o }

unlike : (x : Item) (s t : Kind) → kind_seen x ≡ Some s → s ≢ t → kind_seen x ≢ Some t
unlike x s t e n q = n (let both : Some s ≡ Some t = sym e ∙ q in cc)

one_alone : (take : Item → Option Item) (k : Option ℕ) (old mid new : At) (y : Item) → Single k old mid → Took take k mid new y → Took (multiple_taken take) k old new (several (y ∷ []))
one_alone take k old mid new y p t =
    let s : Took take k old new y = subst (λ (a : At). Took take k a new y) p.same t in
    let seen = foreseen_seen k old p.code s.item s.reads.front new.rest p.foresees s.reads.wire s.reads.moves.split in
    record {
      item = s.item;
      reads = s.reads;
      taken = multiple_same take s.item (unlike s.item (kind_at p.code) null_kind seen p.plain) (unlike s.item (kind_at p.code) array_kind seen p.several) ∙ ap alone s.taken;
    }

pub one_multiple : (take : Item → Option Item) (k : Option ℕ) (old mid new : At) (ys : List Item) → Single k old mid → TookOne take k mid new ys → Took (multiple_taken take) k old new (several ys)
one_multiple take k old mid new ys p t = subst (λ (zs : List Item). Took (multiple_taken take) k old new (several zs)) (sym t.one) (one_alone take k old mid new t.value p t.took)

pub took_one : {X : Type 0} (take : Item → Option Item) (item : X → Item) (k : Option ℕ) (old new : At) (x : X) (xs : List X) → Took take k old new (item x) → xs ≡ x ∷ [] → TookOne take k old new (map item xs)
took_one take item k old new x xs t e = record { value = item x; took = t; one = ap (map item) e }

pub ruleset ones = (took_one)

pub no_one_multiple : (take : Item → Option Item) (k : Option ℕ) (old mid : At) → Single k old mid → Refuses take k mid → Refuses (multiple_taken take) k old
no_one_multiple take k old mid p r =
    let s : Refuses take k old = subst (λ (a : At). Refuses take k a) p.same r in
    record {
      none = λ x f more w e.
          let seen = foreseen_seen k old p.code x f more p.foresees w e in
          multiple_same take x (unlike x (kind_at p.code) null_kind seen p.plain) (unlike x (kind_at p.code) array_kind seen p.several) ∙ ap alone (s.none x f more w e);
    }

pub ruleset multiples = (no_head_refuses, none_multiple, no_none_multiple, array_multiple, no_array8_multiple, no_array32_multiple, single, one_multiple, no_one_multiple)
