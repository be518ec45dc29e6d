-- Keys with their values, read one behind the other.
use Rattle.std.proofs.Common.{◌≡◌, ◌≢◌, ℕ, suc, ◌*◌, ◌/◌, ◌-◌, ◌%◌, List, [], ◌∷◌, ◌++◌, length, Option, Some, None, sym, ◌∙◌, ap, subst, refl, arith, append_assoc, ◌⊎◌, inl, inr}
use Rattle.std.proofs.lemmas.List.{append_cancel_left}
use Rattle.serde_amqp_item.specs.Item.{Item, Items, scalar, null, raw, map, Pairs, no_pairs, more_pairs, pairs_of, pair_count, item_count, keys_and_values}
use Rattle.serde_amqp_item.specs.Wire.{Wire, Forms, PairForms, IsCapped, IsStrict}
use Rattle.serde_amqp_item.specs.Canon.{◌>>=◌}
use Rattle.serde_amqp_item.specs.Kind.{kind_of, raw_kind}
use Rattle.serde_amqp_item.proofs.Forms.{wire_same, all_same}
use Rattle.serde_amqp_item.proofs.PairRows.{pair_items, pairs_as_forms, forms_as_pairs}
use Rattle.serde_amqp_de.specs.Reads.{At, Reads, Refuses, Took, Opens}
use Rattle.serde_amqp_de.specs.Maps.{pairs_in, map_in, map_taken, each_pair_taken, pairs_taken, TookPairs, RefusesPairs, TookSizedPairs, RefusesSizedPairs}
use Rattle.serde_amqp_de.proofs.Heads.{moves_then, stays}
use Rattle.serde_amqp_de.proofs.Maps.{pairs_in_turn, in_turn, twice_half}

-- no pairs
pub no_pair_taken : (key value : Item → Option Item) (at : At) → TookPairs key value 0 at at []
no_pair_taken key value at = record { pairs = no_pairs; front = []; forms = refl; moves = stays at; count_is = refl; taken = refl }

-- the first key, the first value and what stands behind them
first_two : (x y : Item) (ps : Pairs) (front : List ℕ) → PairForms IsCapped IsStrict (more_pairs x y ps) front → (a : List ℕ) × (b : List ℕ) × (rest : List ℕ) × Wire x None a × Wire y None b × PairForms IsCapped IsStrict ps rest × (front ≡ a ++ (b ++ rest))
first_two x y ps front f = (f.0 ∷ f.1, f.2 ∷ f.3, f.4, (f.0, f.1, refl, f.6), (f.2, f.3, refl, f.7), f.8, f.5)

-- put in front
two_first : (x y : Item) (ps : Pairs) (a b rest : List ℕ) → Wire x None a → Wire y None b → PairForms IsCapped IsStrict ps rest → PairForms IsCapped IsStrict (more_pairs x y ps) (a ++ (b ++ rest))
two_first x y ps a b rest v w f =
    (v.0, v.1, w.0, w.1, rest, ap (λ (s : List ℕ). s ++ (b ++ rest)) v.2 ∙ ap (λ (s : List ℕ). v.0 ∷ (v.1 ++ (s ++ rest))) w.2, v.3, w.3, f)

pub took_pair : (key value : Item → Option Item) (n : ℕ) (old mid last new : At) (x y : Item) (ys : List (Item × Item)) → Took key None old mid x → Took value None mid last y → TookPairs key value n last new ys → TookPairs key value (suc n) old new ((x, y) ∷ ys)
took_pair key value n old mid last new x y ys t u s = record {
  pairs = more_pairs t.item u.item s.pairs;
  front = t.reads.front ++ (u.reads.front ++ s.front);
  forms = two_first t.item u.item s.pairs t.reads.front u.reads.front s.front t.reads.wire u.reads.wire s.forms;
  moves = moves_then old mid new t.reads.front (u.reads.front ++ s.front) t.reads.moves (moves_then mid last new u.reads.front s.front u.reads.moves s.moves);
  count_is = omega (arith, s.count_is);
  taken = ap (λ (o : Option Item). o >>= λ a. value u.item >>= λ b. each_pair_taken key value s.pairs >>= λ qs. Some ((a, b) ∷ qs)) t.taken
      ∙ (ap (λ (o : Option Item). o >>= λ b. each_pair_taken key value s.pairs >>= λ qs. Some ((x, b) ∷ qs)) u.taken
      ∙ ap (λ (o : Option (List (Item × Item))). o >>= λ qs. Some ((x, y) ∷ qs)) s.taken);
}

-- of a wire form that stands where an item was read
same_front : (take : Item → Option Item) (old mid : At) (x u : Item) (f more : List ℕ) → (t : Took take None old mid u) → Wire x None f → old.rest ≡ f ++ more → mid.rest ≡ more
same_front take old mid x u f more t w e =
    let both : t.reads.front ++ mid.rest ≡ f ++ more = sym t.reads.moves.split ∙ e in
    let same = wire_same t.item x None t.reads.front f mid.rest more t.reads.wire w both in
    append_cancel_left t.reads.front _ _ (both ∙ ap (λ (s : List ℕ). s ++ more) (sym same.0))

no_key : (key value : Item → Option Item) (n : ℕ) (old : At) → Refuses key None old → (ps : Pairs) (front more : List ℕ) → PairForms IsCapped IsStrict ps front → old.rest ≡ front ++ more → pair_count ps ≡ suc n → each_pair_taken key value ps ≡ None
no_key key value n old r no_pairs front more f e c = absurd (omega (arith, c))
no_key key value n old r (more_pairs x y ps) front more f e c =
    let p = first_two x y ps front f in
    ap (λ (o : Option Item). o >>= λ a. value y >>= λ b. each_pair_taken key value ps >>= λ qs. Some ((a, b) ∷ qs))
    (r.none x p.0 ((p.1 ++ p.2) ++ more) p.3 (e ∙ (ap (λ (s : List ℕ). s ++ more) p.6 ∙ append_assoc p.0 (p.1 ++ p.2) more)))

pub refuses_key : (key value : Item → Option Item) (n : ℕ) (old : At) → Refuses key None old → RefusesPairs key value (suc n) old
refuses_key key value n old r = record { none = no_key key value n old r }

stuck_value : (o p : Option Item) (r : Option (List (Item × Item))) → p ≡ None → (o >>= λ a. p >>= λ b. r >>= λ qs. Some ((a, b) ∷ qs)) ≡ None
stuck_value None p r e = refl
stuck_value (Some a) p r e = ap (λ (q : Option Item). q >>= λ b. r >>= λ qs. Some ((a, b) ∷ qs)) e

stuck_pairs : (o p : Option Item) (r : Option (List (Item × Item))) → r ≡ None → (o >>= λ a. p >>= λ b. r >>= λ qs. Some ((a, b) ∷ qs)) ≡ None
stuck_pairs None p r e = refl
stuck_pairs (Some a) None r e = refl
stuck_pairs (Some a) (Some b) r e = ap (λ (q : Option (List (Item × Item))). q >>= λ qs. Some ((a, b) ∷ qs)) e

no_value : (key value : Item → Option Item) (n : ℕ) (old mid : At) (u : Item) → Took key None old mid u → Refuses value None mid → (ps : Pairs) (front more : List ℕ) → PairForms IsCapped IsStrict ps front → old.rest ≡ front ++ more → pair_count ps ≡ suc n → each_pair_taken key value ps ≡ None
no_value key value n old mid u t r no_pairs front more f e c = absurd (omega (arith, c))
no_value key value n old mid u t r (more_pairs x y ps) front more f e c =
    let p = first_two x y ps front f in
    let here : old.rest ≡ p.0 ++ ((p.1 ++ p.2) ++ more) = e ∙ (ap (λ (s : List ℕ). s ++ more) p.6 ∙ append_assoc p.0 (p.1 ++ p.2) more) in
    let there = same_front key old mid x u p.0 ((p.1 ++ p.2) ++ more) t p.3 here in
    stuck_value (key x) (value y) (each_pair_taken key value ps) (r.none y p.1 (p.2 ++ more) p.4 (there ∙ append_assoc p.1 p.2 more))

pub refuses_value : (key value : Item → Option Item) (n : ℕ) (old mid : At) (u : Item) → Took key None old mid u → Refuses value None mid → RefusesPairs key value (suc n) old
refuses_value key value n old mid u t r = record { none = no_value key value n old mid u t r }

no_others : (key value : Item → Option Item) (n : ℕ) (old mid last : At) (u v : Item) → Took key None old mid u → Took value None mid last v → RefusesPairs key value n last → (ps : Pairs) (front more : List ℕ) → PairForms IsCapped IsStrict ps front → old.rest ≡ front ++ more → pair_count ps ≡ suc n → each_pair_taken key value ps ≡ None
no_others key value n old mid last u v t s r no_pairs front more f e c = absurd (omega (arith, c))
no_others key value n old mid last u v t s r (more_pairs x y ps) front more f e c =
    let p = first_two x y ps front f in
    let here : old.rest ≡ p.0 ++ ((p.1 ++ p.2) ++ more) = e ∙ (ap (λ (s : List ℕ). s ++ more) p.6 ∙ append_assoc p.0 (p.1 ++ p.2) more) in
    let there = same_front key old mid x u p.0 ((p.1 ++ p.2) ++ more) t p.3 here ∙ append_assoc p.1 p.2 more in
    let behind = same_front value mid last y v p.1 (p.2 ++ more) s p.4 there in
    stuck_pairs (key x) (value y) (each_pair_taken key value ps) (r.none ps p.2 more p.5 behind (omega (arith, c)))

pub refuses_pairs : (key value : Item → Option Item) (n : ℕ) (old mid last : At) (u v : Item) → Took key None old mid u → Took value None mid last v → RefusesPairs key value n last → RefusesPairs key value (suc n) old
refuses_pairs key value n old mid last u v t s r = record { none = no_others key value n old mid last u v t s r }

-- pairs that fill their bytes
pub pairs_sized : (key value : Item → Option Item) (count size : ℕ) (old new : At) (ys : List (Item × Item)) → TookPairs key value count old new ys → new.pos - old.pos ≡ size → TookSizedPairs key value count size old new ys
pairs_sized key value count size old new ys t e = record { all = t; size_is = omega (arith, t.moves.count, e) }

pub pairs_wrong : (key value : Item → Option Item) (count size : ℕ) (old new : At) (ys : List (Item × Item)) → TookPairs key value count old new ys → new.pos - old.pos ≢ size → RefusesSizedPairs key value count size old
pairs_wrong key value count size old new ys t n = record {
  none = λ ps front more f e c l.
      let counts : item_count (keys_and_values t.pairs) ≡ item_count (keys_and_values ps) = pair_items t.pairs ∙ (ap (λ (i : ℕ). 2 * i) (t.count_is ∙ sym c) ∙ sym (pair_items ps)) in
      let same = all_same (keys_and_values t.pairs) (keys_and_values ps) None t.front front new.rest more counts (pairs_as_forms IsCapped IsStrict t.pairs t.front t.forms) (pairs_as_forms IsCapped IsStrict ps front f) (sym t.moves.split ∙ e) in
      absurd (n (omega (arith, ap length same.0, l, t.moves.count)));
}

pub pairs_refused : (key value : Item → Option Item) (count size : ℕ) (old : At) → RefusesPairs key value count old → RefusesSizedPairs key value count size old
pairs_refused key value count size old r = record { none = λ ps front more f e c l. r.none ps front more f e c }

pub ruleset sizes = (pairs_sized, pairs_wrong, pairs_refused)

-- the whole map
pub map_took : (key value : Item → Option Item) (k : Option ℕ) (old mid new : At) (count size : ℕ) (ys : List (Item × Item)) → Opens map_in None k old mid count size → count % 2 ≡ 0 → TookSizedPairs key value (count / 2) size mid new ys → Took (pairs_taken key value) k old new (map (pairs_of ys))
unfolding pairs_taken
map_took key value k old mid new count size ys o even t =
    let ps = t.all.pairs in
    let counts : item_count (keys_and_values ps) ≡ count = pair_items ps ∙ (ap (λ (i : ℕ). 2 * i) t.all.count_is ∙ sym (twice_half count even)) in
    let reads : Reads k old new (map_in (keys_and_values ps)) = o.there (keys_and_values ps) t.all.front new (pairs_as_forms IsCapped IsStrict ps t.all.front t.all.forms) counts t.size_is t.all.moves in
    record {
      item = map ps;
      reads = subst (λ (i : Pairs). Reads k old new (map i)) (pairs_in_turn ps) reads;
      taken = ap (λ (q : Option (List (Item × Item))). q >>= λ qs. Some (map (pairs_of qs))) t.all.taken;
    }

pub raw_or_not : (x : Item) → ((text : List ℕ) × (x ≡ raw text)) ⊎ (kind_of x ≢ raw_kind)
raw_or_not (raw text) = inl (text, refl)
raw_or_not (scalar null) = inr (λ e. cc)
raw_or_not (scalar s) = inr (λ e. cc)
raw_or_not x = inr (λ e. cc)

pub map_refused : (key value : Item → Option Item) (k : Option ℕ) (old mid : At) (count size : ℕ) → Opens map_in None k old mid count size → count % 2 ≡ 0 → RefusesSizedPairs key value (count / 2) size mid → Refuses (pairs_taken key value) k old
unfolding pairs_taken
map_refused key value k old mid count size o even r = record {
  none = λ x f more w e. elim (raw_or_not x) [
    | inl t ↦ ap (pairs_taken key value) t.1
    | inr n ↦
        let p = o.back x f more w e n in
        let ps = pairs_in p.0 in
        let turn : keys_and_values ps ≡ p.0 = in_turn (count / 2) p.0 (p.3 ∙ twice_half count even) in
        let forms : PairForms IsCapped IsStrict ps p.1 = forms_as_pairs IsCapped IsStrict ps p.1 (subst (λ (i : Items). Forms IsCapped IsStrict i None p.1) (sym turn) p.5) in
        let counts : 2 * pair_count ps ≡ count = sym (pair_items ps) ∙ (ap item_count turn ∙ p.3) in
        let none = r.none ps p.1 more forms p.6 (omega (arith, counts)) p.4 in
        ap (pairs_taken key value) p.2 ∙ ap (λ (q : Option (List (Item × Item))). q >>= λ qs. Some (map (pairs_of qs))) none
  ];
}

not_map : (key value : Item → Option Item) (x : Item) → map_taken x ≡ None → pairs_taken key value x ≡ None
unfolding pairs_taken
not_map key value (map ps) e = absurd cc
not_map key value x e = refl

pub no_map : (key value : Item → Option Item) (k : Option ℕ) (old : At) → Refuses map_taken k old → Refuses (pairs_taken key value) k old
no_map key value k old r = record { none = λ x f more w e. not_map key value x (r.none x f more w e) }

pub ruleset reading = (map_took, map_refused, no_map)
