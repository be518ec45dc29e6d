-- A map's item is taken as that map, and says which map it is.
use Rattle.std.proofs.Common.{◌≡◌, Bool, true, false, List, [], ◌∷◌, Option, Some, if◌then◌else◌, sym, ◌∙◌, ap, refl}
use Rattle.std.specs.Map.{keys_of}
use Rattle.serde_amqp_item.specs.Item.{Item, map, pairs_of}
use Rattle.serde_amqp_item.specs.Canon.{◌>>=◌}
use Rattle.serde_amqp_item.specs.Entries.{pair_items, map_item}
use Rattle.serde_amqp_de.specs.Maps.{pairs_taken}
use Rattle.serde_amqp_de.specs.MapLaws.{pairs_again, map_item_same, map_item_faithful}
use Rattle.serde_amqp_de.specs.Takes.{reads_as_null}
use Rattle.serde_amqp_values.specs.Items.{are_apart, no_map, ordered_item}
use Rattle.serde_amqp_values.specs.Merging.{all_behind, items_apart, items_inserted}
use Rattle.serde_amqp_values.specs.Pairs.{all_inserted}
use Rattle.serde_amqp_de.specs.Same.{item_same}
use Rattle.serde_amqp_values.specs.MapTakes.{pairs_listed, merged, ordered_taken}

pub listed_same : (qs : List (Item × Item)) → pairs_listed (pairs_of qs) ≡ qs
listed_same [] = refl
listed_same (q ∷ qs) = ap (λ (rs : List (Item × Item)). q ∷ rs) (listed_same qs)

same_if : (b : Bool) (x y : Item) → x ≡ y → (if b then x else no_map x) ≡ (if b then y else no_map y)
same_if true x y e = e
same_if false x y e = ap no_map e

pub ordered_same : {K V : Type 0} (same : K → K → Bool) (f g : K → Item) (h i : V → Item) → ((k : K) → f k ≡ g k)
    → ((v : V) → h v ≡ i v) → (ps : List (K × V)) → ordered_item same f h ps ≡ ordered_item same g i ps
unfolding ordered_item
ordered_same same f g h i a b ps =
    same_if (are_apart same (keys_of ps)) (map_item f h ps) (map_item g i ps) (map_item_same f g h i a b ps)

present_if : (b : Bool) (x : Item) → reads_as_null x ≡ false → reads_as_null (if b then x else no_map x) ≡ false
present_if true x n = n
present_if false x n = refl

pub ordered_present : {K V : Type 0} (same : K → K → Bool) (key : K → Item) (value : V → Item) (ps : List (K × V))
    → reads_as_null (ordered_item same key value ps) ≡ false
unfolding ordered_item
ordered_present same key value ps = present_if (are_apart same (keys_of ps)) (map_item key value ps) refl

faithful_if : {X : Type 0} (a b : Bool) (x y : X) (f : X → Item) → (f x ≡ f y → x ≡ y)
    → ((x y : X) → f x ≡ no_map (f y) → ⊥) → (if a then f x else no_map (f x)) ≡ (if b then f y else no_map (f y))
    → x ≡ y
faithful_if true true x y f one apart e = one e
faithful_if true false x y f one apart e = absurd (apart x y e)
faithful_if false true x y f one apart e = absurd (apart y x (sym e))
faithful_if false false x y f one apart e = one cc

pub ordered_faithful : {K V : Type 0} (same : K → K → Bool) (key : K → Item) (value : V → Item)
    → ((j k : K) → key j ≡ key k → j ≡ k) → ((v w : V) → value v ≡ value w → v ≡ w) → (ps qs : List (K × V))
    → ordered_item same key value ps ≡ ordered_item same key value qs → ps ≡ qs
unfolding ordered_item
ordered_faithful {K} {V} same key value a b ps qs e =
    faithful_if (are_apart same (keys_of ps)) (are_apart same (keys_of qs)) ps qs (map_item key value)
    (map_item_faithful key value a b ps qs) (λ _ _ f. cc) e

-- a map whose keys are apart is merged with nothing
merged_apart : {K V : Type 0} (same : K → K → Bool) (key : K → Item) (value : V → Item)
    → ((x y : K) → same x y ≡ item_same (key x) (key y)) → (ps : List (K × V)) → are_apart same (keys_of ps) ≡ true
    → merged (map_item key value ps) ≡ map_item key value ps
merged_apart same key value equal ps e =
    ap (λ (qs : List (Item × Item)). map (pairs_of (all_inserted item_same [] qs)))
    (listed_same (pair_items key value ps))
    ∙ ap (λ (qs : List (Item × Item)). map (pairs_of qs))
    (all_behind item_same [] (pair_items key value ps) (items_apart same key value equal ps ∙ e))

again_if : (key value : Item → Option Item) (x : Item) → pairs_taken key value x ≡ Some x
    → ordered_taken key value x ≡ (pairs_taken key value x >>= λ y. Some (merged y)) → (b : Bool)
    → (b ≡ true → merged x ≡ x) → ordered_taken key value (if b then x else no_map x) ≡ Some (if b then x else no_map x)
unfolding ordered_taken
again_if key value x taken plain true apart =
    plain ∙ ap (λ (o : Option Item). o >>= λ y. Some (merged y)) taken ∙ ap (λ (y : Item). Some y) (apart refl)
again_if key value x taken plain false apart = ap (λ (o : Option Item). o >>= λ y. Some (no_map y)) taken

pub ordered_again : {K V : Type 0} (same : K → K → Bool) (key value : Item → Option Item) (first : K → Item)
    (second : V → Item) → ((x y : K) → same x y ≡ item_same (first x) (first y))
    → ((k : K) → key (first k) ≡ Some (first k)) → ((v : V) → value (second v) ≡ Some (second v)) → (ps : List (K × V))
    → ordered_taken key value (ordered_item same first second ps) ≡ Some (ordered_item same first second ps)
unfolding ordered_item ordered_taken
ordered_again same key value first second equal a b ps =
    again_if key value (map_item first second ps) (pairs_again key value first second a b ps) refl
    (are_apart same (keys_of ps)) (merged_apart same first second equal ps)

-- a map that was read, with each of its pairs inserted
pub merged_item : {K V : Type 0} (same : K → K → Bool) (key : K → Item) (value : V → Item)
    → ((x y : K) → same x y ≡ item_same (key x) (key y)) → (ps : List (K × V))
    → merged (map_item key value ps) ≡ map_item key value (all_inserted same [] ps)
merged_item same key value equal ps =
    ap (λ (qs : List (Item × Item)). map (pairs_of (all_inserted item_same [] qs)))
    (listed_same (pair_items key value ps))
    ∙ ap (λ (qs : List (Item × Item)). map (pairs_of qs)) (sym (items_inserted same key value equal [] ps))
