-- A map's pairs have the item of a map.
use Rattle.std.proofs.Common.{◌≡◌, ◌∙◌, Bool, true, false, not, ◌||◌, ◌&&◌, List, [], ◌∷◌, if◌then◌else◌, refl, ap}
use Rattle.std.specs.Cmp.{IsEquivalence}
use Rattle.std.specs.List.{IsDistinct, AllByRecursion, list_any}
use Rattle.std.specs.Map.{keys_of}
use Rattle.serde_amqp_item.specs.Item.{Item}
use Rattle.serde_amqp_item.specs.Record.{is_null}
use Rattle.serde_amqp_item.specs.Entries.{map_item}
use Rattle.serde_amqp_values.specs.Items.{are_apart, no_map, ordered_item}
use Rattle.serde_amqp_values.specs.Pairs.{KeysApart}

module _ {K : Type 0} (same : K → K → Bool) (laws : IsEquivalence same) where
  none_equal : (k : K) (ks : List K) → AllByRecursion (λ x. same k x ≡ false) ks → list_any (λ x. same x k) ks ≡ false
  none_equal k [] a = refl
  none_equal k (x ∷ xs) a = ap (λ (b : Bool). b || list_any (λ y. same y k) xs) (laws.symm x k ∙ a.0) ∙ none_equal k xs a.1

  pub distinct_apart : (ks : List K) → IsDistinct same ks → are_apart same ks ≡ true
  unfolding IsDistinct
  distinct_apart [] d = refl
  distinct_apart (k ∷ ks) d = ap (λ (b : Bool). not b && are_apart same ks) (none_equal k ks d.0) ∙ distinct_apart ks d.1

  pub is_map : {V : Type 0} (key : K → Item) (value : V → Item) (ps : List (K × V)) → KeysApart same ps → ordered_item same key value ps ≡ map_item key value ps
  unfolding ordered_item
  is_map key value ps d = ap (λ (b : Bool). if b then map_item key value ps else no_map (map_item key value ps)) (distinct_apart (keys_of ps) d)

not_null : (b : Bool) (x : Item) → is_null x ≡ false → is_null (if b then x else no_map x) ≡ false
not_null true x n = n
not_null false x n = refl

pub ordered_not_null : {K V : Type 0} (same : K → K → Bool) (key : K → Item) (value : V → Item) (ps : List (K × V)) → is_null (ordered_item same key value ps) ≡ false
unfolding ordered_item
ordered_not_null same key value ps = not_null (are_apart same (keys_of ps)) (map_item key value ps) refl
