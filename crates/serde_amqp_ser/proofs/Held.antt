-- What a refused item means for the list or the map that it was given to.
use Rattle.std.proofs.Common.{ℕ, List, [], ◌∷◌, ◌++◌, Result, sym, subst}
use Rattle.serde_amqp_item.specs.Item.{Item, list, map, items_of, pairs_of}
use Rattle.serde_amqp_item.specs.Canon.{canon}
use Rattle.serde_amqp_item.specs.declared.error.Error.{Error}
use Rattle.serde_amqp_ser.specs.Written.{Keeps}
use Rattle.serde_amqp_ser.specs.Puts.{State, serialized, OnlyWhere}
use Rattle.serde_amqp_ser.specs.Open.{in_turn}
use Rattle.serde_amqp_ser.specs.Content.{Holds}
use Rattle.serde_amqp_ser.specs.declared.content.Content.{Content}
use Rattle.serde_amqp_ser.proofs.Listed.{only_where}
use Rattle.serde_amqp_ser.proofs.Begun.{list_without, map_without_key, map_without_value, in_turn_more, open_keeps}

pub list_refuses : {X : Type 0} (r : Result X Error) (s : State) (xs ys : List Item) (x : Item) → OnlyWhere r (canon x) → OnlyWhere r (serialized s (list (items_of (xs ++ x ∷ ys))))
list_refuses r s xs ys x h = only_where r (canon x) (serialized s (list (items_of (xs ++ x ∷ ys)))) (list_without s xs ys x) h

pub map_refuses_key : {X : Type 0} (r : Result X Error) (s : State) (ps qs : List (Item × Item)) (x y : Item) → OnlyWhere r (canon x) → OnlyWhere r (serialized s (map (pairs_of (ps ++ (x, y) ∷ qs))))
map_refuses_key r s ps qs x y h = only_where r (canon x) (serialized s (map (pairs_of (ps ++ (x, y) ∷ qs)))) (map_without_key s ps qs x y) h

pub map_refuses_value : {X : Type 0} (r : Result X Error) (s : State) (ps qs : List (Item × Item)) (x y : Item) → OnlyWhere r (canon y) → OnlyWhere r (serialized s (map (pairs_of (ps ++ (x, y) ∷ qs))))
map_refuses_value r s ps qs x y h = only_where r (canon y) (serialized s (map (pairs_of (ps ++ (x, y) ∷ qs)))) (map_without_value s ps qs x y) h

pub holds_keeps : (begins : ℕ → ℕ) (s : State) (xs : List Item) (c : Content) (now : State) → Holds begins s xs c now → Keeps s.written now.written
holds_keeps begins s xs c now h = open_keeps begins s.written xs now h.items

-- a value behind its key
pub holds_pair : (begins : ℕ → ℕ) (s : State) (ps : List (Item × Item)) (x y : Item) (c : Content) (now : State) → Holds begins s ((in_turn ps ++ x ∷ []) ++ y ∷ []) c now → Holds begins s (in_turn (ps ++ (x, y) ∷ [])) c now
holds_pair begins s ps x y c now h = subst (λ (xs : List Item). Holds begins s xs c now) (sym (in_turn_more ps x y)) h

pub ruleset holding = (list_refuses, map_refuses_key, map_refuses_value, holds_keeps, holds_pair)
