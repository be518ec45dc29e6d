-- Reading a map in the order of its keys.
use Rattle.std.proofs.Common.{◌≡◌, ℕ, List, [], Option, Some, sym, ◌∙◌, ap}
use Rattle.std.specs.Cmp.{IsTotalOrder}
use Rattle.std.specs.declared.cmp.Ordering.{Ordering}
use Rattle.serde_amqp_item.specs.Item.{Item}
use Rattle.serde_amqp_item.specs.Canon.{◌>>=◌}
use Rattle.serde_amqp_item.specs.Entries.{map_item, all_placed, sorted_item}
use Rattle.serde_amqp_item.proofs.Placing.{placed_once}
use Rattle.serde_amqp_de.specs.Reads.{At, Refuses, Took}
use Rattle.serde_amqp_de.specs.Maps.{pairs_taken}
use Rattle.serde_amqp_de.specs.Sorted.{item_order, by_key, sorted_taken}
use Rattle.serde_amqp_de.specs.SortedLaws.{placed_item}

pub sorted_took : {K V : Type 0} (order : K → K → Ordering) (key : K → Item) (value : V → Item) (total : IsTotalOrder order) (ordered : (x y : K) → order x y ≡ item_order (key x) (key y)) (first second : Item → Option Item) (k : Option ℕ) (old new : At) (ps es : List (K × V))
    → Took (pairs_taken first second) k old new (map_item key value ps) → es ≡ all_placed order [] ps → Took (sorted_taken first second) k old new (sorted_item order key value es)
unfolding sorted_taken
sorted_took {K} {V} order key value total ordered first second k old new ps es t e =
    record {
      item = t.item;
      reads = t.reads;
      taken =
          ap (λ (o : Option Item). o >>= λ y. Some (by_key y)) t.taken
          ∙ ap (λ (y : Item). Some y) (
          placed_item order key value ordered ps
          ∙ (ap (λ (l : List (K × V)). map_item key value l) (sym (placed_once order total ps))
          ∙ ap (λ (l : List (K × V)). sorted_item order key value l) (sym e))
          );
    }

pub sorted_refused : (first second : Item → Option Item) (k : Option ℕ) (old : At) → Refuses (pairs_taken first second) k old → Refuses (sorted_taken first second) k old
unfolding sorted_taken
sorted_refused first second k old r =
    record { none = λ x f more w e. ap (λ (o : Option Item). o >>= λ y. Some (by_key y)) (r.none x f more w e) }

pub ruleset sorting = (sorted_took, sorted_refused)
