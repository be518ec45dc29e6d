-- Reading a map.
use Rattle.std.proofs.Common.{◌≡◌, ℕ, Bool, List, [], Option, Some, sym, ◌∙◌, ap}
use Rattle.std.specs.Cmp.{IsEquivalence}
use Rattle.serde_amqp_item.specs.Item.{Item}
use Rattle.serde_amqp_item.specs.Canon.{◌>>=◌}
use Rattle.serde_amqp_de.specs.Reads.{At, Refuses, Took}
use Rattle.serde_amqp_item.specs.Entries.{map_item}
use Rattle.serde_amqp_de.specs.Maps.{pairs_taken}
use Rattle.serde_amqp_values.specs.MapAgain.{merged_item}
use Rattle.serde_amqp_values.specs.MapDeciding.{plainly}
use Rattle.serde_amqp_values.specs.Items.{ordered_item}
use Rattle.serde_amqp_values.specs.Pairs.{KeysApart, all_inserted}
use Rattle.serde_amqp_de.specs.Same.{item_same}
use Rattle.serde_amqp_values.specs.MapTakes.{merged, ordered_taken}
use Rattle.serde_amqp_values.proofs.Ordered.{is_map}

pub ordered_took : {K V : Type 0} (same : K → K → Bool) (laws : IsEquivalence same) (key : K → Item) (value : V → Item) (equal : (x y : K) → same x y ≡ item_same (key x) (key y)) (first second : Item → Option Item) (k : Option ℕ) (old new : At) (ps qs : List (K × V))
    → Took (pairs_taken first second) k old new (map_item key value ps) → qs ≡ all_inserted same [] ps → KeysApart same qs → Took (ordered_taken first second) k old new (ordered_item same key value qs)
ordered_took {K} {V} same laws key value equal first second k old new ps qs t e d =
    record {
      item = t.item;
      reads = t.reads;
      taken =
          plainly first second t.item k t.reads.front t.reads.wire
          ∙ ap (λ (o : Option Item). o >>= λ y. Some (merged y)) t.taken
          ∙ ap (λ (y : Item). Some y) (merged_item same key value equal ps ∙ ap (λ (l : List (K × V)). map_item key value l) (sym e) ∙ sym (is_map same laws key value qs d));
    }

pub ordered_refused : (first second : Item → Option Item) (k : Option ℕ) (old : At) → Refuses (pairs_taken first second) k old → Refuses (ordered_taken first second) k old
ordered_refused first second k old r =
    record { none = λ x f more w e. plainly first second x k f w ∙ ap (λ (o : Option Item). o >>= λ y. Some (merged y)) (r.none x f more w e) }

pub ruleset reading = (ordered_took, ordered_refused)
