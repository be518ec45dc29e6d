-- Bytes give one map.
use Rattle.std.proofs.Common.{◌≡◌, ℕ, List, [], Option, Some, None, sym, ◌∙◌, ap, refl}
use Rattle.serde_amqp_item.specs.Item.{Item, raw, described}
use Rattle.serde_amqp_item.specs.Canon.{◌>>=◌}
use Rattle.serde_amqp_item.specs.Wire.{Row, described_by, Form, Wire, IsCapped, IsStrict, own, row_of}
use Rattle.serde_amqp_de.specs.Decides.{Decided}
use Rattle.serde_amqp_de.specs.Maps.{pairs_taken}
use Rattle.serde_amqp_de.specs.MapLaws.{pairs_decided}
use Rattle.serde_amqp_values.specs.Items.{no_map}
use Rattle.serde_amqp_values.specs.MapTakes.{merged, ordered_taken}

no_form : (x : Item) (o : Option ℕ) (r : Row) (a : List ℕ) → Form IsCapped IsStrict (no_map x) o r a → ⊥
no_form x o described_by a f = absurd cc
no_form x o r a f = f

-- no bytes are a form of pairs that are no map
pub no_wire : (x : Item) (k : Option ℕ) (a : List ℕ) → Wire (no_map x) k a → ⊥
no_wire x k a w = no_form x (own k w.0) (row_of w.0) w.1 w.3

-- of an item that has a form the pairs are taken, each key once
pub plainly : (key value : Item → Option Item) (x : Item) (k : Option ℕ) (a : List ℕ) → Wire x k a
    → ordered_taken key value x ≡ (pairs_taken key value x >>= λ y. Some (merged y))
unfolding ordered_taken
plainly key value (described (raw []) x) k a w = absurd (no_wire x k a w)
plainly key value x k a w = refl

merged_one : (o p : Option Item) (u v : Item) → ((y z : Item) → o ≡ Some y → p ≡ Some z → y ≡ z)
    → (o >>= λ y. Some (merged y)) ≡ Some u → (p >>= λ y. Some (merged y)) ≡ Some v → u ≡ v
merged_one None p u v d e f = absurd cc
merged_one (Some y) None u v d e f = absurd cc
merged_one (Some y) (Some z) u v d e f = let both = ap merged (d y z refl refl) in cc

pub ordered_decided : (key value : Item → Option Item) → Decided key → Decided value → Decided (ordered_taken key value)
ordered_decided key value d i x y k a u v w z e f =
    merged_one (pairs_taken key value x) (pairs_taken key value y) u v
    (λ s t m n. pairs_decided key value d i x y k a s t w z m n) (sym (plainly key value x k a w) ∙ e)
    (sym (plainly key value y k a z) ∙ f)
