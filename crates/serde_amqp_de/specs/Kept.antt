-- Which items are taken by a type that keeps bytes (part 1, section 1.2).
use Rattle.std.proofs.Common.{◌≡◌, ℕ, List, Option, Some, None, sym, ◌∙◌, ap}
use Rattle.serde_amqp_item.specs.Item.{Item, scalar, raw}
use Rattle.serde_amqp_item.specs.Wire.{Wire}
use Rattle.serde_amqp_de.specs.Decides.{Decided}

-- a kept item
abbrev pub raw_taken : Item → Option Item
raw_taken (raw text) = Some (raw text)
raw_taken _ = None

-- the bytes of a kept item are what it keeps
pub raw_is_its_bytes : (text : List ℕ) (k : Option ℕ) (a : List ℕ) → Wire (raw text) k a → text ≡ a
raw_is_its_bytes text None a (c, b, l, f) = f.0 ∙ sym l
raw_is_its_bytes text (Some i) a (c, b, l, f) = absurd f

pub raw_decided : Decided raw_taken
raw_decided (raw t) (raw s) k a u v g h e f =
    let same : t ≡ s = raw_is_its_bytes t k a g ∙ sym (raw_is_its_bytes s k a h) in
    let one : raw t ≡ raw s = ap (λ (x : List ℕ). raw x) same in
    cc
raw_decided (raw t) (scalar s) k a u v g h e f = absurd cc
raw_decided (raw t) y k a u v g h e f = absurd cc
raw_decided (scalar s) y k a u v g h e f = absurd cc
raw_decided x y k a u v g h e f = absurd cc

-- a kept item says what it keeps
pub raw_faithful : (t s : List ℕ) → raw t ≡ raw s → t ≡ s
raw_faithful t s e = cc
