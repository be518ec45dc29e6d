-- What is read as the bytes of a kept value.
use Rattle.std.proofs.Common.{◌≡◌, ℕ, ◌+◌, List, ◌++◌, length, Option, Some, None, true, false, ◌∙◌, ap, refl}
use Rattle.std.specs.Prelude.{is_some}
use Rattle.serde_amqp_item.specs.Item.{Item, scalar, raw}
use Rattle.serde_amqp_item.specs.Wire.{Wire}
use Rattle.serde_amqp_read.specs.Reads.{StrictBytes, NoStrict}
use Rattle.serde_amqp_de.specs.Reads.{At, Reads, Refuses}
use Rattle.serde_amqp_de.specs.Kept.{raw_taken}

pub kept_reads : (k : Option ℕ) (old new : At) (v : List ℕ) → is_some k ≡ false → StrictBytes v → old.rest ≡ v ++ new.rest → new.pos ≡ old.pos + length v → Reads k old new (raw v)
kept_reads None old new v n b s p = record {
  front = v;
  wire = (b.byte, b.behind, b.whole, (b.whole, b.strict));
  moves = record { split = s; count = p };
}
kept_reads (Some i) old new v n b s p = absurd cc

not_kept : (k : Option ℕ) (old : At) → NoStrict old.rest → (x : Item) (front more : List ℕ) → Wire x k front → old.rest ≡ front ++ more → raw_taken x ≡ None
not_kept None old n (raw text) front more (c, a, l, f) s = absurd (n.none c a more (s ∙ ap (λ (t : List ℕ). t ++ more) l) f.1)
not_kept (Some i) old n (raw text) front more (c, a, l, f) s = absurd f
not_kept k old n (scalar s) front more w e = refl
not_kept k old n x front more w e = refl

pub nothing_kept : (k : Option ℕ) (old : At) → NoStrict old.rest → Refuses raw_taken k old
nothing_kept k old n = record { none = not_kept k old n }

in_array : (i : ℕ) (x : Item) (front : List ℕ) → Wire x (Some i) front → raw_taken x ≡ None
in_array i (raw text) front (c, a, l, f) = absurd f
in_array i (scalar s) front w = refl
in_array i x front w = refl

pub no_element_kept : (k : Option ℕ) (old : At) → is_some k ≡ true → Refuses raw_taken k old
no_element_kept None old n = absurd cc
no_element_kept (Some i) old n = record { none = λ x front more w e. in_array i x front w }

pub ruleset keeping = (kept_reads, nothing_kept, no_element_kept)
