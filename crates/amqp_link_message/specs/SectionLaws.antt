-- Which section an item is, by its descriptor.
use Rattle.std.proofs.Common.{◌≡◌, ℕ, List, [], ◌++◌, Some, None, sym, ◌∙◌, ap, subst, refl}
use Rattle.serde_amqp_item.specs.Item.{Item, scalar, raw, list, map, array, described}
use Rattle.serde_amqp_item.specs.Wire.{Wire}
use Rattle.serde_amqp_item.specs.Canon.{WithoutRaw}
use Rattle.serde_amqp_item.proofs.Forms.{wire_same}
use Rattle.serde_amqp_de.specs.Apart.{described_together}
use Rattle.amqp_link_message.specs.Sections.{code_said, section_code}

-- a descriptor that says a code is no kept item
plain : (d : Item) (i : ℕ) → code_said d ≡ Some i → WithoutRaw d
unfolding code_said
plain (scalar s) i e = tt
plain (raw text) i e = absurd cc
plain (list xs) i e = absurd cc
plain (map ps) i e = absurd cc
plain (array xs) i e = absurd cc
plain (described d v) i e = absurd cc

-- an item with a section's code is described
pub record IsSection (x : Item) (i : ℕ) : Type 0 where
  pub descriptor : Item
  pub value : Item
  pub is : x ≡ described descriptor value
  pub said : code_said descriptor ≡ Some i

is_section : (x : Item) (i : ℕ) → section_code x ≡ Some i → IsSection x i
unfolding section_code
is_section (described d v) i e = record { descriptor = d; value = v; is = refl; said = e }
is_section (scalar s) i e = absurd cc
is_section (raw text) i e = absurd cc
is_section (list xs) i e = absurd cc
is_section (map ps) i e = absurd cc
is_section (array xs) i e = absurd cc

some_number : (i j : ℕ) → Some i ≡ Some j → i ≡ j
some_number i j e = cc

described_same : (d v e w : Item) (a : List ℕ) (i j : ℕ) → Wire (described d v) None a → Wire (described e w) None a
    → code_said d ≡ Some i → code_said e ≡ Some j → i ≡ j
described_same d v e w a i j g h p q =
    let t = described_together d v e w None a g h in
    let same : d ≡ e =
    (wire_same d e None t.first t.first [] [] t.first_left t.first_right refl).1 (plain d i p) (plain e j q) in
    some_number i j (sym p ∙ (ap code_said same ∙ q))

-- bytes are a section of one code
pub code_same : (x y : Item) (a b s t : List ℕ) (i j : ℕ) → Wire x None a → Wire y None b → a ++ s ≡ b ++ t
    → section_code x ≡ Some i → section_code y ≡ Some j → i ≡ j
code_same x y a b s t i j g h e p q =
    let same = (wire_same x y None a b s t g h e).0 in
    let m = is_section x i p in
    let n = is_section y j q in
    let left : Wire (described m.descriptor m.value) None a = subst (λ (z : Item). Wire z None a) m.is g in
    let right : Wire (described n.descriptor n.value) None a =
    subst (λ (z : Item). Wire z None a) n.is (subst (λ (c : List ℕ). Wire y None c) (sym same) h) in
    described_same m.descriptor m.value n.descriptor n.value a i j left right m.said n.said
