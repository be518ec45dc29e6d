-- Descriptors and described values (part 1, sections 1.2 and 1.5).
use Rattle.std.proofs.Common.{◌≡◌, ℕ, List, Option, Some, false, ◌∙◌, ap, refl}
use Rattle.serde_amqp_item.specs.Item.{Item, scalar, symbol, ulong, described}
use Rattle.serde_amqp_item.specs.Canon.{◌>>=◌}
use Rattle.serde_amqp_de.specs.Takes.{reads_as_null}
use Rattle.serde_amqp_types.specs.Takes.{any_descriptor_taken, described_with}
use Rattle.serde_amqp_types.specs.declared.described.Descriptor.{Descriptor}
use Rattle.serde_amqp_types.specs.declared.described.Descriptor.TheVariants.{Name, Code}

-- the name of a type is a symbol, its number a ulong
abbrev pub descriptor_item : Descriptor → Item
descriptor_item (Name name) = scalar (symbol name)
descriptor_item (Code code) = scalar (ulong code)

-- a descriptor's item is taken as it is
pub descriptor_again : (d : Descriptor) → any_descriptor_taken (descriptor_item d) ≡ Some (descriptor_item d)
unfolding any_descriptor_taken
descriptor_again (Name name) = refl
descriptor_again (Code code) = refl

pub described_again : (take : Item → Option Item) (y : Item) → take y ≡ Some y → (d : Descriptor)
    → described_with take (described (descriptor_item d) y) ≡ Some (described (descriptor_item d) y)
unfolding described_with
described_again take y again d =
    ap (λ (o : Option Item). o >>= λ c. take y >>= λ z. Some (described c z)) (descriptor_again d)
    ∙ ap (λ (o : Option Item). o >>= λ z. Some (described (descriptor_item d) z)) again

-- a descriptor's item says which it is
pub descriptor_faithful : (c d : Descriptor) → descriptor_item c ≡ descriptor_item d → c ≡ d
descriptor_faithful (Name m) (Name n) e = let same : m ≡ n = cc in ap (λ (s : List ℕ). Name s) same
descriptor_faithful (Name m) (Code n) e = absurd cc
descriptor_faithful (Code m) (Name n) e = absurd cc
descriptor_faithful (Code m) (Code n) e = let same : m ≡ n = cc in ap (λ (i : ℕ). Code i) same

pub descriptor_present : (d : Descriptor) → reads_as_null (descriptor_item d) ≡ false
descriptor_present (Name name) = refl
descriptor_present (Code code) = refl

-- a described item says its descriptor and its value
pub same_value : (c d v w : Item) → described c v ≡ described d w → v ≡ w
same_value c d v w e = cc

pub same_descriptor : (c d : Descriptor) (v w : Item)
    → described (descriptor_item c) v ≡ described (descriptor_item d) w → c ≡ d
same_descriptor c d v w e = let same : descriptor_item c ≡ descriptor_item d = cc in descriptor_faithful c d same
