-- Bytes give one described value, it is read as it is written, and its item says which it is.
use Rattle.std.proofs.Common.{◌≡◌, ℕ, List, true, Option, Some, None, sym, ◌∙◌, ap, refl, arith}
use Rattle.std.specs.Prelude.{◌==◌}
use Rattle.std.proofs.lemmas.Bool.Decides.{nat_tests}
use Rattle.serde_amqp_item.specs.Item.{Item, scalar, ulong, described}
use Rattle.serde_amqp_item.specs.Canon.{◌>>=◌}
use Rattle.serde_amqp_de.specs.Takes.{descriptor_taken}
use Rattle.serde_amqp_de.specs.Decides.{Decided}
use Rattle.serde_amqp_de.specs.Apart.{described_together}
use Rattle.serde_amqp_de.specs.Deciding.{descriptor_decided}
use Rattle.amqp_link_sections.specs.Described.{described_item, described_as}

-- what is made of a descriptor and a value
both_taken : (o p : Option Item) (u : Item) → (o >>= λ c. p >>= λ y. Some (described c y)) ≡ Some u
    → (c : Item) × (y : Item) × (o ≡ Some c) × (p ≡ Some y) × (u ≡ described c y)
both_taken None p u e = absurd cc
both_taken (Some c) None u e = absurd cc
both_taken (Some c) (Some y) u e = (c, y, refl, refl, cc)

pub described_decided : (code : ℕ) (name : List ℕ) (take : Item → Option Item) → Decided take
    → Decided (described_as code name take)
unfolding described_as
described_decided code name take all (described d v) (described e w) k a u z g h i j =
    let t = described_together d v e w k a g h in
    let p = both_taken (descriptor_taken code name d) (take v) u i in
    let q = both_taken (descriptor_taken code name e) (take w) z j in
    let first : p.0 ≡ q.0 = descriptor_decided code name d e None t.first p.0 q.0 t.first_left t.first_right p.2 q.2 in
    let second : p.1 ≡ q.1 = all v w None t.second p.1 q.1 t.second_left t.second_right p.3 q.3 in
    p.4 ∙ (ap (λ (c : Item). described c p.1) first ∙ (ap (λ (y : Item). described q.0 y) second ∙ sym q.4))
described_decided code name take all (described d v) y k a u z g h i j = absurd cc
described_decided code name take all x y k a u z g h i j = absurd cc

same_number : (n : ℕ) → (n == n) ≡ true
same_number n = grind (arith, nat_tests)

code_again : (code : ℕ) (name : List ℕ) → descriptor_taken code name (scalar (ulong code)) ≡ Some (scalar (ulong code))
unfolding descriptor_taken
code_again code name = rw (same_number code) refl

pub described_again : (code : ℕ) (name : List ℕ) (take : Item → Option Item) (y : Item) → take y ≡ Some y
    → described_as code name take (described_item code y) ≡ Some (described_item code y)
unfolding described_as
described_again code name take y again =
    ap (λ (o : Option Item). o >>= λ c. take y >>= λ z. Some (described c z)) (code_again code name)
    ∙ ap (λ (o : Option Item). o >>= λ z. Some (described_item code z)) again

-- a described item says its value
pub described_same : (code : ℕ) (v w : Item) → described_item code v ≡ described_item code w → v ≡ w
described_same code v w e = cc
