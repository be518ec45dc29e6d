-- Bytes give one section of a body, it is read as it is written, and its item says which it is.
use Rattle.std.proofs.Common.{◌≡◌, ℕ, List, map, Option, Some, ap, refl}
use Rattle.serde_amqp_item.specs.Item.{Item, scalar, binary, list, items_of}
use Rattle.serde_amqp_item.specs.Canon.{◌>>=◌}
use Rattle.serde_amqp_de.specs.Again.{each_again, list_faithful, list_same_item}
use Rattle.serde_amqp_de.specs.Decides.{Decided}
use Rattle.serde_amqp_de.specs.Deciding.{binary_decided, items_decided}
use Rattle.serde_amqp_de.specs.Takes.{binary_taken, items_taken}
use Rattle.serde_amqp_types.specs.Faithful.{binary_faithful}
use Rattle.amqp_link_sections.specs.Described.{described_item}
use Rattle.amqp_link_sections.specs.DescribedLaws.{described_decided, described_again, described_same}
use Rattle.amqp_link_sections.specs.Body.{data_name, data_item, data_taken, amqp_sequence_name, amqp_sequence_item}
use Rattle.amqp_link_sections.specs.Body.{amqp_sequence_taken, amqp_value_name, amqp_value_item, amqp_value_taken}
use Rattle.amqp_link_sections.specs.declared.body.Data.{Data}
use Rattle.amqp_link_sections.specs.declared.body.AmqpValue.{AmqpValue}

pub data_decided : Decided data_taken
data_decided = described_decided 0x75 data_name binary_taken binary_decided

pub data_again : (d : Data) → data_taken (data_item d) ≡ Some (data_item d)
data_again d = described_again 0x75 data_name binary_taken (scalar (binary d.0)) refl

pub data_same : (d e : Data) → data_item d ≡ data_item e → d ≡ e
data_same d e s =
    ap (λ (bs : List ℕ). record { 0 = bs }) (binary_faithful d.0 e.0
    (described_same 0x75 (scalar (binary d.0)) (scalar (binary e.0)) s))

pub amqp_sequence_decided : (take : Item → Option Item) → Decided take → Decided (amqp_sequence_taken take)
amqp_sequence_decided take d = described_decided 0x76 amqp_sequence_name (items_taken take) (items_decided take d)

items_again : {X : Type 0} (take : Item → Option Item) (item : X → Item) → ((x : X) → take (item x) ≡ Some (item x))
    → (xs : List X) → items_taken take (list (items_of (map item xs))) ≡ Some (list (items_of (map item xs)))
unfolding items_taken
items_again take item again xs =
    ap (λ (o : Option (List Item)). o >>= λ ys. Some (list (items_of ys))) (each_again take item again xs)

pub amqp_sequence_again : {X : Type 0} (take : Item → Option Item) (item : X → Item)
    → ((x : X) → take (item x) ≡ Some (item x)) → (xs : List X)
    → amqp_sequence_taken take (amqp_sequence_item item xs) ≡ Some (amqp_sequence_item item xs)
amqp_sequence_again take item again xs =
    described_again 0x76 amqp_sequence_name (items_taken take) (list (items_of (map item xs)))
    (items_again take item again xs)

pub amqp_sequence_same_item : {X : Type 0} (written item : X → Item) → ((x : X) → written x ≡ item x) → (xs : List X)
    → amqp_sequence_item written xs ≡ amqp_sequence_item item xs
amqp_sequence_same_item written item same xs = ap (described_item 0x76) (list_same_item written item same xs)

pub amqp_sequence_same : {X : Type 0} (item : X → Item) → ((x y : X) → item x ≡ item y → x ≡ y) → (xs ys : List X)
    → amqp_sequence_item item xs ≡ amqp_sequence_item item ys → xs ≡ ys
amqp_sequence_same item one xs ys e =
    list_faithful item one xs ys (described_same 0x76 (list (items_of (map item xs))) (list (items_of (map item ys))) e)

pub amqp_value_decided : (take : Item → Option Item) → Decided take → Decided (amqp_value_taken take)
amqp_value_decided take d = described_decided 0x77 amqp_value_name take d

pub amqp_value_again : {X : Type 0} (take : Item → Option Item) (item : X → Item)
    → ((x : X) → take (item x) ≡ Some (item x)) → (v : AmqpValue X)
    → amqp_value_taken take (amqp_value_item item v) ≡ Some (amqp_value_item item v)
amqp_value_again take item again v = described_again 0x77 amqp_value_name take (item v.0) (again v.0)

pub amqp_value_same_item : {X : Type 0} (written item : X → Item) → ((x : X) → written x ≡ item x) → (v : AmqpValue X)
    → amqp_value_item written v ≡ amqp_value_item item v
amqp_value_same_item written item same v = ap (described_item 0x77) (same v.0)

pub amqp_value_same : {X : Type 0} (item : X → Item) → ((x y : X) → item x ≡ item y → x ≡ y) → (v w : AmqpValue X)
    → amqp_value_item item v ≡ amqp_value_item item w → v ≡ w
amqp_value_same {X} item one v w e =
    ap (λ (x : X). record { 0 = x }) (one v.0 w.0 (described_same 0x77 (item v.0) (item w.0) e))
