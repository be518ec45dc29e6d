-- Bytes give one message-id, it is read as it is written, and its item says which it is.
use Rattle.std.proofs.Common.{◌≡◌, ℕ, List, Some, false, ap, refl}
use Rattle.serde_amqp_item.specs.Item.{Item, scalar, ulong, uuid, binary, string}
use Rattle.serde_amqp_item.specs.Canon.{WithoutRaw}
use Rattle.serde_amqp_de.specs.Decides.{Decided}
use Rattle.serde_amqp_de.specs.Deciding.{as_it_is_decided}
use Rattle.serde_amqp_de.specs.Takes.{reads_as_null}
use Rattle.amqp_link_sections.specs.MessageId.{message_id_item, message_id_taken}
use Rattle.amqp_link_sections.specs.declared.message_id.MessageId.{MessageId}
use Rattle.amqp_link_sections.specs.declared.message_id.MessageId.TheVariants as id

as_it_is : (x u : Item) → message_id_taken x ≡ Some u → (x ≡ u) × WithoutRaw x
unfolding message_id_taken
as_it_is (scalar (ulong n)) u e = (cc, tt)
as_it_is (scalar (uuid bs)) u e = (cc, tt)
as_it_is (scalar (binary bs)) u e = (cc, tt)
as_it_is (scalar (string text)) u e = (cc, tt)
as_it_is (scalar s) u e = absurd cc
as_it_is x u e = absurd cc

pub message_id_decided : Decided message_id_taken
message_id_decided = as_it_is_decided message_id_taken as_it_is

pub message_id_again : (i : MessageId) → message_id_taken (message_id_item i) ≡ Some (message_id_item i)
unfolding message_id_taken
message_id_again (id.Ulong n) = refl
message_id_again (id.Uuid bs) = refl
message_id_again (id.Binary bs) = refl
message_id_again (id.String text) = refl

pub message_id_present : (i : MessageId) → reads_as_null (message_id_item i) ≡ false
message_id_present (id.Ulong n) = refl
message_id_present (id.Uuid bs) = refl
message_id_present (id.Binary bs) = refl
message_id_present (id.String text) = refl

pub message_id_same : (i j : MessageId) → message_id_item i ≡ message_id_item j → i ≡ j
message_id_same (id.Ulong m) (id.Ulong n) e = let same : m ≡ n = cc in ap (λ (x : ℕ). id.Ulong x) same
message_id_same (id.Uuid a) (id.Uuid b) e = let same : a ≡ b = cc in ap (λ (x : List ℕ). id.Uuid x) same
message_id_same (id.Binary a) (id.Binary b) e = let same : a ≡ b = cc in ap (λ (x : List ℕ). id.Binary x) same
message_id_same (id.String a) (id.String b) e = let same : a ≡ b = cc in ap (λ (x : List ℕ). id.String x) same
message_id_same (id.Ulong m) j e = absurd cc
message_id_same (id.Uuid a) j e = absurd cc
message_id_same (id.Binary a) j e = absurd cc
message_id_same (id.String a) j e = absurd cc
