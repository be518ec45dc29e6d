-- What the transfers of a delivery say: part 2, 2.6.14 and 2.7.5.
use Rattle.std.specs.Prelude.{ℕ, ◌++◌, ◌&&◌, Bool, true, false, List, Option, Some, None, Result, Ok, Err, nat_eq}
use Rattle.std.specs.Prelude.{unwrap_or, take, if◌then◌else◌}
use Rattle.std.specs.Str.{bytes_eq}
use Rattle.amqp_session_performatives.specs.declared.transfer.Transfer.{Transfer}
use Rattle.amqp_link_types.specs.declared.refusals.ReceiverTransferError.{ReceiverTransferError}
use Rattle.amqp_link_types.specs.declared.refusals.ReceiverTransferError.TheVariants.{DeliveryIdIsNone}
use Rattle.amqp_link_types.specs.declared.refusals.ReceiverTransferError.TheVariants.{DeliveryTagIsNone}
use Rattle.amqp_link_types.specs.declared.refusals.ReceiverTransferError.TheVariants.{InconsistentFieldInMultiFrameDelivery}

-- a delivery: what its first transfer says of it, whether it is settled as its transfers so far say it, and the bytes
-- of its message so far
pub record Said : Type 0 where
  pub performative : Transfer
  pub payload : List ℕ

-- whether a delivery is settled, as it was said before and a transfer says now: one that leaves it out changes
-- nothing, and once a transfer said that it is, it is
abbrev pub settled_by : Option Bool → Option Bool → Option Bool
settled_by before now = if unwrap_or now false then Some true else before

-- a delivery that a transfer begins
abbrev pub begun : Transfer → List ℕ → Said
begun t bytes = record { performative = t; payload = bytes }

-- a delivery once a transfer that goes on with it has come
abbrev pub continued : Said → Transfer → List ℕ → Said
continued d t bytes =
    record {
      performative = record d.performative { settled = settled_by d.performative.settled t.settled };
      payload = d.payload ++ bytes;
    }

-- a delivery of which the first bytes are kept, once a transfer that resumes it has come
abbrev pub resumed : Said → ℕ → Transfer → List ℕ → Said
resumed d kept t bytes = record { performative = t; payload = take kept d.payload ++ bytes }

-- a delivery that has come whole: what one transfer of all its bytes says
abbrev pub whole : Said → Said
whole d = record d { performative = record d.performative { more = false } }

-- what a transfer says is what the first one said, or is left out
abbrev pub repeats : {A : Type 0} → (A → A → Bool) → Option A → Option A → Bool
repeats same first None = true
repeats same None (Some said) = false
repeats same (Some own) (Some said) = same said own

-- a transfer is of the delivery that the first one began: it repeats the tag, or leaves it out
abbrev pub is_same_delivery : Transfer → Transfer → Bool
is_same_delivery first t = repeats bytes_eq first.delivery_tag t.delivery_tag

-- a transfer doesn't say another number, tag or format than the first one
abbrev pub agrees : Transfer → Transfer → Bool
agrees first t =
    repeats nat_eq first.delivery_id t.delivery_id && is_same_delivery first t && repeats nat_eq first.message_format
    t.message_format

-- why a transfer begins no delivery, by the number and the tag that it says
abbrev pub unnamed_by : Option ℕ → Option (List ℕ) → Option ReceiverTransferError
unnamed_by None tag = Some DeliveryIdIsNone
unnamed_by (Some id) None = Some DeliveryTagIsNone
unnamed_by (Some id) (Some tag) = None

abbrev pub unnamed : Transfer → Option ReceiverTransferError
unnamed t = unnamed_by t.delivery_id t.delivery_tag

abbrev pub unless : Option ReceiverTransferError → Said → Result Said ReceiverTransferError
unless (Some e) d = Err e
unless None d = Ok d

-- what is held of a delivery once the transfer has come, or why it is refused
abbrev pub gathered : Option Said → Transfer → List ℕ → Result Said ReceiverTransferError
gathered None t bytes = unless (unnamed t) (begun t bytes)
gathered (Some d) t bytes =
    if agrees d.performative t then Ok (continued d t bytes) else Err InconsistentFieldInMultiFrameDelivery
