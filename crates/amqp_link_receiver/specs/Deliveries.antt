-- The deliveries that come in on a link: part 2, 2.6.14 for messages of several transfers, 2.6.13 for those that are
-- resumed.
use Rattle.std.specs.Prelude.{ℕ, ◌+◌, ◌-◌, ◌^◌, ◌==◌, ◌++◌, ◌&&◌, ◌||◌, not, Bool, true, false, List, [], ◌∷◌, length}
use Rattle.std.specs.Prelude.{take, min, nat_lt, Option, Some, None, Result, Ok, Err, if◌then◌else◌}
use Rattle.std.specs.Map.{lookup, remove_entry, set_value}
use Rattle.std.specs.Str.{bytes_eq}
use Rattle.amqp_session_states.specs.declared.received.Received.{Received}
use Rattle.amqp_session_types.specs.declared.modes.ReceiverSettleMode.{ReceiverSettleMode}
use Rattle.amqp_session_types.specs.declared.modes.ReceiverSettleMode.TheVariants.{First, Second}
use Rattle.amqp_link_types.specs.declared.refusals.ReceiverTransferError.{ReceiverTransferError}
use Rattle.amqp_link_types.specs.declared.refusals.ReceiverTransferError.TheVariants as refused
use Rattle.amqp_link_base.specs.Starts.{read_at}
use Rattle.amqp_link_receiver.specs.declared.head.Head.{Head}
use Rattle.amqp_link_receiver.specs.declared.head.Start.{Start}
use Rattle.amqp_link_receiver.specs.declared.arriving.Incoming.{Incoming}
use Rattle.amqp_link_receiver.specs.declared.resuming.Resumption.{Resumption}
use Rattle.amqp_link_receiver.specs.declared.resuming.Resumption.TheVariants.{From, Joins}
use Rattle.amqp_link_receiver.specs.declared.entry.Entry.{Entry}
use Rattle.amqp_link_receiver.specs.declared.entry.Entry.TheVariants.{Half, Whole}
use Rattle.amqp_link_receiver.specs.declared.entry.WholeMessage.{WholeMessage}
use Rattle.amqp_link_receiver.specs.declared.attachment.Attachment.{Attachment}

-- a delivery that is coming in, by its bytes
abbrev pub Delivery : Type 0
Delivery = Incoming (List ℕ)

-- unsettled deliveries by their tags, in the order of their first transfers
abbrev pub Entries : Type 0
Entries = List (List ℕ × Entry)

abbrev pub found : Entries → List ℕ → Option Entry
found entries tag = lookup (bytes_eq tag) entries

-- a first transfer has a number and a tag
abbrev pub started : Head → Option ℕ → Option (List ℕ) → Result Start ReceiverTransferError
started h None tag = Err refused.DeliveryIdIsNone
started h (Some id) None = Err refused.DeliveryTagIsNone
started h (Some id) (Some tag) =
    Ok (record {
      delivery_id = id;
      delivery_tag = tag;
      message_format = h.message_format;
      settled = h.settled;
      rcv_settle_mode = h.rcv_settle_mode;
      place = h.place;
      resume = h.resume;
    })

abbrev pub start_of : Head → Result Start ReceiverTransferError
start_of h = started h h.delivery_id h.delivery_tag

-- the delivery that a first transfer begins, with bytes that were kept of it
abbrev pub begun : Start → List ℕ → Delivery
begun t kept =
    record {
      delivery_id = t.delivery_id;
      delivery_tag = t.delivery_tag;
      message_format = t.message_format;
      settled = t.settled;
      rcv_settle_mode = t.rcv_settle_mode;
      payload = kept;
      joins = false;
    }

-- of a message that is there whole nothing is wanted again
abbrev pub joined : Start → Delivery
joined t = record (begun t []) { joins = true }

-- how many of the kept bytes a resumed delivery goes on from: those before its place, and all where it names none. A
-- place past the kept bytes can't be read
abbrev pub resumed_from : List ℕ → Option Received → Option ℕ
resumed_from kept None = Some (length kept)
resumed_from kept (Some place) = read_at kept place

abbrev pub half_resumption : Option ℕ → Result Resumption ReceiverTransferError
half_resumption None = Err refused.IllegalState
half_resumption (Some n) = Ok (From n)

abbrev pub whole_resumption : Option ℕ → Result Resumption ReceiverTransferError
whole_resumption None = Err refused.IllegalState
whole_resumption (Some n) = Ok Joins

-- how a delivery is resumed, which must be known
abbrev pub resumption : Option Entry → Option Received → Result Resumption ReceiverTransferError
resumption None place = Err refused.IllegalState
resumption (Some (Half kept)) place = half_resumption (resumed_from kept place)
resumption (Some (Whole m)) place = whole_resumption (resumed_from m.payload place)

abbrev pub kept_bytes : Option Entry → List ℕ
kept_bytes None = []
kept_bytes (Some (Half kept)) = kept
kept_bytes (Some (Whole m)) = m.payload

abbrev pub resumed_by : Start → Option Entry → Result Resumption ReceiverTransferError
    → Result Delivery ReceiverTransferError
resumed_by t entry (Err e) = Err e
resumed_by t entry (Ok (From n)) = Ok (begun t (take n (kept_bytes entry)))
resumed_by t entry (Ok Joins) = Ok (joined t)

abbrev pub resumed : Start → Option Entry → Result Delivery ReceiverTransferError
resumed t entry = resumed_by t entry (resumption entry t.place)

-- one that isn't must not be
abbrev pub fresh : Start → Option Entry → Result Delivery ReceiverTransferError
fresh t None = Ok (begun t [])
fresh t (Some entry) = Err refused.IllegalState

abbrev pub begun_as : Start → Option Entry → Result Delivery ReceiverTransferError
begun_as t entry = if t.resume then resumed t entry else fresh t entry

abbrev pub begun_by : Entries → Result Start ReceiverTransferError → Result Delivery ReceiverTransferError
begun_by entries (Err e) = Err e
begun_by entries (Ok t) = begun_as t (found entries t.delivery_tag)

-- a number is that which was told before, or it is left out
abbrev pub repeats_number : Option ℕ → Option ℕ → Bool
repeats_number own None = true
repeats_number None (Some told) = false
repeats_number (Some own) (Some told) = told == own

abbrev pub repeats_tag : List ℕ → Option (List ℕ) → Bool
repeats_tag own None = true
repeats_tag own (Some told) = bytes_eq told own

-- a continuation repeats number, tag and format, or leaves them out
abbrev pub repeats : Delivery → Option ℕ → Option (List ℕ) → Option ℕ → Bool
repeats d number tag format =
    repeats_number (Some d.delivery_id) number && repeats_tag d.delivery_tag tag && repeats_number d.message_format
    format

abbrev pub agrees : Delivery → Head → Bool
agrees d h = repeats d h.delivery_id h.delivery_tag h.message_format

-- what a continuation says besides: once a transfer says that the delivery is settled it is
abbrev pub continued : Delivery → Head → Delivery
continued d h = record d { settled = d.settled || h.settled }

-- the delivery that a transfer belongs to, before the bytes of the transfer
abbrev pub delivery_of : Option Delivery → Entries → Head → Result Delivery ReceiverTransferError
delivery_of None entries h = begun_by entries (start_of h)
delivery_of (Some d) entries h =
    if agrees d h then Ok (continued d h) else Err refused.InconsistentFieldInMultiFrameDelivery

-- with these bytes too, unless they are passed over
abbrev pub grown : Delivery → List ℕ → Delivery
grown d payload = record d { payload = (if d.joins then d.payload else d.payload ++ payload) }

-- the largest message that is taken: of a bound of 0, and of any above it, that of 2^32 - 1 bytes
abbrev pub limit_of : ℕ → ℕ
limit_of maximum = if maximum == 0 then 2 ^ 32 - 1 else min maximum (2 ^ 32 - 1)

-- with these bytes the message is larger than that
abbrev pub is_too_large : Attachment → Delivery → List ℕ → Bool
is_too_large attachment d payload =
    not d.joins && nat_lt (limit_of attachment.max_message_size) (length d.payload + length payload)

abbrev pub is_second : Option ReceiverSettleMode → Bool
is_second (Some Second) = true
is_second mode = false

abbrev pub is_first : ReceiverSettleMode → Bool
is_first First = true
is_first Second = false

-- a link whose receiver settles first takes no unsettled delivery that it is to settle second: 2.7.5
abbrev pub is_of_other_mode : Attachment → Delivery → Bool
is_of_other_mode attachment d = not d.settled && is_second d.rcv_settle_mode && is_first attachment.rcv_settle_mode

abbrev pub sized : Attachment → Delivery → List ℕ → Result Delivery ReceiverTransferError
sized attachment d payload =
    if is_too_large attachment d payload then Err refused.MessageSizeExceeded else Ok (grown d payload)

-- the delivery with its last transfer, and with one that isn't the last
abbrev pub with_last : Attachment → List ℕ → Result Delivery ReceiverTransferError
    → Result Delivery ReceiverTransferError
with_last attachment payload (Err e) = Err e
with_last attachment payload (Ok d) =
    if is_of_other_mode attachment d then Err refused.IllegalRcvSettleModeInTransfer else sized attachment d payload

abbrev pub with_part : Attachment → List ℕ → Result Delivery ReceiverTransferError
    → Result Delivery ReceiverTransferError
with_part attachment payload (Err e) = Err e
with_part attachment payload (Ok d) = sized attachment d payload
