-- What a receiving end does with a transfer: part 2, 2.6.7 (credit), 2.6.12, 2.6.14 and 2.7.5.
use Rattle.std.specs.Prelude.{◌≡◌, ◌⊎◌, ℕ, ◌==◌, ◌&&◌, not, Bool, true, false, List, [], ◌∷◌, ◌++◌, Option, Some, None, Result, Ok, Err, if◌then◌else◌, alloc_error}
use Rattle.std.specs.declared.alloc.AllocError.{AllocError}
use Rattle.std.specs.Map.{lookup, remove_entry, set_value}
use Rattle.std.specs.Str.{bytes_eq}
use Rattle.amqp_session_states.specs.declared.delivery_state.DeliveryState.{DeliveryState}
use Rattle.amqp_session_performatives.specs.declared.transfer.Transfer.{Transfer}
use Rattle.amqp_link_types.specs.declared.refusals.ReceiverTransferError.{ReceiverTransferError}
use Rattle.amqp_link_types.specs.declared.refusals.ReceiverTransferError.TheVariants as refused
use Rattle.amqp_link_base.specs.Flows.{consumed, with_counts}
use Rattle.amqp_link_base.specs.declared.inner.LinkFlowStateInner.{LinkFlowStateInner}
use Rattle.amqp_link_receiver.specs.declared.head.Head.{Head}
use Rattle.amqp_link_receiver.specs.declared.head.Start.{Start}
use Rattle.amqp_link_receiver.specs.declared.entry.Entry.{Entry}
use Rattle.amqp_link_receiver.specs.declared.entry.Entry.TheVariants.{Half, Whole}
use Rattle.amqp_link_receiver.specs.declared.entry.WholeMessage.{WholeMessage}
use Rattle.amqp_link_receiver.specs.declared.attachment.Attachment.{Attachment}
use Rattle.amqp_link_receiver.specs.declared.answer.Message.{Message}
use Rattle.amqp_link_receiver.specs.declared.answer.Registering.{Registering}
use Rattle.amqp_link_receiver.specs.declared.answer.Registering.TheVariants.{Unchanged, Unsettled, Settled}
use Rattle.amqp_link_receiver.specs.declared.answer.Told.{Told}
use Rattle.amqp_link_receiver.specs.declared.answer.Told.TheVariants as told
use Rattle.amqp_link_receiver.specs.declared.answer.Answer.{Answer}
use Rattle.amqp_link_receiver.specs.Deliveries.{Delivery, Entries, found, agrees, delivery_of, start_of, with_last}
use Rattle.amqp_link_receiver.specs.Deliveries.{with_part}
use Rattle.amqp_link_receiver.specs.Reading.{head_of}

-- a receiving end: its credit, the delivery of which transfers are coming in, and the unsettled deliveries by their tags
pub record Receiving : Type 0 where
  pub flow : LinkFlowStateInner
  pub held : Option Delivery
  pub unsettled : Entries

-- an entry in the place of that of its tag, or behind the others
abbrev pub entered_at : Entries → List ℕ → Entry → Option Entry → Entries
entered_at entries tag entry None = entries ++ (tag, entry) ∷ []
entered_at entries tag entry (Some earlier) = set_value (bytes_eq tag) entries entry

abbrev pub entered : Entries → List ℕ → Entry → Entries
entered entries tag entry = entered_at entries tag entry (found entries tag)

abbrev pub without : Entries → List ℕ → Entries
without entries tag = remove_entry (bytes_eq tag) entries

-- the message that was there goes on under its delivery's new number
abbrev pub renumbered_at : Attachment → Entries → Delivery → Option Entry → Entries
renumbered_at attachment entries d (Some (Whole m)) =
    set_value (bytes_eq d.delivery_tag) entries (Whole (record m { number = d.delivery_id; attachment = attachment.count; rcv_settle_mode = d.rcv_settle_mode }))
renumbered_at attachment entries d entry = entries

abbrev pub renumbered : Attachment → Entries → Delivery → Entries
renumbered attachment entries d = renumbered_at attachment entries d (found entries d.delivery_tag)

-- a delivery that is settled leaves no entry, and of any other this is noted
abbrev pub noted : Attachment → Entries → Delivery → Entry → Entries
noted attachment entries d entry =
    if d.settled then without entries d.delivery_tag
    else (if d.joins then renumbered attachment entries d else entered entries d.delivery_tag entry)

-- the first transfer of a delivery that isn't settled registers it, and one that settles it ends that
abbrev pub registering : Option Delivery → Delivery → Registering
registering None d = if d.settled then Unchanged else Unsettled d.delivery_id d.delivery_tag
registering (Some earlier) d = if not earlier.settled && d.settled then Settled d.delivery_id else Unchanged

abbrev pub Outcome : Type 0
Outcome = Answer × Receiving

abbrev pub refusal : ReceiverTransferError → Receiving → Outcome
refusal e s = (record { registering = Unchanged; told = told.Refused e }, s)

-- a receiving end with this count of deliveries and this credit
abbrev pub recounted : Receiving → ℕ → ℕ → Receiving
recounted s count credit = record s { flow = with_counts s.flow count credit }

-- more transfers of the delivery are to come
abbrev pub kept_on : Attachment → Receiving → Result Delivery ReceiverTransferError → Outcome
kept_on attachment s (Err e) = refusal e s
kept_on attachment s (Ok d) = (
  record { registering = registering s.held d; told = told.Nothing },
  record s { held = Some d; unsettled = noted attachment s.unsettled d (Half []) },
)

-- how a message is settled says nothing where its sender has settled it
abbrev pub message_of : Delivery → Message
message_of d =
    record {
      delivery_id = d.delivery_id;
      delivery_tag = d.delivery_tag;
      message_format = d.message_format;
      rcv_settle_mode = (if d.settled then None else d.rcv_settle_mode);
      settled = d.settled;
      payload = d.payload;
    }

abbrev pub completion : Delivery → Told
completion d = if d.joins then told.Joined d.delivery_id d.delivery_tag else told.Message (message_of d)

abbrev pub whole_of : Attachment → Delivery → WholeMessage
whole_of attachment d =
    record {
      payload = d.payload;
      state = None;
      number = d.delivery_id;
      attachment = attachment.count;
      rcv_settle_mode = d.rcv_settle_mode;
      message = None;
    }

-- the delivery is complete
abbrev pub completed : Attachment → Receiving → Result Delivery ReceiverTransferError → Outcome
completed attachment s (Err e) = refusal e s
completed attachment s (Ok d) = (
  record { registering = registering s.held d; told = completion d },
  record s { held = None; unsettled = noted attachment s.unsettled d (Whole (whole_of attachment d)) },
)

-- the last transfer of a delivery uses one credit
abbrev pub spent : Receiving → Receiving
spent s = record s { flow = consumed s.flow 1 }

-- what of a delivery was registered in the present attachment, as it is given up
abbrev pub number_of : Attachment → Option Entry → Option ℕ
number_of attachment (Some (Whole m)) = if m.attachment == attachment.count then Some m.number else None
number_of attachment entry = None

abbrev pub ended : Option ℕ → Registering
ended None = Unchanged
ended (Some number) = Settled number

abbrev pub dropped : Registering → Receiving → List ℕ → Outcome
dropped registering s tag = (record { registering = registering; told = told.Dropped }, record s { held = None; unsettled = without s.unsettled tag })

abbrev pub first_aborted : Attachment → Receiving → Result Start ReceiverTransferError → Outcome
first_aborted attachment s (Err e) = refusal e s
first_aborted attachment s (Ok t) = dropped (ended (number_of attachment (found s.unsettled t.delivery_tag))) s t.delivery_tag

-- the sender gives a delivery up: nothing of it is kept, and it uses no credit
abbrev pub aborted : Attachment → Receiving → Option Delivery → Head → Outcome
aborted attachment s None h = first_aborted attachment s (start_of h)
aborted attachment s (Some d) h =
    if agrees d h then dropped (if d.settled then Unchanged else Settled d.delivery_id) s d.delivery_tag
    else refusal refused.InconsistentFieldInMultiFrameDelivery s

-- a transfer, by whether it is aborted, whether more follow, and whether there is credit
abbrev pub received_head : Attachment → Receiving → Head → List ℕ → Outcome
received_head attachment s h payload =
    if h.aborted then aborted attachment s s.held h
    else (if h.more then kept_on attachment s (with_part attachment payload (delivery_of s.held s.unsettled h))
    else (if s.flow.link_credit == 0 then refusal refused.TransferLimitExceeded s
    else completed attachment (spent s) (with_last attachment payload (delivery_of s.held s.unsettled h))))

-- what a receiving end answers to a transfer with its payload, and the end behind it
abbrev pub received : Attachment → Receiving → Transfer → List ℕ → Outcome
received attachment s t payload = received_head attachment s (head_of t) payload

-- this is the outcome, or memory is refused and all is as before
abbrev pub Answers : Outcome → Receiving → Result Answer AllocError → Receiving → Type 0
Answers outcome old result new = ((result ≡ Err alloc_error) × (new ≡ old)) ⊎ ((result ≡ Ok outcome.0) × (new ≡ outcome.1))

abbrev pub Receives : Attachment → Receiving → Transfer → List ℕ → Result Answer AllocError → Receiving → Type 0
Receives attachment old t payload result new = Answers (received attachment old t payload) old result new

-- a disposition of the sender's: where it settles the delivery nothing of it is kept: part 2, 2.6.12
abbrev pub disposed : Receiving → List ℕ → Bool → Receiving
disposed s tag settled = if settled then record s { unsettled = without s.unsettled tag } else s

-- what has come of a delivery is kept where it isn't settled
abbrev pub half_kept : Entries → Delivery → Option Entry → Entries
half_kept entries d (Some (Half kept)) = if d.settled then entries else set_value (bytes_eq d.delivery_tag) entries (Half d.payload)
half_kept entries d entry = entries

abbrev pub put_by : Entries → Option Delivery → Entries
put_by entries None = entries
put_by entries (Some d) = half_kept entries d (found entries d.delivery_tag)

-- the attachment ends, by a Detach or a loss: part 2, 2.6.5
abbrev pub parted : Receiving → Receiving
parted s = record s { held = None; unsettled = put_by s.unsettled s.held }
