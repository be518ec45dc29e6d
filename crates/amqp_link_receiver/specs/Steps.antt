-- What the parts of a receiving end's step do, each to what it is handed.
use Rattle.std.specs.Prelude.{◌≡◌, ◌⊎◌, ℕ, ◌&&◌, not, Bool, true, false, List, [], Option, Some, None, Result, Ok, Err}
use Rattle.std.specs.Prelude.{if◌then◌else◌, alloc_error}
use Rattle.std.specs.declared.alloc.AllocError.{AllocError}
use Rattle.std.specs.Map.{set_value}
use Rattle.std.specs.Str.{bytes_eq}
use Rattle.amqp_session_types.specs.declared.modes.ReceiverSettleMode.{ReceiverSettleMode}
use Rattle.amqp_link_types.specs.declared.refusals.ReceiverTransferError.{ReceiverTransferError}
use Rattle.amqp_link_types.specs.declared.refusals.ReceiverTransferError.TheVariants as refused
use Rattle.amqp_link_receiver.specs.declared.attachment.Attachment.{Attachment}
use Rattle.amqp_link_receiver.specs.declared.entry.Entry.{Entry}
use Rattle.amqp_link_receiver.specs.declared.entry.Entry.TheVariants.{Half, Whole}
use Rattle.amqp_link_receiver.specs.declared.answer.Registering.{Registering}
use Rattle.amqp_link_receiver.specs.declared.answer.Registering.TheVariants.{Unchanged, Unsettled, Settled}
use Rattle.amqp_link_receiver.specs.declared.answer.Told.TheVariants as told
use Rattle.amqp_link_receiver.specs.declared.answer.Answer.{Answer}
use Rattle.amqp_link_receiver.specs.Deliveries.{Delivery, Entries, found}
use Rattle.amqp_link_receiver.specs.Receiving.{noted, registering, completion, whole_of}

-- the key of a delivery that is to be entered behind the others
abbrev pub key_of : Bool → List ℕ → Option Entry → Option (List ℕ)
key_of true tag entry = None
key_of false tag None = Some tag
key_of false tag (Some entry) = None

-- not all of the delivery has come
abbrev pub IsHalf : Option Entry → Type 0
IsHalf (Some (Half kept)) = Unit {0}
IsHalf entry = ⊥

-- the message with a tag, where it has come whole, goes on under a number in an attachment
abbrev pub renumbered_from : Attachment → Entries → List ℕ → ℕ → Option ReceiverSettleMode → Option Entry → Entries
renumbered_from attachment entries tag number mode (Some (Whole m)) =
    set_value (bytes_eq tag) entries
    (Whole (record m { number = number; attachment = attachment.count; rcv_settle_mode = mode }))
renumbered_from attachment entries tag number mode entry = entries

abbrev pub renumbered_as : Attachment → Entries → List ℕ → ℕ → Option ReceiverSettleMode → Entries
renumbered_as attachment entries tag number mode =
    renumbered_from attachment entries tag number mode (found entries tag)

-- what a first transfer changes of the session's unsettled deliveries, and what a continuation does
abbrev pub registered : Bool → ℕ → List ℕ → Registering
registered settled number tag = if settled then Unchanged else Unsettled number tag

abbrev pub settled_by : Bool → Bool → ℕ → Registering
settled_by before after number = if not before && after then Settled number else Unchanged

-- a transfer that isn't the last goes on with a delivery
abbrev pub Continued : Attachment → Delivery → Entries → Result Delivery ReceiverTransferError
    → Result Registering ReceiverTransferError → Delivery → Entries → Type 0
Continued attachment held entries (Err e) result held' entries' =
    (result ≡ Err e) × (held' ≡ held) × (entries' ≡ entries)
Continued attachment held entries (Ok d) result held' entries' =
    (result ≡ Ok (registering (Some held) d)) × (held' ≡ d) × (entries' ≡ noted attachment entries d (Half []))

abbrev pub Continues : Attachment → Delivery → Entries → Result Delivery ReceiverTransferError
    → Result Registering ReceiverTransferError → Delivery → Entries → Type 0
Continues attachment held entries outcome result held' entries' =
    ((result ≡ Err refused.Memory) × (held' ≡ held) × (entries' ≡ entries))
    ⊎ Continued attachment held entries outcome result held' entries'

-- a transfer that isn't the last begins a delivery
abbrev pub Begun : Attachment → Entries → Result Delivery ReceiverTransferError
    → Result (Delivery × Registering) ReceiverTransferError → Entries → Type 0
Begun attachment entries (Err e) result entries' = (result ≡ Err e) × (entries' ≡ entries)
Begun attachment entries (Ok d) result entries' =
    (result ≡ Ok (d, registering None d)) × (entries' ≡ noted attachment entries d (Half []))

abbrev pub Begins : Attachment → Entries → Result Delivery ReceiverTransferError
    → Result (Delivery × Registering) ReceiverTransferError → Entries → Type 0
Begins attachment entries outcome result entries' =
    ((result ≡ Err refused.Memory) × (entries' ≡ entries)) ⊎ Begun attachment entries outcome result entries'

-- the last transfer completes a delivery
abbrev pub Completed : Attachment → Option Delivery → Entries → Result Delivery ReceiverTransferError
    → Result Answer ReceiverTransferError → Entries → Type 0
Completed attachment held entries (Err e) result entries' = (result ≡ Err e) × (entries' ≡ entries)
Completed attachment held entries (Ok d) result entries' =
    (result ≡ Ok (record { registering = registering held d; told = completion d }))
    × (entries' ≡ noted attachment entries d (Whole (whole_of attachment d)))

abbrev pub Completes : Attachment → Option Delivery → Entries → Result Delivery ReceiverTransferError
    → Result Answer ReceiverTransferError → Entries → Type 0
Completes attachment held entries outcome result entries' =
    ((result ≡ Err refused.Memory) × (entries' ≡ entries)) ⊎ Completed attachment held entries outcome result entries'

-- what a delivery that is complete comes to, where this becomes of it in the session
abbrev pub CompletedAs : Attachment → Registering → Entries → Delivery → Result Answer ReceiverTransferError → Entries
    → Type 0
CompletedAs attachment registering entries d result entries' =
    ((result ≡ Err refused.Memory) × (entries' ≡ entries))
    ⊎ ((result ≡ Ok (record { registering = registering; told = completion d }))
    × (entries' ≡ noted attachment entries d (Whole (whole_of attachment d))))

-- what a transfer that isn't the last is answered
abbrev pub part_answer : Result Registering ReceiverTransferError → Result Answer AllocError
part_answer (Ok registering) = Ok (record { registering = registering; told = told.Nothing })
part_answer (Err refused.Memory) = Err alloc_error
part_answer (Err e) = Ok (record { registering = Unchanged; told = told.Refused e })
