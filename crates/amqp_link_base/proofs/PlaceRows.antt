-- Places, and what transfers say, computed from the definitions.
use Rattle.std.proofs.Common.{◌≡◌, ℕ, List, [], ◌∷◌, Bool, true, false, refl}
use Rattle.std.specs.Prelude.{Option, Some, None, Ok, Err}
use Rattle.amqp_session_states.specs.declared.received.Received.{Received}
use Rattle.amqp_session_performatives.specs.declared.transfer.Transfer.{Transfer}
use Rattle.amqp_link_types.specs.declared.refusals.ReceiverTransferError.TheVariants.{DeliveryIdIsNone, DeliveryTagIsNone, InconsistentFieldInMultiFrameDelivery}
use Rattle.amqp_link_base.specs.Starts.{place_at, read_at, kept_till}
use Rattle.amqp_link_base.specs.Said.{Said, agrees, is_same_delivery, gathered}
use Rattle.amqp_link_base.specs.Readings.{Piece, nothing, readings, taken}

abbrev place : ℕ → ℕ → Received
place section offset = record { section_number = section; section_offset = offset }

-- the data "hi" and an empty footer
abbrev message : List ℕ
message = 0x00 ∷ 0x53 ∷ 0x75 ∷ 0xa0 ∷ 0x02 ∷ 0x68 ∷ 0x69 ∷ 0x00 ∷ 0x53 ∷ 0x78 ∷ 0xc1 ∷ 0x01 ∷ 0x00 ∷ []

two-bytes-of-a-descriptor : place_at message 9 ≡ place 0 9
two-bytes-of-a-descriptor = refl

a-whole-descriptor : place_at message 10 ≡ place 1 3
a-whole-descriptor = refl

the-whole-message : place_at message 13 ≡ place 1 6
the-whole-message = refl

abbrev wide : List ℕ
wide = 0x00 ∷ 0x80 ∷ 0x70 ∷ 0x00 ∷ 0x80 ∷ 0x70 ∷ []

wide-descriptors-cut : place_at wide 5 ≡ place 0 5
wide-descriptors-cut = refl

wide-descriptors : place_at wide 6 ≡ place 1 3
wide-descriptors = refl

no-bytes : (payload : List ℕ) → place_at payload 0 ≡ place 0 0
no-bytes payload = refl

-- a place past the end, one of a section that there isn't, and one past the end of its section
past-the-end : read_at wide (place 1 4) ≡ None
past-the-end = refl

no-such-section : read_at wide (place 2 0) ≡ None
no-such-section = refl

into-the-next-section : read_at wide (place 0 6) ≡ Some 6
into-the-next-section = refl

kept-to-a-place : kept_till wide (place 1 1) ≡ 0x00 ∷ 0x80 ∷ 0x70 ∷ 0x00 ∷ []
kept-to-a-place = refl

kept-where-it-is-not-read : kept_till wide (place 1 4) ≡ wide
kept-where-it-is-not-read = refl

-- the first transfer of a delivery of number 7, tag 01 and format 0
abbrev transfer : Option ℕ → Option (List ℕ) → Option ℕ → Option Bool → Bool → Transfer
transfer id tag format settled more = record { handle = record { 0 = 3 }; delivery_id = id; delivery_tag = tag; message_format = format; settled = settled; more = more; rcv_settle_mode = None; state = None; resume = false; aborted = false; batchable = false }

abbrev first : Transfer
first = transfer (Some 7) (Some (1 ∷ [])) (Some 0) (Some false) true

abbrev later : Option Bool → Bool → Transfer
later settled more = transfer None None None settled more

same-tag : is_same_delivery first (transfer None (Some (1 ∷ [])) None None false) ≡ true
same-tag = refl

no-tag : is_same_delivery first (later None false) ≡ true
no-tag = refl

another-tag : is_same_delivery first (transfer None (Some (2 ∷ [])) None None false) ≡ false
another-tag = refl

another-number : agrees first (transfer (Some 8) None None None false) ≡ false
another-number = refl

another-format : agrees first (transfer None None (Some 1) None false) ≡ false
another-format = refl

all-repeated : agrees first (transfer (Some 7) (Some (1 ∷ [])) (Some 0) None false) ≡ true
all-repeated = refl

without-a-number : gathered None (transfer None (Some (1 ∷ [])) None None true) [] ≡ Err DeliveryIdIsNone
without-a-number = refl

without-both : gathered None (transfer None None None None true) [] ≡ Err DeliveryIdIsNone
without-both = refl

without-a-tag : gathered None (transfer (Some 7) None None None true) [] ≡ Err DeliveryTagIsNone
without-a-tag = refl

abbrev piece : Transfer → List ℕ → Piece
piece t bytes = record { performative = t; payload = bytes }

abbrev said : Transfer → List ℕ → Said
said t bytes = record { performative = t; payload = bytes }

-- a transfer that says it is settled settles the delivery, and none behind it takes that back
settled-once : readings nothing (piece first (1 ∷ []) ∷ piece (later (Some true) true) (2 ∷ []) ∷ piece (later (Some false) false) (3 ∷ []) ∷ [])
    ≡ record { messages = said (record first { settled = Some true; more = false }) (1 ∷ 2 ∷ 3 ∷ []) ∷ []; held = None }
settled-once = refl

-- a delivery that is given up leaves nothing
given-up : readings nothing (piece first (1 ∷ []) ∷ piece (record (later None false) { aborted = true }) (2 ∷ []) ∷ []) ≡ nothing
given-up = refl

-- a delivery that is still coming
still-coming : readings nothing (piece first (1 ∷ []) ∷ piece (later None true) (2 ∷ []) ∷ []) ≡ record { messages = []; held = Some (said first (1 ∷ 2 ∷ [])) }
still-coming = refl

refused : taken (Ok nothing) (piece first (1 ∷ []) ∷ piece (transfer (Some 8) None None None false) (2 ∷ []) ∷ []) ≡ Err InconsistentFieldInMultiFrameDelivery
refused = refl
