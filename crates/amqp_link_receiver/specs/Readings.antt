-- What a receiving end hands out of transfers, and what they say, where none of them resumes a delivery.
use Rattle.std.specs.Prelude.{◌≡◌, ℕ, ◌++◌, List, [], ◌∷◌, map, Bool, false, Option, Some, None, Ok, unwrap_or}
use Rattle.amqp_session_performatives.specs.declared.transfer.Transfer.{Transfer}
use Rattle.amqp_link_base.specs.Said.{Said}
use Rattle.amqp_link_base.specs.Readings.{Piece}
use Rattle.amqp_link_receiver.specs.declared.attachment.Attachment.{Attachment}
use Rattle.amqp_link_receiver.specs.declared.answer.Message.{Message}
use Rattle.amqp_link_receiver.specs.declared.answer.Told.{Told}
use Rattle.amqp_link_receiver.specs.declared.answer.Told.TheVariants as told
use Rattle.amqp_link_receiver.specs.declared.answer.Answer.{Answer}
use Rattle.amqp_link_receiver.specs.Reading.{says}
use Rattle.amqp_link_receiver.specs.Deliveries.{Delivery}
use Rattle.amqp_link_receiver.specs.Receiving.{Receiving, Receives, message_of}

-- a delivery as its transfers say it
abbrev pub delivery_said : Said → Delivery
delivery_said d =
    record {
      delivery_id = unwrap_or d.performative.delivery_id 0;
      delivery_tag = unwrap_or d.performative.delivery_tag [];
      message_format = d.performative.message_format;
      settled = says d.performative.settled;
      rcv_settle_mode = d.performative.rcv_settle_mode;
      payload = d.payload;
      joins = false;
    }

abbrev pub held_said : Option Said → Option Delivery
held_said None = None
held_said (Some d) = Some (delivery_said d)

abbrev pub message_said : Said → Message
message_said d = message_of (delivery_said d)

-- a transfer with its payload, and what a receiving end answers to it
pub record Taken : Type 0 where
  pub piece : Piece
  pub answer : Answer

-- the transfer isn't refused
abbrev pub IsTaken : Told → Type 0
IsTaken (told.Refused e) = ⊥
IsTaken other = Unit {0}

-- transfers that a receiving end takes one after the other, none of which resumes a delivery
abbrev pub TakesAll : Attachment → Receiving → List Taken → Receiving → Type 0
TakesAll attachment start [] end = end ≡ start
TakesAll attachment start (s ∷ steps) end =
    (mid : Receiving)
    × Receives attachment start s.piece.performative s.piece.payload (Ok s.answer) mid
    × IsTaken s.answer.told
    × (s.piece.performative.resume ≡ false)
    × TakesAll attachment mid steps end

abbrev pub pieces_of : List Taken → List Piece
pieces_of [] = []
pieces_of (s ∷ steps) = s.piece ∷ pieces_of steps

abbrev pub messages_in : Told → List Message
messages_in (told.Message m) = m ∷ []
messages_in other = []

abbrev pub handed_out : List Taken → List Message
handed_out [] = []
handed_out (s ∷ steps) = messages_in s.answer.told ++ handed_out steps
