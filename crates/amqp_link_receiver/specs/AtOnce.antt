-- A transfer that brings a whole message is taken at once, beside the general way of `Receiving` and `Incoming`, by
-- which any transfer is taken: part 2, 2.6.14 and 2.7.5.
use Rattle.std.specs.Prelude.{◌≡◌, ℕ, ◌&&◌, not, Bool, true, false, List, [], ◌∷◌, ◌++◌, Some, None, IsSome, Ok}
use Rattle.std.specs.Prelude.{if◌then◌else◌, unwrap_or}
use Rattle.amqp_session_performatives.specs.declared.transfer.Transfer.{Transfer}
use Rattle.amqp_link_base.specs.Said.{begun}
use Rattle.amqp_link_receiver.specs.declared.attachment.Attachment.{Attachment}
use Rattle.amqp_link_receiver.specs.declared.answer.Answer.{Answer}
use Rattle.amqp_link_receiver.specs.declared.answer.Told.TheVariants as told
use Rattle.amqp_link_receiver.specs.declared.entry.Entry.TheVariants.{Whole}
use Rattle.amqp_link_receiver.specs.declared.entry.WholeMessage.{WholeMessage}
use Rattle.amqp_link_receiver.specs.Deliveries.{Delivery, Entries, found, is_of_other_mode}
use Rattle.amqp_link_receiver.specs.Disposing.{message_numbered}
use Rattle.amqp_link_receiver.specs.Incoming.{TransferTaken}
use Rattle.amqp_link_receiver.specs.Numbering.{message_named}
use Rattle.amqp_link_receiver.specs.Reading.{says}
use Rattle.amqp_link_receiver.specs.Readings.{delivery_said, message_said}
use Rattle.amqp_link_receiver.specs.Receiving.{Receiving, Receives, registering, whole_of}
use Rattle.amqp_link_receiver.specs.State.{ReceiverState}

-- a transfer that isn't given up, is the last of its delivery and resumes none
abbrev pub is_alone : Transfer → Bool
is_alone t = not t.aborted && not t.more && not t.resume

-- the delivery that a transfer brings whole, with its number and its tag
abbrev pub brought : Transfer → ℕ → List ℕ → List ℕ → Delivery
brought t number tag payload =
    record {
      delivery_id = number;
      delivery_tag = tag;
      message_format = t.message_format;
      settled = says t.settled;
      rcv_settle_mode = t.rcv_settle_mode;
      payload = payload;
      joins = false;
    }

-- what is kept of a message whose owner numbers it at once
abbrev pub numbered : Attachment → Delivery → ℕ → WholeMessage
numbered attachment d message = record (whole_of attachment d) { message = Some message }

-- a delivery of which nothing is kept is entered behind the others with the number of its message, unless it is settled
pub record Entered (attachment : Attachment) (old : Entries) (d : Delivery) (message : ℕ) (new : Entries) : Type 0 where
  pub absent : found old d.delivery_tag ≡ None
  pub own : is_of_other_mode attachment d ≡ false
  pub becomes : new
      ≡ (if d.settled then old else old ++ (d.delivery_tag, Whole (numbered attachment d message)) ∷ [])

-- or nothing changes
abbrev pub Enters : Attachment → Entries → Delivery → ℕ → Bool → Entries → Type 0
Enters attachment old d message false new = new ≡ old
Enters attachment old d message true new = Entered attachment old d message new

-- what is answered to a transfer that brings a whole message
abbrev pub answered : Transfer → List ℕ → Answer
answered t payload =
    record {
      registering = registering None (delivery_said (begun t payload));
      told = told.Message (message_said (begun t payload));
    }

-- a receiving end takes a transfer at once: that says the number and the tag of its delivery, and is taken as any is that
-- brings a message, which bears its owner's number then, unless it is settled
pub record ReceivesMessage (attachment : Attachment) (old : Receiving) (t : Transfer) (payload : List ℕ) (message : ℕ)
    (new : Receiving) : Type 0 where
  pub number : IsSome t.delivery_id
  pub tag : IsSome t.delivery_tag
  pub mid : Receiving
  pub received : Receives attachment old t payload (Ok (answered t payload)) mid
  pub named : new
      ≡ (if says t.settled then mid
      else record mid { unsettled = message_named mid.unsettled (unwrap_or t.delivery_tag []) message })

-- or nothing changes
abbrev pub ReceivesAtOnce : Attachment → Receiving → Transfer → List ℕ → ℕ → Bool → Receiving → Type 0
ReceivesAtOnce attachment old t payload message false new = new ≡ old
ReceivesAtOnce attachment old t payload message true new = ReceivesMessage attachment old t payload message new

-- a link takes it at once, as its end does
pub record TakesMessage (old : ReceiverState) (t : Transfer) (payload : List ℕ) (message : ℕ) (new : ReceiverState)
    : Type 0 where
  pub number : IsSome t.delivery_id
  pub tag : IsSome t.delivery_tag
  pub mid : ReceiverState
  pub received : TransferTaken old t payload (Ok (answered t payload)) mid
  pub named : new ≡ (if says t.settled then mid else message_numbered mid (unwrap_or t.delivery_tag []) message)

-- or nothing changes
abbrev pub TakesAtOnce : ReceiverState → Transfer → List ℕ → ℕ → Bool → ReceiverState → Type 0
TakesAtOnce old t payload message false new = new ≡ old
TakesAtOnce old t payload message true new = TakesMessage old t payload message new
