-- What a transfer would come to: part 2, 2.7.5.
use Rattle.std.specs.Prelude.{ℕ, ◌&&◌, not, Bool, true, false, List, Result, Ok, Err}
use Rattle.amqp_session_performatives.specs.declared.transfer.Transfer.{Transfer}
use Rattle.amqp_link_types.specs.declared.refusals.ReceiverTransferError.{ReceiverTransferError}
use Rattle.amqp_link_base.specs.State.{is_attached}
use Rattle.amqp_link_receiver.specs.Deliveries.{Delivery}
use Rattle.amqp_link_receiver.specs.Reading.{place_of, says}
use Rattle.amqp_link_receiver.specs.Receiving.{received}
use Rattle.amqp_link_receiver.specs.State.{ReceiverState, attachment_of}
use Rattle.amqp_link_receiver.specs.declared.answer.Told.{Told}
use Rattle.amqp_link_receiver.specs.declared.answer.Told.TheVariants as told
use Rattle.amqp_link_receiver.specs.declared.head.Start.{Start}

-- a message is handed out
abbrev pub is_message : Told → Bool
is_message (told.Message message) = true
is_message other = false

-- a transfer completes a message, while the link is attached, unless there is no memory
abbrev pub completes : ReceiverState → Transfer → List ℕ → Bool
completes s t payload =
    is_attached s.base.local_state && is_message (received (attachment_of s) s.end t payload).0.told

-- the message of a delivery that is complete is handed out, unless it was so in an earlier attachment
abbrev pub is_handed : Result Delivery ReceiverTransferError → Bool
is_handed (Err e) = false
is_handed (Ok d) = not d.joins

-- what a transfer begins that has this number and this tag
abbrev pub start_at : Transfer → ℕ → List ℕ → Start
start_at t number tag =
    record {
      delivery_id = number;
      delivery_tag = tag;
      message_format = t.message_format;
      settled = says t.settled;
      rcv_settle_mode = t.rcv_settle_mode;
      place = place_of t.state;
      resume = t.resume;
    }
