-- What a receiver reads of a transfer: part 2, 2.7.5.
use Rattle.std.specs.Prelude.{Bool, true, false, Option, Some, None}
use Rattle.amqp_session_states.specs.declared.delivery_state.DeliveryState.{DeliveryState}
use Rattle.amqp_session_states.specs.declared.delivery_state.DeliveryState.TheVariants.{Received as ReceivedState}
use Rattle.amqp_session_states.specs.declared.received.Received.{Received}
use Rattle.amqp_session_performatives.specs.declared.transfer.Transfer.{Transfer}
use Rattle.amqp_link_receiver.specs.declared.head.Head.{Head}

-- a delivery is settled only where a transfer of it says so
abbrev pub says : Option Bool → Bool
says None = false
says (Some settled) = settled

-- the place that a delivery is resumed from, where its state names one: part 3, 3.4.1
abbrev pub place_of : Option DeliveryState → Option Received
place_of (Some (ReceivedState place)) = Some place
place_of state = None

-- the fields that a receiver looks at
abbrev pub head_of : Transfer → Head
head_of t =
    record {
      delivery_id = t.delivery_id;
      delivery_tag = t.delivery_tag;
      message_format = t.message_format;
      settled = says t.settled;
      more = t.more;
      rcv_settle_mode = t.rcv_settle_mode;
      place = place_of t.state;
      resume = t.resume;
      aborted = t.aborted;
    }
