-- A message that one Transfer brings whole, as it is handed out (part 2, 2.6.12, 2.7.5).
use Rattle.std.specs.Prelude.{ℕ, List, [], Option, None, IsSome, unwrap_or, if◌then◌else◌, false}
use Rattle.amqp_session_performatives.specs.declared.transfer.Transfer.{Transfer}
use Rattle.amqp_link_message.specs.Making.{bare}
use Rattle.amqp_endpoint_model.specs.declared.arrival.Arrival.{Arrival}
use Rattle.amqp_endpoint_model.specs.declared.event.Event.{Event}
use Rattle.amqp_endpoint_model.specs.declared.event.Event.TheVariants.{Message}

-- a Transfer says the number and the tag of its delivery
pub record SaysDelivery (t : Transfer) : Type 0 where
  pub number : IsSome t.delivery_id
  pub tag : IsSome t.delivery_tag

-- its message is told as the Transfer says it, with its bytes as they came; how a receiver is to settle it is said of one
-- that isn't settled
abbrev pub arrived : Arrival → Transfer → List ℕ → Event
arrived it t payload =
    Message (record {
      link = it.link;
      message = it.message;
      delivery =
          record {
            handle = record { 0 = (it.handle).0 };
            delivery_id = unwrap_or t.delivery_id 0;
            delivery_tag = unwrap_or t.delivery_tag [];
            message_format = t.message_format;
            rcv_settle_mode = (if unwrap_or t.settled false then None else t.rcv_settle_mode);
            message = bare (record { 0 = payload });
          };
      settled = unwrap_or t.settled false;
    })
