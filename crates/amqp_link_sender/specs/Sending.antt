-- The sending end of a link: part 2, 2.6.
use Rattle.std.specs.Prelude.{◌≡◌, Result, Ok, Err, Option, Some, None, if◌then◌else◌}
use Rattle.amqp_session_types.specs.declared.error.Error.{Error}
use Rattle.amqp_session_performatives.specs.declared.link_flow.LinkFlow.{LinkFlow}
use Rattle.amqp_link_base.specs.State.{is_attached}
use Rattle.amqp_link_base.specs.Own.{handle_of}
use Rattle.amqp_link_base.specs.declared.base.IllegalState.{IllegalState}
use Rattle.amqp_link_base.specs.declared.base.LinkBase.{LinkBase}
use Rattle.amqp_link_base.specs.declared.inner.LinkFlowStateInner.{LinkFlowStateInner}
use Rattle.amqp_link_base.specs.Flows.{sender_flowed, sender_answer}
use Rattle.amqp_link_unsettled.specs.Messages.{MessageLists}
use Rattle.amqp_link_sender.specs.declared.link.Counts.{Counts}

-- a link as it stands, the state of its credit, its messages, and the error with which the peer closed it
pub record Sending : Type 0 where
  pub base : LinkBase
  pub flow : LinkFlowStateInner
  pub messages : MessageLists
  pub remote_error : Option Error

-- a Flow of the receiver changes the credit while the link is attached (part 2, 2.6.7)
abbrev pub flowed : Sending → LinkFlow → Sending
flowed s flow = if is_attached s.base.local_state then record s { flow = sender_flowed s.flow flow } else s

-- what is sent to a Flow of the receiver
abbrev pub flow_answer : Sending → LinkFlow → Option LinkFlow
flow_answer s flow =
    if is_attached s.base.local_state then sender_answer flow (handle_of s.base.output_handle)
    (sender_flowed s.flow flow) else None

-- what a Flow of the receiver changes of a link
abbrev pub counts_of : Sending → Counts
counts_of s =
    record {
      delivery_count = s.flow.delivery_count;
      link_credit = s.flow.link_credit;
      drain = s.flow.drain;
    }

-- the link with these counts
abbrev pub recounted : Sending → Counts → Sending
recounted s counts =
    record s {
      flow = record s.flow {
        delivery_count = counts.delivery_count;
        link_credit = counts.link_credit;
        drain = counts.drain;
      };
    }

-- a frame is allowed and moves the link, or it isn't and the link stays
abbrev pub MovesLink : Option Sending → Sending → Result (Unit {0}) IllegalState → Sending → Type 0
MovesLink None old answer new = (answer ≡ Err (record {})) × (new ≡ old)
MovesLink (Some moved) old answer new = (answer ≡ Ok tt) × (new ≡ moved)
