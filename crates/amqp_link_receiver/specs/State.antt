-- The receiving end of a link: part 2, 2.6.
use Rattle.std.specs.Prelude.{◌≡◌, ℕ, [], false, Option, Some, None, Result, Ok, Err}
use Rattle.amqp_link_base.specs.Properties.{Properties}
use Rattle.amqp_link_base.specs.declared.base.IllegalState.{IllegalState}
use Rattle.amqp_link_base.specs.declared.base.LinkBase.{LinkBase}
use Rattle.amqp_link_base.specs.declared.inner.LinkFlowStateInner.{LinkFlowStateInner}
use Rattle.amqp_link_receiver.specs.declared.attachment.Attachment.{Attachment}
use Rattle.amqp_link_receiver.specs.Receiving.{Receiving}

-- a link as it stands; its credit, the delivery that is coming in and the unsettled ones; how many attachments of it
-- ended; and its properties with those of the peer
pub record ReceiverState : Type 0 where
  pub base : LinkBase
  pub end : Receiving
  pub attachment : ℕ
  pub properties : Option Properties

-- the credit and the counts of a link that was never attached, which begin here
abbrev pub credit_from : ℕ → LinkFlowStateInner
credit_from count =
    record {
      initial_delivery_count = count;
      delivery_count = count;
      link_credit = 0;
      available = 0;
      drain = false;
      properties = None;
    }

-- a link that was never attached
abbrev pub unattached : LinkBase → ℕ → Option Properties → ReceiverState
unattached base count properties =
    record {
      base = base;
      end = record { flow = credit_from count; held = None; unsettled = [] };
      attachment = 0;
      properties = properties;
    }

-- the present attachment, as the messages see it that come in by it
abbrev pub attachment_of : ReceiverState → Attachment
attachment_of s =
    record {
      count = s.attachment;
      max_message_size = s.base.terms.max_message_size;
      rcv_settle_mode = s.base.terms.rcv_settle_mode;
    }

-- a frame is allowed and moves the link, or it isn't and the link stays
abbrev pub MovesLink : Option ReceiverState → ReceiverState → Result (Unit {0}) IllegalState → ReceiverState → Type 0
MovesLink None old answer new = (answer ≡ Err (record {})) × (new ≡ old)
MovesLink (Some moved) old answer new = (answer ≡ Ok tt) × (new ≡ moved)
