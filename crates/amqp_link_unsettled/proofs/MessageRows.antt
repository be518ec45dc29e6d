-- Worked rows, computed from the definitions.
use Rattle.std.proofs.Common.{◌≡◌, [], ◌∷◌, true, false, Some, None, refl}
use Rattle.amqp_session_states.specs.declared.delivery_state.DeliveryState.TheVariants.{Received, Accepted}
use Rattle.amqp_session_states.specs.declared.outcome.Outcome.TheVariants as outcome
use Rattle.amqp_link_unsettled.specs.declared.open.Open.{Open}
use Rattle.amqp_link_unsettled.specs.declared.open.Resumption.TheVariants.{Resend}
use Rattle.amqp_link_unsettled.specs.declared.resolution.Failure.TheVariants.{RemoteClosed}
use Rattle.amqp_link_unsettled.specs.declared.resolution.Resolution.TheVariants.{Outcome, NoState, NotTerminal, Failed}
use Rattle.amqp_link_unsettled.specs.Messages.{MessageLists, disposed, failed, interrupted}

-- two messages with the tags 1 and 2, of which the second waits to be sent anew
abbrev one : Open
one = record { tag = 1 ∷ []; payload = 7 ∷ 8 ∷ []; state = None; message_format = 0 }

abbrev two : Open
two = record { tag = 2 ∷ []; payload = []; state = None; message_format = 0 }

abbrev both : MessageLists
both =
    record {
      unsettled = (1 ∷ [], one) ∷ (2 ∷ [], two) ∷ [];
      resolved = [];
      waiting = record { tag = 2 ∷ []; resumption = Resend } ∷ [];
      room = 3;
    }

-- the first is accepted and settled
pub accepted_settled : disposed both (1 ∷ []) true (Some (Accepted (record {})))
    ≡ record both { unsettled = (2 ∷ [], two) ∷ []; resolved = (1 ∷ [], Outcome (outcome.Accepted (record {}))) ∷ [] }
accepted_settled = refl

-- it is accepted, and the receiver hasn't settled it
pub accepted_unsettled : disposed both (1 ∷ []) false (Some (Accepted (record {}))) ≡ disposed both (1 ∷ []) true (Some (Accepted (record {})))
accepted_unsettled = refl

-- it is settled without a state, or with a place
pub settled_without_state : disposed both (1 ∷ []) true None ≡ record both { unsettled = (2 ∷ [], two) ∷ []; resolved = (1 ∷ [], NoState) ∷ [] }
settled_without_state = refl

pub settled_at_a_place : disposed both (1 ∷ []) true (Some (Received (record { section_number = 0; section_offset = 1 })))
    ≡ record both { unsettled = (2 ∷ [], two) ∷ []; resolved = (1 ∷ [], NotTerminal) ∷ [] }
settled_at_a_place = refl

-- its receiver stands at a place
pub received_noted : disposed both (1 ∷ []) false (Some (Received (record { section_number = 0; section_offset = 1 })))
    ≡ record both { unsettled = (1 ∷ [], record one { state = Some (Received (record { section_number = 0; section_offset = 1 })) }) ∷ (2 ∷ [], two) ∷ [] }
received_noted = refl

-- the second is released, and waits no more
pub waiting_no_more : disposed both (2 ∷ []) true None ≡ record { unsettled = (1 ∷ [], one) ∷ []; resolved = (2 ∷ [], NoState) ∷ []; waiting = []; room = 3 }
waiting_no_more = refl

-- a tag that is of no open message says nothing
pub unknown_tag : disposed both (3 ∷ []) true (Some (Accepted (record {}))) ≡ both
unknown_tag = refl

-- the peer closes the link
pub all_failed : failed both RemoteClosed
    ≡ record { unsettled = []; resolved = (1 ∷ [], Failed RemoteClosed) ∷ (2 ∷ [], Failed RemoteClosed) ∷ []; waiting = []; room = 3 }
all_failed = refl

-- the connection breaks
pub broken_off : interrupted both ≡ record both { waiting = [] }
broken_off = refl
