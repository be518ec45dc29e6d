-- How messages are sent on once their link is attached again: part 2, 2.6.13, and part 3, 3.4.6.
use Rattle.std.specs.Prelude.{ℕ, zero, suc, ◌-◌, ◌==◌, ◌&&◌, not, Bool, true, false, List, [], ◌∷◌, drop}
use Rattle.std.specs.Prelude.{Option, Some, None, option_map, if◌then◌else◌}
use Rattle.amqp_session_performatives.specs.declared.link_flow.LinkFlow.{LinkFlow}
use Rattle.amqp_session_performatives.specs.declared.transfer.Transfer.{Transfer}
use Rattle.amqp_session_states.specs.declared.delivery_state.DeliveryState.TheVariants.{Received as ReceivedState}
use Rattle.amqp_session_states.specs.declared.received.Received.{Received}
use Rattle.amqp_link_base.specs.Flows.{attached, sender_flowed}
use Rattle.amqp_link_base.specs.State.{is_attached}
use Rattle.amqp_link_unsettled.specs.Exchanging.{bytes_before}
use Rattle.amqp_link_unsettled.specs.Messages.{MessageLists, first_of, open_at}
use Rattle.amqp_link_unsettled.specs.declared.open.Open.{Open}
use Rattle.amqp_link_unsettled.specs.declared.open.Resumption.{Resumption}
use Rattle.amqp_link_unsettled.specs.declared.open.Resumption.TheVariants.{Resend, Resume}
use Rattle.amqp_link_unsettled.specs.declared.open.Waiting.{Waiting}
use Rattle.amqp_link_sender.specs.Attaching.{Plan}
use Rattle.amqp_link_sender.specs.declared.sending_on.PreparedSendOn.{PreparedSendOn}
use Rattle.amqp_link_sender.specs.Sending.{Sending}
use Rattle.amqp_link_sender.specs.Sends.{first_transfer, spent}

-- the place at which a message starts
abbrev pub start : Received
start = record { section_number = 0; section_offset = 0 }

-- the first transfer of a message that is resumed at a place, and not sent anew
abbrev pub resuming_transfer : Open → Received → Transfer
resuming_transfer m place =
    record (first_transfer m.tag m.message_format false) { state = Some (ReceivedState place); resume = true }

-- a message that is resumed behind so many bytes, or at its start where its receiver's place can't be read
abbrev pub resumed_behind : Open → Received → Option ℕ → PreparedSendOn
resumed_behind m place (Some n) = record { transfer = resuming_transfer m place; payload = drop n m.payload }
resumed_behind m place None = record { transfer = resuming_transfer m start; payload = m.payload }

-- a message that its receiver doesn't know is sent anew, and one that it knows is resumed where the receiver stands
abbrev pub prepared_on : Open → Resumption → PreparedSendOn
prepared_on m Resend = record { transfer = first_transfer m.tag m.message_format false; payload = m.payload }
prepared_on m (Resume place) = resumed_behind m place (bytes_before m.payload place)

-- a message that waits, while it is open
abbrev pub prepared_waiting : MessageLists → Waiting → Option PreparedSendOn
prepared_waiting m w = option_map (λ (o : Open). prepared_on o w.resumption) (open_at m w.tag)

abbrev pub prepared_first : Sending → Option Waiting → Option PreparedSendOn
prepared_first s None = None
prepared_first s (Some w) = prepared_waiting s.messages w

-- the link is attached and has credit
abbrev pub can_send_on : Sending → Bool
can_send_on s = is_attached s.base.local_state && not (s.flow.link_credit == 0)

-- what is sent on next: the first message that waits, while the link is attached and has credit
abbrev pub next_on : Sending → Option PreparedSendOn
next_on s = if can_send_on s then prepared_first s (first_of s.messages.waiting) else None

-- a message is sent on: it takes one credit, and waits no more
abbrev pub sent_on : Sending → Sending
sent_on s = record (spent s) { messages = record s.messages { waiting = drop 1 s.messages.waiting } }

-- a message and those behind it, which go on only where it does
abbrev pub headed : Option PreparedSendOn → List PreparedSendOn → List PreparedSendOn
headed None rest = []
headed (Some p) rest = p ∷ rest

-- the messages that go on with so much credit: as many of those that wait, in their order
abbrev pub going_on : MessageLists → List Waiting → ℕ → List PreparedSendOn
going_on m [] credit = []
going_on m (w ∷ ws) credit =
    if credit == 0 then [] else headed (prepared_waiting m w) (going_on m ws (credit - 1))

-- all that go on: none unless the link is attached
abbrev pub all_on : Sending → List PreparedSendOn
all_on s =
    if is_attached s.base.local_state then going_on s.messages s.messages.waiting s.flow.link_credit else []

-- so many of them are sent on, one after the other
abbrev pub all_sent_on : ℕ → Sending → Sending
all_sent_on zero s = s
all_sent_on (suc n) s = all_sent_on n (sent_on s)

-- the messages that go on by a Flow of the receiver in the attachment that begins as it is planned: those that are
-- planned to wait, and there is no credit but what the Flow gives
abbrev pub all_on_behind : Sending → Plan → LinkFlow → List PreparedSendOn
all_on_behind s plan flow =
    going_on s.messages plan.messages.waiting (sender_flowed (attached s.flow s.flow.delivery_count) flow).link_credit
