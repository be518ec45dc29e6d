-- How messages are sent: part 2, 2.6.7, 2.6.12 and 2.7.3.
use Rattle.std.specs.Prelude.{◌≡◌, ◌⊎◌, max, Result, Ok, Err, ◌==◌, ◌^◌, ◌&&◌, ◌||◌, not, ℕ, Bool, true, false, List}
use Rattle.std.specs.Prelude.{nat_lt, nat_le, Option, Some, None, is_some, unwrap_or, if◌then◌else◌}
use Rattle.amqp_session_types.specs.declared.modes.SenderSettleMode.{SenderSettleMode}
use Rattle.amqp_session_types.specs.declared.modes.SenderSettleMode.TheVariants.{Settled, Unsettled, Mixed}
use Rattle.amqp_session_performatives.specs.declared.transfer.Transfer.{Transfer}
use Rattle.amqp_link_base.specs.declared.state.LinkState.{LinkState}
use Rattle.amqp_link_base.specs.declared.state.LinkState.TheVariants.{Attached}
use Rattle.amqp_link_base.specs.Flows.{consumed}
use Rattle.amqp_link_unsettled.specs.Messages.{open_at, opened}
use Rattle.amqp_link_unsettled.specs.declared.open.Open.{Open}
use Rattle.amqp_link_sender.specs.declared.sending.PreparedSend.{PreparedSend}
use Rattle.amqp_link_sender.specs.declared.sending.SendRefusal.{SendRefusal}
use Rattle.amqp_link_sender.specs.declared.sending.SendRefusal.TheVariants.{IllegalState, MessageTooLarge}
use Rattle.amqp_link_sender.specs.declared.sending.SendRefusal.TheVariants.{CreditMissing, Memory}
use Rattle.amqp_link_sender.specs.Sending.{Sending}

-- both Attach were exchanged, and each lists all unsettled deliveries
abbrev pub takes_messages : LinkState → Bool
takes_messages Attached = true
takes_messages state = false

-- a message of so many bytes is larger than the link takes, 0 being no bound, or than any message is
abbrev pub is_too_large : ℕ → ℕ → Bool
is_too_large maximum size = (not (maximum == 0) && nat_lt maximum size) || nat_le (2 ^ 32) size

-- why a message with this tag and so many bytes isn't sent: the first of these that holds
abbrev pub refusal : Sending → List ℕ → ℕ → Option SendRefusal
refusal s tag size =
    if not (takes_messages s.base.local_state) || is_some (open_at s.messages tag) then Some IllegalState
    else if is_too_large s.base.terms.max_message_size size then Some MessageTooLarge
    else if s.flow.link_credit == 0 then Some CreditMissing
    else None

-- whether a message goes settled: as the link's mode says, and where that leaves it open, as it is asked (part 2,
-- 2.8.2)
abbrev pub goes_settled : SenderSettleMode → Option Bool → Bool
goes_settled Settled asked = true
goes_settled Unsettled asked = false
goes_settled Mixed asked = unwrap_or asked false

-- what the first transfer of a message says of it
abbrev pub first_transfer : List ℕ → ℕ → Bool → Transfer
first_transfer tag format settled =
    record {
      handle = record { 0 = 0 };
      delivery_id = None;
      delivery_tag = Some tag;
      message_format = Some format;
      settled = Some settled;
      more = false;
      rcv_settle_mode = None;
      state = None;
      resume = false;
      aborted = false;
      batchable = false;
    }

-- a message of which nothing was told yet
abbrev pub new_message : List ℕ → ℕ → List ℕ → Open
new_message tag format payload = record { tag = tag; payload = payload; state = None; message_format = format }

-- a message that doesn't go settled is open from then on
abbrev pub entry_unless : Bool → List ℕ → ℕ → List ℕ → Option Open
entry_unless true tag format payload = None
entry_unless false tag format payload = Some (new_message tag format payload)

-- a message that is ready
abbrev pub prepared : List ℕ → ℕ → List ℕ → Bool → PreparedSend
prepared tag format payload settled =
    record {
      transfer = first_transfer tag format settled;
      payload = payload;
      entry = entry_unless settled tag format payload;
    }

-- there is room for a message
abbrev pub with_room : Sending → Sending
with_room s = record s { messages = record s.messages { room = max s.messages.room 1 } }

-- a message isn't sent, for a reason or since there is no memory, and the link stays; or it is ready, and there is room
abbrev pub Prepares : Option SendRefusal → PreparedSend → Sending → Result PreparedSend SendRefusal → Sending → Type 0
Prepares (Some why) ready old answer new = (answer ≡ Err why) × (new ≡ old)
Prepares None ready old answer new =
    ((answer ≡ Err Memory) × (new ≡ old)) ⊎ ((answer ≡ Ok ready) × (new ≡ with_room old))

-- no message with this tag is open
abbrev pub is_absent : Sending → List ℕ → Type 0
is_absent s tag = open_at s.messages tag ≡ None

-- one credit is spent
abbrev pub spent : Sending → Sending
spent s = record s { flow = consumed s.flow 1 }

-- a message is sent: it takes one credit, and is open from now on unless it went settled
abbrev pub sent : Sending → Option Open → Sending
sent s None = spent s
sent s (Some message) = record (spent s) { messages = opened s.messages message }
