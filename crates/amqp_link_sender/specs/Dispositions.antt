-- What a disposition makes of a sending link: part 2, 2.7.6.
use Rattle.std.specs.Prelude.{ℕ, ◌&&◌, not, Bool, true, false, List, Option, is_some}
use Rattle.amqp_session_states.specs.declared.delivery_state.DeliveryState.{DeliveryState}
use Rattle.amqp_session_types.specs.declared.modes.ReceiverSettleMode.{ReceiverSettleMode}
use Rattle.amqp_session_types.specs.declared.modes.ReceiverSettleMode.TheVariants.{First, Second}
use Rattle.amqp_link_unsettled.specs.Messages.{open_at, disposed as message_disposed}
use Rattle.amqp_link_unsettled.specs.Resolutions.{is_outcome}
use Rattle.amqp_link_sender.specs.Sending.{Sending}

-- the message ends or its state is noted; of a message that isn't open nothing is said
abbrev pub disposed : Sending → List ℕ → Bool → Option DeliveryState → Sending
disposed s tag settled state = record s { messages = message_disposed s.messages tag settled state }

-- the receiver settles once the sender did
abbrev pub is_second : ReceiverSettleMode → Bool
is_second First = false
is_second Second = true

-- an outcome that the receiver hasn't settled is echoed as settled where the receiver settles second (part 2, 2.8.3)
abbrev pub is_echo_due : Bool → Option DeliveryState → ReceiverSettleMode → Bool
is_echo_due settled state mode = not settled && is_outcome state && is_second mode

-- an open message's disposition is echoed
abbrev pub is_echoed : Sending → List ℕ → Bool → Option DeliveryState → Bool
is_echoed s tag settled state =
    is_some (open_at s.messages tag) && is_echo_due settled state s.base.terms.rcv_settle_mode
