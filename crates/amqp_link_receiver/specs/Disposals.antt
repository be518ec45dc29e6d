-- How a receiving end disposes of a delivery: part 2, 2.7.6, and part 3, 3.4.
use Rattle.std.specs.Prelude.{ℕ, ◌==◌, Bool, true, false, List, Option, Some, None, Result, Ok, Err, if◌then◌else◌}
use Rattle.std.specs.Map.{set_value}
use Rattle.std.specs.Str.{bytes_eq}
use Rattle.amqp_session_states.specs.Terminal.{is_terminal}
use Rattle.amqp_session_states.specs.declared.delivery_state.DeliveryState.{DeliveryState}
use Rattle.amqp_session_types.specs.declared.modes.ReceiverSettleMode.{ReceiverSettleMode}
use Rattle.amqp_link_receiver.specs.declared.entry.Entry.{Entry}
use Rattle.amqp_link_receiver.specs.declared.entry.Entry.TheVariants.{Half, Whole}
use Rattle.amqp_link_receiver.specs.declared.entry.WholeMessage.{WholeMessage}
use Rattle.amqp_link_receiver.specs.declared.disposable.DisposeRefusal.{DisposeRefusal}
use Rattle.amqp_link_receiver.specs.declared.disposable.DisposeRefusal.TheVariants.{NotKept, AlreadyDisposed}
use Rattle.amqp_link_receiver.specs.declared.disposable.DisposeRefusal.TheVariants.{NotAssociated}
use Rattle.amqp_link_receiver.specs.declared.disposable.Disposable.{Disposable}
use Rattle.amqp_link_receiver.specs.Deliveries.{Entries, found}
use Rattle.amqp_link_receiver.specs.Receiving.{Receiving, without}

abbrev pub is_final : Option DeliveryState → Bool
is_final None = false
is_final (Some state) = is_terminal state

abbrev pub numbered_in : ℕ → WholeMessage → Result Disposable DisposeRefusal
numbered_in count m =
    if m.attachment == count then Ok (record { number = m.number; rcv_settle_mode = m.rcv_settle_mode }) else Err
    NotAssociated

-- the number under which a delivery is disposed of: its message has come, no outcome was told of it, and its number is
-- one of this attachment
abbrev pub disposable : ℕ → Option Entry → Result Disposable DisposeRefusal
disposable count None = Err NotKept
disposable count (Some (Half kept)) = Err NotAssociated
disposable count (Some (Whole m)) = if is_final m.state then Err AlreadyDisposed else numbered_in count m

-- the state is told of a message that is kept
abbrev pub with_state_at : Entries → List ℕ → DeliveryState → Option Entry → Entries
with_state_at entries tag state (Some (Whole m)) =
    set_value (bytes_eq tag) entries (Whole (record m { state = Some state }))
with_state_at entries tag state entry = entries

abbrev pub with_state : Entries → List ℕ → DeliveryState → Entries
with_state entries tag state = with_state_at entries tag state (found entries tag)

-- where it is settled with that nothing is kept of it
abbrev pub disposed_with : Receiving → List ℕ → Bool → DeliveryState → Receiving
disposed_with s tag settled state =
    record s { unsettled = (if settled then without s.unsettled tag else with_state s.unsettled tag state) }
