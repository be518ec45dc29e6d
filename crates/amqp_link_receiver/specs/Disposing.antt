-- How a receiving link disposes of deliveries: part 2, 2.6.12, 2.7.6 and 2.8.3.
use Rattle.std.specs.Prelude.{◌≡◌, ◌⊎◌, ℕ, Bool, true, false, List, Option, Some, None, Result, Ok, Err, unwrap_or}
use Rattle.amqp_session_types.specs.declared.modes.ReceiverSettleMode.{ReceiverSettleMode}
use Rattle.amqp_session_types.specs.declared.modes.ReceiverSettleMode.TheVariants.{First, Second}
use Rattle.amqp_session_types.specs.declared.modes.Role.TheVariants.{Receiver}
use Rattle.amqp_session_states.specs.declared.delivery_state.DeliveryState.{DeliveryState}
use Rattle.amqp_session_performatives.specs.declared.disposition.Disposition.{Disposition}
use Rattle.amqp_link_receiver.specs.Deliveries.{found}
use Rattle.amqp_link_receiver.specs.Disposals.{disposable, disposed_with}
use Rattle.amqp_link_receiver.specs.Numbering.{message_named}
use Rattle.amqp_link_receiver.specs.declared.disposable.Disposable.{Disposable}
use Rattle.amqp_link_receiver.specs.declared.disposable.DisposeRefusal.{DisposeRefusal}
use Rattle.amqp_link_receiver.specs.declared.disposing.DisposeError.{DisposeError}
use Rattle.amqp_link_receiver.specs.declared.disposing.DisposeError.TheVariants.{Refused, Memory}
use Rattle.amqp_link_receiver.specs.State.{ReceiverState}

-- what the delivery with a tag is disposed of by, in the present attachment
abbrev pub disposable_now : ReceiverState → List ℕ → Result Disposable DisposeRefusal
disposable_now s tag = disposable s.attachment (found s.end.unsettled tag)

-- a receiver that settles first settles as it tells the state, and one that settles second doesn't
abbrev pub settles_at_once : ReceiverSettleMode → Bool
settles_at_once First = true
settles_at_once Second = false

-- whether a delivery is settled: as it is asked, and where that says nothing by the mode of its transfer, or else the
-- link's
abbrev pub is_settled : ReceiverSettleMode → Option ReceiverSettleMode → Option Bool → Bool
is_settled link told asked = unwrap_or asked (settles_at_once (unwrap_or told link))

-- the message with a tag bears this number of its owner's from now on, where it is kept whole
abbrev pub message_numbered : ReceiverState → List ℕ → ℕ → ReceiverState
message_numbered s tag message =
    record s { end = record s.end { unsettled = message_named s.end.unsettled tag message } }

-- the disposition of one delivery
abbrev pub disposition_of : ℕ → Bool → DeliveryState → Disposition
disposition_of number settled state =
    record {
      role = Receiver;
      first = number;
      last = None;
      settled = settled;
      state = Some state;
      batchable = false;
    }

-- where it is settled nothing of it is kept, and else its state is noted
abbrev pub disposed_of : ReceiverState → List ℕ → Bool → DeliveryState → ReceiverState
disposed_of s tag settled state = record s { end = disposed_with s.end tag settled state }

-- a delivery is disposed of, settled or not; where it isn't there may be no memory for the state that is noted, and
-- the link stays
abbrev pub DisposesAs : Bool → ℕ → ReceiverState → List ℕ → DeliveryState
    → Result Disposition DisposeError → ReceiverState → Type 0
DisposesAs true number old tag state answer new =
    (answer ≡ Ok (disposition_of number true state)) × (new ≡ disposed_of old tag true state)
DisposesAs false number old tag state answer new =
    ((answer ≡ Err Memory) × (new ≡ old))
    ⊎ ((answer ≡ Ok (disposition_of number false state)) × (new ≡ disposed_of old tag false state))

-- a delivery can't be disposed of, and the link stays, or it is
abbrev pub Disposes : Result Disposable DisposeRefusal → ReceiverState → List ℕ → DeliveryState → Option Bool
    → Result Disposition DisposeError → ReceiverState → Type 0
Disposes (Err why) old tag state asked answer new = (answer ≡ Err (Refused why)) × (new ≡ old)
Disposes (Ok d) old tag state asked answer new =
    DisposesAs (is_settled old.base.terms.rcv_settle_mode d.rcv_settle_mode asked) d.number old tag state answer new
