-- What comes in on a receiving link: part 2, 2.7.5 and 2.7.6.
use Rattle.std.specs.Prelude.{◌≡◌, ℕ, Bool, true, false, List, Result, Ok}
use Rattle.std.specs.declared.alloc.AllocError.{AllocError}
use Rattle.amqp_session_performatives.specs.declared.transfer.Transfer.{Transfer}
use Rattle.amqp_link_base.specs.State.{is_attached}
use Rattle.amqp_link_receiver.specs.Receiving.{Receives, disposed as delivery_disposed}
use Rattle.amqp_link_receiver.specs.declared.answer.Answer.{Answer}
use Rattle.amqp_link_receiver.specs.declared.answer.Registering.TheVariants.{Unchanged}
use Rattle.amqp_link_receiver.specs.declared.answer.Told.TheVariants.{Dropped}
use Rattle.amqp_link_receiver.specs.State.{ReceiverState, attachment_of}

-- what is answered to a transfer of which nothing comes
abbrev pub dropped : Answer
dropped = record { registering = Unchanged; told = Dropped }

-- a transfer is taken while the link is attached, and else dropped
abbrev pub TakesTransfer : Bool → ReceiverState → Transfer → List ℕ → Result Answer AllocError → ReceiverState → Type 0
TakesTransfer false old t payload answer new = (answer ≡ Ok dropped) × (new ≡ old)
TakesTransfer true old t payload answer new =
    Receives (attachment_of old) old.end t payload answer new.end × (new ≡ record old { end = new.end })

abbrev pub TransferTaken : ReceiverState → Transfer → List ℕ → Result Answer AllocError → ReceiverState → Type 0
TransferTaken old t payload answer new = TakesTransfer (is_attached old.base.local_state) old t payload answer new

-- a disposition of the sender's: where it settles the delivery nothing of it is kept
abbrev pub disposed : ReceiverState → List ℕ → Bool → ReceiverState
disposed s tag settled = record s { end = delivery_disposed s.end tag settled }
