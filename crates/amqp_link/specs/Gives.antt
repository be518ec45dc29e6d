-- What the frames of the peer make of an end of a link, and what it tells of them: part 2, 2.6.3 to 2.6.14.
use Rattle.std.specs.Prelude.{◌≡◌, ℕ, Bool, false, List, [], Option, None, Result, Ok, Err, alloc_error}
use Rattle.std.specs.Prelude.{unwrap_or}
use Rattle.amqp_session_types.specs.declared.modes.Role.{Role}
use Rattle.amqp_session_types.specs.declared.modes.Role.TheVariants as role
use Rattle.amqp_session_states.specs.declared.delivery_state.DeliveryState.{DeliveryState}
use Rattle.amqp_session_performatives.specs.declared.attach.Attach.{Attach}
use Rattle.amqp_session_performatives.specs.declared.detach.Detach.{Detach}
use Rattle.amqp_session_performatives.specs.declared.link_flow.LinkFlow.{LinkFlow}
use Rattle.amqp_session_performatives.specs.declared.transfer.Transfer.{Transfer}
use Rattle.amqp_session_core.specs.declared.relay.Registration.{Registration}
use Rattle.amqp_session_core.specs.declared.relay.Registration.TheVariants as session
use Rattle.amqp_session_core.specs.declared.relay.RelayError.{RelayError}
use Rattle.amqp_session_core.specs.declared.relay.RelayError.TheVariants.{UnattachedHandle, TransferFrameToSender}
use Rattle.amqp_session_core.specs.declared.relay.RelayError.TheVariants.{Memory}
use Rattle.amqp_session_core.specs.declared.relay.TransferAnswer.{TransferAnswer}
use Rattle.amqp_link_base.specs.Said.{begun}
use Rattle.amqp_link_base.specs.declared.detached.Detached.{Detached}
use Rattle.amqp_link_receiver.specs.declared.answer.Answer.{Answer}
use Rattle.amqp_link_receiver.specs.declared.answer.Registering.{Registering}
use Rattle.amqp_link_receiver.specs.declared.answer.Registering.TheVariants.{Unchanged, Unsettled, Settled}
use Rattle.amqp_link_receiver.specs.declared.answer.Told.{Told}
use Rattle.amqp_link_receiver.specs.declared.answer.Told.TheVariants.{Dropped, Message}
use Rattle.amqp_link_sender.specs.Attaching as sender_attaching
use Rattle.amqp_link_sender.specs.Dispositions as sender_disposing
use Rattle.amqp_link_sender.specs.Ending as sender_ending
use Rattle.amqp_link_sender.specs.declared.ending.DetachRefusal.TheVariants as refusal
use Rattle.amqp_link_receiver.specs.Attaching as receiver_attaching
use Rattle.amqp_link_receiver.specs.Disposing.{message_numbered}
use Rattle.amqp_link_receiver.specs.Ending as receiver_ending
use Rattle.amqp_link_receiver.specs.Incoming as receiver_incoming
use Rattle.amqp_link_receiver.specs.Readings.{message_said}
use Rattle.amqp_link_receiver.specs.State.{ReceiverState}
use Rattle.amqp_link.specs.declared.end.End.{End}
use Rattle.amqp_link.specs.declared.end.End.TheVariants.{Sender, Receiver}
use Rattle.amqp_link.specs.declared.relay.AttachTold.{AttachTold}
use Rattle.amqp_link.specs.declared.relay.AttachTold.TheVariants as told
use Rattle.amqp_link.specs.declared.standing.Standing.{Standing}
use Rattle.amqp_link.specs.declared.standing.Standing.TheVariants.{Attached, Detaching, Apart}
use Rattle.amqp_link.specs.Ends.{flow_answer, flowed, state_of}
use Rattle.amqp_link.specs.Standing.{standing_of}

-- each end takes the peer's Attach as its kind does; what refuses it is a part of what it tells
abbrev pub attaches : End → Attach → Result AttachTold RelayError → End → Type 0
attaches (Sender s) attach (Ok (told.Sender answer)) (Sender after) =
    sender_attaching.TakesAttach s attach (Ok answer) after
attaches (Sender s) attach (Err Memory) (Sender after) = sender_attaching.TakesAttach s attach (Err alloc_error) after
attaches (Receiver r) attach (Ok (told.Receiver answer)) (Receiver after) =
    receiver_attaching.AttachTaken r attach (Ok answer) after
attaches (Receiver r) attach (Err Memory) (Receiver after) =
    receiver_attaching.AttachTaken r attach (Err alloc_error) after
attaches old attach told new = ⊥

-- a Flow reaches a link that is attached, and is dropped where the own Detach was sent
abbrev pub flows_at : Standing → End → LinkFlow → Result (Option LinkFlow) RelayError → End → Type 0
flows_at Attached old flow told new = (told ≡ Ok (flow_answer old flow)) × (new ≡ flowed old flow)
flows_at Detaching old flow told new = (told ≡ Ok None) × (new ≡ old)
flows_at Apart old flow told new = (told ≡ Err UnattachedHandle) × (new ≡ old)

abbrev pub flows : End → LinkFlow → Result (Option LinkFlow) RelayError → End → Type 0
flows old flow told new = flows_at (standing_of (state_of old)) old flow told new

-- what becomes of a delivery in the session
abbrev pub registering_of : Registration → Registering
registering_of session.Unchanged = Unchanged
registering_of (session.Unsettled number tag) = Unsettled number tag
registering_of (session.Settled number) = Settled number

-- what a receiving link answers, as the session is told it
abbrev pub answer_of : TransferAnswer Told → Answer
answer_of a = record { registering = registering_of a.registration; told = a.told }

-- what is told of a transfer that is dropped
abbrev pub dropped : TransferAnswer Told
dropped = record { registration = session.Unchanged; told = Dropped }

-- a receiving link that is attached takes a transfer
abbrev pub receives : ReceiverState → Transfer → List ℕ → Result (TransferAnswer Told) RelayError → End → Type 0
receives r transfer payload (Ok answer) (Receiver after) =
    receiver_incoming.TransferTaken r transfer payload (Ok (answer_of answer)) after
receives r transfer payload (Err Memory) (Receiver after) =
    receiver_incoming.TransferTaken r transfer payload (Err alloc_error) after
receives r transfer payload told new = ⊥

-- a transfer reaches a receiving link that is attached, never a sending one; it is dropped where the own Detach was
-- sent
abbrev pub transfers_at : Standing → End → Transfer → List ℕ → Result (TransferAnswer Told) RelayError → End → Type 0
transfers_at Attached (Receiver r) transfer payload told new = receives r transfer payload told new
transfers_at Attached (Sender s) transfer payload told new = (told ≡ Err TransferFrameToSender) × (new ≡ Sender s)
transfers_at Detaching old transfer payload told new = (told ≡ Ok dropped) × (new ≡ old)
transfers_at Apart old transfer payload told new = (told ≡ Err UnattachedHandle) × (new ≡ old)

abbrev pub transfers : End → Transfer → List ℕ → Result (TransferAnswer Told) RelayError → End → Type 0
transfers old transfer payload told new = transfers_at (standing_of (state_of old)) old transfer payload told new

-- what is told of a transfer that brings a whole message
abbrev pub tells : Transfer → List ℕ → Told
tells t payload = Message (message_said (begun t payload))

-- the message that a transfer brought to a receiving link bears this number of its owner's from now on; none comes to a
-- sending one
abbrev pub names : End → Transfer → ℕ → End
names (Receiver r) t message = Receiver (message_numbered r (unwrap_or t.delivery_tag []) message)
names (Sender s) t message = Sender s

-- a disposition of the peer reaches the end of the other role
abbrev pub disposes : End → List ℕ → Role → Bool → Option DeliveryState → Bool → End → Type 0
disposes (Sender s) tag role.Receiver settled state echo new =
    (echo ≡ sender_disposing.is_echoed s tag settled state)
    × (new ≡ Sender (sender_disposing.disposed s tag settled state))
disposes (Receiver r) tag role.Sender settled state echo new =
    (echo ≡ false) × (new ≡ Receiver (receiver_incoming.disposed r tag settled))
disposes (Sender s) tag role.Sender settled state echo new = (echo ≡ false) × (new ≡ Sender s)
disposes (Receiver r) tag role.Receiver settled state echo new = (echo ≡ false) × (new ≡ Receiver r)

-- the peer's Detach ends an attachment; a link that is detached has none
abbrev pub detaches : End → Detach → Result Detached RelayError → End → Type 0
detaches (Sender s) detach (Ok told) (Sender after) =
    sender_ending.TakesDetach (sender_ending.detach_taken s detach.closed detach.error) s (Ok told) after
detaches (Sender s) detach (Err UnattachedHandle) (Sender after) =
    sender_ending.TakesDetach (sender_ending.detach_taken s detach.closed detach.error) s (Err refusal.IllegalState)
    after
detaches (Sender s) detach (Err Memory) (Sender after) =
    sender_ending.TakesDetach (sender_ending.detach_taken s detach.closed detach.error) s (Err refusal.Memory) after
detaches (Receiver r) detach (Ok told) (Receiver after) =
    receiver_ending.TakesDetach (receiver_ending.detach_taken r detach.closed) r (Ok told) after
detaches (Receiver r) detach (Err UnattachedHandle) (Receiver after) =
    receiver_ending.TakesDetach (receiver_ending.detach_taken r detach.closed) r (Err (record {})) after
detaches old detach told new = ⊥
