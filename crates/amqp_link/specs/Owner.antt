-- What the owner of a link does: part 2, 2.6.
use Rattle.std.specs.Prelude.{◌≡◌, ◌++◌, ℕ, Bool, true, false, List, [], ◌∷◌, Option, Some, Result, if◌then◌else◌}
use Rattle.amqp_session_types.specs.declared.handles.OutputHandle.{OutputHandle}
use Rattle.amqp_session_states.specs.declared.delivery_state.DeliveryState.{DeliveryState}
use Rattle.amqp_link_base.specs.declared.base.IllegalState.{IllegalState}
use Rattle.amqp_link_base.specs.Flows.{draining}
use Rattle.amqp_session_core.specs.Relay.{Changes, LinkHistory, LinkAct, OwnerKeeps, Relations, StepKeeps}
use Rattle.amqp_link_receiver.specs.declared.answer.Told.{Told}
use Rattle.amqp_link_base.specs.declared.detached.Detached.{Detached}
use Rattle.amqp_link.specs.Gives.{attaches, flows, transfers, disposes, detaches}
use Rattle.amqp_link.specs.declared.relay.AttachTold.{AttachTold}
use Rattle.amqp_link.specs.declared.end.End.{End}
use Rattle.amqp_link.specs.declared.end.End.TheVariants.{Sender, Receiver}
use Rattle.amqp_link_receiver.specs.Attaching as receiver_attaching
use Rattle.amqp_link_receiver.specs.Disposing.{disposed_of}
use Rattle.amqp_link_receiver.specs.DisposingAll.{Named, each_disposed}
use Rattle.amqp_link_receiver.specs.Ending as receiver_ending
use Rattle.amqp_link_receiver.specs.Flowing.{credited, with_flow}
use Rattle.amqp_link_receiver.specs.State.{MovesLink, ReceiverState}
use Rattle.amqp_link_sender.specs.Sending.{Sending}
use Rattle.amqp_link.specs.History.{SenderAct, SenderStep, TakesItsAttach, TakesFlow, TakesDisposition}
use Rattle.amqp_link.specs.History.{TakesItsDetach}

-- what an end of a link does, as its session sees it
abbrev pub EndAct : Type 0
EndAct = LinkAct End AttachTold Told Detached

abbrev pub end_gives : Relations End AttachTold Told Detached
end_gives =
    record { attaches = attaches; flows = flows; transfers = transfers; disposes = disposes; detaches = detaches }

abbrev pub EndHistory : End → List EndAct → End → Type 0
EndHistory start steps end = LinkHistory end_gives start steps end

-- a step that isn't a frame of the receiver is the owner's
abbrev pub is_owners : SenderAct → Bool
is_owners (TakesItsAttach attach answer) = false
is_owners (TakesFlow flow) = false
is_owners (TakesDisposition tag settled state) = false
is_owners (TakesItsDetach closed error answer) = false
is_owners step = true

-- the owner of a sending link does one thing
pub record OwnsSender (old new : Sending) : Type 0 where
  pub step : SenderAct
  pub owned : is_owners step ≡ true
  pub steps : SenderStep old step new

pub data ReceiverCall : Type 0 where
  -- so much credit is given
  Grants : (credit : ℕ) → ReceiverCall
  -- the credit is to be used up
  Drains : ReceiverCall
  -- a delivery is disposed of, and settled or not
  Disposes : (tag : List ℕ) (settled : Bool) (state : DeliveryState) → ReceiverCall
  -- several are disposed of at once
  DisposesOfAll : (named : Named) (states : List DeliveryState) (settled : Option Bool) → ReceiverCall
  SendsAttach : (incomplete : Bool) (answer : Result (Unit {0}) IllegalState) → ReceiverCall
  SendsDetach : (closed : Bool) (answer : Result (Unit {0}) IllegalState) → ReceiverCall
  -- the connection or the session is over
  Breaks : ReceiverCall
  -- the own handle changes
  Sets : (handle : Option OutputHandle) → ReceiverCall

abbrev pub ReceiverCalls : ReceiverState → ReceiverCall → ReceiverState → Type 0
ReceiverCalls old (Grants credit) new = new ≡ credited old credit
ReceiverCalls old Drains new = new ≡ with_flow old (draining old.end.flow)
ReceiverCalls old (Disposes tag settled state) new = new ≡ disposed_of old tag settled state
ReceiverCalls old (DisposesOfAll named states settled) new = new ≡ each_disposed old named states settled
ReceiverCalls old (SendsAttach incomplete answer) new =
    MovesLink (receiver_attaching.attach_sent old incomplete) old answer new
ReceiverCalls old (SendsDetach closed answer) new = MovesLink (receiver_ending.detach_sent old closed) old answer new
ReceiverCalls old Breaks new = new ≡ receiver_ending.broken old
ReceiverCalls old (Sets handle) new = new ≡ record old { base = record old.base { output_handle = handle } }

-- the owner of a receiving link does one thing
pub record OwnsReceiver (old new : ReceiverState) : Type 0 where
  pub call : ReceiverCall
  pub calls : ReceiverCalls old call new

-- the owner of a link does one thing; which end it is stays
abbrev pub Owns : End → End → Type 0
Owns (Sender s) (Sender t) = OwnsSender s t
Owns (Receiver r) (Receiver t) = OwnsReceiver r t
Owns old new = ⊥

-- what an owner's change comes to, of a link that sends
abbrev pub change_of : (before after : End) → Owns before after → List SenderAct
change_of (Sender s) (Sender t) owns = owns.step ∷ []
change_of (Sender s) (Receiver t) owns = []
change_of (Receiver r) (Sender t) owns = []
change_of (Receiver r) (Receiver t) owns = []

abbrev pub changes_in : (step : EndAct) → StepKeeps Owns step → List SenderAct
changes_in (Changes before after) keeps = change_of before after keeps
changes_in step keeps = []

-- what all of an owner's changes come to
abbrev pub changes_of : (steps : List EndAct) → OwnerKeeps Owns steps → List SenderAct
changes_of [] keeps = []
changes_of (step ∷ steps) keeps = changes_in step keeps.0 ++ changes_of steps keeps.1

-- those of a link's steps that are its owner's
abbrev pub owned : List SenderAct → List SenderAct
owned [] = []
owned (step ∷ steps) = (if is_owners step then step ∷ [] else []) ++ owned steps
