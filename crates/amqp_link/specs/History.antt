-- What happens to a sending link: the frames of its receiver, and what its owner does (part 2, 2.6.12).
use Rattle.std.specs.Prelude.{◌≡◌, ℕ, ◌++◌, max, Bool, List, [], ◌∷◌, Option, Some, None, option_to_list, Result}
use Rattle.std.specs.declared.alloc.AllocError.{AllocError}
use Rattle.amqp_session_types.specs.declared.error.Error.{Error}
use Rattle.amqp_session_types.specs.declared.handles.OutputHandle.{OutputHandle}
use Rattle.amqp_session_states.specs.declared.delivery_state.DeliveryState.{DeliveryState}
use Rattle.amqp_session_performatives.specs.declared.attach.Attach.{Attach}
use Rattle.amqp_session_performatives.specs.declared.link_flow.LinkFlow.{LinkFlow}
use Rattle.amqp_link_base.specs.Properties.{Properties}
use Rattle.amqp_link_base.specs.declared.base.IllegalState.{IllegalState}
use Rattle.amqp_link_unsettled.specs.declared.open.Open.{Open}
use Rattle.amqp_link_unsettled.specs.declared.resolution.Resolution.{Resolution}
use Rattle.amqp_link_sender.specs.Attaching.{TakesAttach, attach_sent, attach_sent_anew}
use Rattle.amqp_link_sender.specs.Dispositions.{disposed}
use Rattle.amqp_link_sender.specs.Ending.{TakesDetach, broken, detach_sent, detach_taken}
use Rattle.amqp_link_sender.specs.Sending.{MovesLink, Sending, flowed}
use Rattle.amqp_link_sender.specs.Sends.{sent}
use Rattle.amqp_link_sender.specs.SendsOn.{sent_on}
use Rattle.amqp_link_sender.specs.declared.attaching.AttachAnswer.{AttachAnswer}
use Rattle.amqp_link_sender.specs.declared.ending.DetachRefusal.{DetachRefusal}
use Rattle.amqp_link_base.specs.declared.detached.Detached.{Detached}

pub data SenderAct : Type 0 where
  -- frames of the receiver, and what is answered to them
  TakesItsAttach : (attach : Attach) (answer : Result AttachAnswer AllocError) → SenderAct
  TakesFlow : (flow : LinkFlow) → SenderAct
  TakesDisposition : (tag : List ℕ) (settled : Bool) (state : Option DeliveryState) → SenderAct
  TakesItsDetach : (closed : Bool) (error : Option Error) (answer : Result Detached DetachRefusal) → SenderAct
  -- room is made for messages
  MakesRoom : (count : ℕ) → SenderAct
  -- a message is sent, which is open from then on or goes settled
  Sends : (entry : Option Open) → SenderAct
  -- one that is open is sent on
  SendsOn : SenderAct
  SendsAttach : (incomplete : Bool) (answer : Result (Unit {0}) IllegalState) → SenderAct
  SendsAttachAnew : (answer : Result (Unit {0}) IllegalState) → SenderAct
  SendsDetach : (closed : Bool) (answer : Result (Unit {0}) IllegalState) → SenderAct
  -- the connection or the session is over
  Breaks : SenderAct
  -- the owner takes what became of a message
  Takes : (taken : Option (List ℕ × Resolution)) → SenderAct
  -- the own handle or the properties change
  Sets : (handle : Option OutputHandle) (properties : Option Properties) → SenderAct

-- the link before and behind
abbrev pub SenderStep : Sending → SenderAct → Sending → Type 0
SenderStep old (TakesItsAttach attach answer) new = TakesAttach old attach answer new
SenderStep old (TakesFlow flow) new = new ≡ flowed old flow
SenderStep old (TakesDisposition tag settled state) new = new ≡ disposed old tag settled state
SenderStep old (TakesItsDetach closed error answer) new = TakesDetach (detach_taken old closed error) old answer new
SenderStep old (MakesRoom count) new =
    new ≡ record old { messages = record old.messages { room = max old.messages.room count } }
SenderStep old (Sends entry) new = new ≡ sent old entry
SenderStep old SendsOn new = new ≡ sent_on old
SenderStep old (SendsAttach incomplete answer) new = MovesLink (attach_sent old incomplete) old answer new
SenderStep old (SendsAttachAnew answer) new = MovesLink (attach_sent_anew old) old answer new
SenderStep old (SendsDetach closed answer) new = MovesLink (detach_sent old closed) old answer new
SenderStep old Breaks new = new ≡ broken old
SenderStep old (Takes taken) new =
    old
    ≡ record new { messages = record new.messages { resolved = option_to_list taken ++ new.messages.resolved } }
SenderStep old (Sets handle properties) new =
    new
    ≡ record old {
      base = record old.base { output_handle = handle };
      flow = record old.flow { properties = properties };
    }

-- the links around a list of steps
abbrev pub SenderHistory : Sending → List SenderAct → Sending → Type 0
SenderHistory start [] end = end ≡ start
SenderHistory start (step ∷ steps) end = (mid : Sending) × SenderStep start step mid × SenderHistory mid steps end

abbrev pub tag_of : Option Open → List (List ℕ)
tag_of None = []
tag_of (Some m) = m.tag ∷ []

abbrev pub key_of : Option (List ℕ × Resolution) → List (List ℕ)
key_of None = []
key_of (Some e) = e.0 ∷ []

-- the tag of a message that a step sends unsettled
abbrev pub sent_by : SenderAct → List (List ℕ)
sent_by (Sends entry) = tag_of entry
sent_by step = []

abbrev pub sent_in : List SenderAct → List (List ℕ)
sent_in [] = []
sent_in (step ∷ steps) = sent_by step ++ sent_in steps

-- the tag of a message of which the owner takes what became of it
abbrev pub taken_by : SenderAct → List (List ℕ)
taken_by (Takes taken) = key_of taken
taken_by step = []

abbrev pub taken_in : List SenderAct → List (List ℕ)
taken_in [] = []
taken_in (step ∷ steps) = taken_by step ++ taken_in steps
