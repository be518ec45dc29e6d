-- The two ends of an attached link, and what is on its way between them: part 2, 2.6.7. What an end sends comes to the
-- other end in order (part 2, 2.5).
use Rattle.std.specs.Prelude.{◌≡◌, ℕ, ◌≤◌, ◌<◌, ◌^◌, List, [], ◌∷◌, ◌++◌, Option, Some, None, option_map}
use Rattle.amqp_session_types.specs.declared.handles.OutputHandle.{OutputHandle}
use Rattle.amqp_session_performatives.specs.declared.link_flow.LinkFlow.{LinkFlow}
use Rattle.amqp_link_base.specs.declared.inner.LinkFlowStateInner.{LinkFlowStateInner}
use Rattle.amqp_link_base.specs.Flows.{sender_flowed, sender_answer, receiver_flowed, receiver_answer, attached}
use Rattle.amqp_link_base.specs.Flows.{consumed, granted, draining}

-- what a sender sends: messages and Flows
pub data FromSender : Type 0 where
  Message : FromSender
  Tells : (flow : LinkFlow) → FromSender

pub record World : Type 0 where
  pub sender : LinkFlowStateInner
  pub receiver : LinkFlowStateInner
  -- the receiver's Flows on their way, the first to come first
  pub to_sender : List LinkFlow
  -- the sender's messages and Flows on their way
  pub to_receiver : List FromSender

-- a link as it is attached: the receiver learns the sender's count, and nothing is on its way
abbrev pub begun : LinkFlowStateInner → LinkFlowStateInner → World
begun sender receiver =
    record {
      sender = attached sender sender.delivery_count;
      receiver = attached receiver sender.delivery_count;
      to_sender = [];
      to_receiver = [];
    }

-- what happens at one of the ends
pub data Act : Type 0 where
  -- the sender sends a message
  Sends : Act
  -- the receiver gives this credit
  Grants : (credit : ℕ) → Act
  -- the receiver wants the credit used up
  Drains : Act
  -- an end tells its state by a Flow
  SenderTells : (flow : LinkFlow) → Act
  ReceiverTells : (flow : LinkFlow) → Act
  -- an end takes what comes first, and answers on its own handle
  SenderTakes : (handle : OutputHandle) → Act
  ReceiverTakes : (handle : OutputHandle) → Act

-- a Flow that shows an end's count, credit and drain, whatever else it says
abbrev pub Shows : LinkFlowStateInner → LinkFlow → Type 0
Shows s flow =
    (flow.delivery_count ≡ Some s.delivery_count) × (flow.link_credit ≡ Some s.link_credit) × (flow.drain ≡ s.drain)

-- an answer goes behind what is on its way
abbrev pub behind : {A : Type 0} → List A → Option A → List A
behind items None = items
behind items (Some item) = items ++ item ∷ []

-- the sender takes the first of these Flows
abbrev pub SenderTakesOf : List LinkFlow → OutputHandle → World → World → Type 0
SenderTakesOf [] handle old new = new ≡ old
SenderTakesOf (flow ∷ later) handle old new =
    new ≡ record old {
      sender = sender_flowed old.sender flow;
      to_sender = later;
      to_receiver =
          behind old.to_receiver (option_map Tells (sender_answer flow handle (sender_flowed old.sender flow)));
    }

-- the receiver takes the first of these: a message where it has credit for it, since else it refuses the link
abbrev pub ReceiverTakesOf : List FromSender → OutputHandle → World → World → Type 0
ReceiverTakesOf [] handle old new = new ≡ old
ReceiverTakesOf (Message ∷ later) handle old new =
    (1 ≤ old.receiver.link_credit) × (new ≡ record old { receiver = consumed old.receiver 1; to_receiver = later })
ReceiverTakesOf (Tells flow ∷ later) handle old new =
    new ≡ record old {
      receiver = receiver_flowed old.receiver flow;
      to_receiver = later;
      to_sender = behind old.to_sender (receiver_answer flow handle (receiver_flowed old.receiver flow));
    }

-- a sender sends where it has credit, and a receiver takes no credit back and gives less than 2^31
abbrev pub Step : World → Act → World → Type 0
Step old Sends new =
    (1 ≤ old.sender.link_credit)
    × (new ≡ record old { sender = consumed old.sender 1; to_receiver = old.to_receiver ++ Message ∷ [] })
Step old (Grants credit) new =
    (old.receiver.link_credit ≤ credit) × (credit < 2 ^ 31)
    × (new ≡ record old { receiver = granted old.receiver credit })
Step old Drains new = new ≡ record old { receiver = draining old.receiver }
Step old (SenderTells flow) new =
    Shows old.sender flow × (new ≡ record old { to_receiver = old.to_receiver ++ Tells flow ∷ [] })
Step old (ReceiverTells flow) new =
    Shows old.receiver flow × (new ≡ record old { to_sender = old.to_sender ++ flow ∷ [] })
Step old (SenderTakes handle) new = SenderTakesOf old.to_sender handle old new
Step old (ReceiverTakes handle) new = ReceiverTakesOf old.to_receiver handle old new

-- one thing after the other
abbrev pub Runs : World → List Act → World → Type 0
Runs start [] end = end ≡ start
Runs start (act ∷ acts) end = (mid : World) × Step start act mid × Runs mid acts end
