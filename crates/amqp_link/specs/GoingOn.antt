-- What goes on of the messages of a link that sends, once it takes a Flow: part 2, 2.6.7 and 2.6.13.
use Rattle.std.specs.Prelude.{◌≡◌, ◌≤◌, ℕ, List, [], length}
use Rattle.amqp_session_performatives.specs.declared.link_flow.LinkFlow.{LinkFlow}
use Rattle.amqp_link_unsettled.specs.declared.exchanging.Abort.{Abort}
use Rattle.amqp_link_sender.specs.Sending as sender
use Rattle.amqp_link_sender.specs.SendsOn as on
use Rattle.amqp_link_sender.specs.SendsOn.{all_on, all_on_behind}
use Rattle.amqp_link_sender.specs.declared.sending_on.PreparedSendOn.{PreparedSendOn}
use Rattle.amqp_link.specs.declared.end.End.{End}
use Rattle.amqp_link.specs.declared.end.End.TheVariants.{Sender, Receiver}
use Rattle.amqp_link.specs.declared.preparing.PreparedAttach.{PreparedAttach}
use Rattle.amqp_link.specs.declared.preparing.PreparedAttach.TheVariants as prepared

-- what goes on with the credit that there is; an end that receives sends none
abbrev pub goes_on : End → List PreparedSendOn
goes_on (Sender s) = all_on s
goes_on (Receiver r) = []

-- the message that goes on first is sent on
abbrev pub sent_on : End → End
sent_on (Sender s) = Sender (on.sent_on s)
sent_on (Receiver r) = Receiver r

-- an end has credit for so many messages that it sends; one that receives sends none
abbrev pub HasCreditFor : ℕ → End → Type 0
HasCreditFor count (Sender s) = count ≤ s.flow.link_credit
HasCreditFor count (Receiver r) = count ≡ 0

-- what goes on by a Flow
abbrev pub sends_on_by : End → LinkFlow → List PreparedSendOn
sends_on_by (Sender s) flow = all_on (sender.flowed s flow)
sends_on_by (Receiver r) flow = []

-- what goes on by a Flow in the attachment that begins as it is planned
abbrev pub sends_on_behind : End → PreparedAttach → LinkFlow → List PreparedSendOn
sends_on_behind (Sender s) (prepared.Sender plan) flow = all_on_behind s plan flow
sends_on_behind (Sender s) (prepared.Receiver plan) flow = []
sends_on_behind (Receiver r) plan flow = []

-- the deliveries that are given up as it is planned: a receiver gives up none
abbrev pub aborts_of : PreparedAttach → List Abort
aborts_of (prepared.Sender plan) = plan.messages.aborts
aborts_of (prepared.Receiver plan) = []

-- and how many messages end
abbrev pub ended_of : PreparedAttach → ℕ
ended_of (prepared.Sender plan) = length plan.messages.ended
ended_of (prepared.Receiver plan) = 0
