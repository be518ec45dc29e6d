-- What the peer's Attach makes of an end of a link, before it is taken: part 2, 2.6.3 and 2.6.13.
use Rattle.std.specs.Prelude.{[], Result, Ok, Err, IsOk}
use Rattle.amqp_session_performatives.specs.declared.attach.Attach.{Attach}
use Rattle.amqp_link_types.specs.declared.attaching.ReceiverAttachError.{ReceiverAttachError}
use Rattle.amqp_link_types.specs.declared.attaching.SenderAttachError.{SenderAttachError}
use Rattle.amqp_link_types.specs.declared.link_error.LinkError.{LinkError}
use Rattle.amqp_link_types.specs.declared.link_error.LinkError.TheVariants.{SenderAttach, ReceiverAttach}
use Rattle.amqp_link_receiver.specs.Attaching as receiver
use Rattle.amqp_link_sender.specs.Attaching as sender
use Rattle.amqp_link_sender.specs.declared.attaching.Attaching.{Attaching}
use Rattle.amqp_link.specs.declared.end.End.{End}
use Rattle.amqp_link.specs.declared.end.End.TheVariants.{Sender, Receiver}
use Rattle.amqp_link.specs.declared.preparing.PreparedAttach.{PreparedAttach}
use Rattle.amqp_link.specs.declared.preparing.PreparedAttach.TheVariants as prepared

-- what is planned for an end of either kind, or why its Attach is refused
abbrev pub sender_planned : Result sender.Plan SenderAttachError → Result PreparedAttach LinkError
sender_planned (Ok plan) = Ok (prepared.Sender plan)
sender_planned (Err error) = Err (SenderAttach error)

abbrev pub receiver_planned : Result receiver.Plan ReceiverAttachError → Result PreparedAttach LinkError
receiver_planned (Ok plan) = Ok (prepared.Receiver plan)
receiver_planned (Err error) = Err (ReceiverAttach error)

abbrev pub attach_planned : End → Attach → Result PreparedAttach LinkError
attach_planned (Sender s) attach = sender_planned (sender.attach_planned s attach)
attach_planned (Receiver r) attach = receiver_planned (receiver.attach_planned r attach)

-- there may be no memory for it, or, at a receiving end, for the list that a test tells
abbrev pub MayWantMemory : End → Attach → Type 0
MayWantMemory (Sender s) attach = IsOk (sender.attach_planned s attach)
MayWantMemory (Receiver r) attach = receiver.MayWantMemory (receiver.attach_planned r attach)

-- it was planned for an end of this kind
abbrev pub IsFor : End → PreparedAttach → Type 0
IsFor (Sender s) (prepared.Sender plan) = Unit {0}
IsFor (Receiver r) (prepared.Receiver plan) = Unit {0}
IsFor end plan = ⊥

-- the end as it is planned
abbrev pub carried_out : End → PreparedAttach → End
carried_out (Sender s) (prepared.Sender plan) = Sender (sender.carried_out s plan)
carried_out (Receiver r) (prepared.Receiver plan) = Receiver (receiver.carried_out r plan)
carried_out end plan = end

-- and what is left to be done; a receiver gives no delivery up
abbrev pub left_by : PreparedAttach → Attaching
left_by (prepared.Sender plan) = sender.left_by plan
left_by (prepared.Receiver plan) = record { exchange = plan.exchange; aborts = [] }
