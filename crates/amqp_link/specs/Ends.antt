-- Either end of a link: part 2, 2.6.
use Rattle.std.specs.Prelude.{Some}
use Rattle.amqp_session_types.specs.declared.handles.OutputHandle.{OutputHandle}
use Rattle.amqp_session_performatives.specs.declared.link_flow.LinkFlow.{LinkFlow}
use Rattle.std.specs.Prelude.{Option}
use Rattle.amqp_link_base.specs.declared.state.LinkState.{LinkState}
use Rattle.amqp_link_base.specs.declared.base.LinkBase.{LinkBase}
use Rattle.amqp_link_sender.specs.Sending as sender
use Rattle.amqp_link_receiver.specs.Flowing as receiver
use Rattle.amqp_link.specs.declared.end.End.{End}
use Rattle.amqp_link.specs.declared.end.End.TheVariants.{Sender, Receiver}

-- what both ends keep
abbrev pub base_of : End → LinkBase
base_of (Sender s) = s.base
base_of (Receiver r) = r.base

abbrev pub state_of : End → LinkState
state_of end = (base_of end).local_state

-- with an own handle
abbrev pub with_handle : End → OutputHandle → End
with_handle (Sender s) handle = Sender (record s { base = record s.base { output_handle = Some handle } })
with_handle (Receiver r) handle = Receiver (record r { base = record r.base { output_handle = Some handle } })

-- behind a Flow of the peer
abbrev pub flowed : End → LinkFlow → End
flowed (Sender s) flow = Sender (sender.flowed s flow)
flowed (Receiver r) flow = Receiver (receiver.flowed r flow)

-- what is sent to it
abbrev pub flow_answer : End → LinkFlow → Option LinkFlow
flow_answer (Sender s) flow = sender.flow_answer s flow
flow_answer (Receiver r) flow = receiver.flow_answer r flow
