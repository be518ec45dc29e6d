-- The states of a link's end: which frame leads from which to which (part 2, 2.6.3 to 2.6.6). A state that isn't named
-- allows no such frame.
use Rattle.std.specs.Prelude.{Bool, true, false, Option, Some, None}
use Rattle.amqp_link_base.specs.declared.state.LinkState.{LinkState}
use Rattle.amqp_link_base.specs.declared.state.LinkState.TheVariants.{Unattached, AttachSent, IncompleteAttachSent}
use Rattle.amqp_link_base.specs.declared.state.LinkState.TheVariants.{AttachReceived, IncompleteAttachReceived}
use Rattle.amqp_link_base.specs.declared.state.LinkState.TheVariants.{Attached, IncompleteAttachExchanged, DetachSent}
use Rattle.amqp_link_base.specs.declared.state.LinkState.TheVariants.{Detached, CloseSent, Closed}

-- an Attach is sent: the old state, whether it lists only a part of the unsettled deliveries, the new state
abbrev pub after_send_attach : LinkState → Bool → Option LinkState
after_send_attach Unattached false = Some AttachSent
after_send_attach Detached false = Some AttachSent
after_send_attach DetachSent false = Some AttachSent
after_send_attach AttachReceived false = Some Attached
after_send_attach IncompleteAttachReceived false = Some IncompleteAttachExchanged
after_send_attach Unattached true = Some IncompleteAttachSent
after_send_attach Detached true = Some IncompleteAttachSent
after_send_attach DetachSent true = Some IncompleteAttachSent
after_send_attach AttachReceived true = Some IncompleteAttachExchanged
after_send_attach IncompleteAttachReceived true = Some IncompleteAttachExchanged
after_send_attach state incomplete = None

-- the peer's Attach comes: the old state, whether it lists only a part of the unsettled deliveries, the new state
abbrev pub after_incoming_attach : LinkState → Bool → Option LinkState
after_incoming_attach AttachSent false = Some Attached
after_incoming_attach IncompleteAttachSent false = Some IncompleteAttachExchanged
after_incoming_attach Unattached false = Some AttachReceived
after_incoming_attach Detached false = Some AttachReceived
after_incoming_attach AttachSent true = Some IncompleteAttachExchanged
after_incoming_attach IncompleteAttachSent true = Some IncompleteAttachExchanged
after_incoming_attach Unattached true = Some IncompleteAttachReceived
after_incoming_attach Detached true = Some IncompleteAttachReceived
after_incoming_attach state incomplete = None

-- a Detach is sent: the old state, whether it closes the link, the new state
abbrev pub after_send_detach : LinkState → Bool → Option LinkState
after_send_detach Attached false = Some DetachSent
after_send_detach IncompleteAttachExchanged false = Some DetachSent
after_send_detach Attached true = Some CloseSent
after_send_detach IncompleteAttachExchanged true = Some CloseSent
after_send_detach state closed = None

-- the peer's Detach answers the own one: the old state, whether it closes the link, the new state
abbrev pub after_detach_reply : LinkState → Bool → Option LinkState
after_detach_reply DetachSent false = Some Detached
after_detach_reply CloseSent true = Some Closed
after_detach_reply state closed = None

-- the peer's Detach comes by itself or crosses the own one: the old state, whether it closes the link, the new state,
-- which is closed where either of the two closes the link
abbrev pub after_remote_detach : LinkState → Bool → Option LinkState
after_remote_detach Unattached closed = None
after_remote_detach Detached closed = None
after_remote_detach Closed closed = None
after_remote_detach CloseSent closed = Some Closed
after_remote_detach state true = Some Closed
after_remote_detach state false = Some Detached

-- the connection or the session is over: the link is detached, or closed where that was asked for
abbrev pub after_break : LinkState → LinkState
after_break Unattached = Unattached
after_break CloseSent = Closed
after_break Closed = Closed
after_break state = Detached

-- both Attach were exchanged, and neither Detach was
abbrev pub is_attached : LinkState → Bool
is_attached Attached = true
is_attached IncompleteAttachExchanged = true
is_attached state = false

-- an Attach was exchanged that lists only a part of the unsettled deliveries
abbrev pub is_incomplete : LinkState → Bool
is_incomplete IncompleteAttachSent = true
is_incomplete IncompleteAttachReceived = true
is_incomplete IncompleteAttachExchanged = true
is_incomplete state = false
