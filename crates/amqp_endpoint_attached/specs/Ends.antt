-- What an endpoint sees of either end of a link, wherever it stands: part 2, 2.6.
use Rattle.std.specs.Prelude.{ℕ, Bool}
use Rattle.amqp_session_types.specs.declared.modes.Role.{Role}
use Rattle.amqp_session_types.specs.declared.modes.Role.TheVariants as role
use Rattle.amqp_link_base.specs.Moves.{is_closed}
use Rattle.amqp_link_sender.specs.Ending as sender
use Rattle.amqp_link_receiver.specs.Ending as receiver
use Rattle.amqp_link.specs.Ends.{state_of}
use Rattle.amqp_link.specs.declared.end.End.{End}
use Rattle.amqp_link.specs.declared.end.End.TheVariants.{Sender, Receiver}

-- its connection or its session is over
abbrev pub broken : End → End
broken (Sender s) = Sender (sender.broken s)
broken (Receiver r) = Receiver (receiver.broken r)

-- it is closed for good (part 2, 2.6.6)
abbrev pub is_closed_end : End → Bool
is_closed_end end = is_closed (state_of end)

-- how many more deliveries may be sent by it (part 2, 2.6.7)
abbrev pub credit_of : End → ℕ
credit_of (Sender s) = s.flow.link_credit
credit_of (Receiver r) = r.end.flow.link_credit

abbrev pub role_of : End → Role
role_of (Sender s) = role.Sender
role_of (Receiver r) = role.Receiver
