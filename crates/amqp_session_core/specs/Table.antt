-- The states of a session (part 2, 2.5.5): which call leads from which to which.
use Rattle.std.specs.Prelude.{Option, Some, None}
use Rattle.amqp_session_core.specs.declared.state.SessionState.{SessionState}
use Rattle.amqp_session_core.specs.declared.state.SessionState.TheVariants.{Unmapped, BeginSent, BeginReceived, Mapped}
use Rattle.amqp_session_core.specs.declared.state.SessionState.TheVariants.{EndSent, EndReceived}

abbrev pub after_send_begin : SessionState → Option SessionState
after_send_begin Unmapped = Some BeginSent
after_send_begin BeginReceived = Some Mapped
after_send_begin s = None

abbrev pub after_incoming_begin : SessionState → Option SessionState
after_incoming_begin Unmapped = Some BeginReceived
after_incoming_begin BeginSent = Some Mapped
after_incoming_begin s = None

abbrev pub after_send_end : SessionState → Option SessionState
after_send_end Mapped = Some EndSent
after_send_end EndReceived = Some Unmapped
after_send_end s = None

abbrev pub after_incoming_end : SessionState → Option SessionState
after_incoming_end Mapped = Some EndReceived
after_incoming_end EndSent = Some Unmapped
after_incoming_end s = None
