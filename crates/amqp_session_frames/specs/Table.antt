-- Which call leads from which state of a connection to which, None where it is not allowed (part 2, 2.4.6).
use Rattle.std.specs.Prelude.{Bool, Option, Some, None, if◌then◌else◌}
use Rattle.amqp_session_types.specs.declared.refusals.BeginError.{BeginError}
use Rattle.amqp_session_types.specs.declared.refusals.BeginError.TheVariants.{ConnectionStopped, ConnectionNotOpened}
use Rattle.amqp_session_frames.specs.declared.state.ConnectionState.{ConnectionState}
use Rattle.amqp_session_frames.specs.declared.state.ConnectionState.TheVariants.{Start, HeaderReceived, HeaderSent}
use Rattle.amqp_session_frames.specs.declared.state.ConnectionState.TheVariants.{HeaderExchange, OpenPipe}
use Rattle.amqp_session_frames.specs.declared.state.ConnectionState.TheVariants.{OpenClosePipe, OpenReceived}
use Rattle.amqp_session_frames.specs.declared.state.ConnectionState.TheVariants.{OpenSent, ClosePipe, Opened}
use Rattle.amqp_session_frames.specs.declared.state.ConnectionState.TheVariants.{CloseReceived, CloseSent}
use Rattle.amqp_session_frames.specs.declared.state.ConnectionState.TheVariants.{Discarding, End}

-- the own protocol header is sent
abbrev pub after_send_header : ConnectionState → Option ConnectionState
after_send_header Start = Some HeaderSent
after_send_header HeaderReceived = Some HeaderExchange
after_send_header other = None

-- the peer's protocol header comes
abbrev pub after_incoming_header : ConnectionState → Option ConnectionState
after_incoming_header Start = Some HeaderReceived
after_incoming_header HeaderSent = Some HeaderExchange
after_incoming_header OpenPipe = Some OpenSent
after_incoming_header OpenClosePipe = Some ClosePipe
after_incoming_header other = None

-- an Open is sent
abbrev pub after_send_open : ConnectionState → Option ConnectionState
after_send_open HeaderExchange = Some OpenSent
after_send_open OpenReceived = Some Opened
after_send_open other = None

-- the peer's Open comes
abbrev pub after_incoming_open : ConnectionState → Option ConnectionState
after_incoming_open HeaderExchange = Some OpenReceived
after_incoming_open OpenSent = Some Opened
after_incoming_open ClosePipe = Some CloseSent
after_incoming_open other = None

-- a Close is sent, with an error or without
abbrev pub after_send_close : Bool → ConnectionState → Option ConnectionState
after_send_close with_error OpenSent = Some ClosePipe
after_send_close with_error Opened = Some (if with_error then Discarding else CloseSent)
after_send_close with_error CloseReceived = Some End
after_send_close with_error other = None

-- the peer's Close comes; one that comes before its Open is taken, too
abbrev pub after_incoming_close : ConnectionState → Option ConnectionState
after_incoming_close Opened = Some CloseReceived
after_incoming_close CloseSent = Some End
after_incoming_close Discarding = Some End
after_incoming_close OpenSent = Some CloseReceived
after_incoming_close ClosePipe = Some End
after_incoming_close other = None

-- why no session can begin in a state: the connection is not opened yet, or a Close was sent or came
abbrev pub refusal_of_begin : ConnectionState → Option BeginError
refusal_of_begin Opened = None
refusal_of_begin Start = Some ConnectionNotOpened
refusal_of_begin HeaderReceived = Some ConnectionNotOpened
refusal_of_begin HeaderSent = Some ConnectionNotOpened
refusal_of_begin HeaderExchange = Some ConnectionNotOpened
refusal_of_begin OpenPipe = Some ConnectionNotOpened
refusal_of_begin OpenReceived = Some ConnectionNotOpened
refusal_of_begin OpenSent = Some ConnectionNotOpened
refusal_of_begin OpenClosePipe = Some ConnectionStopped
refusal_of_begin ClosePipe = Some ConnectionStopped
refusal_of_begin CloseReceived = Some ConnectionStopped
refusal_of_begin CloseSent = Some ConnectionStopped
refusal_of_begin Discarding = Some ConnectionStopped
refusal_of_begin End = Some ConnectionStopped
