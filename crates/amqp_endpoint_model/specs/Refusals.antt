-- What the endpoint makes of the refusals of the layers below.
use Rattle.serde_amqp_item.specs.declared.error.Error.{Error as CodecError}
use Rattle.serde_amqp_item.specs.declared.error.Error.TheVariants.{Memory as NoMemoryOfValue}
use Rattle.amqp_session_types.specs.declared.refusals.ConnectionError.{ConnectionError}
use Rattle.amqp_session_types.specs.declared.refusals.ConnectionError.TheVariants.{Memory as NoMemory}
use Rattle.amqp_session_types.specs.declared.refusals.SessionError.{SessionError}
use Rattle.amqp_session_types.specs.declared.refusals.SessionError.TheVariants.{Memory as NoMemoryOfSession}
use Rattle.amqp_session_frames.specs.declared.error.Error.{Error as FrameError}
use Rattle.amqp_session_frames.specs.declared.error.Error.TheVariants.{Memory as NoMemoryOfFrame, DecodeError}
use Rattle.amqp_link_types.specs.declared.link_error.LinkError.{LinkError}
use Rattle.amqp_link_types.specs.declared.link_error.LinkError.TheVariants.{Memory as NoMemoryOfLink}
use Rattle.amqp_endpoint_model.specs.declared.error.EndpointError.{EndpointError}
use Rattle.amqp_endpoint_model.specs.declared.error.EndpointError.TheVariants.{Memory, Frame, Connection, Session, Link}

-- want of memory is told apart from what the connection refuses
abbrev pub of_connection : ConnectionError → EndpointError
of_connection NoMemory = Memory
of_connection refusal = Connection refusal

-- want of memory is told apart from what the frame layer refuses
abbrev pub of_frame : FrameError → EndpointError
of_frame NoMemoryOfFrame = Memory
of_frame refusal = Frame refusal

-- want of memory is told apart from what a session refuses
abbrev pub of_session : SessionError → EndpointError
of_session NoMemoryOfSession = Memory
of_session refusal = Session refusal

-- want of memory is told apart from what a link refuses
abbrev pub of_link : LinkError → EndpointError
of_link NoMemoryOfLink = Memory
of_link refusal = Link refusal

-- want of memory is told apart from what can't be decoded (part 2, 2.8.15)
abbrev pub of_codec : CodecError → EndpointError
of_codec NoMemoryOfValue = Memory
of_codec refusal = Frame DecodeError
