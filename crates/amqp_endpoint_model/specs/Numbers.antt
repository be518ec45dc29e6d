-- The numbers of errors.
use Rattle.std.specs.Prelude.{ℕ}
use Rattle.amqp_endpoint_model.specs.declared.error.EndpointError.{EndpointError}
use Rattle.amqp_endpoint_model.specs.declared.error.EndpointError.TheVariants.{Memory, NotConnected, AlreadyConnected}
use Rattle.amqp_endpoint_model.specs.declared.error.EndpointError.TheVariants.{LimitUnder512, WindowOutOfRange}
use Rattle.amqp_endpoint_model.specs.declared.error.EndpointError.TheVariants.{FrameTooLarge, UnknownSession}
use Rattle.amqp_endpoint_model.specs.declared.error.EndpointError.TheVariants.{UnknownLink, UnknownMessage}
use Rattle.amqp_endpoint_model.specs.declared.error.EndpointError.TheVariants.{CreditMissing, NumberInUse}
use Rattle.amqp_endpoint_model.specs.declared.error.EndpointError.TheVariants.{MessageTooLarge, CreditOutOfRange}
use Rattle.amqp_endpoint_model.specs.declared.error.EndpointError.TheVariants.{AlreadyDisposed, NotAssociated}
use Rattle.amqp_endpoint_model.specs.declared.error.EndpointError.TheVariants.{DuplicatedLinkName, IllegalState}
use Rattle.amqp_endpoint_model.specs.declared.error.EndpointError.TheVariants.{LocalChannelMaxReached, HandleMaxReached}
use Rattle.amqp_endpoint_model.specs.declared.error.EndpointError.TheVariants.{NotAsked, NumbersUsedUp}
use Rattle.amqp_endpoint_model.specs.declared.error.EndpointError.TheVariants.{ProtocolHeaderMismatch, SizeUnder8}
use Rattle.amqp_endpoint_model.specs.declared.error.EndpointError.TheVariants.{SizeOverLimit, PeerLimitUnder512, Frame}
use Rattle.amqp_endpoint_model.specs.declared.error.EndpointError.TheVariants.{Connection, Session, Link}

abbrev pub number : EndpointError → ℕ
number Memory = 1
number NotConnected = 2
number AlreadyConnected = 3
number LimitUnder512 = 4
number WindowOutOfRange = 5
number FrameTooLarge = 6
number UnknownSession = 7
number UnknownLink = 8
number UnknownMessage = 9
number CreditMissing = 10
number NumberInUse = 11
number MessageTooLarge = 12
number CreditOutOfRange = 13
number AlreadyDisposed = 14
number NotAssociated = 15
number DuplicatedLinkName = 16
number IllegalState = 17
number LocalChannelMaxReached = 18
number HandleMaxReached = 19
number NotAsked = 20
number NumbersUsedUp = 21
number ProtocolHeaderMismatch = 22
number SizeUnder8 = 23
number SizeOverLimit = 24
number PeerLimitUnder512 = 25
number (Frame e) = 26
number (Connection e) = 27
number (Session e) = 28
number (Link e) = 29
