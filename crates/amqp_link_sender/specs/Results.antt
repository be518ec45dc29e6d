-- What the sender of a message is told: part 3, 3.4.
use Rattle.std.specs.Prelude.{Option, Some, None, Result, Ok, Err}
use Rattle.amqp_session_types.specs.declared.error.Error.{Error}
use Rattle.amqp_session_states.specs.declared.outcome.Outcome.{Outcome}
use Rattle.amqp_link_types.specs.declared.refusals.LinkStateError.{LinkStateError}
use Rattle.amqp_link_types.specs.declared.refusals.LinkStateError.TheVariants.{IllegalState, RemoteClosed}
use Rattle.amqp_link_types.specs.declared.refusals.LinkStateError.TheVariants.{RemoteClosedWithError}
use Rattle.amqp_link_types.specs.declared.refusals.SendError.{SendError}
use Rattle.amqp_link_types.specs.declared.refusals.SendError.TheVariants as send
use Rattle.amqp_link_unsettled.specs.declared.resolution.Failure.{Failure}
use Rattle.amqp_link_unsettled.specs.declared.resolution.Failure.TheVariants as failure
use Rattle.amqp_link_unsettled.specs.declared.resolution.Resolution.{Resolution}
use Rattle.amqp_link_unsettled.specs.declared.resolution.Resolution.TheVariants as resolution

-- the peer closed the link, with this error or without
abbrev pub closed_with : Option Error → LinkStateError
closed_with None = RemoteClosed
closed_with (Some error) = RemoteClosedWithError error

-- why a link that is gone leaves a message without an outcome, by the error with which the peer closed it
abbrev pub failure_error : Option Error → Failure → LinkStateError
failure_error kept failure.Closed = IllegalState
failure_error kept failure.RemoteClosed = RemoteClosed
failure_error kept failure.RemoteClosedWithError = closed_with kept

-- what became of a message, as its sender is told
abbrev pub send_result : Option Error → Resolution → Result Outcome SendError
send_result kept (resolution.Outcome outcome) = Ok outcome
send_result kept resolution.NoState = Err send.IllegalDeliveryState
send_result kept resolution.NotTerminal = Err send.NonTerminalDeliveryState
send_result kept resolution.Aborted = Err (send.LinkStateError IllegalState)
send_result kept (resolution.Failed why) = Err (send.LinkStateError (failure_error kept why))
