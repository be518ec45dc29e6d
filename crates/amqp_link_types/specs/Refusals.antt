-- What a link answers when it refuses: part 2, 2.6.
use Rattle.amqp_link_types.specs.declared.refusals.ApplyRemoteDetachError.{ApplyRemoteDetachError}
use Rattle.amqp_link_types.specs.declared.refusals.ApplyRemoteDetachError.TheVariants as applied
use Rattle.amqp_link_types.specs.declared.refusals.DetachError.{DetachError}
use Rattle.amqp_link_types.specs.declared.refusals.DetachError.TheVariants as detach

-- what a peer's Detach comes to, as the answer to an own one
abbrev pub detach_error : ApplyRemoteDetachError → DetachError
detach_error applied.IllegalState = detach.IllegalState
detach_error (applied.RemoteDetachedWithError e) = detach.RemoteDetachedWithError e
detach_error (applied.RemoteClosedWithError e) = detach.RemoteClosedWithError e
detach_error applied.Memory = detach.Memory
