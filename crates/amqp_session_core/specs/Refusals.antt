-- Why the calls of a session are refused.
use Rattle.std.specs.Prelude.{◌≡◌, ℕ, ◌<◌, ◌≤◌, Option, Some, None, IsSome}
use Rattle.std.specs.FinMap as map
use Rattle.amqp_session_types.specs.declared.refusals.BeginError.{BeginError}
use Rattle.amqp_session_types.specs.declared.refusals.BeginError.TheVariants as begin
use Rattle.amqp_session_types.specs.declared.refusals.SessionError.{SessionError}
use Rattle.amqp_session_types.specs.declared.refusals.SessionError.TheVariants.{UnattachedHandle, HandleInUse}
use Rattle.amqp_session_types.specs.declared.refusals.SessionError.TheVariants.{IllegalState, NumberInUse}
use Rattle.amqp_session_types.specs.declared.refusals.SessionError.TheVariants.{HandleMaxReached, Memory}
use Rattle.amqp_session_outgoing.specs.History.{RefusesBatch}
use Rattle.amqp_session_outgoing.specs.declared.error.TransferError.{TransferError}
use Rattle.amqp_session_outgoing.specs.declared.error.TransferError.TheVariants as sending
use Rattle.amqp_session_core.specs.Batch.{Transfers}
use Rattle.amqp_session_core.specs.declared.state.SessionState.{SessionState}
use Rattle.amqp_session_core.specs.Tables.{RouteTable}
use Rattle.amqp_session_core.specs.State.{State, link_at}

-- a handle is offered that is above the peer's handle-max (part 2, 2.7.2), or there is no memory
abbrev pub RefusesHandle : ℕ → ℕ → SessionError → Type 0
RefusesHandle handle_max offered HandleMaxReached = handle_max < offered
RefusesHandle handle_max offered Memory = offered ≤ handle_max
RefusesHandle handle_max offered e = ⊥

-- the peer's handle is in use (part 2, 2.8.17), or else as above
abbrev pub RefusesInput : RouteTable → ℕ → ℕ → ℕ → SessionError → Type 0
RefusesInput routes input handle_max offered HandleInUse = IsSome (map.get routes input)
RefusesInput routes input handle_max offered HandleMaxReached = (map.get routes input ≡ None) × (handle_max < offered)
RefusesInput routes input handle_max offered Memory = (map.get routes input ≡ None) × (offered ≤ handle_max)
RefusesInput routes input handle_max offered e = ⊥

-- why a link gets no handle, with the peer's handle where there is one
abbrev pub RefusesLink : {R : Type 0} → State R → Option ℕ → SessionError → Type 0
RefusesLink s None e = RefusesHandle s.handle_max s.offered e
RefusesLink s (Some input) e = RefusesInput s.routes input s.handle_max s.offered e

-- no link has the handle, or there is no memory
abbrev pub RefusesReach : {X : Type 0} → Option X → SessionError → Type 0
RefusesReach found UnattachedHandle = found ≡ None
RefusesReach found Memory = IsSome found
RefusesReach found e = ⊥

-- no Begin is to be sent in this state, or taken
abbrev pub RefusesBegin : Option SessionState → BeginError → Type 0
RefusesBegin next begin.IllegalState = next ≡ None
RefusesBegin next begin.Memory = IsSome next
RefusesBegin next e = ⊥

-- the session's refusal for that of its sending side
abbrev pub refusal : TransferError → SessionError
refusal sending.IllegalState = IllegalState
refusal sending.NumberInUse = NumberInUse
refusal sending.Memory = Memory

-- why a batch of a link that lives is refused: a delivery without a tag, then a number that is in use, then want of
-- memory (part 2, 2.7.5 and 2.8.6)
abbrev pub RefusesLive : {R : Type 0} → State R → Transfers → SessionError → Type 0
RefusesLive s batch IllegalState = RefusesBatch s.outgoing batch sending.IllegalState
RefusesLive s batch NumberInUse = RefusesBatch s.outgoing batch sending.NumberInUse
RefusesLive s batch Memory = RefusesBatch s.outgoing batch sending.Memory
RefusesLive s batch e = ⊥

-- why a batch is refused: no link has the handle, or else as above
abbrev pub RefusesTransfers : {R : Type 0} → State R → ℕ → Transfers → SessionError → Type 0
RefusesTransfers s handle batch UnattachedHandle = link_at s handle ≡ None
RefusesTransfers s handle batch e = IsSome (link_at s handle) × RefusesLive s batch e
