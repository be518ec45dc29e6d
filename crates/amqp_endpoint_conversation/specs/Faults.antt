-- How a session ends by its fault (part 2, 2.5.2, 2.8.14, 2.8.15, 2.8.17).
use Rattle.std.specs.Prelude.{◌≡◌, ℕ, List, None, IsSome, codes}
use Rattle.amqp_session_types.specs.declared.error.Error.{Error}
use Rattle.amqp_session_types.specs.declared.refusals.SessionError.{SessionError}
use Rattle.amqp_session_types.specs.declared.refusals.SessionError.TheVariants.{HandleInUse, IllegalState, Memory}
use Rattle.amqp_session_types.specs.declared.refusals.SessionError.TheVariants.{UnattachedHandle}
use Rattle.amqp_endpoint_tables.specs.State.{live_at}
use Rattle.amqp_endpoint_conversation.specs.declared.conversation.Conversation.{Conversation}

-- what an End says of a fault (part 2, 2.8.15, 2.8.17)
abbrev pub unattached_handle : List ℕ
unattached_handle = codes "amqp:session:unattached-handle"

abbrev pub handle_in_use : List ℕ
handle_in_use = codes "amqp:session:handle-in-use"

abbrev pub not_allowed : List ℕ
not_allowed = codes "amqp:not-allowed"

abbrev pub condition_of : SessionError → List ℕ
condition_of UnattachedHandle = unattached_handle
condition_of HandleInUse = handle_in_use
condition_of e = not_allowed

-- the error of an End that says its condition alone (part 2, 2.8.14)
abbrev pub fault_error : SessionError → Error
fault_error fault = record { condition = condition_of fault; description = None; info = None }

-- why none ends by its fault: no session with this number has begun, or there is no memory
abbrev pub RefusesFail : {R : Type 0} → Conversation R → ℕ → SessionError → Type 0
RefusesFail c number IllegalState = live_at c.sessions number ≡ None
RefusesFail c number Memory = IsSome (live_at c.sessions number)
RefusesFail c number e = ⊥
