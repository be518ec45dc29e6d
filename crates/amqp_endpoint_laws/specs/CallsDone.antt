-- What an endpoint tells its owner in a run, and what its sessions do for it.
use Rattle.std.specs.Prelude.{Bool, true, false, List, [], ◌∷◌, ◌++◌, if◌then◌else◌}
use Rattle.amqp_endpoint_model.specs.declared.call.Call.{Call}
use Rattle.amqp_endpoint_model.specs.declared.call.Call.TheVariants.{Connect, Feed, Pull, Queued, IsIdle, Heartbeat}
use Rattle.amqp_endpoint_model.specs.declared.call.Call.TheVariants.{BreakOff, Close, IsClosed, TryClose}
use Rattle.amqp_endpoint_model.specs.declared.event.Event.{Event}
use Rattle.amqp_endpoint_model.specs.Said.{Said, Told, attaching, fed, link_closed, refused}

-- the events that an answer tells
abbrev pub events_of : Said → List Event
events_of (fed events fault) = events
events_of (attaching link events) = events
events_of (link_closed events) = events
events_of answer = []

-- the events that a run tells, in order
abbrev pub events_told : List Told → List Event
events_told [] = []
events_told (t ∷ others) = events_of t.answer ++ events_told others

-- a call that concerns sessions (part 2, 2.5), and not their connection alone
abbrev pub is_of_sessions : Call → Bool
is_of_sessions Connect = false
is_of_sessions (Feed bytes) = false
is_of_sessions Pull = false
is_of_sessions Queued = false
is_of_sessions IsIdle = false
is_of_sessions Heartbeat = false
is_of_sessions BreakOff = false
is_of_sessions Close = false
is_of_sessions IsClosed = false
is_of_sessions TryClose = false
is_of_sessions call = true

-- a call with its answer, where the sessions do it: one that is refused isn't done
abbrev pub call_done : Call → Said → List (Call × Said)
call_done call (refused e) = []
call_done call answer = if is_of_sessions call then (call, answer) ∷ [] else []

-- the calls that the sessions do in a run, with their answers, in order
abbrev pub calls_done : List Call → List Told → List (Call × Said)
calls_done (call ∷ calls) (t ∷ ts) = call_done call t.answer ++ calls_done calls ts
calls_done calls ts = []
