-- The history of one end of a world, read off the steps and what they answered: its calls, with what they told.
use Rattle.std.specs.Prelude.{◌≡◌, ℕ, ◌+◌, Bool, true, false, List, [], ◌∷◌, ◌++◌, length, take, Some, if◌then◌else◌}
use Rattle.amqp_session_frames.specs.Cutting.{joined}
use Rattle.amqp_endpoint_model.specs.declared.call.Call.{Call}
use Rattle.amqp_endpoint_model.specs.declared.call.Call.TheVariants.{Feed, Pull, BreakOff}
use Rattle.amqp_endpoint_model.specs.Said.{Said, done, fed, pulled, Told}
use Rattle.amqp_endpoint_core.specs.declared.step.End.{End}
use Rattle.amqp_endpoint_core.specs.declared.step.End.TheVariants.{A, B}
use Rattle.amqp_endpoint_core.specs.declared.step.Step.{Step}
use Rattle.amqp_endpoint_core.specs.declared.step.Step.TheVariants.{Call as CallAt, Move, Break}
use Rattle.amqp_endpoint_core.specs.WorldSaid.{WorldSaid, called, moved, broken, WorldTold}
use Rattle.amqp_endpoint_core.specs.WorldStep.{is_the_worlds, has_broken_off, finds_none, left_by}

abbrev pub is_same : End → End → Bool
is_same A A = true
is_same B B = true
is_same one another = false

abbrev pub queued_at : End → WorldTold → ℕ
queued_at A t = t.queued_a
queued_at B t = t.queued_b

-- the bytes on their way to an end behind a step, where these were before it
abbrev pub stream_behind : End → List ℕ → Step → WorldSaid → List ℕ
stream_behind end stream (Move from count) (moved bytes said) =
    if has_broken_off said then []
    else (if is_same end from then stream else left_by said count (stream ++ joined bytes))
stream_behind end stream Break broken = []
stream_behind end stream step did = stream

-- a break is a call of both ends
abbrev pub break_call : Bool → List Call
break_call b = if b then BreakOff ∷ [] else []

abbrev pub break_told : Bool → ℕ → List Told
break_told b queued = if b then record { answer = done; queued = queued } ∷ [] else []

-- a feed of a piece, if there was one
abbrev pub feed_call : List ℕ → Said → List Call
feed_call piece (fed events fault) = Feed piece ∷ []
feed_call piece said = []

abbrev pub feed_told : Said → ℕ → List Told
feed_told (fed events fault) queued = record { answer = fed events fault; queued = queued } ∷ []
feed_told said queued = []

-- a pull for each answer of bytes
abbrev pub pull_calls : List (List ℕ) → List Call
pull_calls [] = []
pull_calls (bytes ∷ others) = Pull ∷ pull_calls others

-- what they told, where so many answers of bytes are left behind the last of them
abbrev pub pulls_told : List (List ℕ) → ℕ → List Told
pulls_told [] queued = []
pulls_told (bytes ∷ others) queued =
    record { answer = pulled (Some bytes); queued = length others + queued } ∷ pulls_told others queued

-- a call that isn't the world's own
abbrev pub own_call : Call → List Call
own_call call = if is_the_worlds call then [] else call ∷ []

abbrev pub own_told : Call → Said → ℕ → List Told
own_told call said queued = if is_the_worlds call then [] else record { answer = said; queued = queued } ∷ []

-- the calls of an end in a step, where these bytes are on their way to it: of a Move the sending end has the pulls, and
-- the other one a feed of the next bytes
abbrev pub calls_in : End → List ℕ → Step → WorldSaid → List Call
calls_in end stream (CallAt at call) (called said) = if is_same end at then own_call call else []
calls_in end stream (Move from count) (moved bytes said) =
    (if is_same end from then pull_calls bytes else feed_call (take count (stream ++ joined bytes)) said)
    ++ break_call (has_broken_off said)
calls_in end stream Break broken = break_call true
calls_in end stream step did = []

-- what they told, where so many answers of bytes are left behind the step
abbrev pub told_in : End → Step → WorldSaid → ℕ → List Told
told_in end (CallAt at call) (called said) queued = if is_same end at then own_told call said queued else []
told_in end (Move from count) (moved bytes said) queued =
    (if is_same end from then pulls_told bytes queued else feed_told said queued)
    ++ break_told (has_broken_off said) queued
told_in end Break broken queued = break_told true queued
told_in end step did queued = []

-- the calls of an end in all steps, one step after the other
abbrev pub calls_at : End → List ℕ → List Step → List WorldTold → List Call
calls_at end stream (step ∷ steps) (t ∷ ts) =
    calls_in end stream step t.did ++ calls_at end (stream_behind end stream step t.did) steps ts
calls_at end stream steps ts = []

abbrev pub told_at : End → List Step → List WorldTold → List Told
told_at end (step ∷ steps) (t ∷ ts) = told_in end step t.did (queued_at end t) ++ told_at end steps ts
told_at end steps ts = []

-- the bytes that were pulled of an end since it was broken off last, where these were before
abbrev pub then_pulled : List ℕ → Call → Said → List ℕ
then_pulled bytes Pull (pulled (Some more)) = bytes ++ more
then_pulled bytes BreakOff done = []
then_pulled bytes call said = bytes

abbrev pub pulled_since_break : List ℕ → List Call → List Told → List ℕ
pulled_since_break bytes (call ∷ calls) (t ∷ ts) = pulled_since_break (then_pulled bytes call t.answer) calls ts
pulled_since_break bytes calls ts = bytes

-- the bytes that were fed to an end since it was broken off last; where it finds no connection, a feed takes none
abbrev pub then_fed : List ℕ → Call → Said → List ℕ
then_fed bytes (Feed more) (fed events fault) = if finds_none fault then bytes else bytes ++ more
then_fed bytes BreakOff done = []
then_fed bytes call said = bytes

abbrev pub fed_since_break : List ℕ → List Call → List Told → List ℕ
fed_since_break bytes (call ∷ calls) (t ∷ ts) = fed_since_break (then_fed bytes call t.answer) calls ts
fed_since_break bytes calls ts = bytes

-- what was pulled of an end and fed to it since it was broken off last: nothing, where it has no connection; else it
-- was fed what was fed since the latest connect
abbrev pub OfItsConnection : Bool → List ℕ → List ℕ → List ℕ → Type 0
OfItsConnection true bytes_pulled bytes_fed since_connect = (bytes_pulled ≡ []) × (bytes_fed ≡ [])
OfItsConnection false bytes_pulled bytes_fed since_connect = bytes_fed ≡ since_connect
