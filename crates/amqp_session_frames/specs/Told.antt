-- What a list of calls tells by what went in and out: the words in which laws on histories are said.
use Rattle.std.specs.Prelude.{ℕ, Bool, true, false, not, List, [], ◌∷◌, ◌++◌, filter, Option, Some, None, Ok, Err, ◌==◌}
use Rattle.std.specs.Prelude.{if◌then◌else◌, is_some}
use Rattle.amqp_session_types.specs.declared.refusals.BeginError.TheVariants.{IllegalState as IllegalStateOfSession}
use Rattle.amqp_session_types.specs.declared.refusals.ConnectionError.TheVariants.{IllegalState}
use Rattle.amqp_session_types.specs.declared.refusals.ConnectionStopReason.{ConnectionStopReason}
use Rattle.amqp_session_types.specs.declared.refusals.OpenError.TheVariants.{IllegalState as IllegalStateOfOpen}
use Rattle.amqp_session_frames.specs.declared.frame.Frame.{Frame}
use Rattle.amqp_session_frames.specs.declared.frame.FrameBody.{FrameBody}
use Rattle.amqp_session_frames.specs.declared.frame.FrameBody.TheVariants as body
use Rattle.amqp_session_frames.specs.declared.state.ConnectionState.{ConnectionState}
use Rattle.amqp_session_frames.specs.Steps.{Act, SetsStopReason, SendsHeader, TakesHeader, SendsOpen, TakesOpen}
use Rattle.amqp_session_frames.specs.Steps.{SendsClose, TakesClose, SendsBegin, SendsEnd, AllocatesSession}
use Rattle.amqp_session_frames.specs.Steps.{DeallocatesSession, TakesBegin, AcceptsRoute, TakesEnd, first_reason}
use Rattle.amqp_session_frames.specs.Table.{after_send_header, after_incoming_header, after_send_open}
use Rattle.amqp_session_frames.specs.Table.{after_incoming_open, after_send_close, after_incoming_close}

-- the state that the table has behind a call, whatever the call answered: only a header, an Open and a Close move it
-- (part 2, 2.4.6)
abbrev pub row : Act → ConnectionState → Option ConnectionState
row (SendsHeader answer) state = after_send_header state
row (TakesHeader answer) state = after_incoming_header state
row (SendsOpen answer) state = after_send_open state
row (TakesOpen channel opening answer) state = after_incoming_open state
row (SendsClose error answer) state = after_send_close (is_some error) state
row (TakesClose channel closing answer) state = after_incoming_close state
row step state = Some state

-- a header, an Open or a Close that was refused
abbrev pub is_refused : Act → Bool
is_refused (SendsHeader (Err e)) = true
is_refused (TakesHeader (Err e)) = true
is_refused (SendsOpen (Err e)) = true
is_refused (TakesOpen channel opening (Err e)) = true
is_refused (SendsClose error (Err e)) = true
is_refused (TakesClose channel closing (Err e)) = true
is_refused step = false

-- a call that answered IllegalState
abbrev pub is_illegal : Act → Bool
is_illegal (SendsHeader (Err IllegalState)) = true
is_illegal (TakesHeader (Err IllegalState)) = true
is_illegal (SendsOpen (Err IllegalStateOfOpen)) = true
is_illegal (TakesOpen channel opening (Err IllegalStateOfOpen)) = true
is_illegal (SendsClose error (Err IllegalState)) = true
is_illegal (TakesClose channel closing (Err IllegalState)) = true
is_illegal (AllocatesSession session (Err IllegalStateOfSession)) = true
is_illegal (TakesBegin channel beginning (Err IllegalState)) = true
is_illegal (TakesEnd channel ending (Err IllegalState)) = true
is_illegal step = false

-- the state behind one more call: the table's, where the call was accepted
abbrev pub moved : Act → Option ConnectionState → Option ConnectionState
moved step None = None
moved step (Some state) = if is_refused step then Some state else row step state

-- the state behind these calls, by the table
abbrev pub state_after : Option ConnectionState → List Act → Option ConnectionState
state_after state [] = state
state_after state (step ∷ steps) = state_after (moved step state) steps

-- the session to which the peer's channel is routed behind one more call: a Begin or a route that is accepted on it
-- sets that, and an End that is accepted on it takes it away
abbrev pub rerouted : ℕ → Act → Option ℕ → Option ℕ
rerouted channel (TakesBegin c beginning (Ok session)) before = if channel == c.0 then Some session else before
rerouted channel (AcceptsRoute c session (Ok x)) before = if channel == c.0 then Some session else before
rerouted channel (TakesEnd c ending (Ok session)) before = if channel == c.0 then None else before
rerouted channel step before = before

-- the session of the last Begin (or route) that was accepted on the peer's channel, if no End was accepted on it since;
-- where there was none of them, what was before
abbrev pub routed : ℕ → Option ℕ → List Act → Option ℕ
routed channel before [] = before
routed channel before (step ∷ steps) = routed channel (rerouted channel step before) steps

-- these sessions without those of one outgoing channel
abbrev pub without : ℕ → List (ℕ × ℕ) → List (ℕ × ℕ)
without channel sessions = filter (λ s. not (channel == s.0)) sessions

-- the live sessions behind one more call, each with its outgoing channel
abbrev pub still_live : Act → List (ℕ × ℕ) → List (ℕ × ℕ)
still_live (AllocatesSession session (Ok channel)) live = (channel.0, session) ∷ live
still_live (DeallocatesSession channel) live = without channel.0 live
still_live step live = live

-- the live sessions behind these calls: those that a channel was given to that was not taken back since
abbrev pub live_after : List (ℕ × ℕ) → List Act → List (ℕ × ℕ)
live_after live [] = live
live_after live (step ∷ steps) = live_after (still_live step live) steps

-- the channel-max of the peer's Open, where the call took it
abbrev pub learned : Act → Option ℕ → Option ℕ
learned (TakesOpen channel opening (Ok x)) before = Some opening.channel_max
learned step before = before

-- the channel-max of the last Open of the peer that was taken, if one was
abbrev pub peer_channel_max : Option ℕ → List Act → Option ℕ
peer_channel_max before [] = before
peer_channel_max before (step ∷ steps) = peer_channel_max (learned step before) steps

-- the reason behind one more call
abbrev pub reasoned : Act → Option ConnectionStopReason → Option ConnectionStopReason
reasoned (SetsStopReason reason) before = first_reason before reason
reasoned step before = before

-- the first stop reason that was given; what was before, where there was one
abbrev pub first_given : Option ConnectionStopReason → List Act → Option ConnectionStopReason
first_given before [] = before
first_given before (step ∷ steps) = first_given (reasoned step before) steps

-- the frame that a call handed out
abbrev pub frame_of : Act → List Frame
frame_of (SendsOpen (Ok frame)) = frame ∷ []
frame_of (SendsClose error (Ok frame)) = frame ∷ []
frame_of (SendsBegin channel beginning frame) = frame ∷ []
frame_of (SendsEnd channel ending frame) = frame ∷ []
frame_of step = []

-- the frames that were handed out
abbrev pub frames_out : List Act → List Frame
frames_out [] = []
frames_out (step ∷ steps) = frame_of step ++ frames_out steps

abbrev pub says_open : FrameBody → Bool
says_open (body.Open opening) = true
says_open other = false

abbrev pub says_close : FrameBody → Bool
says_close (body.Close closing) = true
says_close other = false

abbrev pub opens_out : List Act → List Frame
opens_out steps = filter (λ f. says_open f.body) (frames_out steps)

abbrev pub closes_out : List Act → List Frame
closes_out steps = filter (λ f. says_close f.body) (frames_out steps)
