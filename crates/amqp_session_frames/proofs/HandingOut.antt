-- At most one Open and one Close are handed out.
use Rattle.std.proofs.Common.{◌≡◌, ◌≤◌, ◌+◌, ℕ, Bool, List, [], ◌∷◌, ◌++◌, length, filter, Option, Some, Ok, Err, refl, sym, ap, ◌∙◌, subst, is_some, arith, length-append}
use Rattle.std.proofs.lemmas.List.Elements.{filter-append}
use Rattle.std.specs.Prelude.{unwrap_or}
use Rattle.amqp_session_frames.specs.declared.frame.Frame.{Frame}
use Rattle.amqp_session_frames.specs.declared.frame.FrameBody.{FrameBody}
use Rattle.amqp_session_frames.specs.declared.state.ConnectionState.{ConnectionState}
use Rattle.amqp_session_frames.specs.declared.state.ConnectionState.TheVariants.{Start, HeaderReceived, HeaderSent}
use Rattle.amqp_session_frames.specs.declared.state.ConnectionState.TheVariants.{HeaderExchange, OpenPipe}
use Rattle.amqp_session_frames.specs.declared.state.ConnectionState.TheVariants.{OpenClosePipe, OpenReceived}
use Rattle.amqp_session_frames.specs.declared.state.ConnectionState.TheVariants.{OpenSent, ClosePipe, Opened}
use Rattle.amqp_session_frames.specs.declared.state.ConnectionState.TheVariants.{CloseReceived, CloseSent, Discarding}
use Rattle.amqp_session_frames.specs.declared.state.ConnectionState.TheVariants.{End}
use Rattle.amqp_session_frames.specs.State.{State}
use Rattle.amqp_session_frames.specs.Steps.{Act, Step, History, SetsStopReason, SendsHeader, TakesHeader}
use Rattle.amqp_session_frames.specs.Steps.{SendsOpen, TakesOpen, SendsClose, TakesClose, SendsBegin, SendsEnd}
use Rattle.amqp_session_frames.specs.Steps.{AllocatesSession, DeallocatesSession, TakesBegin, AcceptsRoute}
use Rattle.amqp_session_frames.specs.Steps.{TakesEnd, FindsSession}
use Rattle.amqp_session_frames.specs.Told.{frame_of, frames_out, says_open, says_close}
use Rattle.amqp_session_frames.proofs.Following.{step_moves}
use Rattle.amqp_session_frames.proofs.States.{opens_left, closes_left, Spends, send_header_moves}
use Rattle.amqp_session_frames.proofs.States.{incoming_header_moves, send_open_moves, incoming_open_moves}
use Rattle.amqp_session_frames.proofs.States.{send_close_moves, incoming_close_moves}

-- how many of these frames pass the test
abbrev many : (FrameBody → Bool) → List Frame → ℕ
many test frames = length (filter (λ f. test f.body) frames)

many-append : (test : FrameBody → Bool) (xs ys : List Frame) → many test (xs ++ ys) ≡ many test xs + many test ys
many-append test xs ys = ap length (filter-append (λ (f : Frame). test f.body) xs ys) ∙ length-append _ _

-- what a call hands out and what may still be handed out is no more than what could be before
pub record Within (old : ConnectionState) (frames : List Frame) (new : ConnectionState) : Type 0 where
  pub opens : many says_open frames + opens_left new ≤ opens_left old
  pub closes : many says_close frames + closes_left new ≤ closes_left old

-- nothing is handed out, or a Begin or an End, and the state stays
stayed : (old new : State) (frames : List Frame) → many says_open frames ≡ 0 → many says_close frames ≡ 0 → Some old.local_state ≡ Some new.local_state → Within old.local_state frames new.local_state
stayed old new frames a b e =
    subst (λ (s : ConnectionState). Within old.local_state frames s) (ap (λ (o : Option ConnectionState). unwrap_or o Start) e) (record { opens = omega (arith, a); closes = omega (arith, b) })

none : (old new : State) → Spends 0 0 old.local_state new.local_state → Within old.local_state [] new.local_state
none old new s = record { opens = omega (arith, s.opened); closes = omega (arith, s.closed) }

step_within : (step : Act) (old new : State) → Step old step new
    → Within old.local_state (frame_of step) new.local_state
step_within (SetsStopReason reason) old new s = stayed old new [] refl refl (step_moves (SetsStopReason reason) old new s)
step_within (SendsHeader (Err e)) old new s = stayed old new [] refl refl (step_moves (SendsHeader (Err e)) old new s)
step_within (SendsHeader (Ok x)) old new s = none old new (send_header_moves old.local_state new.local_state s.0)
step_within (TakesHeader (Err e)) old new s = stayed old new [] refl refl (step_moves (TakesHeader (Err e)) old new s)
step_within (TakesHeader (Ok x)) old new s = none old new (incoming_header_moves old.local_state new.local_state s.0)
step_within (SendsOpen (Err e)) old new s = stayed old new [] refl refl (step_moves (SendsOpen (Err e)) old new s)
step_within (SendsOpen (Ok frame)) old new s =
    let spent = send_open_moves old.local_state new.local_state s.1 in
    subst (λ (f : Frame). Within old.local_state (f ∷ []) new.local_state) (sym s.0) (record { opens = omega (arith, spent.opened); closes = omega (arith, spent.closed) })
step_within (TakesOpen channel opening (Err e)) old new s = stayed old new [] refl refl (step_moves (TakesOpen channel opening (Err e)) old new s)
step_within (TakesOpen channel opening (Ok x)) old new s = none old new (incoming_open_moves old.local_state new.local_state s.0)
step_within (SendsClose error (Err e)) old new s = stayed old new [] refl refl (step_moves (SendsClose error (Err e)) old new s)
step_within (SendsClose error (Ok frame)) old new s =
    let spent = send_close_moves (is_some error) old.local_state new.local_state s.1 in
    subst (λ (f : Frame). Within old.local_state (f ∷ []) new.local_state) (sym s.0) (record { opens = omega (arith, spent.opened); closes = omega (arith, spent.closed) })
step_within (TakesClose channel closing (Err e)) old new s = stayed old new [] refl refl (step_moves (TakesClose channel closing (Err e)) old new s)
step_within (TakesClose channel closing (Ok x)) old new s = none old new (incoming_close_moves old.local_state new.local_state s.0)
step_within (SendsBegin channel beginning frame) old new s =
    stayed old new (frame ∷ []) (ap (λ (f : Frame). many says_open (f ∷ [])) s.0) (ap (λ (f : Frame). many says_close (f ∷ [])) s.0) (step_moves (SendsBegin channel beginning frame) old new s)
step_within (SendsEnd channel ending frame) old new s =
    stayed old new (frame ∷ []) (ap (λ (f : Frame). many says_open (f ∷ [])) s.0) (ap (λ (f : Frame). many says_close (f ∷ [])) s.0) (step_moves (SendsEnd channel ending frame) old new s)
step_within (AllocatesSession session (Err e)) old new s = stayed old new [] refl refl (step_moves (AllocatesSession session (Err e)) old new s)
step_within (AllocatesSession session (Ok channel)) old new s = stayed old new [] refl refl (step_moves (AllocatesSession session (Ok channel)) old new s)
step_within (DeallocatesSession channel) old new s = stayed old new [] refl refl (step_moves (DeallocatesSession channel) old new s)
step_within (TakesBegin channel beginning (Err e)) old new s = stayed old new [] refl refl (step_moves (TakesBegin channel beginning (Err e)) old new s)
step_within (TakesBegin channel beginning (Ok session)) old new s = stayed old new [] refl refl (step_moves (TakesBegin channel beginning (Ok session)) old new s)
step_within (AcceptsRoute channel session (Err e)) old new s = stayed old new [] refl refl (step_moves (AcceptsRoute channel session (Err e)) old new s)
step_within (AcceptsRoute channel session (Ok x)) old new s = stayed old new [] refl refl (step_moves (AcceptsRoute channel session (Ok x)) old new s)
step_within (TakesEnd channel ending (Err e)) old new s = stayed old new [] refl refl (step_moves (TakesEnd channel ending (Err e)) old new s)
step_within (TakesEnd channel ending (Ok session)) old new s = stayed old new [] refl refl (step_moves (TakesEnd channel ending (Ok session)) old new s)
step_within (FindsSession channel answer) old new s = stayed old new [] refl refl (step_moves (FindsSession channel answer) old new s)

history_within : (steps : List Act) (start end : State) → History start steps end
    → Within start.local_state (frames_out steps) end.local_state
history_within [] start end run = stayed start end [] refl refl (ap (λ (s : State). Some s.local_state) (sym run))
history_within (step ∷ steps) start end run =
    let first = step_within step start run.0 run.1 in
    let rest = history_within steps run.0 end run.2 in
    record {
      opens = omega (arith, many-append says_open (frame_of step) (frames_out steps), first.opens, rest.opens);
      closes = omega (arith, many-append says_close (frame_of step) (frames_out steps), first.closes, rest.closes);
    }

one_at_most : (state : ConnectionState) → (opens_left state ≤ 1) × (closes_left state ≤ 1)
one_at_most Start = (omega arith, omega arith)
one_at_most HeaderReceived = (omega arith, omega arith)
one_at_most HeaderSent = (omega arith, omega arith)
one_at_most HeaderExchange = (omega arith, omega arith)
one_at_most OpenPipe = (omega arith, omega arith)
one_at_most OpenClosePipe = (omega arith, omega arith)
one_at_most OpenReceived = (omega arith, omega arith)
one_at_most OpenSent = (omega arith, omega arith)
one_at_most ClosePipe = (omega arith, omega arith)
one_at_most Opened = (omega arith, omega arith)
one_at_most CloseReceived = (omega arith, omega arith)
one_at_most CloseSent = (omega arith, omega arith)
one_at_most Discarding = (omega arith, omega arith)
one_at_most End = (omega arith, omega arith)

pub one_open : (start end : State) (steps : List Act) → History start steps end → many says_open (frames_out steps) ≤ 1
one_open start end steps run = omega (arith, (history_within steps start end run).opens, (one_at_most start.local_state).0)

pub one_close : (start end : State) (steps : List Act) → History start steps end
    → many says_close (frames_out steps) ≤ 1
one_close start end steps run = omega (arith, (history_within steps start end run).closes, (one_at_most start.local_state).1)
