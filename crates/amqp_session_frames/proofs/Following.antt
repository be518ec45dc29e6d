-- The state follows the table.
use Rattle.std.proofs.Common.{◌≡◌, ◌↔◌, ℕ, Bool, true, false, List, [], ◌∷◌, ◌++◌, Option, Some, None, Ok, Err, IsTrue, IsSome, refl, sym, ap, ◌∙◌, subst, is_some}
use Rattle.std.specs.Prelude.{unwrap_or}
use Rattle.std.proofs.lemmas.Option.{none-some}
use Rattle.amqp_session_types.specs.declared.refusals.OpenError.TheVariants as opening
use Rattle.amqp_session_types.specs.declared.refusals.ConnectionError.TheVariants as connection
use Rattle.amqp_session_types.specs.declared.refusals.BeginError.TheVariants as beginning
use Rattle.amqp_session_frames.specs.declared.state.ConnectionState.{ConnectionState}
use Rattle.amqp_session_frames.specs.declared.state.ConnectionState.TheVariants.{Start}
use Rattle.amqp_session_frames.specs.State.{State}
use Rattle.amqp_session_frames.specs.Steps.{Act, Step, History, DeallocateSession, SetsStopReason, SendsHeader}
use Rattle.amqp_session_frames.specs.Steps.{TakesHeader, SendsOpen, TakesOpen, SendsClose, TakesClose, SendsBegin}
use Rattle.amqp_session_frames.specs.Steps.{SendsEnd, AllocatesSession, DeallocatesSession, TakesBegin}
use Rattle.amqp_session_frames.specs.Steps.{AcceptsRoute, TakesEnd, FindsSession}
use Rattle.amqp_session_frames.specs.Table.{after_send_header, after_incoming_header, after_incoming_open}
use Rattle.amqp_session_frames.specs.Table.{after_send_close, after_incoming_close}
use Rattle.amqp_session_frames.specs.Told.{row, is_illegal, moved, state_after}
use Rattle.amqp_session_frames.proofs.Histories.{last_step}
use Rattle.std.specs.FinMap as map

-- the state stays
kept : (old new : State) → new.local_state ≡ old.local_state → Some old.local_state ≡ Some new.local_state
kept old new e = ap (λ (s : ConnectionState). Some s) (sym e)

same : (old new : State) → new ≡ old → Some old.local_state ≡ Some new.local_state
same old new e = kept old new (ap (λ (s : State). s.local_state) e)

deallocated : (old new : State) (channel : ℕ) (session : Option ℕ) → DeallocateSession old channel session new → new.local_state ≡ old.local_state
deallocated old new channel None s = ap (λ (s : State). s.local_state) s
deallocated old new channel (Some session) s = ap (λ (s : State). s.local_state) s

pub step_moves : (step : Act) (old new : State) → Step old step new
    → moved step (Some old.local_state) ≡ Some new.local_state
step_moves (SetsStopReason reason) old new s = kept old new (ap (λ (s : State). s.local_state) s)
step_moves (SendsHeader (Err e)) old new s = same old new s.2
step_moves (SendsHeader (Ok x)) old new s = s.0
step_moves (TakesHeader (Err e)) old new s = same old new s.2
step_moves (TakesHeader (Ok x)) old new s = s.0
step_moves (SendsOpen (Err e)) old new s = same old new s.1
step_moves (SendsOpen (Ok frame)) old new s = s.1
step_moves (TakesOpen channel opening (Err e)) old new s = same old new s.2
step_moves (TakesOpen channel opening (Ok x)) old new s = s.0
step_moves (SendsClose error (Err e)) old new s = same old new s.2
step_moves (SendsClose error (Ok frame)) old new s = s.1
step_moves (TakesClose channel closing (Err e)) old new s = same old new s.2
step_moves (TakesClose channel closing (Ok x)) old new s = s.0
step_moves (SendsBegin channel beginning frame) old new s = same old new s.1
step_moves (SendsEnd channel ending frame) old new s = same old new s.1
step_moves (AllocatesSession session (Err e)) old new s = same old new s.1
step_moves (AllocatesSession session (Ok channel)) old new s = kept old new (ap (λ (s : State). s.local_state) s.4)
step_moves (DeallocatesSession channel) old new s = kept old new (deallocated old new channel.0 (map.get old.live channel.0) s)
step_moves (TakesBegin channel beginning (Err e)) old new s = same old new s.1
step_moves (TakesBegin channel beginning (Ok session)) old new s = kept old new (ap (λ (s : State). s.local_state) s.1)
step_moves (AcceptsRoute channel session (Err e)) old new s = same old new s
step_moves (AcceptsRoute channel session (Ok x)) old new s = kept old new (ap (λ (s : State). s.local_state) s)
step_moves (TakesEnd channel ending (Err e)) old new s = same old new s.2
step_moves (TakesEnd channel ending (Ok session)) old new s = kept old new (ap (λ (s : State). s.local_state) s.1)
step_moves (FindsSession channel answer) old new s = same old new s.1

pub history_follows : (steps : List Act) (start end : State) → History start steps end
    → state_after (Some start.local_state) steps ≡ Some end.local_state
history_follows [] start end run = same start end run
history_follows (step ∷ steps) start end run =
    ap (λ (o : Option ConnectionState). state_after o steps) (step_moves step start run.0 run.1) ∙ history_follows steps run.0 end run.2

-- not illegal, and there is a row
legal : {state : ConnectionState} (b : Bool) (next : Option ConnectionState) → b ≡ false → next ≡ Some state → (b ≡ true) ↔ (next ≡ None)
legal b next not_so found = (λ e. absurd cc, λ e. absurd (none-some _ (sym e ∙ found)))

-- not illegal, and some state stands behind
present : (next : Option ConnectionState) → IsSome next → (false ≡ true) ↔ (next ≡ None)
present None s = absurd cc
present (Some state) s = (λ e. absurd cc, λ e. absurd (none-some _ (sym e)))

illegal : (next : Option ConnectionState) → next ≡ None → (true ≡ true) ↔ (next ≡ None)
illegal next e = (λ _. e, λ _. refl)

illegal_exactly : (step : Act) (old new : State) → Step old step new
    → IsTrue (is_illegal step) ↔ (row step old.local_state ≡ None)
illegal_exactly (SetsStopReason reason) old new s = legal false _ refl refl
illegal_exactly (SendsHeader (Err e)) old new s = subst (λ e. IsTrue (is_illegal (SendsHeader (Err e))) ↔ (after_send_header old.local_state ≡ None)) (sym s.0) (illegal _ s.1)
illegal_exactly (SendsHeader (Ok x)) old new s = legal false _ refl s.0
illegal_exactly (TakesHeader (Err e)) old new s = subst (λ e. IsTrue (is_illegal (TakesHeader (Err e))) ↔ (after_incoming_header old.local_state ≡ None)) (sym s.0) (illegal _ s.1)
illegal_exactly (TakesHeader (Ok x)) old new s = legal false _ refl s.0
illegal_exactly (SendsOpen (Err opening.ProtocolHeaderMismatch)) old new s = absurd s.0
illegal_exactly (SendsOpen (Err opening.IllegalState)) old new s = illegal _ s.0
illegal_exactly (SendsOpen (Err opening.NotImplemented)) old new s = absurd s.0
illegal_exactly (SendsOpen (Err opening.DecodeError)) old new s = absurd s.0
illegal_exactly (SendsOpen (Err opening.RemoteClosed)) old new s = absurd s.0
illegal_exactly (SendsOpen (Err (opening.RemoteClosedWithError e))) old new s = absurd s.0
illegal_exactly (SendsOpen (Err opening.Memory)) old new s = present _ s.0
illegal_exactly (SendsOpen (Ok frame)) old new s = legal false _ refl s.1
illegal_exactly (TakesOpen channel o (Err e)) old new s = subst (λ e. IsTrue (is_illegal (TakesOpen channel o (Err e))) ↔ (after_incoming_open old.local_state ≡ None)) (sym s.0) (illegal _ s.1)
illegal_exactly (TakesOpen channel o (Ok x)) old new s = legal false _ refl s.0
illegal_exactly (SendsClose error (Err e)) old new s = subst (λ e. IsTrue (is_illegal (SendsClose error (Err e))) ↔ (after_send_close (is_some error) old.local_state ≡ None)) (sym s.0) (illegal _ s.1)
illegal_exactly (SendsClose error (Ok frame)) old new s = legal false _ refl s.1
illegal_exactly (TakesClose channel c (Err e)) old new s = subst (λ e. IsTrue (is_illegal (TakesClose channel c (Err e))) ↔ (after_incoming_close old.local_state ≡ None)) (sym s.0) (illegal _ s.1)
illegal_exactly (TakesClose channel c (Ok x)) old new s = legal false _ refl s.0
illegal_exactly (SendsBegin channel b frame) old new s = legal false _ refl refl
illegal_exactly (SendsEnd channel ending frame) old new s = legal false _ refl refl
illegal_exactly (AllocatesSession session (Err beginning.IllegalState)) old new s = absurd s.0
illegal_exactly (AllocatesSession session (Err beginning.ConnectionStopped)) old new s = legal false _ refl refl
illegal_exactly (AllocatesSession session (Err beginning.ConnectionNotOpened)) old new s = legal false _ refl refl
illegal_exactly (AllocatesSession session (Err beginning.RemoteEnded)) old new s = legal false _ refl refl
illegal_exactly (AllocatesSession session (Err (beginning.RemoteEndedWithError e))) old new s = legal false _ refl refl
illegal_exactly (AllocatesSession session (Err beginning.LocalChannelMaxReached)) old new s = legal false _ refl refl
illegal_exactly (AllocatesSession session (Err beginning.Memory)) old new s = legal false _ refl refl
illegal_exactly (AllocatesSession session (Ok channel)) old new s = legal false _ refl refl
illegal_exactly (DeallocatesSession channel) old new s = legal false _ refl refl
illegal_exactly (TakesBegin channel b (Err connection.IllegalState)) old new s = absurd s.0
illegal_exactly (TakesBegin channel b (Err connection.NotImplemented)) old new s = legal false _ refl refl
illegal_exactly (TakesBegin channel b (Err connection.NotFound)) old new s = legal false _ refl refl
illegal_exactly (TakesBegin channel b (Err connection.NotAllowed)) old new s = legal false _ refl refl
illegal_exactly (TakesBegin channel b (Err connection.RemoteClosed)) old new s = legal false _ refl refl
illegal_exactly (TakesBegin channel b (Err (connection.RemoteClosedWithError e))) old new s = legal false _ refl refl
illegal_exactly (TakesBegin channel b (Err connection.Memory)) old new s = legal false _ refl refl
illegal_exactly (TakesBegin channel b (Ok session)) old new s = legal false _ refl refl
illegal_exactly (AcceptsRoute channel session answer) old new s = legal false _ refl refl
illegal_exactly (TakesEnd channel ending (Err e)) old new s = subst (λ e. IsTrue (is_illegal (TakesEnd channel ending (Err e))) ↔ (Some old.local_state ≡ None)) (sym s.0) (legal false _ refl refl)
illegal_exactly (TakesEnd channel ending (Ok session)) old new s = legal false _ refl refl
illegal_exactly (FindsSession channel answer) old new s = legal false _ refl refl

pub refused_by_table : (start end : State) (steps : List Act) (step : Act) (state : ConnectionState)
    → History start (steps ++ step ∷ []) end
    → state_after (Some start.local_state) steps ≡ Some state → IsTrue (is_illegal step) ↔ (row step state ≡ None)
refused_by_table start end steps step state run is =
    let l = last_step steps step start end run in
    let e : l.mid.local_state ≡ state = ap (λ (o : Option ConnectionState). unwrap_or o Start) (sym (history_follows steps start l.mid l.before) ∙ is) in
    subst (λ (s : ConnectionState). IsTrue (is_illegal step) ↔ (row step s ≡ None)) e (illegal_exactly step l.mid end l.last)
