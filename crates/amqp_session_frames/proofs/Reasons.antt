-- The first stop reason stays.
use Rattle.std.proofs.Common.{◌≡◌, ℕ, List, [], ◌∷◌, Option, Some, None, Ok, Err, refl, ap, ◌∙◌}
use Rattle.std.specs.FinMap as map
use Rattle.amqp_session_types.specs.declared.refusals.ConnectionStopReason.{ConnectionStopReason}
use Rattle.amqp_session_frames.specs.State.{State}
use Rattle.amqp_session_frames.specs.Steps.{Act, Step, History, DeallocateSession, SetsStopReason, SendsHeader}
use Rattle.amqp_session_frames.specs.Steps.{TakesHeader, SendsOpen, TakesOpen, SendsClose, TakesClose, SendsBegin}
use Rattle.amqp_session_frames.specs.Steps.{SendsEnd, AllocatesSession, DeallocatesSession, TakesBegin}
use Rattle.amqp_session_frames.specs.Steps.{AcceptsRoute, TakesEnd, FindsSession}
use Rattle.amqp_session_frames.specs.Told.{reasoned, first_given}

abbrev reason : State → Option ConnectionStopReason
reason s = s.stop_reason

deallocated : (old new : State) (channel : ℕ) (session : Option ℕ) → DeallocateSession old channel session new → new.stop_reason ≡ old.stop_reason
deallocated old new channel None s = ap reason s
deallocated old new channel (Some session) s = ap reason s

step_reasons : (step : Act) (old new : State) → Step old step new → new.stop_reason ≡ reasoned step old.stop_reason
step_reasons (SetsStopReason given) old new s = ap reason s
step_reasons (SendsHeader (Err e)) old new s = ap reason s.2
step_reasons (SendsHeader (Ok x)) old new s = ap reason s.1
step_reasons (TakesHeader (Err e)) old new s = ap reason s.2
step_reasons (TakesHeader (Ok x)) old new s = ap reason s.1
step_reasons (SendsOpen (Err e)) old new s = ap reason s.1
step_reasons (SendsOpen (Ok frame)) old new s = ap reason s.2
step_reasons (TakesOpen channel opening (Err e)) old new s = ap reason s.2
step_reasons (TakesOpen channel opening (Ok x)) old new s = ap reason s.1
step_reasons (SendsClose error (Err e)) old new s = ap reason s.2
step_reasons (SendsClose error (Ok frame)) old new s = ap reason s.2
step_reasons (TakesClose channel closing (Err e)) old new s = ap reason s.2
step_reasons (TakesClose channel closing (Ok x)) old new s = ap reason s.1
step_reasons (SendsBegin channel beginning frame) old new s = ap reason s.1
step_reasons (SendsEnd channel ending frame) old new s = ap reason s.1
step_reasons (AllocatesSession session (Err e)) old new s = ap reason s.1
step_reasons (AllocatesSession session (Ok channel)) old new s = ap reason s.4
step_reasons (DeallocatesSession channel) old new s = deallocated old new channel.0 (map.get old.live channel.0) s
step_reasons (TakesBegin channel beginning (Err e)) old new s = ap reason s.1
step_reasons (TakesBegin channel beginning (Ok session)) old new s = ap reason s.1
step_reasons (AcceptsRoute channel session (Err e)) old new s = ap reason s
step_reasons (AcceptsRoute channel session (Ok x)) old new s = ap reason s
step_reasons (TakesEnd channel ending (Err e)) old new s = ap reason s.2
step_reasons (TakesEnd channel ending (Ok session)) old new s = ap reason s.1
step_reasons (FindsSession channel answer) old new s = ap reason s.1

pub history_reasons : (steps : List Act) (start end : State) → History start steps end
    → end.stop_reason ≡ first_given start.stop_reason steps
history_reasons [] start end run = ap reason run
history_reasons (step ∷ steps) start end run =
    history_reasons steps run.0 end run.2 ∙ ap (λ (o : Option ConnectionStopReason). first_given o steps) (step_reasons step start run.0 run.1)

-- where there is a reason, no call changes it
stays : (steps : List Act) (given : ConnectionStopReason) → first_given (Some given) steps ≡ Some given
stays [] given = refl
stays (step ∷ steps) given = ap (λ (o : Option ConnectionStopReason). first_given o steps) (one step) ∙ stays steps given
  where
    one : (step : Act) → reasoned step (Some given) ≡ Some given
    one (SetsStopReason later) = refl
    one (SendsHeader answer) = refl
    one (TakesHeader answer) = refl
    one (SendsOpen answer) = refl
    one (TakesOpen channel opening answer) = refl
    one (SendsClose error answer) = refl
    one (TakesClose channel closing answer) = refl
    one (SendsBegin channel beginning frame) = refl
    one (SendsEnd channel ending frame) = refl
    one (AllocatesSession session answer) = refl
    one (DeallocatesSession channel) = refl
    one (TakesBegin channel beginning answer) = refl
    one (AcceptsRoute channel session answer) = refl
    one (TakesEnd channel ending answer) = refl
    one (FindsSession channel answer) = refl

pub first_stays : (start end : State) (steps : List Act) (given : ConnectionStopReason)
    → start.stop_reason ≡ Some given → History start steps end → end.stop_reason ≡ Some given
first_stays start end steps given is run = history_reasons steps start end run ∙ ap (λ (o : Option ConnectionStopReason). first_given o steps) is ∙ stays steps given
