-- A history taken apart at a call.
use Rattle.std.proofs.Common.{List, [], ◌∷◌, ◌++◌, refl, sym, subst}
use Rattle.amqp_session_frames.specs.State.{State}
use Rattle.amqp_session_frames.specs.Steps.{Act, Step, History}

-- the state before the last call, and the call
pub record LastStep (start : State) (steps : List Act) (step : Act) (end : State) : Type 0 where
  pub mid : State
  pub before : History start steps mid
  pub last : Step mid step end

pub last_step : (steps : List Act) (step : Act) (start end : State) → History start (steps ++ step ∷ []) end
    → LastStep start steps step end
last_step [] step start end run = record {
  mid = start;
  before = refl;
  last =
      subst (λ (s : State). Step start step s) (sym run.2) run.1;
}
last_step (first ∷ steps) step start end run =
    let later = last_step steps step run.0 end run.2 in
    record { mid = later.mid; before = (run.0, run.1, later.before); last = later.last }
