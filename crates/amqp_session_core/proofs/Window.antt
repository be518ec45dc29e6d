-- How much of the own window is used up.
use Rattle.std.proofs.Common.{◌≡◌, ℕ, List, [], ◌∷◌, Bool, true, false, refl, sym, ◌∙◌, ap, subst, arith, ◌<◌, ◌*◌, ◌+◌, if◌then◌else◌, nat_le}
use Rattle.std.specs.Prelude.{option_to_list}
use Rattle.std.proofs.lemmas.Bool.{leb-false}
use Rattle.std.specs.Prelude.{Option, Some, None, Ok, Err}
use Rattle.amqp_session_types.specs.declared.modes.Role.{Role}
use Rattle.amqp_session_types.specs.declared.modes.Role.TheVariants.{Sender, Receiver}
use Rattle.amqp_session_performatives.specs.declared.session_frame.SessionFrame.{SessionFrame}
use Rattle.amqp_session_performatives.specs.declared.disposition.Disposition.{Disposition}
use Rattle.amqp_session_outgoing.specs.Table.{Table}
use Rattle.amqp_session_core.specs.declared.fields.SessionFields.{SessionFields}
use Rattle.amqp_session_core.specs.Echoes.{opposite}
use Rattle.amqp_session_core.specs.Frames.{has_flow, session_flow}
use Rattle.amqp_session_core.specs.Relay.{Relations}
use Rattle.amqp_session_core.specs.State.{State}
use Rattle.amqp_session_core.specs.Steps.{Act, Step, Counts, SendsDispositionStep, with_table, taken_behind, Stays}
use Rattle.amqp_session_core.specs.Steps.{SendsBegin, TakesBegin, SendsEnd, TakesEnd, TakesAttach, TakesFlow}
use Rattle.amqp_session_core.specs.Steps.{SetsWindow, TakesTransfer, TakesDisposition, TakesDetach, SendsBehind}
use Rattle.amqp_session_core.specs.Steps.{SendsTransfers, SendsDisposition, TellsFlow, Allocates, Deallocates}
use Rattle.amqp_session_core.specs.Steps.{Reserves, Changes}
use Rattle.amqp_session_core.specs.History.{History, frames_in, taken_in, taken_since}

module _ {R A T D : Type 0} (gives : Relations R A T D) where
  abbrev Does : State R → Act R A T D → State R → Type 0
  Does = Step gives

  -- what a call leaves of the own window
  pub record Used (old : State R) (frames : List SessionFrame) (more : ℕ) (new : State R) : Type 0 where
    pub window : (new.fields).incoming_window ≡ (old.fields).incoming_window
    pub taken : new.taken ≡ (if has_flow frames then 0 else old.taken + more)
    pub within : 2 * old.taken < (old.fields).incoming_window → 2 * new.taken < (old.fields).incoming_window

  -- where nothing is taken
  unused : (old new s : State R) (frames : List SessionFrame) → new ≡ s → (s.fields).incoming_window ≡ (old.fields).incoming_window → s.taken ≡ taken_behind frames old.taken → Used old frames 0 new
  unused old new s frames is same count =
      record {
        window = ap (λ (x : State R). (x.fields).incoming_window) is ∙ same;
        taken = ap (λ (x : State R). x.taken) is ∙ count ∙ ap (λ (n : ℕ). if has_flow frames then 0 else n) zeroed;
        within = λ some. subst (λ (n : ℕ). 2 * n < (old.fields).incoming_window) (sym (ap (λ (x : State R). x.taken) is ∙ count)) (by (has_flow frames) some);
      }
    where
      zeroed : old.taken ≡ old.taken + 0
      zeroed = omega arith

      by : (b : Bool) → 2 * old.taken < (old.fields).incoming_window → 2 * (if b then 0 else old.taken) < (old.fields).incoming_window
      by true some = omega (arith, some)
      by false some = some

  -- one is taken, and a Flow leaves where half is used up
  counted : (old new : State R) (flow : Option SessionFrame) → Counts old flow new.fields new.taken → Used old (option_to_list flow) 1 new
  counted old new flow c =
      record {
        window = ap (λ (f : SessionFields). f.incoming_window) c.next;
        taken = c.counted ∙ by_flow (nat_le (old.fields).incoming_window (2 * (old.taken + 1))) ∙ ap (λ (o : Option SessionFrame). if has_flow (option_to_list o) then 0 else old.taken + 1) (sym c.told);
        within = λ some. subst (λ (n : ℕ). 2 * n < (old.fields).incoming_window) (sym c.counted) (by_count (nat_le (old.fields).incoming_window (2 * (old.taken + 1))) refl some);
      }
    where
      by_flow : (b : Bool) → (if b then 0 else old.taken + 1) ≡ (if has_flow (option_to_list (if b then Some (session_flow new.fields (old.outgoing).next_outgoing_id) else None)) then 0 else old.taken + 1)
      by_flow true = refl
      by_flow false = refl

      by_count : (b : Bool) → nat_le (old.fields).incoming_window (2 * (old.taken + 1)) ≡ b → 2 * old.taken < (old.fields).incoming_window
          → 2 * (if b then 0 else old.taken + 1) < (old.fields).incoming_window
      by_count true e some = omega (arith, some)
      by_count false e some = leb-false (old.fields).incoming_window (2 * (old.taken + 1)) e

  -- a call that changes which deliveries are unsettled
  tabled : (role : Role) (old new : State R) (table : Table) (s : State R) → new ≡ with_table role table s → s.fields ≡ old.fields → s.taken ≡ old.taken → Used old [] 0 new
  tabled Sender old new table s is same count = unused old new _ [] is (ap (λ (f : SessionFields). f.incoming_window) same) count
  tabled Receiver old new table s is same count = unused old new _ [] is (ap (λ (f : SessionFields). f.incoming_window) same) count

  sent-used : (settled : Bool) (old : State R) (d : Disposition) (numbers : List ℕ) (new : State R)
      → SendsDispositionStep gives settled old d numbers new → Used old [] 0 new
  sent-used false old d numbers new s = unused old new old [] s.1 refl refl
  sent-used true old d numbers new s = tabled (opposite d.role) old new _ old s.1 refl refl

  step-used : (step : Act R A T D) (old new : State R) → Does old step new
      → Used old (frames_in step) (taken_in step) new
  step-used Stays old new s = unused old new old [] s refl refl
  step-used (SendsBegin frame) old new s = unused old new _ [] s.2 refl refl
  step-used (TakesBegin channel begin base left frames) old new s = unused old new _ frames s.5 refl s.4
  step-used (SendsEnd error frame) old new s = unused old new _ [] s.2 refl refl
  step-used TakesEnd old new s = unused old new _ [] s.1 refl refl
  step-used (TakesAttach handle attach (Ok told)) old new s = unused old new _ [] s.2 refl refl
  step-used (TakesAttach handle attach (Err e)) old new s = unused old new _ [] s.2 refl refl
  step-used (TakesFlow flow told reply base left frames) old new s = unused old new _ frames s.becomes refl refl
  step-used (SetsWindow flow base) old new s = unused old new _ [] s.2 refl refl
  step-used (TakesTransfer handle transfer payload (Ok told) flow) old new s = counted old new flow s.2
  step-used (TakesTransfer handle transfer payload (Err e) flow) old new s = subst (λ (o : Option SessionFrame). Used old (option_to_list o) 0 new) (sym s.2) (unused old new _ [] s.3 refl refl)
  step-used (TakesDisposition d walk echoes) old new s = tabled d.role old new _ (record old { links = new.links }) s.becomes refl refl
  step-used (TakesDetach handle detach (Ok told)) old new s = unused old new _ [] s.2 refl refl
  step-used (TakesDetach handle detach (Err e)) old new s = unused old new _ [] s.2 refl refl
  step-used (SendsBehind handle frame left answer) old new s = unused old new _ (option_to_list answer) s.2 refl s.3
  step-used (SendsTransfers handle batch left frames) old new s = unused old new _ frames s.2 refl refl
  step-used (SendsDisposition d numbers) old new s = sent-used d.settled old d numbers new s
  step-used (TellsFlow frame) old new s = subst (λ (f : SessionFrame). Used old (f ∷ []) 0 new) (sym s.0) (unused old new _ (session_flow old.fields (old.outgoing).next_outgoing_id ∷ []) s.1 refl refl)
  step-used (Allocates handle x None) old new s = unused old new _ [] s.4 refl refl
  step-used (Allocates handle x (Some input)) old new s = unused old new _ [] s.5 refl refl
  step-used (Deallocates handle) old new s = unused old new _ [] s.4 refl refl
  step-used (Reserves count) old new s = unused old new _ [] s.1 refl refl
  step-used (Changes handle before after) old new s = unused old new _ [] s.1 refl refl

  -- the count is kept, and stays below half of the window
  pub history-used : (steps : List (Act R A T D)) (start end : State R) → History gives start steps end
      → 2 * start.taken < (start.fields).incoming_window → 2 * taken_since start.taken steps < (start.fields).incoming_window
  history-used [] start end run some = some
  history-used (step ∷ steps) start end run some =
      let used = step-used step start run.0 run.1 in
      let then_some : 2 * (run.0).taken < ((run.0).fields).incoming_window = subst (λ (w : ℕ). 2 * (run.0).taken < w) (sym used.window) (used.within some) in
      subst (λ (w : ℕ). 2 * taken_since start.taken (step ∷ steps) < w) used.window
      (subst (λ (n : ℕ). 2 * taken_since n steps < ((run.0).fields).incoming_window) used.taken (history-used steps run.0 end run.2 then_some))
