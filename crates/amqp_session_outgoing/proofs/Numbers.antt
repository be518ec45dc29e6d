-- Windows and numbers over histories.
use Rattle.std.proofs.Common.{◌≡◌, ℕ, ◌+◌, ◌<◌, ◌%◌, ◌^◌, List, [], ◌∷◌, ◌++◌, sym, ◌∙◌, ap, subst, Bool, true, false, Option, Some, None}
use Rattle.std.specs.Prelude.{if◌then◌else◌}
use Rattle.std.proofs.Math.Nat.{mod-add-mod}
use Rattle.amqp_session_outgoing.specs.Range.{ahead}
use Rattle.amqp_session_outgoing.specs.Frames.{is_first}
use Rattle.amqp_session_outgoing.specs.State.{State, Leaves, Sends, with_batch, with_window}
use Rattle.amqp_session_outgoing.specs.History.{Act, Step, History, TakesWindow, SetsWindow, Accepts, Refuses}
use Rattle.amqp_session_outgoing.specs.History.{Follows, Reserves, Settles, SettlesRange, Forgets, Fails}
use Rattle.amqp_session_outgoing.specs.Told.{left_in, transfers_out, base_in, width_in, EachInWindow, InLatestWindow, IsNumber, behind_number, IsNumbered}
use Rattle.amqp_session_outgoing.specs.declared.frames.Sent.{Sent}

number_if : (b : Bool) (n d : ℕ) → n ≡ d % 2 ^ 32 → IsNumber d (if b then Some n else None)
number_if true n d e = e
number_if false n d e = tt

behind_if : (b : Bool) (n d : ℕ) → n ≡ d % 2 ^ 32 → (if b then (n + 1) % 2 ^ 32 else n) ≡ behind_number d (if b then Some n else None) % 2 ^ 32
behind_if true n d e = ap (λ (x : ℕ). (x + 1) % 2 ^ 32) e ∙ mod-add-mod d (2 ^ 32) 1
behind_if false n d e = e

module _ {T F : Type 0} where
  -- what a step does to the window, and where what leaves in it lies
  pub record KeepsWindow (old : State T F) (left : List (Sent T F)) (new : State T F) : Type 0 where
    pub base : new.window_base ≡ old.window_base
    pub width : new.window_width ≡ old.window_width
    pub each : EachInWindow old.window_base old.window_width left

  pub leaves-window : (left : List (Sent T F)) (old new : State T F) → Leaves old left new → KeepsWindow old left new
  leaves-window [] old new run = record { base = ap (λ (s : State T F). s.window_base) run; width = ap (λ (s : State T F). s.window_width) run; each = tt }
  leaves-window (s ∷ left) old new run =
      let rest : KeepsWindow run.0 left new = leaves-window left run.0 new run.2 in
      let base : (run.0).window_base ≡ old.window_base = ap (λ (s : State T F). s.window_base) run.1.becomes in
      let width : (run.0).window_width ≡ old.window_width = ap (λ (s : State T F). s.window_width) run.1.becomes in
      let number : s.number ≡ old.next_outgoing_id = ap (λ (t : Sent T F). t.number) run.1.says in
      record {
        base = rest.base ∙ base;
        width = rest.width ∙ width;
        each = (subst (λ (n : ℕ). ahead n old.window_base < old.window_width) (sym number) run.1.allowed, subst (λ (w : ℕ). EachInWindow old.window_base w left) width (subst (λ (b : ℕ). EachInWindow b (run.0).window_width left) base rest.each));
      }

  -- the window behind a step
  pub record Windowed (old : State T F) (step : Act T F) (new : State T F) : Type 0 where
    pub base : new.window_base ≡ base_in old.window_base step
    pub width : new.window_width ≡ width_in old.window_width step
    pub each : EachInWindow (base_in old.window_base step) (width_in old.window_width step) (left_in step)

  opened : (old mid new : State T F) (left : List (Sent T F)) → Leaves mid left new → KeepsWindow mid left new
  opened old mid new left run = leaves-window left mid new run

  pub step-window : (step : Act T F) (old new : State T F) → Step old step new → Windowed old step new
  step-window (TakesWindow base width left) old new x =
      let k : KeepsWindow (with_window old base width) left new = leaves-window left (with_window old base width) new x.0 in
      record { base = k.base; width = k.width; each = k.each }
  step-window (SetsWindow base width) old new x = record { base = ap (λ (s : State T F). s.window_base) x; width = ap (λ (s : State T F). s.window_width) x; each = tt }
  step-window (Accepts handle [] left) old new x = record {
    base = ap (λ (s : State T F). s.window_base) x.1;
    width = ap (λ (s : State T F). s.window_width) x.1;
    each = subst (λ (ls : List (Sent T F)). EachInWindow old.window_base old.window_width ls) (sym x.0) tt;
  }
  step-window (Accepts handle (u ∷ us) left) old new x =
      let k : KeepsWindow (with_batch old handle.0 (u ∷ us)) left new = leaves-window left (with_batch old handle.0 (u ∷ us)) new x.2 in
      record { base = k.base; width = k.width; each = k.each }
  step-window (Refuses batch error) old new x = record { base = ap (λ (s : State T F). s.window_base) x.1; width = ap (λ (s : State T F). s.window_width) x.1; each = tt }
  step-window (Follows handle frame left) old new x = record { base = ap (λ (s : State T F). s.window_base) x.1; width = ap (λ (s : State T F). s.window_width) x.1; each = tt }
  step-window (Reserves count) old new x = record { base = ap (λ (s : State T F). s.window_base) x; width = ap (λ (s : State T F). s.window_width) x; each = tt }
  step-window (Settles number) old new x = record { base = ap (λ (s : State T F). s.window_base) x; width = ap (λ (s : State T F). s.window_width) x; each = tt }
  step-window (SettlesRange range) old new x = record { base = ap (λ (s : State T F). s.window_base) x; width = ap (λ (s : State T F). s.window_width) x; each = tt }
  step-window (Forgets handle) old new x = record { base = ap (λ (s : State T F). s.window_base) x.1; width = ap (λ (s : State T F). s.window_width) x.1; each = tt }
  step-window Fails old new x = record { base = ap (λ (s : State T F). s.window_base) x; width = ap (λ (s : State T F). s.window_width) x; each = tt }

  pub history-window : (steps : List (Act T F)) (start end : State T F) → History start steps end
      → InLatestWindow start.window_base start.window_width steps
  history-window [] start end run = tt
  history-window (step ∷ steps) start end run =
      let w : Windowed start step run.0 = step-window step start run.0 run.1 in
      (w.each, subst (λ (x : ℕ). InLatestWindow (base_in start.window_base step) x steps) w.width (subst (λ (x : ℕ). InLatestWindow x (run.0).window_width steps) w.base (history-window steps run.0 end run.2)))

  -- where a session stands after so many transfers and deliveries
  pub record StandsAt (s : State T F) (n d : ℕ) : Type 0 where
    pub next : s.next_outgoing_id ≡ n % 2 ^ 32
    pub delivery : s.next_delivery_number ≡ d % 2 ^ 32

  same-at : (old new : State T F) (n d : ℕ) → new.next_outgoing_id ≡ old.next_outgoing_id → new.next_delivery_number ≡ old.next_delivery_number → StandsAt old n d → StandsAt new n d
  same-at old new n d a b at = record { next = a ∙ at.next; delivery = b ∙ at.delivery }

  sends-stands : (old new : State T F) (s : Sent T F) (n d : ℕ) → StandsAt old n d → Sends old s new → StandsAt new (n + 1) (behind_number d s.delivery)
  sends-stands old new s n d at x =
      let told : s.delivery ≡ (if is_first x.taken.part then Some old.next_delivery_number else None) = ap (λ (t : Sent T F). t.delivery) x.says in
      record {
        next = ap (λ (s : State T F). s.next_outgoing_id) x.becomes ∙ ap (λ (x : ℕ). (x + 1) % 2 ^ 32) at.next ∙ mod-add-mod n (2 ^ 32) 1;
        delivery = ap (λ (s : State T F). s.next_delivery_number) x.becomes ∙ behind_if (is_first x.taken.part) old.next_delivery_number d at.delivery
            ∙ ap (λ (o : Option ℕ). behind_number d o % 2 ^ 32) (sym told);
      }

  -- a run numbers what leaves, and what comes after it goes on from there
  leaves-numbered : (left : List (Sent T F)) (old new : State T F) (n d : ℕ) (more : List (Sent T F)) → StandsAt old n d → Leaves old left new
      → ((m e : ℕ) → StandsAt new m e → IsNumbered m e more) → IsNumbered n d (left ++ more)
  leaves-numbered [] old new n d more at run rest = rest n d (subst (λ (s : State T F). StandsAt s n d) (sym run) at)
  leaves-numbered (s ∷ left) old new n d more at run rest =
      let told : s.delivery ≡ (if is_first run.1.taken.part then Some old.next_delivery_number else None) = ap (λ (t : Sent T F). t.delivery) run.1.says in (
        ap (λ (t : Sent T F). t.number) run.1.says ∙ at.next,
        subst (λ (o : Option ℕ). IsNumber d o) (sym told) (number_if (is_first run.1.taken.part) old.next_delivery_number d at.delivery),
        leaves-numbered left run.0 new (n + 1) (behind_number d s.delivery) more (sends-stands old run.0 s n d at run.1) run.2 rest,
      )

  step-numbered : (step : Act T F) (old new : State T F) (n d : ℕ) (more : List (Sent T F)) → StandsAt old n d
      → Step old step new
      → ((m e : ℕ) → StandsAt new m e → IsNumbered m e more) → IsNumbered n d (left_in step ++ more)
  step-numbered (TakesWindow base width left) old new n d more at x rest = leaves-numbered left (with_window old base width) new n d more (record { next = at.next; delivery = at.delivery }) x.0 rest
  step-numbered (SetsWindow base width) old new n d more at x rest =
      rest n d (same-at old new n d (ap (λ (s : State T F). s.next_outgoing_id) x) (ap (λ (s : State T F). s.next_delivery_number) x) at)
  step-numbered (Accepts handle [] left) old new n d more at x rest =
      subst (λ (ls : List (Sent T F)). IsNumbered n d (ls ++ more)) (sym x.0) (rest n d (subst (λ (s : State T F). StandsAt s n d) (sym x.1) at))
  step-numbered (Accepts handle (u ∷ us) left) old new n d more at x rest = leaves-numbered left (with_batch old handle.0 (u ∷ us)) new n d more (record { next = at.next; delivery = at.delivery }) x.2 rest
  step-numbered (Refuses batch error) old new n d more at x rest = rest n d (subst (λ (s : State T F). StandsAt s n d) (sym x.1) at)
  step-numbered (Follows handle frame left) old new n d more at x rest =
      rest n d (same-at old new n d (ap (λ (s : State T F). s.next_outgoing_id) x.1) (ap (λ (s : State T F). s.next_delivery_number) x.1) at)
  step-numbered (Reserves count) old new n d more at x rest = rest n d (same-at old new n d (ap (λ (s : State T F). s.next_outgoing_id) x) (ap (λ (s : State T F). s.next_delivery_number) x) at)
  step-numbered (Settles number) old new n d more at x rest = rest n d (same-at old new n d (ap (λ (s : State T F). s.next_outgoing_id) x) (ap (λ (s : State T F). s.next_delivery_number) x) at)
  step-numbered (SettlesRange range) old new n d more at x rest =
      rest n d (same-at old new n d (ap (λ (s : State T F). s.next_outgoing_id) x) (ap (λ (s : State T F). s.next_delivery_number) x) at)
  step-numbered (Forgets handle) old new n d more at x rest =
      rest n d (same-at old new n d (ap (λ (s : State T F). s.next_outgoing_id) x.1) (ap (λ (s : State T F). s.next_delivery_number) x.1) at)
  step-numbered Fails old new n d more at x rest = rest n d (subst (λ (s : State T F). StandsAt s n d) (sym x) at)

  pub history-numbered : (steps : List (Act T F)) (start end : State T F) (n d : ℕ) → StandsAt start n d
      → History start steps end → IsNumbered n d (transfers_out steps)
  history-numbered [] start end n d at run = tt
  history-numbered (step ∷ steps) start end n d at run =
      step-numbered step start run.0 n d (transfers_out steps) at run.1 (λ m e at'. history-numbered steps run.0 end m e at' run.2)
