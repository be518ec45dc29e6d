-- What waits lies outside the window.
use Rattle.std.proofs.Common.{◌≡◌, ℕ, ◌+◌, ◌<◌, ◌≤◌, ◌%◌, ◌^◌, List, [], ◌∷◌, ◌++◌, length, sym, ◌∙◌, ap, subst, arith, length-append, Some, None, Bool, false, true≢false}
use Rattle.std.proofs.Math.Nat.{mod-add-mod}
use Rattle.amqp_session_outgoing.specs.Range.{ahead}
use Rattle.amqp_session_outgoing.specs.Queues.{Queues, held_in}
use Rattle.amqp_session_outgoing.specs.State.{State, Leaves, IsHeld, with_batch, with_window}
use Rattle.amqp_session_outgoing.specs.History.{Act, Step, History, TakesWindow, SetsWindow, Accepts, Refuses}
use Rattle.amqp_session_outgoing.specs.History.{Follows, Reserves, Settles, SettlesRange, Forgets, Fails}
use Rattle.amqp_session_outgoing.specs.Told.{left_in, transfers_out, base_in, width_in, latest_base, latest_width, lags_in, lags_after}
use Rattle.amqp_session_outgoing.specs.declared.frames.Sent.{Sent}
use Rattle.amqp_session_outgoing.proofs.Joining.{held-followed}
use Rattle.amqp_session_outgoing.proofs.Numbers.{Windowed, step-window}

module _ {T F : Type 0} where
  leaves-next : (left : List (Sent T F)) (old new : State T F) (n : ℕ) → Leaves old left new → old.next_outgoing_id ≡ n % 2 ^ 32 → new.next_outgoing_id ≡ (n + length left) % 2 ^ 32
  leaves-next [] old new n run at = let e : n ≡ n + 0 = omega arith in ap (λ (s : State T F). s.next_outgoing_id) run ∙ at ∙ ap (λ (k : ℕ). k % 2 ^ 32) e
  leaves-next (s ∷ left) old new n run at =
      let step : (run.0).next_outgoing_id ≡ (n + 1) % 2 ^ 32 = ap (λ (s : State T F). s.next_outgoing_id) run.1.becomes ∙ ap (λ (x : ℕ). (x + 1) % 2 ^ 32) at ∙ mod-add-mod n (2 ^ 32) 1 in
      let sum : (n + 1) + length left ≡ n + length (s ∷ left) = omega arith in
      leaves-next left run.0 new (n + 1) run.2 step ∙ ap (λ (k : ℕ). k % 2 ^ 32) sum

  same-next : (old new : State T F) (n : ℕ) → new.next_outgoing_id ≡ old.next_outgoing_id → old.next_outgoing_id ≡ n % 2 ^ 32 → new.next_outgoing_id ≡ (n + 0) % 2 ^ 32
  same-next old new n e at = let z : n ≡ n + 0 = omega arith in e ∙ at ∙ ap (λ (k : ℕ). k % 2 ^ 32) z

  step-next : (step : Act T F) (old new : State T F) (n : ℕ) → Step old step new → old.next_outgoing_id ≡ n % 2 ^ 32
      → new.next_outgoing_id ≡ (n + length (left_in step)) % 2 ^ 32
  step-next (TakesWindow base width left) old new n x at = leaves-next left (with_window old base width) new n x.0 at
  step-next (SetsWindow base width) old new n x at = same-next old new n (ap (λ (s : State T F). s.next_outgoing_id) x) at
  step-next (Accepts handle [] left) old new n x at =
      subst (λ (ls : List (Sent T F)). new.next_outgoing_id ≡ (n + length ls) % 2 ^ 32) (sym x.0) (same-next old new n (ap (λ (s : State T F). s.next_outgoing_id) x.1) at)
  step-next (Accepts handle (u ∷ us) left) old new n x at = leaves-next left (with_batch old handle.0 (u ∷ us)) new n x.2 at
  step-next (Refuses batch error) old new n x at = same-next old new n (ap (λ (s : State T F). s.next_outgoing_id) x.1) at
  step-next (Follows handle frame left) old new n x at = same-next old new n (ap (λ (s : State T F). s.next_outgoing_id) x.1) at
  step-next (Reserves count) old new n x at = same-next old new n (ap (λ (s : State T F). s.next_outgoing_id) x) at
  step-next (Settles number) old new n x at = same-next old new n (ap (λ (s : State T F). s.next_outgoing_id) x) at
  step-next (SettlesRange range) old new n x at = same-next old new n (ap (λ (s : State T F). s.next_outgoing_id) x) at
  step-next (Forgets handle) old new n x at = same-next old new n (ap (λ (s : State T F). s.next_outgoing_id) x.1) at
  step-next Fails old new n x at = same-next old new n (ap (λ (s : State T F). s.next_outgoing_id) x) at

  -- a state with as much waiting, the same window and the same next number
  held-same : (old new : State T F) → held_in new.queues ≡ held_in old.queues → new.next_outgoing_id ≡ old.next_outgoing_id
      → new.window_base ≡ old.window_base → new.window_width ≡ old.window_width → IsHeld old → IsHeld new
  held-same old new h n b w held = λ some.
      subst (λ (x : ℕ). x ≤ ahead new.next_outgoing_id new.window_base) (sym w)
      (subst (λ (x : ℕ). old.window_width ≤ ahead x new.window_base) (sym n)
      (subst (λ (x : ℕ). old.window_width ≤ ahead old.next_outgoing_id x) (sym b) (held (subst (λ (x : ℕ). 0 < x) h some))))

  -- what waits lies outside the window, but where a window was set alone
  abbrev pub HeldUnless : Bool → State T F → Type 0
  HeldUnless lags s = lags ≡ false → IsHeld s

  step-held : (step : Act T F) (old new : State T F) (lags : Bool) → Step old step new → HeldUnless lags old
      → HeldUnless (lags_in lags step) new
  step-held (TakesWindow base width left) old new lags x held = λ caught. x.1
  step-held (SetsWindow base width) old new lags x held = λ caught. absurd (true≢false caught)
  step-held (Accepts handle [] left) old new lags x held = λ caught. subst (λ (s : State T F). IsHeld s) (sym x.1) (held caught)
  step-held (Accepts handle (u ∷ us) left) old new lags x held = λ caught. x.3
  step-held (Refuses batch error) old new lags x held = λ caught. subst (λ (s : State T F). IsHeld s) (sym x.1) (held caught)
  step-held (Follows handle frame None) old new lags x held = λ caught.
      held-same old new (ap (λ (qs : Queues T F). held_in qs) x.0.1 ∙ held-followed handle.0 frame old.queues)
      (ap (λ (s : State T F). s.next_outgoing_id) x.1) (ap (λ (s : State T F). s.window_base) x.1) (ap (λ (s : State T F). s.window_width) x.1) (held caught)
  step-held (Follows handle frame (Some left)) old new lags x held = λ caught.
      held-same old new (ap (λ (qs : Queues T F). held_in qs) x.0.2)
      (ap (λ (s : State T F). s.next_outgoing_id) x.1) (ap (λ (s : State T F). s.window_base) x.1) (ap (λ (s : State T F). s.window_width) x.1) (held caught)
  step-held (Reserves count) old new lags x held = λ caught. subst (λ (s : State T F). IsHeld s) (sym x) (held caught)
  step-held (Settles number) old new lags x held = λ caught. subst (λ (s : State T F). IsHeld s) (sym x) (held caught)
  step-held (SettlesRange range) old new lags x held = λ caught. subst (λ (s : State T F). IsHeld s) (sym x) (held caught)
  step-held (Forgets handle) old new lags x held = λ caught.
      held-same old new (ap (λ (s : State T F). held_in s.queues) x.1)
      (ap (λ (s : State T F). s.next_outgoing_id) x.1) (ap (λ (s : State T F). s.window_base) x.1) (ap (λ (s : State T F). s.window_width) x.1) (held caught)
  step-held Fails old new lags x held = λ caught. subst (λ (s : State T F). IsHeld s) (sym x) (held caught)

  -- where a session stands: its next number and its window
  pub record At (s : State T F) (n b w : ℕ) : Type 0 where
    pub next : s.next_outgoing_id ≡ n % 2 ^ 32
    pub base : s.window_base ≡ b
    pub width : s.window_width ≡ w

  pub outside : (steps : List (Act T F)) (start end : State T F) (n b w : ℕ) (lags : Bool) → At start n b w
      → HeldUnless lags start
      → History start steps end → lags_after lags steps ≡ false → 0 < held_in end.queues → latest_width w steps ≤ ahead ((n + length (transfers_out steps)) % 2 ^ 32) (latest_base b steps)
  outside [] start end n b w lags at held run caught some =
      let z : n ≡ n + 0 = omega arith in
      let here : start.window_width ≤ ahead start.next_outgoing_id start.window_base = held caught (subst (λ (s : State T F). 0 < held_in s.queues) run some) in
      subst (λ (x : ℕ). x ≤ ahead ((n + 0) % 2 ^ 32) b) at.width (subst (λ (x : ℕ). start.window_width ≤ ahead ((n + 0) % 2 ^ 32) x) at.base
      (subst (λ (x : ℕ). start.window_width ≤ ahead x start.window_base) (at.next ∙ ap (λ (k : ℕ). k % 2 ^ 32) z) here))
  outside (step ∷ steps) start end n b w lags at held run caught some =
      let win : Windowed start step run.0 = step-window step start run.0 run.1 in
      let sum : (n + length (left_in step)) + length (transfers_out steps) ≡ n + length (left_in step ++ transfers_out steps) = omega (arith, length-append (left_in step) (transfers_out steps)) in
      let then_at : At run.0 (n + length (left_in step)) (base_in b step) (width_in w step) = record {
        next = step-next step start run.0 n run.1 at.next;
        base = win.base ∙ ap (λ (x : ℕ). base_in x step) at.base;
        width = win.width ∙ ap (λ (x : ℕ). width_in x step) at.width;
      } in
      subst (λ (k : ℕ). latest_width (width_in w step) steps ≤ ahead (k % 2 ^ 32) (latest_base (base_in b step) steps)) sum
      (outside steps run.0 end (n + length (left_in step)) (base_in b step) (width_in w step) (lags_in lags step) then_at (step-held step start run.0 lags run.1 held) run.2 caught some)
