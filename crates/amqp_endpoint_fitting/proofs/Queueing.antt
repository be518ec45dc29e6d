-- What waits goes on fitting by each step of the sending side, and what leaves it fits.
use Rattle.std.proofs.Common.{◌≡◌, inl, inr, ℕ, List, [], ◌∷◌, ◌++◌, sym, ap, subst}
use Rattle.std.specs.Prelude.{All, Option, Some, None}
use Rattle.std.proofs.lemmas.List.Elements.{All-nil, All-cons, All-head, All-tail, All-append, All-push}
use Rattle.amqp_session_outgoing.specs.declared.frames.Outbound.{Outbound}
use Rattle.amqp_session_outgoing.specs.declared.frames.Sent.{Sent}
use Rattle.amqp_session_outgoing.specs.History.{Act, TakesWindow, SetsWindow, Accepts, Refuses, Follows, Reserves}
use Rattle.amqp_session_outgoing.specs.History.{Settles, SettlesRange, Forgets, Fails, Step, History}
use Rattle.amqp_session_outgoing.specs.Queues.{Queues, FollowsIn, TakesTurn, TakesTurnOf, followed, joined, rejoined, trailed}
use Rattle.amqp_session_outgoing.specs.State.{State, Leaves, Sends, with_batch, with_window}
use Rattle.amqp_session_outgoing.specs.Told.{left_in}
use Rattle.amqp_session_outgoing.proofs.Order.{if_same, if_other, same_or_other}
use Rattle.amqp_session_core.specs.declared.batch.BehindFrame.{BehindFrame}
use Rattle.amqp_session_core.specs.declared.batch.TransferFrame.{TransferFrame}
use Rattle.amqp_endpoint_fitting.specs.Fits.{BehindFits, QueueFits, TransferFits, UnitFits}

abbrev pub Waiting : Type 0
Waiting = Outbound TransferFrame BehindFrame

abbrev pub Leaving : Type 0
Leaving = Sent TransferFrame BehindFrame

abbrev pub Lines : Type 0
Lines = Queues TransferFrame BehindFrame

abbrev pub Side : Type 0
Side = State TransferFrame BehindFrame

abbrev pub SideAct : Type 0
SideAct = Act TransferFrame BehindFrame

-- a transfer that left, and what left right behind it
pub record SentFits (channel limit : ℕ) (sent : Leaving) : Type 0 where
  pub transfer : TransferFits channel limit (sent.handle).0 sent.transfer
  pub behind : All (BehindFits channel limit) sent.behind

abbrev pub AllFit : ℕ → ℕ → Lines → Type 0
AllFit channel limit queues = All (QueueFits channel limit) queues

-- what a step of the sending side brings
abbrev pub BringsFit : ℕ → ℕ → SideAct → Type 0
BringsFit channel limit (Accepts handle batch left) = All (UnitFits channel limit handle.0) batch
BringsFit channel limit (Follows handle frame left) = BehindFits channel limit frame
BringsFit channel limit step = Unit {0}

module _ (channel limit : ℕ) where
  abbrev UnitsFit : ℕ → List Waiting → Type 0
  UnitsFit handle units = All (UnitFits channel limit handle) units

  abbrev LinesFit : Lines → Type 0
  LinesFit queues = All (QueueFits channel limit) queues

  cons-fit : (handle : ℕ) (units : List Waiting) (others : Lines) → UnitsFit handle units → LinesFit others
      → LinesFit ((handle, units) ∷ others)
  cons-fit handle units others u h = All-cons (QueueFits channel limit) (handle, units) others u h

  -- a batch waits
  pub joined-fit : (handle : ℕ) (batch : List Waiting) (queues : Lines) → UnitsFit handle batch → LinesFit queues
      → LinesFit (joined handle batch queues)
  joined-fit handle batch [] b h = cons-fit handle batch [] b h
  joined-fit handle batch (q ∷ queues) b h =
      let first : UnitsFit q.0 q.1 = All-head (QueueFits channel limit) q queues h in
      let later : LinesFit queues = All-tail (QueueFits channel limit) q queues h in
      elim (same_or_other q.0 handle) [
        | inl e ↦
            let mine : UnitsFit handle q.1 = subst (λ (n : ℕ). UnitsFit n q.1) e first in
            subst LinesFit (sym (if_same q.0 handle _ _ e))
            (cons-fit handle (q.1 ++ batch) queues (All-append (UnitFits channel limit handle) q.1 batch mine b) later)
        | inr n ↦
            subst LinesFit (sym (if_other q.0 handle _ _ n))
            (All-cons (QueueFits channel limit) q (joined handle batch queues) first
            (joined-fit handle batch queues b later))
      ]

  -- a frame goes behind the last of these
  trailed-fit : (handle : ℕ) (frame : BehindFrame) (units : List Waiting) → BehindFits channel limit frame
      → UnitsFit handle units → UnitsFit handle (trailed frame units)
  trailed-fit handle frame [] f h = h
  trailed-fit handle frame (u ∷ []) f h =
      let last : UnitFits channel limit handle u = All-head (UnitFits channel limit handle) u [] h in
      All-cons (UnitFits channel limit handle) (record u { behind = u.behind ++ frame ∷ [] }) []
      (record { transfer = last.transfer; behind = All-push (BehindFits channel limit) u.behind frame last.behind f })
      (All-nil (UnitFits channel limit handle))
  trailed-fit handle frame (u ∷ v ∷ us) f h =
      All-cons (UnitFits channel limit handle) u (trailed frame (v ∷ us))
      (All-head (UnitFits channel limit handle) u (v ∷ us) h)
      (trailed-fit handle frame (v ∷ us) f (All-tail (UnitFits channel limit handle) u (v ∷ us) h))

  pub followed-fit : (handle : ℕ) (frame : BehindFrame) (queues : Lines) → BehindFits channel limit frame
      → LinesFit queues → LinesFit (followed handle frame queues)
  followed-fit handle frame [] f h = h
  followed-fit handle frame (q ∷ queues) f h =
      let first : UnitsFit q.0 q.1 = All-head (QueueFits channel limit) q queues h in
      let later : LinesFit queues = All-tail (QueueFits channel limit) q queues h in
      elim (same_or_other q.0 handle) [
        | inl e ↦
            subst LinesFit (sym (if_same q.0 handle _ _ e))
            (cons-fit q.0 (trailed frame q.1) queues (trailed-fit q.0 frame q.1 f first) later)
        | inr n ↦
            subst LinesFit (sym (if_other q.0 handle _ _ n))
            (All-cons (QueueFits channel limit) q (followed handle frame queues) first
            (followed-fit handle frame queues f later))
      ]

  follows-fit : (handle : ℕ) (frame : BehindFrame) (left : Option BehindFrame) (old new : Lines)
      → BehindFits channel limit frame → FollowsIn handle frame left old new → LinesFit old → LinesFit new
  follows-fit handle frame None old new f t h = subst LinesFit (sym t.1) (followed-fit handle frame old f h)
  follows-fit handle frame (Some left) old new f t h = subst LinesFit (sym t.2) h

  -- the first of a link leaves
  rejoined-fit : (handle : ℕ) (units : List Waiting) (others : Lines) → UnitsFit handle units → LinesFit others
      → LinesFit (rejoined handle units others)
  rejoined-fit handle [] others u h = h
  rejoined-fit handle (u ∷ us) others all h = All-push (QueueFits channel limit) others (handle, u ∷ us) h all

  -- a transfer no longer waits
  pub record Turned (handle : ℕ) (taken : Waiting) (new : Lines) : Type 0 where
    pub leaves : UnitFits channel limit handle taken
    pub wait : LinesFit new

  turn-of : (first : ℕ) (units : List Waiting) (others : Lines) (handle : ℕ) (taken : Waiting) (new : Lines)
      → TakesTurnOf first units others handle taken new → UnitsFit first units → LinesFit others
      → Turned handle taken new
  turn-of first [] others handle taken new t all h = absurd t
  turn-of first (u ∷ us) others handle taken new t all h =
      let here : UnitFits channel limit first u = All-head (UnitFits channel limit first) u us all in
      let more : UnitsFit first us = All-tail (UnitFits channel limit first) u us all in
      record {
        leaves =
            subst (λ (v : Waiting). UnitFits channel limit handle v) (sym t.1)
            (subst (λ (n : ℕ). UnitFits channel limit n u) (sym t.0) here);
        wait = subst LinesFit (sym t.2) (rejoined-fit first us others more h);
      }

  turned : (old : Lines) (handle : ℕ) (taken : Waiting) (new : Lines) → TakesTurn old handle taken new → LinesFit old
      → Turned handle taken new
  turned [] handle taken new t h = absurd t
  turned (q ∷ others) handle taken new t h =
      turn-of q.0 q.1 others handle taken new t (All-head (QueueFits channel limit) q others h)
      (All-tail (QueueFits channel limit) q others h)

  -- transfers leave, and others wait
  pub record Left (left : List Leaving) (new : Side) : Type 0 where
    pub fit : All (SentFits channel limit) left
    pub wait : LinesFit new.queues

  none-left : (new : Side) → LinesFit new.queues → Left [] new
  none-left new h = record { fit = All-nil (SentFits channel limit); wait = h }

  sends-fit : (old new : Side) (sent : Leaving) → (s : Sends old sent new)
      → UnitFits channel limit (sent.handle).0 s.taken → SentFits channel limit sent
  sends-fit old new sent s unit =
      record {
        transfer =
            subst (λ (t : TransferFrame). TransferFits channel limit (sent.handle).0 t)
            (sym (ap (λ (x : Leaving). x.transfer) s.says)) unit.transfer;
        behind =
            subst (λ (b : List BehindFrame). All (BehindFits channel limit) b)
            (sym (ap (λ (x : Leaving). x.behind) s.says)) unit.behind;
      }

  pub leaves-fit : (left : List Leaving) (old new : Side) → Leaves old left new → LinesFit old.queues → Left left new
  leaves-fit [] old new run h = none-left new (subst LinesFit (sym (ap (λ (s : Side). s.queues) run)) h)
  leaves-fit (sent ∷ left) old new run h =
      let turn : Turned (sent.handle).0 (run.1).taken (run.0).queues =
      turned old.queues (sent.handle).0 (run.1).taken (run.0).queues (run.1).turn h in
      let rest : Left left new = leaves-fit left run.0 new run.2 turn.wait in
      record {
        fit =
            All-cons (SentFits channel limit) sent left (sends-fit old run.0 sent run.1 turn.leaves) rest.fit;
        wait = rest.wait;
      }

  same-lines : (old new : Side) → new.queues ≡ old.queues → LinesFit old.queues → Left [] new
  same-lines old new same h = none-left new (subst LinesFit (sym same) h)

  accepts-fit : (handle : ℕ) (batch : List Waiting) (left : List Leaving) (old new : Side) → UnitsFit handle batch
      → Leaves (with_batch old handle batch) left new → LinesFit old.queues → Left left new
  accepts-fit handle batch left old new b run h =
      leaves-fit left (with_batch old handle batch) new run (joined-fit handle batch old.queues b h)

  -- a step of the sending side
  pub step-fits : (step : SideAct) (old new : Side) → Step old step new → BringsFit channel limit step
      → LinesFit old.queues → Left (left_in step) new
  step-fits (TakesWindow base width left) old new s b h = leaves-fit left (with_window old base width) new s.0 h
  step-fits (SetsWindow base width) old new s b h = same-lines old new (ap (λ (x : Side). x.queues) s) h
  step-fits (Accepts handle [] left) old new s b h =
      subst (λ (l : List Leaving). Left l new) (sym s.0) (same-lines old new (ap (λ (x : Side). x.queues) s.1) h)
  step-fits (Accepts handle (u ∷ us) left) old new s b h = accepts-fit handle.0 (u ∷ us) left old new b s.2 h
  step-fits (Refuses batch error) old new s b h = same-lines old new (ap (λ (x : Side). x.queues) s.1) h
  step-fits (Follows handle frame left) old new s b h =
      none-left new (follows-fit handle.0 frame left old.queues new.queues b s.0 h)
  step-fits (Reserves count) old new s b h = same-lines old new (ap (λ (x : Side). x.queues) s) h
  step-fits (Settles number) old new s b h = same-lines old new (ap (λ (x : Side). x.queues) s) h
  step-fits (SettlesRange range) old new s b h = same-lines old new (ap (λ (x : Side). x.queues) s) h
  step-fits (Forgets handle) old new s b h = same-lines old new (ap (λ (x : Side). x.queues) s.1) h
  step-fits Fails old new s b h = same-lines old new (ap (λ (x : Side). x.queues) s) h

  abbrev pub AllBringFit : List SideAct → Type 0
  AllBringFit [] = Unit {0}
  AllBringFit (step ∷ steps) = BringsFit channel limit step × AllBringFit steps

  -- steps of it
  pub history-fits : (steps : List SideAct) (start end : Side) → History start steps end → AllBringFit steps
      → LinesFit start.queues → LinesFit end.queues
  history-fits [] start end run b h = subst LinesFit (sym (ap (λ (s : Side). s.queues) run)) h
  history-fits (step ∷ steps) start end run b h =
      history-fits steps run.0 end run.2 b.1 (step-fits step start run.0 run.1 b.0 h).wait
