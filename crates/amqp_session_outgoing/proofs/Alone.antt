-- A transfer that is all of its delivery passes as a batch of it alone does.
use Rattle.std.proofs.Common.{◌≡◌, ℕ, ◌+◌, ◌-◌, ◌<◌, ◌≤◌, ◌%◌, ◌^◌, arith, List, [], ◌∷◌, refl, sym, ap, subst}
use Rattle.std.proofs.Common.{Option, Some, None}
use Rattle.amqp_session_types.specs.declared.handles.OutputHandle.{OutputHandle}
use Rattle.amqp_session_outgoing.specs.Frames.{HasTag, first_count}
use Rattle.amqp_session_outgoing.specs.Queues.{Queues, TakesTurn, firsts_in, held_in, joined}
use Rattle.amqp_session_outgoing.specs.State.{State, InWindow, IsHeld, Sends, sent_as, window_left, with_batch}
use Rattle.amqp_session_outgoing.specs.History.{IsFree, Step, Accepts}
use Rattle.amqp_session_outgoing.specs.PassesAtOnce.{Passes, PassesAtOnce, alone, part_by, passed}
use Rattle.amqp_session_outgoing.specs.declared.frames.Outbound.{Outbound}

has-tag : (tag : Option (List ℕ)) → HasTag (part_by tag)
has-tag None = tt
has-tag (Some tag) = tt

begins-one : (tag : Option (List ℕ)) → first_count (part_by tag) ≡ 1
begins-one None = refl
begins-one (Some tag) = refl

module _ {T F : Type 0} where
  -- the link has the turn alone, and leaves it
  takes-turn : (queues : Queues T F) (handle : ℕ) (u : Outbound T F) → queues ≡ []
      → TakesTurn (joined handle (u ∷ []) queues) handle u queues
  takes-turn queues handle u e =
      subst (λ (qs : Queues T F). TakesTurn (joined handle (u ∷ []) qs) handle u qs) (sym e) (refl, refl, refl)

  not-held : (s : State T F) → s.queues ≡ [] → IsHeld s
  not-held s e some =
      absurd (subst (λ (qs : Queues T F). (0 < held_in qs) → ⊥) (sym e) (λ none. absurd (omega (arith, none))) some)

  leaves : (s : State T F) (handle : OutputHandle) (tag : Option (List ℕ)) (transfer : T) → s.queues ≡ []
      → InWindow s
      → Sends (with_batch s handle.0 (alone tag transfer ∷ [])) (sent_as s handle (alone tag transfer))
      (passed s handle tag)
  leaves s handle None transfer empty window =
      record {
        allowed = window;
        taken = alone None transfer;
        turn = takes-turn s.queues handle.0 (alone None transfer) empty;
        says = refl;
        becomes = refl;
      }
  leaves s handle (Some tag) transfer empty window =
      record {
        allowed = window;
        taken = alone (Some tag) transfer;
        turn = takes-turn s.queues handle.0 (alone (Some tag) transfer) empty;
        says = refl;
        becomes = refl;
      }

  free-one : (s : State T F) (tag : Option (List ℕ)) → s.queues ≡ [] → IsFree s 0 → (i : ℕ)
      → i < first_count (part_by tag) + 0 → IsFree s (firsts_in s.queues + i)
  free-one s tag empty free i less =
      let none : firsts_in s.queues ≡ 0 = ap (λ (qs : Queues T F). firsts_in qs) empty in
      subst (λ (n : ℕ). IsFree s n) (omega (arith, less, none, begins-one tag)) free

  step-alone : (s : State T F) (handle : OutputHandle) (tag : Option (List ℕ)) (transfer : T) → s.queues ≡ []
      → InWindow s → IsFree s 0
      → Step s (Accepts handle (alone tag transfer ∷ []) (sent_as s handle (alone tag transfer) ∷ []))
      (passed s handle tag)
  step-alone s handle tag transfer empty window free = (
    (has-tag tag, tt),
    free-one s tag empty free,
    (passed s handle tag, leaves s handle tag transfer empty window, refl),
    not-held (passed s handle tag) empty,
  )

  in-window : (s : State T F) → 1 ≤ window_left s → InWindow s
  in-window s fits = omega (arith, fits)

  -- it passes
  pub passes_at_once : (old new : State T F) (handle : OutputHandle) (tag : Option (List ℕ)) (number : ℕ)
      → old.queues ≡ [] → 1 ≤ window_left old → IsFree old 0 → number ≡ old.next_delivery_number
      → new ≡ passed old handle tag → PassesAtOnce old handle tag (Some number) new
  passes_at_once old new handle tag number empty fits free next becomes =
      record {
        next = next;
        becomes = becomes;
        stepped = λ transfer.
            subst
            (λ (s : State T F).
            Step old (Accepts handle (alone tag transfer ∷ []) (sent_as old handle (alone tag transfer) ∷ [])) s)
            (sym becomes) (step-alone old handle tag transfer empty (in-window old fits) free);
      }
