-- Runs of transfers that leave, and turns.
use Rattle.std.proofs.Common.{◌≡◌, ℕ, ◌+◌, ◌%◌, ◌^◌, arith, List, [], ◌∷◌, ◌++◌, length, refl, ◌∙◌, ap, append_assoc, subst}
use Rattle.amqp_session_outgoing.specs.Queues.{Queues, held_in, rejoined, TakesTurn, TakesTurnOf}
use Rattle.amqp_session_outgoing.specs.declared.frames.Outbound.{Outbound}
use Rattle.amqp_session_outgoing.specs.State.{State, Sends, Leaves, Leaving, registered, after}
use Rattle.amqp_session_outgoing.specs.Frames.{is_first}
use Rattle.amqp_session_outgoing.specs.Table.{Table}
use Rattle.amqp_session_types.specs.declared.handles.OutputHandle.{OutputHandle}
use Rattle.std.specs.Prelude.{if◌then◌else◌}
use Rattle.amqp_session_outgoing.specs.declared.frames.Sent.{Sent}

module _ {T F : Type 0} where
  held-push : (queues : Queues T F) (q : ℕ × List (Outbound T F)) → held_in (queues ++ q ∷ []) ≡ held_in queues + length q.1
  held-push [] q = omega arith
  held-push (x ∷ queues) q = let rest : held_in (queues ++ q ∷ []) ≡ held_in queues + length q.1 = held-push queues q in omega arith

  held-rejoined : (handle : ℕ) (units : List (Outbound T F)) (others : Queues T F) → held_in (rejoined handle units others) ≡ held_in others + length units
  held-rejoined handle [] others = omega arith
  held-rejoined handle (u ∷ us) others = held-push others (handle, u ∷ us)

  held-turn-of : (first : ℕ) (units : List (Outbound T F)) (others : Queues T F) (handle : ℕ) (taken : Outbound T F) (new : Queues T F)
      → TakesTurnOf first units others handle taken new → held_in new + 1 ≡ length units + held_in others
  held-turn-of first [] others handle taken new t = absurd t
  held-turn-of first (u ∷ us) others handle taken new t =
      let e : held_in new ≡ held_in others + length us = ap (λ (qs : Queues T F). held_in qs) t.2 ∙ held-rejoined first us others in
      omega arith

  -- one less waits
  pub held-turn : (old : Queues T F) (handle : ℕ) (taken : Outbound T F) (new : Queues T F) → TakesTurn old handle taken new → held_in new + 1 ≡ held_in old
  held-turn [] handle taken new t = absurd t
  held-turn (q ∷ others) handle taken new t = held-turn-of q.0 q.1 others handle taken new t

  -- a run goes on by one
  pub Leaves-push : (left : List (Sent T F)) (old mid new : State T F) (sent : Sent T F) → Leaves old left mid → Sends mid sent new → Leaves old (left ++ sent ∷ []) new
  Leaves-push [] old mid new sent run s = (new, subst (λ (x : State T F). Sends x sent new) run s, refl)
  Leaves-push (x ∷ left) old mid new sent run s = (run.0, run.1, Leaves-push left run.0 mid new sent run.2 s)

  -- what left goes on by one
  pub Leaving-push : (old mid new : State T F) (out more : List (Sent T F)) (sent : Sent T F) → Leaving old out mid more → Sends mid sent new → Leaving old out new (more ++ sent ∷ [])
  Leaving-push old mid new out more sent h s =
      record {
        left = h.left ++ sent ∷ [];
        added = ap (λ (xs : List (Sent T F)). xs ++ sent ∷ []) h.added ∙ append_assoc out h.left (sent ∷ []);
        run = Leaves-push h.left old mid new sent h.run s;
      }

  -- how a transfer leaves
  pub after-is : (s : State T F) (handle : OutputHandle) (u : Outbound T F) (queues : Queues T F) (number : ℕ) (table : Table) (room : ℕ)
      → number ≡ (if is_first u.part then (s.next_delivery_number + 1) % 2 ^ 32 else s.next_delivery_number) → table ≡ registered s.unsettled s.next_delivery_number handle u.part → room ≡ s.room
      → record s { next_outgoing_id = (s.next_outgoing_id + 1) % 2 ^ 32; next_delivery_number = number; queues = queues; unsettled = table; room = room } ≡ after s handle u queues
  after-is s handle u queues number table room a b c = rw (a, b, c) refl
