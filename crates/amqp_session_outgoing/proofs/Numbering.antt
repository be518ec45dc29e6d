-- The numbers of deliveries that begin in a batch.
use Rattle.std.proofs.Common.{◌≡◌, ℕ, ◌<◌, ◌≤◌, ◌+◌, ◌-◌, ◌^◌, suc, zero, List, [], ◌∷◌, ◌++◌, length, take, arith, Bool, true, false, refl, sym, ap, ◌∙◌, subst}
use Rattle.std.specs.Prelude.{slice_index_or, ◌==◌, if◌then◌else◌}
use Rattle.amqp_session_outgoing.specs.Frames.{firsts_of, first_count, HasTag, HaveTags}
use Rattle.amqp_session_outgoing.specs.Queues.{Queues, joined, followed, trailed, firsts_in, rejoined, TakesTurn, TakesTurnOf}
use Rattle.amqp_session_outgoing.specs.State.{State}
use Rattle.amqp_session_outgoing.specs.History.{IsFree, HasFreeNumbers}
use Rattle.amqp_session_outgoing.specs.declared.frames.Part.{Part}
use Rattle.amqp_session_outgoing.specs.declared.frames.Part.TheVariants.{Untagged, Settled, Unsettled, Continuation}
use Rattle.amqp_session_outgoing.specs.declared.frames.Outbound.{Outbound}

pub at_most_one : (part : Part) → first_count part ≤ 1
at_most_one Untagged = omega arith
at_most_one Settled = omega arith
at_most_one (Unsettled tag) = omega arith
at_most_one Continuation = omega arith

module _ {T F : Type 0} where
  pub tagged : (us : List (Outbound T F)) (i : ℕ) (d : Outbound T F) → i < length us → HaveTags us → HasTag (slice_index_or us i d).part
  tagged [] i d lt h = absurd (omega arith)
  tagged (u ∷ us) zero d lt h = h.0
  tagged (u ∷ us) (suc i) d lt h = tagged us i d (omega arith) h.1

  pub tags-more : (us : List (Outbound T F)) (i : ℕ) (d : Outbound T F) → i < length us → HaveTags (take i us) → HasTag (slice_index_or us i d).part → HaveTags (take (i + 1) us)
  tags-more [] i d lt h t = absurd (omega arith)
  tags-more (u ∷ us) zero d lt h t = (t, tt)
  tags-more (u ∷ us) (suc i) d lt h t =
      let e : suc i + 1 ≡ suc (i + 1) = omega arith in
      subst (λ (k : ℕ). HaveTags (take k (u ∷ us))) (sym e) (h.0, tags-more us i d (omega arith) h.1 t)

  pub firsts-more : (us : List (Outbound T F)) (i : ℕ) (d : Outbound T F) → i < length us → firsts_of (take (i + 1) us) ≡ firsts_of (take i us) + first_count (slice_index_or us i d).part
  firsts-more [] i d lt = absurd (omega arith)
  firsts-more (u ∷ us) zero d lt = omega arith
  firsts-more (u ∷ us) (suc i) d lt =
      let e : suc i + 1 ≡ suc (i + 1) = omega arith in
      let rest : firsts_of (take (i + 1) us) ≡ firsts_of (take i us) + first_count (slice_index_or us i d).part = firsts-more us i d (omega arith) in
      ap (λ (k : ℕ). firsts_of (take k (u ∷ us))) e ∙ omega arith

  pub firsts-append : (us vs : List (Outbound T F)) → firsts_of (us ++ vs) ≡ firsts_of us + firsts_of vs
  firsts-append [] vs = omega arith
  firsts-append (u ∷ us) vs = let rest : firsts_of (us ++ vs) ≡ firsts_of us + firsts_of vs = firsts-append us vs in omega arith

  firsts-case : (b : Bool) (left right : Queues T F) (n : ℕ) → firsts_in left ≡ n → firsts_in right ≡ n → firsts_in (if b then left else right) ≡ n
  firsts-case true left right n y z = y
  firsts-case false left right n y z = z

  pub firsts-joined : (handle : ℕ) (batch : List (Outbound T F)) (queues : Queues T F) → firsts_in (joined handle batch queues) ≡ firsts_in queues + firsts_of batch
  firsts-joined handle batch [] = omega arith
  firsts-joined handle batch (q ∷ queues) =
      let rest : firsts_in (joined handle batch queues) ≡ firsts_in queues + firsts_of batch = firsts-joined handle batch queues in
      firsts-case (q.0 == handle) _ _ _ (omega (arith, firsts-append q.1 batch)) (omega arith)

  firsts-trailed : (frame : F) (units : List (Outbound T F)) → firsts_of (trailed frame units) ≡ firsts_of units
  firsts-trailed frame [] = refl
  firsts-trailed frame (u ∷ []) = refl
  firsts-trailed frame (u ∷ v ∷ us) = let rest : firsts_of (trailed frame (v ∷ us)) ≡ firsts_of (v ∷ us) = firsts-trailed frame (v ∷ us) in omega arith

  pub firsts-followed : (handle : ℕ) (frame : F) (queues : Queues T F) → firsts_in (followed handle frame queues) ≡ firsts_in queues
  firsts-followed handle frame [] = refl
  firsts-followed handle frame (q ∷ queues) =
      let rest : firsts_in (followed handle frame queues) ≡ firsts_in queues = firsts-followed handle frame queues in
      firsts-case (q.0 == handle) _ _ _ (omega (arith, firsts-trailed frame q.1)) (omega arith)

  firsts-push : (queues : Queues T F) (q : ℕ × List (Outbound T F)) → firsts_in (queues ++ q ∷ []) ≡ firsts_in queues + firsts_of q.1
  firsts-push [] q = omega arith
  firsts-push (x ∷ queues) q = let rest : firsts_in (queues ++ q ∷ []) ≡ firsts_in queues + firsts_of q.1 = firsts-push queues q in omega arith

  firsts-rejoined : (handle : ℕ) (units : List (Outbound T F)) (others : Queues T F) → firsts_in (rejoined handle units others) ≡ firsts_in others + firsts_of units
  firsts-rejoined handle [] others = omega arith
  firsts-rejoined handle (u ∷ us) others = firsts-push others (handle, u ∷ us)

  firsts-turn-of : (first : ℕ) (units : List (Outbound T F)) (others : Queues T F) (handle : ℕ) (taken : Outbound T F) (new : Queues T F)
      → TakesTurnOf first units others handle taken new → firsts_in new + first_count taken.part ≡ firsts_of units + firsts_in others
  firsts-turn-of first [] others handle taken new t = absurd t
  firsts-turn-of first (u ∷ us) others handle taken new t =
      let e : firsts_in new ≡ firsts_in others + firsts_of us = ap (λ (qs : Queues T F). firsts_in qs) t.2 ∙ firsts-rejoined first us others in
      let same : first_count taken.part ≡ first_count u.part = ap (λ (v : Outbound T F). first_count v.part) t.1 in
      omega arith

  -- what begins a delivery in a turn no longer waits
  pub firsts-turn : (old : Queues T F) (handle : ℕ) (taken : Outbound T F) (new : Queues T F) → TakesTurn old handle taken new → firsts_in new + first_count taken.part ≡ firsts_in old
  firsts-turn [] handle taken new t = absurd t
  firsts-turn (q ∷ others) handle taken new t = firsts-turn-of q.0 q.1 others handle taken new t

  -- fewer than 2^32 deliveries have numbers
  pub few : (s : State T F) (batch : List (Outbound T F)) → HasFreeNumbers s batch → 0 < firsts_of batch → firsts_in s.queues + (firsts_of batch - 1) < 2 ^ 32
  few s batch free some = (free (firsts_of batch - 1) (omega arith)).0

  -- a number that isn't free
  pub taken : {P : Type 0} → (s : State T F) (batch : List (Outbound T F)) (k : ℕ) → firsts_in s.queues ≤ k → k < firsts_in s.queues + firsts_of batch
      → (IsFree s k → P) → HasFreeNumbers s batch → P
  taken s batch k low high used free =
      let e : firsts_in s.queues + (k - firsts_in s.queues) ≡ k = omega arith in
      used (subst (λ (n : ℕ). IsFree s n) e (free (k - firsts_in s.queues) (omega arith)))

pub ruleset rules = (firsts-joined, firsts-followed, firsts-turn)
