-- Answers of bytes are pulled, one after the other.
use Rattle.std.proofs.Common.{◌≡◌, ℕ, ◌+◌, suc, List, [], ◌∷◌, ◌++◌, length, refl, sym, ◌∙◌, ap, subst, append_assoc, arith, drop, Some}
use Rattle.std.proofs.lemmas.List.{append-nil}
use Rattle.amqp_session_frames.specs.Cutting.{joined}
use Rattle.amqp_endpoint_model.specs.State.{State, Waiting, text_of}
use Rattle.amqp_endpoint_model.specs.Step.{Pulls}
use Rattle.amqp_endpoint_core.specs.Queue.{IsFirst}
use Rattle.amqp_endpoint_core.specs.WorldStep.{Drains}
use Rattle.amqp_endpoint_core.specs.Pulling.{PullsOne}

pub joined-more : (xs : List (List ℕ)) (bytes : List ℕ) → joined (xs ++ bytes ∷ []) ≡ joined xs ++ bytes
joined-more [] bytes = append-nil bytes
joined-more (x ∷ xs) bytes = ap (λ r. x ++ r) (joined-more xs bytes) ∙ sym (append_assoc x (joined xs) bytes)

module _ {S : Type 0} where
  -- what was seen first is pulled
  pub pulls_first : (old : State S) (first : Waiting) (bytes : List ℕ) (new : State S)
      → IsFirst old.queue first → bytes ≡ text_of first → new ≡ record old { queue = drop 1 old.queue }
      → Pulls old (Some bytes) new
  pulls_first old first bytes new f is after =
      (first, f.others, f.is, is, after ∙ ap (λ q. record old { queue = drop 1 q }) f.is)

  -- one more
  pub Drains-more : (old : State S) (pulled : List (List ℕ)) (mid : State S) (bytes : List ℕ) (new : State S)
      → Drains old pulled mid → Pulls mid (Some bytes) new → Drains old (pulled ++ bytes ∷ []) new
  Drains-more old [] mid bytes new same pulls =
      (new, (let P : State S → Type 0 = λ s. Pulls s (Some bytes) new in subst P same pulls), refl)
  Drains-more old (first ∷ others) mid bytes new (next, one, rest) pulls =
      (next, one, Drains-more next others mid bytes new rest pulls)

  -- the same where the list is known by an equation
  pub Drains-next : (old : State S) (stream : List ℕ) (pulled : List (List ℕ)) (mid : State S) (before : List ℕ)
      (new : State S) (after : List ℕ) (more : List (List ℕ)) → Drains old pulled mid → before ≡ stream ++ joined pulled
      → PullsOne mid before pulled new after more → Drains old more new × (after ≡ stream ++ joined more)
  Drains-next old stream pulled mid before new after more drains is p =
      let P : List (List ℕ) → Type 0 = λ xs. Drains old xs new in
      let Q : List (List ℕ) → Type 0 = λ xs. after ≡ stream ++ joined xs in (
        subst P (sym p.told) (Drains-more old pulled mid p.bytes new drains p.end),
        subst Q (sym p.told)
            (p.on_its_way ∙ ap (λ xs. xs ++ p.bytes) is ∙ append_assoc stream (joined pulled) p.bytes
            ∙ ap (λ xs. stream ++ xs) (sym (joined-more pulled p.bytes))),
      )

  -- a pull leaves one less
  pub Pulls-less : (old : State S) (bytes : List ℕ) (new : State S) → Pulls old (Some bytes) new
      → length old.queue ≡ suc (length new.queue)
  Pulls-less old bytes new (first, others, was, is, after) = ap length was ∙ sym (ap (λ s. suc (length s.queue)) after)

  -- what was queued is what was pulled and what is left
  pub Drains-length : (old : State S) (pulled : List (List ℕ)) (new : State S) → Drains old pulled new
      → length old.queue ≡ length pulled + length new.queue
  Drains-length old [] new same = omega (arith, ap (λ s. length s.queue) same)
  Drains-length old (bytes ∷ others) new (mid, one, rest) =
      omega (arith, Pulls-less old bytes mid one, Drains-length mid others new rest)
