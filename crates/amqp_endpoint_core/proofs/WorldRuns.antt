-- Runs of a world go on.
use Rattle.std.proofs.Common.{◌≡◌, ◌<◌, ◌≤◌, ℕ, ◌+◌, List, [], ◌∷◌, ◌++◌, length, refl, sym, ◌∙◌, ap, subst, take, get_or, map}
use Rattle.std.proofs.lemmas.List.{take_more, take_all, map-append}
use Rattle.amqp_endpoint_model.specs.Relay.{Relations}
use Rattle.amqp_endpoint_core.specs.declared.step.Step.{Step}
use Rattle.amqp_endpoint_core.specs.declared.reply.WorldReply.{WorldReply}
use Rattle.amqp_endpoint_core.specs.WorldState.{WorldState}
use Rattle.amqp_endpoint_core.specs.WorldSaid.{WorldTold, did_said, world_told}
use Rattle.amqp_endpoint_core.specs.WorldStep.{WorldStep, WorldRun}

module _ {S : Type 0} (does : Relations S) where
  -- one more step
  pub WorldRun-more : (old : WorldState S) (steps : List Step) (ts : List WorldTold) (mid : WorldState S) (step : Step)
      (t : WorldTold) (new : WorldState S) → WorldRun does old steps ts mid → WorldStep does mid step t.did new
      → t.queued_a ≡ length new.a.queue → t.queued_b ≡ length new.b.queue
      → WorldRun does old (steps ++ step ∷ []) (ts ++ t ∷ []) new
  WorldRun-more old [] [] mid step t new same s qa qb =
      (new, (let P : WorldState S → Type 0 = λ w. WorldStep does w step t.did new in subst P same s), qa, qb, refl)
  WorldRun-more old [] (u ∷ ts) mid step t new run s qa qb = absurd run
  WorldRun-more old (x ∷ steps) [] mid step t new run s qa qb = absurd run
  WorldRun-more old (x ∷ steps) (u ∷ ts) mid step t new (next, one, a, b, rest) s qa qb =
      (next, one, a, b, WorldRun-more next steps ts mid step t new rest s qa qb)

  -- the next step of a list
  pub WorldRun-next : (start : WorldState S) (steps : List Step) (i : ℕ) (step : Step) (before after : List WorldReply)
      (reply : WorldReply) (mid new : WorldState S) → i < length steps → step ≡ get_or steps i step
      → after ≡ before ++ reply ∷ [] → WorldRun does start (take i steps) (map world_told before) mid
      → WorldStep does mid step (did_said reply.did) new → reply.queued_a ≡ length new.a.queue
      → reply.queued_b ≡ length new.b.queue → WorldRun does start (take (i + 1) steps) (map world_told after) new
  WorldRun-next start steps i step before after reply mid new lt is more run s qa qb =
      let e : take (i + 1) steps ≡ take i steps ++ step ∷ [] =
      take_more steps i step lt ∙ ap (λ (x : Step). take i steps ++ x ∷ []) (sym is) in
      let P : List Step → Type 0 = λ xs. WorldRun does start xs (map world_told after) new in
      let Q : List WorldTold → Type 0 = λ ts. WorldRun does start (take i steps ++ step ∷ []) ts new in
      subst P (sym e)
      (subst Q (sym (ap (map world_told) more ∙ map-append world_told before (reply ∷ [])))
      (WorldRun-more start (take i steps) (map world_told before) mid step (world_told reply) new run s qa qb))

  -- all steps of a list
  pub WorldRun-whole : (start : WorldState S) (steps : List Step) (i : ℕ) (ts : List WorldTold) (end : WorldState S)
      → length steps ≤ i → WorldRun does start (take i steps) ts end → WorldRun does start steps ts end
  WorldRun-whole start steps i ts end all run =
      let Q : List Step → Type 0 = λ xs. WorldRun does start xs ts end in subst Q (take_all i steps all) run
