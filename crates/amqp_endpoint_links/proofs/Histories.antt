-- The history of a link inside that of the link with its number.
use Rattle.std.proofs.Common.{◌≡◌, List, [], ◌∷◌, sym, ap, ◌∙◌}
use Rattle.amqp_session_core.specs.Relay.{LinkHistory, LinkAct, LinkStep, OwnerKeeps, Relations, StepKeeps, Attaches}
use Rattle.amqp_session_core.specs.Relay.{Flows, Transfers, Disposes, Detaches, SendsBatch, SendsFrame}
use Rattle.amqp_session_core.specs.Relay.{SendsDisposition, Changes}
use Rattle.amqp_endpoint_links.specs.declared.numbered.Numbered.{Numbered}
use Rattle.amqp_endpoint_links.specs.Numbering.{keeping, numbered, without_number, without_numbers}

module _ {R A T D : Type 0} (gives : Relations R A T D) (keeps : R → R → Type 0) where
  -- one step is the link's own, and the number stays
  abbrev Stepped : Numbered R → LinkAct (Numbered R) A T D → Numbered R → Type 0
  Stepped old step new =
      (new.number ≡ old.number) × LinkStep gives old.link (without_number step) new.link
      × StepKeeps keeps (without_number step)

  stepped : (old new : Numbered R) (step : LinkAct (Numbered R) A T D) → LinkStep (numbered gives) old step new
      → StepKeeps (keeping keeps) step → Stepped old step new
  stepped old new (Attaches attach told) (does, same) kept = (same, does, tt)
  stepped old new (Flows flow told) (does, same) kept = (same, does, tt)
  stepped old new (Transfers transfer payload told) (does, same) kept = (same, does, tt)
  stepped old new (Disposes tag role settled state echo) (does, same) kept = (same, does, tt)
  stepped old new (Detaches detach told) (does, same) kept = (same, does, tt)
  stepped old new (SendsBatch batch) stays kept = (ap (λ n. n.number) stays, ap (λ n. n.link) stays, tt)
  stepped old new (SendsFrame frame) stays kept = (ap (λ n. n.number) stays, ap (λ n. n.link) stays, tt)
  stepped old new (SendsDisposition d) stays kept = (ap (λ n. n.number) stays, ap (λ n. n.link) stays, tt)
  stepped old new (Changes before after) (was, is) (does, same) =
      (ap (λ n. n.number) is ∙ same ∙ sym (ap (λ n. n.number) was), (ap (λ n. n.link) was, ap (λ n. n.link) is), does)

  pub within : (start end : Numbered R) (steps : List (LinkAct (Numbered R) A T D))
      → LinkHistory (numbered gives) start steps end → OwnerKeeps (keeping keeps) steps
      → (end.number ≡ start.number) × LinkHistory gives start.link (without_numbers steps) end.link
      × OwnerKeeps keeps (without_numbers steps)
  within start end [] same kept = (ap (λ n. n.number) same, ap (λ n. n.link) same, tt)
  within start end (step ∷ steps) (mid, does, others) (keeps_it, keep) =
      let one = stepped start mid step does keeps_it in
      let rest = within mid end steps others keep in
      (rest.0 ∙ one.0, (mid.link, one.1, rest.1), (one.2, rest.2))
