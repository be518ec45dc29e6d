-- By the deeds of a run no link attaches again that no call has do so.
use Rattle.std.proofs.Common.{◌≡◌, ℕ, List, [], ◌∷◌, subst, sym}
use Rattle.amqp_endpoint_model.specs.Said.{Said}
use Rattle.amqp_endpoint_model.specs.declared.call.Call.{Call}
use Rattle.amqp_endpoint_laws.specs.Deeds.{Closes, Deed, Does, Finishes, Hears, Moves, Queues, Refuses, Renews, Takes}
use Rattle.amqp_endpoint_laws.specs.Deeds.{done_by}
use Rattle.amqp_endpoint_laws.specs.Resumed.{NeverCalledAgain, NeverResumed}

module _ (link : ℕ) where
  never-done : (deeds : List Deed) → NeverCalledAgain link (done_by deeds) → NeverResumed link deeds
  never-done [] never = tt
  never-done (Queues it ∷ deeds) never = ((λ is. is), never-done deeds never)
  never-done (Hears frame events ∷ deeds) never = ((λ is. is), never-done deeds never)
  never-done (Takes limit frame frames events ∷ deeds) never = ((λ is. is), never-done deeds never)
  never-done (Refuses limit frame error own_close ∷ deeds) never = ((λ is. is), never-done deeds never)
  never-done (Does limit call answer frames ∷ deeds) never = (never.0, never-done deeds never.1)
  never-done (Moves connection ∷ deeds) never = ((λ is. is), never-done deeds never)
  never-done (Renews ∷ deeds) never = ((λ is. is), never-done deeds never)
  never-done (Closes ∷ deeds) never = ((λ is. is), never-done deeds never)
  never-done (Finishes ∷ deeds) never = ((λ is. is), never-done deeds never)

  pub never-resumed : (deeds : List Deed) (did : List (Call × Said)) → done_by deeds ≡ did
      → NeverCalledAgain link did → NeverResumed link deeds
  never-resumed deeds did is never =
      never-done deeds (subst (λ (d : List (Call × Said)). NeverCalledAgain link d) (sym is) never)
