-- Where a connection is broken off, nothing is queued any more.
use Rattle.std.proofs.Common.{◌≡◌, ℕ, true, false, List, ◌++◌, length, drop, sym, ◌∙◌, ap, subst, refl, Option, Some, None, inl, inr}
use Rattle.amqp_endpoint_model.specs.declared.error.EndpointError.{EndpointError}
use Rattle.amqp_endpoint_model.specs.declared.error.EndpointError.TheVariants.{Memory, NumbersUsedUp, ProtocolHeaderMismatch}
use Rattle.amqp_endpoint_model.specs.declared.event.Event.{Event}
use Rattle.amqp_endpoint_model.specs.declared.phase.Phase.{Phase}
use Rattle.amqp_endpoint_model.specs.declared.phase.Phase.TheVariants.{Unconnected, Greeting, Running, Over}
use Rattle.amqp_endpoint_model.specs.Relay.{Relations}
use Rattle.amqp_endpoint_model.specs.Said.{Said, fed}
use Rattle.amqp_endpoint_model.specs.State.{State}
use Rattle.amqp_endpoint_model.specs.Step.{AfterFault, Breaks, Ends, FeedsIn, Greets, ReadsOn, condition_of, opened}
use Rattle.amqp_endpoint_core.specs.WorldStep.{Feeds, fault_breaks_off, has_broken_off}

-- no Close tells of such a fault
without_close : (e : EndpointError) → fault_breaks_off (Some e) ≡ true → condition_of e ≡ None
without_close Memory broken = refl
without_close NumbersUsedUp broken = refl
without_close ProtocolHeaderMismatch broken = refl
without_close e broken = cc

module _ {S : Type 0} (does : Relations S) where
  pub none_queued : (old new : State S) → Breaks does old new → length new.queue ≡ 0
  none_queued old new (finishes, is) = ap (λ s. length s.queue) is

  none_queued-ends : (p : Phase) (mid : State S) (left : List ℕ) (e : EndpointError) (new : State S)
      → condition_of e ≡ None → Ends does mid p left (Some e) new → length new.queue ≡ 0
  none_queued-ends Running mid left e new none r =
      let P : Option (List ℕ) → Type 0 = λ o. AfterFault does o (record mid { sessions = r.sessions }) new in
      none_queued (record mid { sessions = r.sessions }) new (subst P none r.after)
  none_queued-ends Over mid left e new none r = absurd r
  none_queued-ends Unconnected mid left e new none r = absurd r
  none_queued-ends Greeting mid left e new none r = absurd r

  none_queued-reads : (old : State S) (bytes : List ℕ) (events : List Event) (fault : Option EndpointError)
      (new : State S) → fault_breaks_off fault ≡ true → ReadsOn does old bytes events fault new → length new.queue ≡ 0
  none_queued-reads old bytes events (Some e) new broken r =
      none_queued-ends r.mid.phase r.mid r.left e new (without_close e broken) r.ends
  none_queued-reads old bytes events None new broken r = cc

  none_queued-greets : (old : State S) (bytes : List ℕ) (events : List Event) (fault : Option EndpointError)
      (new : State S) → fault_breaks_off fault ≡ true → Greets does old bytes events fault new → length new.queue ≡ 0
  none_queued-greets old bytes events fault new broken (inl (short, none, is, after)) =
      let bad : false ≡ true = sym (ap (λ o. fault_breaks_off o) is) ∙ broken in cc
  none_queued-greets old bytes events fault new broken (inr (inl (long, other, none, is, breaks))) =
      none_queued old new breaks
  none_queued-greets old bytes events fault new broken (inr (inr (inl (header, reads)))) =
      none_queued-reads (opened does old) (drop 8 bytes) events fault new broken reads
  none_queued-greets old bytes events fault new broken (inr (inr (inr (none, is, inl breaks)))) =
      none_queued old new breaks
  none_queued-greets old bytes events fault new broken (inr (inr (inr (none, is, inr breaks)))) =
      ap (λ s. length s.queue) breaks.1

  -- a feed that broke its end off leaves nothing queued
  none_queued-feeds : (p : Phase) (old : State S) (bytes : List ℕ) (events : List Event)
      (fault : Option EndpointError) (new : State S) → fault_breaks_off fault ≡ true
      → FeedsIn does p old bytes events fault new → length new.queue ≡ 0
  none_queued-feeds Unconnected old bytes events fault new broken (none, is, same) =
      let bad : false ≡ true = sym (ap (λ o. fault_breaks_off o) is) ∙ broken in cc
  none_queued-feeds Over old bytes events fault new broken (none, is, same) =
      let bad : false ≡ true = sym (ap (λ o. fault_breaks_off o) is) ∙ broken in cc
  none_queued-feeds Running old bytes events fault new broken reads =
      none_queued-reads old (old.rest ++ bytes) events fault new broken reads
  none_queued-feeds Greeting old bytes events fault new broken greets =
      none_queued-greets old (old.rest ++ bytes) events fault new broken greets

  -- where a feed broke its end off, all was pulled of the other one, and neither has anything queued
  pub all_pulled : (said : Said) (piece : List ℕ) (from old new : State S) → has_broken_off said ≡ true
      → Feeds does said piece from old new → length from.queue ≡ 0
  all_pulled (fed events fault) piece from old new broken (none, feeds) = ap length none
  all_pulled said piece from old new broken feeds = cc

  pub none_left : (said : Said) (piece : List ℕ) (from old new : State S) → has_broken_off said ≡ true
      → Feeds does said piece from old new → length new.queue ≡ 0
  none_left (fed events fault) piece from old new broken (none, feeds) =
      none_queued-feeds old.phase old piece events fault new broken feeds
  none_left said piece from old new broken feeds = cc
