-- Deliveries are disposed of as it was made ready.
use Rattle.std.proofs.Common.{◌≡◌, List, length, sym, ap, subst, ◌∙◌}
use Rattle.std.specs.Prelude.{Bool, Option, Result, Ok, Err, replicate}
use Rattle.amqp_session_states.specs.declared.delivery_state.DeliveryState.{DeliveryState}
use Rattle.amqp_session_performatives.specs.declared.disposition.Disposition.{Disposition}
use Rattle.amqp_link_receiver.specs.declared.disposable.DisposeRefusal.{DisposeRefusal}
use Rattle.amqp_link_receiver.specs.DisposingAll.{AllDisposed, AllPrepared, Named, Prepared, Prepares, TellsRuns}
use Rattle.amqp_link_receiver.specs.DisposingAll.{committed, each_disposed}
use Rattle.amqp_link_receiver.specs.State.{ReceiverState}

-- what comes of it is what is noted of each that is named
pub committed-is : (s : ReceiverState) (named : Named) (state : DeliveryState) (asked : Option Bool) (p : Prepared)
    → p.named ≡ named → p.states ≡ replicate (length named) state → p.asked ≡ asked
    → committed s p ≡ each_disposed s named (replicate (length named) state) asked
committed-is s named state asked p are copies is =
    ap (λ (n : Named). each_disposed s n p.states p.asked) are
    ∙ ap (λ (l : List DeliveryState). each_disposed s named l p.asked) copies
    ∙ ap (λ (a : Option Bool). each_disposed s named (replicate (length named) state) a) is

pub as-prepared : (n : Result Named DisposeRefusal) (s new : ReceiverState) (state : DeliveryState)
    (asked : Option Bool) (p : Prepared) (told : List Disposition) → AllPrepared n s state asked p → told ≡ p.told
    → new ≡ committed s p → AllDisposed n s state asked told new
as-prepared (Err why) s new state asked p told ready same is = absurd ready
as-prepared (Ok named) s new state asked p told ready same is = (
  subst (λ (l : List Disposition). TellsRuns (s.base.terms).rcv_settle_mode named state asked l) (sym same)
      ready.tells,
  is ∙ committed-is s named state asked p ready.are_named ready.are_copies ready.is_asked,
)
