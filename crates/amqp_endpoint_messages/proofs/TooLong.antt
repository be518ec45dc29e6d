-- A Disposition that would go doesn't fit.
use Rattle.std.proofs.Common.{◌≡◌, ℕ, Bool, false, List, Option, Some, None, refl}
use Rattle.std.specs.Prelude.{Result, Ok, Err, IsOk}
use Rattle.amqp_session_states.specs.declared.delivery_state.DeliveryState.{DeliveryState}
use Rattle.amqp_link_receiver.specs.declared.disposable.DisposeRefusal.{DisposeRefusal}
use Rattle.amqp_link_receiver.specs.DisposingAll.{AllPrepared, Named, Prepared, named_all}
use Rattle.amqp_link.specs.declared.end.End.{End}
use Rattle.amqp_link.specs.declared.end.End.TheVariants.{Sender, Receiver}
use Rattle.amqp_endpoint_messages.specs.Disposing.{EndPrepares}
use Rattle.amqp_endpoint_messages.specs.Longest.{all_fit}
use Rattle.amqp_endpoint_messages.specs.Refusals.{IsTooLong, IsTooLongBy, named_at}

-- of several, as it was made ready
pub too-long : (limit : ℕ) (tags : List (List ℕ)) (state : DeliveryState) (asked : Option Bool) (p : Prepared)
    (link : Option End) → EndPrepares link tags state asked p → all_fit limit p.told ≡ false
    → IsOk (named_at link tags) × IsTooLong limit link tags state asked
too-long limit tags state asked p None ready long = absurd ready
too-long limit tags state asked p (Some (Sender s)) ready long = absurd ready
too-long limit tags state asked p (Some (Receiver r)) ready long = by (named_all r tags) ready
  where
    by : (n : Result Named DisposeRefusal) → AllPrepared n r state asked p
        → IsOk n × IsTooLongBy limit r n state asked
    by (Err why) so = absurd so
    by (Ok named) so = (refl, record { told = p.told; tells = so.tells; long = long })
