-- Deliveries that are named one after the other.
use Rattle.std.proofs.Common.{◌≡◌, ℕ, List, [], ◌∷◌, refl}
use Rattle.std.specs.Prelude.{Err}
use Rattle.amqp_link_receiver.specs.declared.disposable.DisposeRefusal.{DisposeRefusal}
use Rattle.amqp_link_receiver.specs.DisposingAll.{named_behind}
use Rattle.amqp_link_receiver.specs.State.{ReceiverState}

-- behind one that is refused nothing is named
pub refused_stays : (s : ReceiverState) (why : DisposeRefusal) (tags : List (List ℕ))
    → named_behind s (Err why) tags ≡ Err why
refused_stays s why [] = refl
refused_stays s why (tag ∷ rest) = refused_stays s why rest

pub ruleset rules = (refused_stays)
