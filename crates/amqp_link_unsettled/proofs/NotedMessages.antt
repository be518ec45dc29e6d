-- What the open messages are once a state is noted of one of them.
use Rattle.std.proofs.Common.{◌≡◌, ℕ, List, Option, None, Some, IsSome, IfSome}
use Rattle.std.specs.Map.{set_value}
use Rattle.std.specs.Str.{bytes_eq}
use Rattle.amqp_session_states.specs.declared.delivery_state.DeliveryState.{DeliveryState}
use Rattle.amqp_link_unsettled.specs.Entries.{Kept}
use Rattle.amqp_link_unsettled.specs.declared.open.Open.{Open}
use Rattle.amqp_link_unsettled.specs.Messages.{told_at}
use Rattle.amqp_link_unsettled.specs.Told.{told}

pub is_told : (old new : Kept Open) (tag : List ℕ) (o : Option Open) (state : Option DeliveryState) → IsSome o
    → IfSome o (λ m. new ≡ record old { entries = set_value (bytes_eq tag) old.entries (told m state) })
    → new ≡ record old { entries = told_at old.entries tag o state }
is_told old new tag None state some noted = absurd cc
is_told old new tag (Some m) state some noted = noted
