-- The transfers that wait in a session, counted by links.
use Rattle.std.proofs.Common.{◌≡◌, ℕ, ◌≤◌, ◌+◌, List, [], ◌∷◌, ◌++◌, Option, Some, None, IsSome, refl, ap, ◌∙◌, length}
use Rattle.std.proofs.Common.{arith}
use Rattle.amqp_session_outgoing.specs.Queues.{Queues, held_in, turn_of}
use Rattle.amqp_session_core.specs.State.{link_at}
use Rattle.amqp_session_core.specs.declared.batch.BehindFrame.{BehindFrame}
use Rattle.amqp_session_core.specs.declared.batch.TransferFrame.{TransferFrame}
use Rattle.amqp_link.specs.declared.end.End.{End}
use Rattle.amqp_endpoint_links.specs.declared.numbered.Numbered.{Numbered}
use Rattle.amqp_endpoint_tables.specs.declared.place.Place.TheVariants.{Asked, Live, Ending, Over}
use Rattle.amqp_endpoint_attached.specs.Linked.{LinksIn}
use Rattle.amqp_endpoint_link_calls.specs.Waiting.{AllAreThere, AllAreThereAt, SessionPlace, by_number, counted}
use Rattle.amqp_endpoint_link_calls.specs.Waiting.{held_at, total, turn_at}

counted-all : (link : Option (Numbered End)) (count : ℕ) (others : List (ℕ × ℕ)) → IsSome link
    → total (counted link count ++ others) ≡ count + total others
counted-all None count others there = absurd cc
counted-all (Some link) count others there = refl

counted-most : (link : Option (Numbered End)) (count : ℕ) (others : List (ℕ × ℕ))
    → total (counted link count ++ others) ≤ count + total others
counted-most None count others = omega arith
counted-most (Some link) count others = omega arith

all-held : (s : LinksIn) (queues : Queues TransferFrame BehindFrame) → AllAreThere s queues
    → total (by_number s (turn_of queues)) ≡ held_in queues
all-held s [] there = refl
all-held s (queue ∷ queues) there =
    counted-all (link_at s queue.0) (length queue.1) (by_number s (turn_of queues)) there.0
    ∙ ap (λ (n : ℕ). length queue.1 + n) (all-held s queues there.1)

most-held : (s : LinksIn) (queues : Queues TransferFrame BehindFrame)
    → total (by_number s (turn_of queues)) ≤ held_in queues
most-held s [] = omega arith
most-held s (queue ∷ queues) =
    let first : total (counted (link_at s queue.0) (length queue.1) ++ by_number s (turn_of queues))
    ≤ length queue.1 + total (by_number s (turn_of queues)) =
    counted-most (link_at s queue.0) (length queue.1) (by_number s (turn_of queues)) in
    let others : total (by_number s (turn_of queues)) ≤ held_in queues = most-held s queues in omega arith

pub all-counted : (place : SessionPlace) → AllAreThereAt place → total (turn_at place) ≡ held_at place
all-counted (Asked channel session) there = refl
all-counted (Live channel session) there =
    all-held (session.value).session (((session.value).session).outgoing).queues there
all-counted (Ending channel own_end) there = refl
all-counted (Over peer_end complete) there = refl

pub most-counted : (place : SessionPlace) → total (turn_at place) ≤ held_at place
most-counted (Asked channel session) = omega arith
most-counted (Live channel session) =
    most-held (session.value).session (((session.value).session).outgoing).queues
most-counted (Ending channel own_end) = omega arith
most-counted (Over peer_end complete) = omega arith
