-- The transfers that wait in an endpoint's sessions for their peer's window: part 2, 2.5.6.
use Rattle.std.specs.Prelude.{◌≡◌, ℕ, ◌+◌, List, [], ◌∷◌, ◌++◌, Option, Some, None, IsSome, Result, Ok, Err}
use Rattle.std.specs.Global.{Box}
use Rattle.amqp_session_types.specs.declared.handles.OutputHandle.{OutputHandle}
use Rattle.amqp_session_outgoing.specs.Queues.{Queues, held_in, turn_of}
use Rattle.amqp_session_core.specs.State.{link_at}
use Rattle.amqp_session_core.specs.declared.batch.BehindFrame.{BehindFrame}
use Rattle.amqp_session_core.specs.declared.batch.TransferFrame.{TransferFrame}
use Rattle.amqp_link.specs.declared.end.End.{End}
use Rattle.amqp_endpoint_links.specs.declared.session.AskedSession.{AskedSession}
use Rattle.amqp_endpoint_links.specs.declared.numbered.Numbered.{Numbered}
use Rattle.amqp_endpoint_tables.specs.declared.place.Place.{Place}
use Rattle.amqp_endpoint_tables.specs.declared.place.Place.TheVariants.{Live}
use Rattle.amqp_endpoint_model.specs.declared.error.EndpointError.{EndpointError}
use Rattle.amqp_endpoint_model.specs.declared.error.EndpointError.TheVariants.{Memory, UnknownSession}
use Rattle.amqp_endpoint_attached.specs.Linked.{Linked, LinksIn}

-- where a session of the endpoint is
abbrev pub SessionPlace : Type 0
SessionPlace = Place (Box AskedSession) (Box Linked)

-- how many transfers wait in a session: none where it hasn't begun, is ending, or is over
abbrev pub held_at : SessionPlace → ℕ
held_at (Live channel session) = held_in session.value.session.outgoing.queues
held_at place = 0

abbrev pub held_told : Option SessionPlace → Result ℕ EndpointError
held_told None = Err UnknownSession
held_told (Some place) = Ok (held_at place)

-- a link by its number, with how many of its transfers wait; nothing where it isn't there
abbrev pub counted : Option (Numbered End) → ℕ → List (ℕ × ℕ)
counted None count = []
counted (Some link) count = (link.number, count) ∷ []

-- links by their numbers, each with how many of its transfers wait
abbrev pub by_number : LinksIn → List (OutputHandle × ℕ) → List (ℕ × ℕ)
by_number s [] = []
by_number s (first ∷ others) = counted (link_at s (first.0).0) first.1 ++ by_number s others

-- the links that wait in a session, in turn
abbrev pub turn_at : SessionPlace → List (ℕ × ℕ)
turn_at (Live channel session) = by_number session.value.session (turn_of session.value.session.outgoing.queues)
turn_at place = []

abbrev pub TurnTold : Option SessionPlace → List (ℕ × ℕ) → Type 0
TurnTold None turn = ⊥
TurnTold (Some place) turn = turn ≡ turn_at place

-- why they aren't told: no session has the number, or there is no memory
abbrev pub BarsWaiting : Option SessionPlace → EndpointError → Type 0
BarsWaiting None e = e ≡ UnknownSession
BarsWaiting (Some (Live channel session)) e = e ≡ Memory
BarsWaiting (Some place) e = ⊥

-- how many transfers wait, of all links together
abbrev pub total : List (ℕ × ℕ) → ℕ
total [] = 0
total (first ∷ others) = first.1 + total others

-- each link of which transfers wait is there
abbrev pub AllAreThere : LinksIn → Queues TransferFrame BehindFrame → Type 0
AllAreThere s [] = Unit {0}
AllAreThere s (queue ∷ queues) = IsSome (link_at s queue.0) × AllAreThere s queues

abbrev pub AllAreThereAt : SessionPlace → Type 0
AllAreThereAt (Live channel session) = AllAreThere session.value.session session.value.session.outgoing.queues
AllAreThereAt place = Unit {0}
