-- What is told of a message that was sent: part 2, 2.6.12; part 3, 3.4.
use Rattle.std.specs.Prelude.{ℕ, List, [], ◌∷◌, Result}
use Rattle.amqp_session_states.specs.declared.outcome.Outcome.{Outcome}
use Rattle.amqp_link_types.specs.declared.refusals.SendError.{SendError}
use Rattle.amqp_endpoint_model.specs.declared.event.Event.{Event}
use Rattle.amqp_endpoint_model.specs.declared.event.Event.TheVariants as event

-- its link is told by its number, its delivery by its tag, and what became of it
abbrev pub outcome_told : ℕ → List ℕ → Result Outcome SendError → List Event
outcome_told link tag result = event.Outcome (record { link = link; tag = tag; result = result }) ∷ []
