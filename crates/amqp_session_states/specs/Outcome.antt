-- The outcomes of a delivery, which are terminal: part 3, 3.4.
use Rattle.std.specs.Prelude.{ℕ, List, [], ◌∷◌, Option}
use Rattle.serde_amqp_item.specs.Item.{Item}
use Rattle.serde_amqp_values.specs.Choice.{Row, choice_taken}
use Rattle.amqp_session_states.specs.Accepted.{accepted_item, accepted_name, accepted_takes}
use Rattle.amqp_session_states.specs.Modified.{modified_item, modified_name, modified_takes}
use Rattle.amqp_session_states.specs.Rejected.{rejected_item, rejected_name, rejected_takes}
use Rattle.amqp_session_states.specs.Released.{released_item, released_name, released_takes}
use Rattle.amqp_session_states.specs.declared.outcome.Outcome.{Outcome}
use Rattle.amqp_session_states.specs.declared.outcome.Outcome.TheVariants.{Accepted, Rejected, Released, Modified}

abbrev pub outcome_item : Outcome → Item
outcome_item (Accepted x) = accepted_item x
outcome_item (Rejected x) = rejected_item x
outcome_item (Released x) = released_item x
outcome_item (Modified x) = modified_item x

abbrev pub outcome_rows : List Row
outcome_rows =
    record { code = 0x24; name = accepted_name; takes = accepted_takes }
    ∷ record { code = 0x25; name = rejected_name; takes = rejected_takes }
    ∷ record { code = 0x26; name = released_name; takes = released_takes }
    ∷ record { code = 0x27; name = modified_name; takes = modified_takes }
    ∷ []

-- the items that are read as an outcome, and the item of that outcome
abbrev pub outcome_taken : Item → Option Item
outcome_taken = choice_taken outcome_rows
