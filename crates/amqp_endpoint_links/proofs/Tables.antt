-- The entries of a map of handles, as a table of asked links.
use Rattle.amqp_session_types.proofs.Tables.{get-entries, entered, taken_out, exchanged}

pub ruleset rules = (get-entries, entered, taken_out, exchanged)
