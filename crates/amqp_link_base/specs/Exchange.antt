-- What two Attach that were exchanged leave to be done for deliveries that are unsettled: part 2, 2.6.13 and 2.7.3.
use Rattle.std.specs.Prelude.{Bool, true, ◌==◌, List, length, Option, Some, None, Result, Ok, Err, if◌then◌else◌}
use Rattle.amqp_link_base.specs.State.{is_incomplete}
use Rattle.amqp_link_base.specs.declared.exchange.AttachExchange.{AttachExchange}
use Rattle.amqp_link_base.specs.declared.exchange.AttachExchange.TheVariants.{Complete, IncompleteUnsettled, Resume}
use Rattle.amqp_link_base.specs.declared.state.LinkState.{LinkState}

-- a list of unsettled deliveries that is left off, or that has none
abbrev pub lists_none : {X : Type 0} → Option (List X) → Bool
lists_none None = true
lists_none (Some deliveries) = length deliveries == 0

-- in this state, where nothing is unsettled or something is
abbrev pub exchange : LinkState → Bool → AttachExchange
exchange state settled = if settled then Complete else (if is_incomplete state then IncompleteUnsettled else Resume)

abbrev pub complete_or : {E : Type 0} → AttachExchange → E → Result (Unit {0}) E
complete_or Complete error = Ok tt
complete_or left error = Err error
