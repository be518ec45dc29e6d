use Rattle.amqp_session_states.specs.OutcomeLaws.{outcome_again, outcome_same}
use Rattle.amqp_session_states.proofs.laws.outcome_is_its_item.Goals as goal

pub returns : goal.returns
returns c = record { read_back = outcome_again; told_apart = outcome_same }
