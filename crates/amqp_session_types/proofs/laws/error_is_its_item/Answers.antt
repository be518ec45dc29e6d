use Rattle.amqp_session_types.specs.Again.{error_again}
use Rattle.amqp_session_types.specs.Faithful.{error_same}
use Rattle.amqp_session_types.proofs.laws.error_is_its_item.Goals as goal

pub returns : goal.returns
returns c = record { read_back = error_again; told_apart = error_same }
