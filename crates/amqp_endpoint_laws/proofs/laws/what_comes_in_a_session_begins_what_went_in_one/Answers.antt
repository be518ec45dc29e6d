use Rattle.amqp_endpoint_laws.proofs.Paired.{paired}
use Rattle.amqp_endpoint_laws.proofs.laws.what_comes_in_a_session_begins_what_went_in_one.Goals as goal

pub returns : goal.returns
returns c = λ here there channel others ours theirs more begins begun order.
    paired here there channel others ours theirs more begins begun order
