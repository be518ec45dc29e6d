use Rattle.amqp_link_base.proofs.Starting.{read-place}
use Rattle.amqp_link_base.proofs.place_laws.place_is_read_back.Goals as goal

pub returns : goal.returns
returns c = λ payload n h. read-place payload n h
