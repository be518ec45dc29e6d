use Rattle.amqp_link_base.proofs.Taking.{taken-said}
use Rattle.amqp_link_base.proofs.place_laws.taken_is_what_is_said.Goals as goal

pub returns : goal.returns
returns c = λ before after pieces h. taken-said before pieces after h
