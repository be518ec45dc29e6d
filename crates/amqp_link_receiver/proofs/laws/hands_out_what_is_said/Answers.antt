use Rattle.amqp_link_receiver.proofs.Handing.{all-handed}
use Rattle.amqp_link_receiver.proofs.laws.hands_out_what_is_said.Goals as goal

pub returns : goal.returns
returns c = λ attachment start end before steps at run. all-handed attachment start end before steps at run
