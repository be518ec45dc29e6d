use Rattle.amqp_link_sender.proofs.SayingLemmas.{split-taken}
use Rattle.amqp_link_sender.proofs.laws.split_is_joined.Goals as goal

pub returns : goal.returns
returns c = λ first payload tag room number transfers h e t. split-taken number first payload tag room transfers h e t
