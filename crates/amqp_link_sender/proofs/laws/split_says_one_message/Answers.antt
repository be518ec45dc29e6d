use Rattle.amqp_link_sender.proofs.SayingLemmas.{split-read}
use Rattle.amqp_link_sender.proofs.laws.split_says_one_message.Goals as goal

pub returns : goal.returns
returns c = λ first payload room transfers h e. split-read first payload room transfers h e
