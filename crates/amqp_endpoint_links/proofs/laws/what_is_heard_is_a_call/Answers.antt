use Rattle.amqp_endpoint_links.proofs.Heard.{heard, plain}
use Rattle.amqp_endpoint_links.proofs.laws.what_is_heard_is_a_call.Goals as goal

pub returns-clause-call : goal.returns-clause-call
returns-clause-call g c = λ old new out out_new said told h. heard g.R.LinkRelay.gives old new out out_new said told h

pub returns-clause-plain : goal.returns-clause-plain
returns-clause-plain g c = λ said steps are. plain g.O.LinkOwner.keeps said steps are
