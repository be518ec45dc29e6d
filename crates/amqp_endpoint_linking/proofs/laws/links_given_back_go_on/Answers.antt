use Rattle.amqp_endpoint_linking.proofs.BackLaws.{back-goes-on, finished-goes-on, left-goes-on}
use Rattle.amqp_endpoint_linking.proofs.laws.links_given_back_go_on.Goals as goal

pub returns-clause-back : goal.returns-clause-back
returns-clause-back c = λ old new left given. back-goes-on old new left given

pub returns-clause-left : goal.returns-clause-left
returns-clause-left c = λ old new links links_new left. left-goes-on old new links links_new left

pub returns-clause-finished : goal.returns-clause-finished
returns-clause-finished c = λ old new links links_new finished. finished-goes-on old new links links_new finished
