use Rattle.amqp_endpoint_links.proofs.Standing.{begun-stands, accepted-stands}
use Rattle.amqp_endpoint_links.proofs.laws.a_new_session_stands_so.Goals as goal

pub returns-clause-begun : goal.returns-clause-begun
returns-clause-begun g c = λ channel first window frame new begun.
    begun-stands g.R.LinkRelay.gives channel first window frame new begun

pub returns-clause-accepted : goal.returns-clause-accepted
returns-clause-accepted g c = λ wanted channel incoming first window frame new accepted.
    accepted-stands g.R.LinkRelay.gives wanted channel incoming first window frame new accepted
