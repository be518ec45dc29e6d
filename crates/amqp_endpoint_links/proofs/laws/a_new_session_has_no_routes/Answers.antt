use Rattle.amqp_endpoint_links.proofs.Calls.{begun-routes, accepted-routes}
use Rattle.amqp_endpoint_links.proofs.laws.a_new_session_has_no_routes.Goals as goal

pub returns-clause-begun : goal.returns-clause-begun
returns-clause-begun g c = λ channel first window frame new begun. begun-routes g.R.LinkRelay.gives channel first window frame new begun

pub returns-clause-accepted : goal.returns-clause-accepted
returns-clause-accepted g c = λ wanted channel incoming first window frame new accepted.
    accepted-routes g.R.LinkRelay.gives wanted channel incoming first window frame new accepted
