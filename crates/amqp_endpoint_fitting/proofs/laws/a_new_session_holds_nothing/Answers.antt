use Rattle.amqp_endpoint_links.proofs.Standing.{accepted-stands, begun-stands}
use Rattle.amqp_endpoint_fitting.proofs.Begun.{holds-accepted, holds-begun}
use Rattle.amqp_endpoint_fitting.proofs.laws.a_new_session_holds_nothing.Goals as goal

pub returns-clause-begun : goal.returns-clause-begun
returns-clause-begun g c = λ channel first window limit frame new begun.
    let stands = begun-stands g.R.LinkRelay.gives channel first window frame new begun in
    holds-begun channel first window limit new.session stands.0

pub returns-clause-accepted : goal.returns-clause-accepted
returns-clause-accepted g c = λ wanted channel incoming first window limit frame new accepted.
    let stands = accepted-stands g.R.LinkRelay.gives wanted channel incoming first window frame new accepted in
    holds-accepted channel incoming wanted.begin wanted.flow first window limit new.session stands.0
