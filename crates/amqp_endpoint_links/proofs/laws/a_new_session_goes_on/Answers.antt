use Rattle.std.proofs.Common.{[], ◌∷◌}
use Rattle.amqp_session_core.specs.State.{fresh}
use Rattle.amqp_session_core.specs.Steps.{SendsBegin}
use Rattle.amqp_endpoint_links.specs.Beginning.{accept_steps}
use Rattle.amqp_endpoint_links.proofs.Projecting.{joined, within}
use Rattle.amqp_endpoint_links.proofs.laws.a_new_session_goes_on.Goals as goal

pub returns-clause-begun : goal.returns-clause-begun
returns-clause-begun g c = λ channel first window frame start end steps begun history.
    let inner = within g.R.LinkRelay.gives steps start end history in (
      inner.done,
      inner.are,
      joined g.R.LinkRelay.gives (SendsBegin frame ∷ []) inner.done (fresh channel first window)
          start.session end.session begun.history inner.run,
    )

pub returns-clause-accepted : goal.returns-clause-accepted
returns-clause-accepted g c = λ wanted channel incoming first window frame start end steps accepted history.
    let inner = within g.R.LinkRelay.gives steps start end history in (
      inner.done,
      inner.are,
      joined g.R.LinkRelay.gives (accept_steps first incoming wanted.begin wanted.flow frame) inner.done
          (fresh channel first window) start.session end.session
          accepted.history inner.run,
    )
