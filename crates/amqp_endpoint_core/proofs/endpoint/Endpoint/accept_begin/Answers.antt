use Rattle.std.proofs.Common.{refl, sym, ◌∙◌}
use Rattle.amqp_endpoint_core.proofs.SessionCalls.{did_running, whole_running}
use Rattle.amqp_endpoint_core.proofs.endpoint.Endpoint.accept_begin.Goals as goal

pub invariant_of-self-2 : goal.invariant_of-self-2
invariant_of-self-2 g c =
    let said = c.in_ok-number.ensures in
    whole_running g.S.SessionRelay.does c.self.inside.queue.items c.self.view_is c.self.invariant
    c.limit-limit.ensures said.ok said.still (sym c.goes_on.ensures ∙ c.if-not-goes_on.false) said.within

pub returns-clause-ok : goal.returns-clause-ok
returns-clause-ok g c =
    let said = c.in_ok-number.ensures in
    did_running g.S.SessionRelay.does c.self.inside.queue.items c.self.view_is c.self.invariant
    c.limit-limit.ensures said.ok said.still (sym c.goes_on.ensures ∙ c.if-not-goes_on.false) refl
