use Rattle.std.proofs.Common.{refl}
use Rattle.amqp_endpoint_core.proofs.SessionCalls.{did_quiet, whole_least}
use Rattle.amqp_endpoint_core.proofs.endpoint.Endpoint.detach.Goals as goal

pub invariant_of-self-2 : goal.invariant_of-self-2
invariant_of-self-2 g c =
    let said = c.in_ok-detach.ensures in
    whole_least g.S.SessionRelay.does c.self.inside.queue.items c.self.view_is c.self.invariant
    c.limit-limit.ensures said.ok said.still said.within said.idle

pub returns-clause-ok : goal.returns-clause-ok
returns-clause-ok g c =
    let said = c.in_ok-detach.ensures in
    did_quiet g.S.SessionRelay.does c.self.inside.queue.items c.self.view_is c.self.invariant
    c.limit-limit.ensures said.ok said.still refl said.quiet
