use Rattle.std.proofs.Common.{refl}
use Rattle.amqp_endpoint_core.proofs.SessionCalls.{did_quiet, whole_told}
use Rattle.amqp_endpoint_core.proofs.endpoint.Endpoint.resume.Goals as goal

pub invariant_of-self-2 : goal.invariant_of-self-2
invariant_of-self-2 g c =
    let said = c.in_ok-attaching.ensures in
    whole_told g.S.SessionRelay.does c.self.inside.queue.items c.self.view_is c.self.invariant
    c.limit-limit.ensures said.ok said.still said.within said.none said.idle

pub returns-clause-ok : goal.returns-clause-ok
returns-clause-ok g c =
    let said = c.in_ok-attaching.ensures in
    did_quiet g.S.SessionRelay.does c.self.inside.queue.items c.self.view_is c.self.invariant
    c.limit-limit.ensures said.ok said.still refl said.quiet
