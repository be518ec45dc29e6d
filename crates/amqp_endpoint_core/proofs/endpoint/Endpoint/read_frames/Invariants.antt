use Rattle.std.proofs.Common.{length}
use Rattle.amqp_endpoint_core.specs.Reading.{SoFarBehind}
use Rattle.amqp_endpoint_core.proofs.endpoint.Endpoint.read_frames.Given as goal

abbrev pub invariant-loop-self : goal.invariant-loop-self
invariant-loop-self g l = SoFarBehind g.S.SessionRelay.does l.initial.self l.initial.events.items l.events.items l.self

abbrev pub decreases-loop-self : goal.decreases-loop-self
decreases-loop-self g l = length l.self.rest
