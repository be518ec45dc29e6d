use Rattle.std.proofs.Common.{ap, subst, sym, ◌<◌, ◌↔◌, length}
use Rattle.std.specs.Prelude.{IsTrue}
use Rattle.amqp_session_outgoing.specs.Queues.{Lists, units_of}
use Rattle.amqp_session_outgoing.specs.Spots.{spot_of}
use Rattle.amqp_session_outgoing.proofs.Changing.{told-waiting}
use Rattle.amqp_session_outgoing.proofs.turns.Turns.is_waiting.Goals as goal

pub returns : goal.returns
returns g c =
    subst (λ b. IsTrue b ↔ (0 < length (units_of (c.args.handle).0 (c.args.self.now).queues))) (sym c.is_some.ensures)
    (told-waiting c.self.inside.queues c.self.inside.turn.items (spot_of c.self.inside.spots) (c.args.handle).0
    c.get.result (c.args.self.now).queues c.self.invariant.noted c.self.invariant.waits c.get.ensures
    (ap (λ (s : Lists _ _). s.queues) c.self.view_is))
