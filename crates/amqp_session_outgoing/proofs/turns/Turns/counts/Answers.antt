use Rattle.amqp_session_outgoing.specs.Spots.{spot_of}
use Rattle.amqp_session_outgoing.proofs.Standing.{all-stand}
use Rattle.amqp_session_outgoing.proofs.turns.Turns.counts.Goals as goal

pub counts-requires : goal.counts-requires
counts-requires g c =
    all-stand c.self.inside.queues c.self.inside.turn.items (spot_of c.self.inside.spots) c.self.invariant.noted
