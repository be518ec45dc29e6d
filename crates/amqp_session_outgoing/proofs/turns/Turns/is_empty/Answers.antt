use Rattle.std.proofs.Common.{◌≡◌, rules, ap, length}
use Rattle.amqp_session_outgoing.specs.Queues.{Lists}
use Rattle.amqp_session_outgoing.specs.Spots.{spot_of}
use Rattle.amqp_session_outgoing.proofs.Standing.{none-stand}
use Rattle.amqp_session_outgoing.proofs.turns.Turns.is_empty.Goals as goal

pub returns : goal.returns
returns g c =
    let none = none-stand c.self.inside.queues c.self.inside.turn.items (spot_of c.self.inside.spots)
    (c.args.self.now).queues c.self.invariant.noted (ap (λ (s : Lists _ _). s.queues) c.self.view_is) in (
      λ empty. let zero : length c.self.inside.turn.items ≡ 0 = search rules in none.0 zero,
      λ nothing. let zero : length c.self.inside.turn.items ≡ 0 = none.1 nothing in search rules,
    )
