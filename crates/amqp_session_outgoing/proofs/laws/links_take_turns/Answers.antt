use Rattle.amqp_session_outgoing.specs.History.{fresh}
use Rattle.amqp_session_outgoing.specs.Turns.{events_of}
use Rattle.amqp_session_outgoing.proofs.Taking.{exactly_one, history-moves}
use Rattle.amqp_session_outgoing.proofs.laws.links_take_turns.Goals as goal

pub returns : goal.returns
returns g c = λ first steps end run link other before between pair n w.
    exactly_one link other (events_of steps) before between end.queues (history-moves steps (fresh first) end run) pair n w
