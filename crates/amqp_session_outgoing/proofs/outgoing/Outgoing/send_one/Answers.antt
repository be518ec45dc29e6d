use Rattle.std.proofs.Common.{sym, ap, subst}
use Rattle.amqp_session_outgoing.specs.State.{State, InWindow}
use Rattle.amqp_session_outgoing.specs.Fields.{state_of}
use Rattle.amqp_session_outgoing.proofs.Turning.{after-is}
use Rattle.amqp_session_outgoing.proofs.outgoing.Outgoing.send_one.Goals as goal

pub returns-clause-sent : goal.returns-clause-sent
returns-clause-sent g c =
    rw (← c.self.view_is) (record {
      allowed = subst (λ (s : State _ _). InWindow s) (sym c.self.view_is) c.requires.window;
      taken = c.take_turn-unit.result.1;
      turn = c.take_turn-unit.ensures.taken;
      says = ap (λ number. record { handle = c.take_turn-unit.result.0; number = c.self.inside.next_outgoing_id; delivery = number; transfer = (c.take_turn-unit.result.1).transfer; behind = (c.take_turn-unit.result.1).behind }) c.give_number-delivery.ensures.number;
      becomes = after-is (state_of c.self.inside) c.take_turn-unit.result.0 c.take_turn-unit.result.1 (c.take_turn-unit.new.self).queues _ _ _ c.give_number-delivery.ensures.next c.give_number-delivery.ensures.registered c.take_turn-unit.ensures.room;
    })
