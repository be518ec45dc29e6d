use Rattle.std.proofs.Common.{◌≡◌, ◌+◌, arith, ap, ◌∙◌}
use Rattle.amqp_session_outgoing.specs.Queues.{Lists, held_in, firsts_in}
use Rattle.amqp_session_outgoing.specs.Fields.{waiting_at}
use Rattle.amqp_session_outgoing.proofs.Turning.{held-turn}
use Rattle.amqp_session_outgoing.proofs.Numbering.{firsts-turn}
use Rattle.amqp_session_outgoing.proofs.Counting.{frames-turn, short-turn}
use Rattle.amqp_session_outgoing.proofs.turns.Turns.take_turn.Goals as goal

pub invariant_of-self : goal.invariant_of-self
invariant_of-self g c =
    let less : held_in (waiting_at c.take_turn-unit.new.queues c.take_turn-unit.new.turn.items) + 1 ≡ held_in (waiting_at c.self.inside.queues c.self.inside.turn.items) = held-turn _ _ _ _ c.take_turn-unit.ensures.taken in
    let fewer = frames-turn _ _ _ _ c.take_turn-unit.ensures.taken in
    record {
      counted = omega (arith, c.self.invariant.counted);
      waits = c.take_turn-unit.ensures.waits;
      total = omega (arith, less, c.self.invariant.counted, c.self.invariant.total, c.take_turn-unit.ensures.store);
      fits = omega (arith, c.self.invariant.fits, c.take_turn-unit.ensures.store);
      place = omega (arith, c.self.invariant.place, c.take_turn-unit.ensures.len, c.take_turn-unit.ensures.capacity);
      framed = omega (arith, c.self.invariant.framed, fewer, c.len.ensures);
      short = short-turn _ _ _ _ c.take_turn-unit.ensures.taken c.self.invariant.short;
      noted = c.take_turn-unit.ensures.noted;
      stands = omega (arith, c.self.invariant.stands, c.take_turn-unit.ensures.room, c.take_turn-unit.ensures.stands);
      notes = omega (arith, c.self.invariant.notes, c.take_turn-unit.ensures.notes);
    }

pub returns-clause-held : goal.returns-clause-held
returns-clause-held g c =
    let less : held_in (waiting_at c.take_turn-unit.new.queues c.take_turn-unit.new.turn.items) + 1 ≡ held_in (waiting_at c.self.inside.queues c.self.inside.turn.items) = held-turn _ _ _ _ c.take_turn-unit.ensures.taken in
    omega (arith, ap (λ (s : Lists _ _). held_in s.queues) c.self.view_is)

pub returns-clause-firsts : goal.returns-clause-firsts
returns-clause-firsts g c = firsts-turn _ _ _ _ c.take_turn-unit.ensures.taken ∙ ap (λ (s : Lists _ _). firsts_in s.queues) c.self.view_is
