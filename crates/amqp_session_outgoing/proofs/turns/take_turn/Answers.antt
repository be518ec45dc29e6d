use Rattle.std.proofs.Common.{rules, ◌≡◌, ◌<◌, length}
use Rattle.std.proofs.lemmas.List.{nil_from_length}
use Rattle.amqp_session_outgoing.specs.Spots.{spot_of}
use Rattle.amqp_session_outgoing.proofs.Changing.{turned-taken, turned-noted, left-taken}
use Rattle.amqp_session_outgoing.proofs.turns.take_turn.Goals as goal

pub returns-then-not-is_last-clause-taken : goal.returns-then-not-is_last-clause-taken
returns-then-not-is_last-clause-taken g c =
    let more : 0 < length c.take_first-unit.ensures.taken.after.units = search rules in
    rw c.push_back_reserved.ensures.items
    (turned-taken c.args.queues.now c.take_first-unit.new.queues c.args.turn.now.items c.take_spot-first.result
    c.take_spot-first.new.turn.items (spot_of c.args.spots.now) _ _ _ c.take_spot-first.ensures.items
    c.requires.noted c.take_first-unit.ensures.taken more)

pub returns-then-not-is_last-clause-noted : goal.returns-then-not-is_last-clause-noted
returns-then-not-is_last-clause-noted g c =
    let more : 0 < length c.take_first-unit.ensures.taken.after.units = search rules in
    rw c.push_back_reserved.ensures.items
    (turned-noted c.args.queues.now c.take_first-unit.new.queues c.args.turn.now.items c.take_spot-first.result
    c.take_spot-first.new.turn.items (spot_of c.args.spots.now) _ _ _ c.take_spot-first.ensures.items
    c.requires.noted c.take_first-unit.ensures.taken more)

pub returns-clause-taken : goal.returns-clause-taken
returns-clause-taken g c =
    let none : length c.take_first-unit.ensures.taken.after.units ≡ 0 = search rules in
    left-taken c.args.queues.now c.take_first-unit.new.queues c.args.turn.now.items c.take_spot-first.result
    c.take_spot-first.new.turn.items (spot_of c.args.spots.now) _ _ _ c.take_spot-first.ensures.items
    c.requires.noted c.take_first-unit.ensures.taken c.remove.new.self (spot_of c.remove-2.new.self)
    (nil_from_length _ none)
    c.remove.ensures.updates c.remove-2.ensures.noted
