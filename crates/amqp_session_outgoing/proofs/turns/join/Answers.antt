use Rattle.std.proofs.Common.{arith, sym}
use Rattle.amqp_session_outgoing.specs.Spots.{spot_of}
use Rattle.amqp_session_outgoing.specs.Fields.{queues_at}
use Rattle.amqp_session_outgoing.proofs.Joining.{joined-at, on_ok}
use Rattle.amqp_session_outgoing.proofs.Standing.{noted-stands}
use Rattle.amqp_session_outgoing.proofs.Changing.{few-at, changed-at, joins-waiting, joins-after}
use Rattle.amqp_session_outgoing.proofs.turns.join.Goals as goal

pub join_at-requires-clause-short : goal.join_at-requires-clause-short
join_at-requires-clause-short g c =
    let st = noted-stands c.args.queues.now c.args.turn.now.items (spot_of c.args.spots.now) (c.args.handle).0
    c.in-Some.spot c.requires.noted c.in-Some.ensures in
    few-at c.args.queues.now c.args.turn.now.items (c.args.handle).0 c.in-Some.spot c.reserve.new.self st
    (omega (arith, c.requires.short, c.requires.fits, c.len.ensures, c.in_ok-reserve.ensures.ok))

pub returns-in-Some-clause-ok : goal.returns-in-Some-clause-ok
returns-in-Some-clause-ok g c =
    let st = noted-stands c.args.queues.now c.args.turn.now.items (spot_of c.args.spots.now) (c.args.handle).0
    c.in-Some.spot c.requires.noted c.in-Some.ensures in
    joined-at (queues_at c.args.queues.now c.args.turn.now.items)
    (queues_at c.join_at.new.queues c.args.turn.now.items) st.index (c.args.handle).0 c.args.batch.now.items st.place
    (changed-at c.args.queues.now c.join_at.new.queues c.args.turn.now.items (c.args.handle).0 c.in-Some.spot _ st
    c.join_at.ensures.changed)

pub returns-in-None-clause-ok : goal.returns-in-None-clause-ok
returns-in-None-clause-ok g c =
    on_ok c.join_last.result
    (λ j. joins-waiting c.args.turn.now.items c.join_last.new.turn.items c.args.queues.now c.join_last.new.queues
    (spot_of c.args.spots.now) (spot_of c.join_last.new.spots) c.args.handle c.args.batch.now.items c.requires.noted
    (sym c.in-None.ensures) j) c.join_last.ensures.ok

pub returns-in-None-clause-noted : goal.returns-in-None-clause-noted
returns-in-None-clause-noted g c =
    joins-after c.join_last.result c.args.turn.now.items c.join_last.new.turn.items c.args.queues.now
    c.join_last.new.queues (spot_of c.args.spots.now) (spot_of c.join_last.new.spots) c.args.handle
    c.args.batch.now.items c.requires.noted (sym c.in-None.ensures) c.join_last.ensures.ok c.join_last.ensures.err
    c.join_last.ensures.turn c.join_last.ensures.noted
