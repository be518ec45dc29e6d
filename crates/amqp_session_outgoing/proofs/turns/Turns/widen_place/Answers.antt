use Rattle.std.proofs.Common.{arith, ap}
use Rattle.amqp_session_outgoing.specs.Frames.{last_room}
use Rattle.amqp_session_outgoing.specs.Queues.{Lists}
use Rattle.amqp_session_outgoing.specs.Spots.{spot_of}
use Rattle.amqp_session_outgoing.proofs.Joining.{on_ok}
use Rattle.amqp_session_outgoing.proofs.Changing.{room-noted, waits-unnoted}
use Rattle.amqp_session_outgoing.proofs.turns.Turns.widen_place.Goals as goal

pub returns-in-Some-clause-ok : goal.returns-in-Some-clause-ok
returns-in-Some-clause-ok g c =
    let room = room-noted c.args.count c.self.inside.queues c.self.inside.turn.items (spot_of c.self.inside.spots)
    (c.args.handle).0 c.in-Some.spot c.index.result.now (c.args.self.now).queues c.self.invariant.noted
    c.in-Some.ensures c.index.ensures (ap (λ (s : Lists _ _). s.queues) c.self.view_is) in
    on_ok c.widen_behind.result (λ fits. omega (arith, room, fits)) c.widen_behind.ensures.ok

pub returns-in-Some-clause-enough : goal.returns-in-Some-clause-enough
returns-in-Some-clause-enough g c = λ fits.
    let room = room-noted c.args.count c.self.inside.queues c.self.inside.turn.items (spot_of c.self.inside.spots)
    (c.args.handle).0 c.in-Some.spot c.index.result.now (c.args.self.now).queues c.self.invariant.noted
    c.in-Some.ensures c.index.ensures (ap (λ (s : Lists _ _). s.queues) c.self.view_is) in
    c.widen_behind.ensures.enough (omega (arith, room, fits))

pub returns-in-Some-clause-kept : goal.returns-in-Some-clause-kept
returns-in-Some-clause-kept g c = λ fits.
    let room = room-noted c.args.count c.self.inside.queues c.self.inside.turn.items (spot_of c.self.inside.spots)
    (c.args.handle).0 c.in-Some.spot c.index.result.now (c.args.self.now).queues c.self.invariant.noted
    c.in-Some.ensures c.index.ensures (ap (λ (s : Lists _ _). s.queues) c.self.view_is) in
    c.widen_behind.ensures.kept (omega (arith, room, fits))

pub returns-in-None-clause-ok : goal.returns-in-None-clause-ok
returns-in-None-clause-ok g c =
    let none = waits-unnoted c.self.inside.queues c.self.inside.turn.items (spot_of c.self.inside.spots)
    (c.args.handle).0 (c.args.self.now).queues c.self.invariant.noted c.in-None.ensures
    (ap (λ (s : Lists _ _). s.queues) c.self.view_is) in
    omega (arith, ap (λ units. last_room c.args.count units) none)
