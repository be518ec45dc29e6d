use Rattle.std.proofs.Common.{◌≡◌, arith, sym, ap, subst}
use Rattle.amqp_session_outgoing.specs.Queues.{held_in, frames_in, joined}
use Rattle.amqp_session_outgoing.specs.Spots.{spot_of}
use Rattle.amqp_session_outgoing.specs.Fields.{waiting_at, EachShort}
use Rattle.amqp_session_outgoing.proofs.Joining.{held-joined}
use Rattle.amqp_session_outgoing.proofs.Counting.{frames-fit, frames-joined, short-joined}
use Rattle.amqp_session_outgoing.proofs.Standing.{noted-apart}
use Rattle.amqp_session_outgoing.proofs.turns.Turns.join.Goals as goal

pub overflow_add-frames : goal.overflow_add-frames
overflow_add-frames g c =
    let fit = frames-fit (waiting_at c.self.inside.queues c.self.inside.turn.items) c.args.batch.now.items c.self.invariant.short c.count_frames.ensures.short (omega (arith, c.self.invariant.counted, c.in_ok-held.ensures.ok.0, c.in_ok-held.ensures.ok.1)) in
    omega (arith, fit, c.self.invariant.framed, c.count_frames.ensures.count)

pub invariant_of-self-2 : goal.invariant_of-self-2
invariant_of-self-2 g c =
    let e : waiting_at c.join.new.queues c.join.new.turn.items ≡ joined (c.args.handle).0 c.args.batch.now.items (waiting_at c.self.inside.queues c.self.inside.turn.items) = c.in_ok-join.ensures.ok in
    let held = held-joined (c.args.handle).0 c.args.batch.now.items (waiting_at c.self.inside.queues c.self.inside.turn.items) in
    record {
      counted = omega (arith, c.in_ok-held.ensures.ok.0, c.self.invariant.counted, ap (λ queues. held_in queues) e, held);
      waits = c.join.ensures.waits;
      total = omega (arith, c.in_ok-held.ensures.ok.0, c.in_ok-held.ensures.ok.1, c.self.invariant.total, c.in_ok-join.ensures.store);
      fits = omega (arith, c.self.invariant.fits, c.in_ok-join.ensures.store);
      place = omega (arith, c.requires, c.self.invariant.place, c.in_ok-join.ensures.joins, c.join.ensures.within, c.join.ensures.capacity);
      framed = omega (arith, c.self.invariant.framed, c.count_frames.ensures.count, ap (λ queues. frames_in queues) e, frames-joined (c.args.handle).0 c.args.batch.now.items (waiting_at c.self.inside.queues c.self.inside.turn.items));
      short = subst (λ queues. EachShort queues) (sym e) (short-joined (c.args.handle).0 c.args.batch.now.items (waiting_at c.self.inside.queues c.self.inside.turn.items) c.self.invariant.short c.count_frames.ensures.short);
      noted = c.join.ensures.noted;
      stands = omega (arith, c.requires, c.self.invariant.stands, c.in_ok-join.ensures.stands_too, c.join.ensures.stands_within, c.join.ensures.room);
      notes = omega (arith, c.requires, c.self.invariant.notes, c.in_ok-join.ensures.taken);
    }

pub returns-clause-apart : goal.returns-clause-apart
returns-clause-apart g c =
    noted-apart c.join.new.queues c.join.new.turn.items (spot_of c.join.new.spots) c.join.ensures.noted
