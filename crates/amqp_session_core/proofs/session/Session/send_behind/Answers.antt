use Rattle.std.proofs.Common.{◌≡◌, rules, None, arith}
use Rattle.amqp_session_outgoing.specs.Queues.{FollowsIn}
use Rattle.amqp_session_core.proofs.Replying.{follows-held}
use Rattle.amqp_session_core.proofs.session.Session.send_behind.Goals as goal

pub invariant_of-self-in_default : goal.invariant_of-self-in_default
invariant_of-self-in_default g c =
    let old = c.self.inside.outgoing in
    let new = c.on_outgoing_frame.new.self in
    let follows : FollowsIn (c.args.handle).0 c.args.frame None old.queues new.queues = search rules in
    let same : new.room ≡ old.room = search rules in
    record {
      empty = c.self.invariant.empty;
      room = omega (arith, follows-held (c.args.handle).0 c.args.frame None old.queues new.queues follows, same, c.self.invariant.room);
      open_window = c.self.invariant.open_window;
    }
