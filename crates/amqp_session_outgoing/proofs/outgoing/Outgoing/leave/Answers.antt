use Rattle.std.proofs.Common.{arith, ◌∙◌}
use Rattle.amqp_session_outgoing.proofs.Turning.{Leaving-push}
use Rattle.amqp_session_outgoing.proofs.outgoing.Outgoing.leave.Goals as goal

pub loop-self-preserved : goal.loop-self-preserved
loop-self-preserved g c =
    record {
      run = rw c.push_reserved.ensures.items (Leaving-push _ _ _ _ _ _ c.loop-self.invariant.run c.send_one.ensures.sent);
      room = omega arith;
      kept = c.send_one.ensures.kept_room ∙ c.loop-self.invariant.kept;
      total = omega arith;
      capacity = omega arith;
    }
