use Rattle.std.proofs.Common.{arith, map}
use Rattle.amqp_endpoint_core.specs.declared.reply.WorldReply.{WorldReply}
use Rattle.amqp_endpoint_core.specs.WorldSaid.{world_told}
use Rattle.amqp_endpoint_core.proofs.WorldRuns.{WorldRun-next, WorldRun-whole}
use Rattle.amqp_endpoint_core.proofs.world.run.Goals as goal

pub loop-step-preserved : goal.loop-step-preserved
loop-step-preserved g c =
    let s = c.loop-step in
    let pushed = c.push_reserved in
    let reply : WorldReply =
    record {
      did = c.step-did.result;
      queued_a = c.queued_a-queued_a.result;
      queued_b = c.queued_b-queued_b.result;
    } in
    record {
      run = WorldRun-next g.S.SessionRelay.does c.in_ok-world.world c.args.steps.now s.step-index c.step-item.result
          s.replies.items pushed.new.self.items reply s.world c.step-did.new.self c.loop-step-test.true c.step-item.is
          pushed.ensures.items s.invariant.run c.step-did.ensures c.queued_a-queued_a.ensures
          c.queued_b-queued_b.ensures;
      count = omega (arith, pushed.ensures.len, s.invariant.count);
      room = omega (arith, pushed.ensures.capacity, s.invariant.room);
    }

pub returns-clause-run : goal.returns-clause-run
returns-clause-run g c =
    let s = c.loop-step in (
      c.in_ok-world.world,
      s.world,
      c.in_ok-world.ensures.ok,
      WorldRun-whole g.S.SessionRelay.does c.in_ok-world.world c.args.steps.now s.step-index
          (map world_told s.replies.items) s.world (omega arith) s.invariant.run,
    )
