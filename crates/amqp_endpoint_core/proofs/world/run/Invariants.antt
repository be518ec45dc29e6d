use Rattle.std.proofs.Common.{◌≤◌, ◌≡◌, take, map, length, vec_capacity, vec_len}
use Rattle.amqp_endpoint_core.specs.WorldSaid.{world_told}
use Rattle.amqp_endpoint_core.specs.WorldStep.{WorldRun}
use Rattle.amqp_endpoint_core.proofs.world.run.Given as goal

abbrev pub invariant-loop-step : goal.invariant-loop-step
invariant-loop-step g l = record {
  run : WorldRun g.S.SessionRelay.does l.initial.world (take l.step-index l.steps) (map world_told l.replies.items)
      l.world;
  count : vec_len l.replies ≡ l.step-index;
  room : length l.steps ≤ vec_capacity l.replies;
}
