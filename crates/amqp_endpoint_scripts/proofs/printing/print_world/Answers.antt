use Rattle.std.proofs.Common.{inl, inr}
use Rattle.amqp_endpoint_scripts.proofs.Prints.{world_all}
use Rattle.amqp_endpoint_scripts.proofs.printing.print_world.Goals as goal

pub returns : goal.returns
returns c =
    elim c.in-None.ensures.steps [
      | inl p ↦
          elim p.1 [
            | inl q ↦ world_all _ _ _ _ _ (inl q.1.0) c.loop-line.invariant
            | inr q ↦ world_all _ _ _ _ _ (inr (inl q.1.0)) c.loop-line.invariant
          ]
      | inr p ↦ world_all _ _ _ _ _ (inr (inr p.1.0)) c.loop-line.invariant
    ]
