use Rattle.std.proofs.Common.{inl, inr}
use Rattle.amqp_endpoint_scripts.proofs.Prints.{printed_all}
use Rattle.amqp_endpoint_scripts.proofs.printing.print_replies.Goals as goal

pub returns : goal.returns
returns c = elim c.in-None.ensures.steps [ inl p ↦ printed_all _ _ _ _ (inl p.1.0) c.loop-line.invariant | inr p ↦ printed_all _ _ _ _ (inr p.1.0) c.loop-line.invariant ]
