use Rattle.std.proofs.Common.{subst, sym, List, Option}
use Rattle.amqp_session_outgoing.specs.Nodes.{AreFree}
use Rattle.amqp_session_outgoing.proofs.Noding.{take-free}
use Rattle.amqp_session_outgoing.proofs.nodes.take_first.Goals as goal

pub returns-clause-free : goal.returns-clause-free
returns-clause-free g c = subst (λ (xs : List (Option _)). AreFree xs) (sym c.move_first.ensures.to) (take-free c.args.store.now c.args.nodes.now c.take.new.self c.take.ensures.after c.requires.free)
