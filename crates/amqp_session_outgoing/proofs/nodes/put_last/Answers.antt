use Rattle.std.proofs.Common.{arith, ◌∙◌, subst, sym, ap, List, Option}
use Rattle.amqp_session_outgoing.specs.Nodes.{values_of, HoldValues}
use Rattle.amqp_session_outgoing.proofs.Noding.{values-length, put-values, put-hold}
use Rattle.amqp_session_outgoing.proofs.nodes.put_last.Goals as goal

pub move_first-requires-clause-short : goal.move_first-requires-clause-short
move_first-requires-clause-short g c = omega (arith, c.requires.short, values-length c.args.nodes.now c.requires.hold)

pub returns-clause-hold : goal.returns-clause-hold
returns-clause-hold g c = subst (λ (xs : List (Option _)). HoldValues xs) (sym c.move_first.ensures.to) (put-hold c.args.nodes.now c.args.store.now c.args.value c.requires.node c.requires.hold)

pub returns-clause-values : goal.returns-clause-values
returns-clause-values g c = ap (λ (xs : List (Option _)). values_of xs) c.move_first.ensures.to ∙ put-values c.args.nodes.now c.args.store.now c.args.value c.requires.node
