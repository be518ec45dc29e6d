use Rattle.amqp_session_core.proofs.Running.{goes-on, begins-anew}
use Rattle.amqp_session_core.proofs.dispositions.add_to_runs.Goals as goal

pub returns-then-last-number-clause-added : goal.returns-then-last-number-clause-added
returns-then-last-number-clause-added c =
    goes-on c.args.runs.now.items c.pop.new.self.items c.push_reserved-then-last-number.new.self.items (c.in-Some.first, c.in-Some.last) c.args.number c.in-Some.ensures.items c.if-last-number.true c.push_reserved-then-last-number.ensures.items

pub returns-clause-added : goal.returns-clause-added
returns-clause-added c =
    begins-anew c.args.runs.now.items c.pop.new.self.items c.push_reserved-2.new.self.items c.push_reserved-3.new.self.items (c.in-Some.first, c.in-Some.last) c.args.number c.in-Some.ensures.items c.if-last-number.false c.push_reserved-2.ensures.items c.push_reserved-3.ensures.items
