use Rattle.std.proofs.Common.{rules}
use Rattle.amqp_session_core.proofs.Answering.{flow-taken}
use Rattle.amqp_session_core.proofs.session.Session.on_incoming_flow.Goals as goal

pub returns-then-flowed-left-clause-step : goal.returns-then-flowed-left-clause-step
returns-then-flowed-left-clause-step g c = λ led other.
    flow-taken g.R.LinkRelay.gives c.args.self.now _ c.args.flow
    c.args.out.now.items
    c.reply-flowed.new.out.items
    c.take_window-left.new.out.items
    c.flow_to_link-answer.result
    c.reply-flowed.result.1
    c.reply-flowed.new.outgoing
    c.reply-flowed.result.0
    c.take_window-left.result
    led
    (search rules)
    (search rules)
    (search rules)
    (search rules)
    (search rules)

pub returns-else-flowed-left-clause-step : goal.returns-else-flowed-left-clause-step
returns-else-flowed-left-clause-step g c = λ led other.
    flow-taken g.R.LinkRelay.gives c.args.self.now _ c.args.flow
    c.args.out.now.items
    c.reply-flowed.new.out.items
    c.take_window-left.new.out.items
    c.flow_to_link-answer.result
    c.reply-flowed.result.1
    c.reply-flowed.new.outgoing
    c.reply-flowed.result.0
    c.take_window-left.result
    led
    (search rules)
    (search rules)
    (search rules)
    (search rules)
    (search rules)
