use Rattle.std.proofs.Common.{◌≡◌, ◌+◌, arith, rules, ap}
use Rattle.amqp_session_outgoing.specs.Frames.{sent_count}
use Rattle.amqp_session_outgoing.specs.Queues.{frames_in}
use Rattle.amqp_session_core.specs.Frames.{Left}
use Rattle.amqp_session_core.proofs.leaving.take_window.Goals as goal

pub returns-clause-frames : goal.returns-clause-frames
returns-clause-frames c =
    let frames : sent_count c.on_incoming_flow.new.out.items + frames_in (c.on_incoming_flow.new.self).queues ≡ sent_count c.args.sent.now.items + frames_in (c.args.outgoing.now).queues = search rules in
    let none : sent_count c.args.sent.now.items ≡ 0 = ap (λ (l : Left). sent_count l) c.requires.empty in
    omega (arith, frames, none, c.hand_out.ensures.count)
