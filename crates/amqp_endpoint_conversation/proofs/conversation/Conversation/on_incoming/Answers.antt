use Rattle.std.proofs.Common.{true, false, refl, sym}
use Rattle.std.specs.VecDeque.{deque_len}
use Rattle.amqp_endpoint_conversation.proofs.Hearings.{in_asked, in_live, is_there}
use Rattle.amqp_endpoint_conversation.proofs.RoomsKept.{asked-keeps}
use Rattle.amqp_endpoint_conversation.proofs.conversation.Conversation.on_incoming.Goals as goal

pub returns-then-is_some-clause-step : goal.returns-then-is_some-clause-step
returns-then-is_some-clause-step g c =
    in_asked g.R.LinkRelay.gives c.args.self.now c.args.out.now.items c.args.channel c.args.said c.hear_in_asked.result
    c.hear_in_asked.new.self c.args.out.now.items c.in-Some.number (sym c.in-Some.ensures)
    (is_there c.asked.result _ true c.asked.ensures c.if-is_some.ensures) c.hear_in_asked.ensures
    (refl {a = c.args.out.now.items})

pub returns-then-is_some-2-clause-step : goal.returns-then-is_some-2-clause-step
returns-then-is_some-2-clause-step g c =
    in_live g.R.LinkRelay.gives c.args.self.now c.args.out.now.items c.args.channel c.args.said c.hear_in_live.result
    c.hear_in_live.new.self c.hear_in_live.new.out.items c.in-Some.number (sym c.in-Some.ensures)
    (is_there c.asked.result _ false c.asked.ensures c.if-is_some.ensures)
    (is_there c.live.result _ true c.live.ensures c.if-is_some-2.ensures) c.hear_in_live.ensures.step

pub returns-then-is_some-clause-room : goal.returns-then-is_some-clause-room
returns-then-is_some-clause-room g c =
    asked-keeps c.args.self.now c.in-Some.number c.args.said c.hear_in_asked.new.self c.args.self.now.sessions
    c.hear_in_asked.new.self.sessions (deque_len c.args.out.now) (deque_len c.args.out.now) c.hear_in_asked.result
    (is_there c.asked.result _ true c.asked.ensures c.if-is_some.ensures) c.hear_in_asked.ensures
