use Rattle.std.proofs.Common.{◌≡◌, [], arith, rules, ap, refl}
use Rattle.amqp_session_outgoing.specs.Frames.{sent_count}
use Rattle.amqp_session_outgoing.proofs.Counting.{leaving-batch}
use Rattle.amqp_session_outgoing.proofs.Serving.{apart-alone, room-batch}
use Rattle.amqp_session_outgoing.proofs.outgoing.Outgoing.accept.Goals as goal

pub returns-then-lets_through-clause-frames : goal.returns-then-lets_through-clause-frames
returns-then-lets_through-clause-frames g c = leaving-batch (c.args.handle).0 c.args.batch.now.items c.args.self.now _ _ _ _ refl c.in_ok-pass_on.ensures.run

pub returns-clause-frames : goal.returns-clause-frames
returns-clause-frames g c =
    let run = leaving-batch (c.args.handle).0 c.args.batch.now.items c.args.self.now _ _ _ _ c.in_ok-line_up.ensures.ok c.leave.ensures.run in
    let out = ap (λ sent. sent_count sent) c.in_ok-line_up.ensures.out in
    omega (arith, run, out)

pub returns-then-is_empty-clause-behind : goal.returns-then-is_empty-clause-behind
returns-then-is_empty-clause-behind g c = λ count most alone fits enough. fits

pub returns-then-lets_through-clause-behind : goal.returns-then-lets_through-clause-behind
returns-then-lets_through-clause-behind g c =
    let none : (c.args.self.now).queues ≡ [] = search rules in
    λ count most alone fits enough.
    room-batch (c.args.handle).0 c.args.batch.now.items c.args.self.now _ _ _ _ refl
    (apart-alone (c.args.handle).0 c.args.batch.now.items (c.args.self.now).queues none)
    c.in_ok-pass_on.ensures.run count most alone fits enough

pub returns-clause-behind : goal.returns-clause-behind
returns-clause-behind g c = λ count most alone fits enough.
    room-batch (c.args.handle).0 c.args.batch.now.items c.args.self.now _ _ _ _ c.in_ok-line_up.ensures.ok
    c.in_ok-line_up.ensures.apart c.leave.ensures.run count most alone fits enough
