use Rattle.std.proofs.Common.{arith, ap}
use Rattle.amqp_session_outgoing.specs.Frames.{sent_count}
use Rattle.amqp_session_outgoing.specs.Queues.{frames_in}
use Rattle.amqp_session_outgoing.specs.State.{State}
use Rattle.amqp_session_outgoing.proofs.Counting.{takes-window}
use Rattle.amqp_session_outgoing.proofs.outgoing.Outgoing.on_incoming_flow.Goals as goal

pub returns-clause-frames : goal.returns-clause-frames
returns-clause-frames g c =
    let run = takes-window _ _ _ _ _ _ c.take_window.ensures.takes in
    let same = ap (λ (s : State _ _). frames_in s.queues) c.self.view_is in
    let out = ap (λ sent. sent_count sent) c.in_ok-reserve.ensures.items in
    omega (arith, run, same, out)
