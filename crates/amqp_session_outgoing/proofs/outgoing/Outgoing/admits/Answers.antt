use Rattle.std.proofs.Common.{arith, rules, sym, true≢false, ap, ◌∙◌, ◌≡◌, ◌+◌}
use Rattle.amqp_session_outgoing.specs.Queues.{firsts_in}
use Rattle.amqp_session_outgoing.specs.State.{State}
use Rattle.amqp_session_outgoing.proofs.Numbering.{taken}
use Rattle.amqp_session_outgoing.proofs.outgoing.Outgoing.admits.Goals as goal

pub returns-then-not-is_free-clause-err : goal.returns-then-not-is_free-clause-err
returns-then-not-is_free-clause-err g c =
    let all : c.in_ok-all.all ≡ c.self.inside.firsts + c.in_ok-begun.begun = search rules in
    let firsts : c.self.inside.firsts ≡ firsts_in (c.args.self.now).queues = c.self.invariant.firsts ∙ ap (λ (s : State _ _). firsts_in s.queues) c.self.view_is in
    (c.in_ok-begun.ensures.ok.1, taken c.args.self.now c.args.batch.now.items c.loop-others.others c.loop-others.invariant.low (omega (arith, c.in_ok-begun.ensures.ok.0, c.loop-others-test.true)) (λ free. absurd (true≢false (sym (c.if-not-is_free.ensures.1 free)))))
