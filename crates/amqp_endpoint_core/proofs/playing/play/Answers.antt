use Rattle.std.proofs.Common.{arith, map}
use Rattle.amqp_endpoint_model.specs.State.{fresh}
use Rattle.amqp_endpoint_model.specs.Said.{told}
use Rattle.amqp_endpoint_model.proofs.Keeping.{pieces}
use Rattle.amqp_endpoint_model.proofs.LimitLaws.{limit_kept}
use Rattle.amqp_endpoint_core.proofs.RunLaws.{Run-next, Run-whole}
use Rattle.amqp_endpoint_core.proofs.playing.play.Goals as goal

pub loop-call-preserved : goal.loop-call-preserved
loop-call-preserved g c =
    record {
      run =
          Run-next g.S.SessionRelay.does c.in_ok-endpoint.endpoint c.args.calls.now c.loop-call.call-index
          c.call-item.result
          c.loop-call.replies.items c.push_reserved.new.self.items
          (record { answer = c.call-answer.result; queued = c.queued-queued.result }) c.loop-call.endpoint
          c.call-answer.new.self c.loop-call-test.true c.call-item.is c.push_reserved.ensures.items
          c.loop-call.invariant.run c.call-answer.ensures c.queued-queued.ensures;
      count = omega (arith, c.push_reserved.ensures.len, c.loop-call.invariant.count);
      room = omega (arith, c.push_reserved.ensures.capacity, c.loop-call.invariant.room);
    }

pub returns-clause-run : goal.returns-clause-run
returns-clause-run g c =
    let (accepted, (sessions, new, is)) = c.in_ok-endpoint.ensures.ok in (
      sessions,
      c.loop-call.endpoint,
      new,
      Run-whole g.S.SessionRelay.does c.in_ok-endpoint.endpoint (fresh c.args.settings sessions) c.args.calls.now
          c.loop-call.call-index (map told c.loop-call.replies.items) c.loop-call.endpoint is (omega arith)
          c.loop-call.invariant.run,
    )

pub returns-clause-pieces : goal.returns-clause-pieces
returns-clause-pieces g c =
    let (accepted, (sessions, new, is)) = c.in_ok-endpoint.ensures.ok in
    pieces g.S.SessionRelay.does sessions c.args.settings c.args.calls.now (map told c.loop-call.replies.items)
    c.loop-call.endpoint
    (Run-whole g.S.SessionRelay.does c.in_ok-endpoint.endpoint (fresh c.args.settings sessions) c.args.calls.now
    c.loop-call.call-index (map told c.loop-call.replies.items) c.loop-call.endpoint is (omega arith)
    c.loop-call.invariant.run)

pub returns-clause-limit : goal.returns-clause-limit
returns-clause-limit g c =
    let (accepted, (sessions, new, is)) = c.in_ok-endpoint.ensures.ok in
    limit_kept g.S.SessionRelay.does sessions c.args.settings c.args.calls.now (map told c.loop-call.replies.items)
    c.loop-call.endpoint accepted
    (Run-whole g.S.SessionRelay.does c.in_ok-endpoint.endpoint (fresh c.args.settings sessions) c.args.calls.now
    c.loop-call.call-index (map told c.loop-call.replies.items) c.loop-call.endpoint is (omega arith)
    c.loop-call.invariant.run)
