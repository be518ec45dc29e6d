use Rattle.std.proofs.Common.{arith}
use Rattle.amqp_endpoint_core.specs.Queue.{frames_waiting}
use Rattle.amqp_endpoint_core.proofs.BatchLaws.{fills_behind, front_within, sent_within}
use Rattle.amqp_endpoint_core.proofs.batch.append_all.Goals as goal

pub append_first-requires-clause-within : goal.append_first-requires-clause-within
append_first-requires-clause-within c =
    front_within c.args.limit c.args.queue.now.items (frames_waiting c.args.out.now.items) c.requires.within

pub append_first-requires-2-clause-within : goal.append_first-requires-2-clause-within
append_first-requires-2-clause-within c =
    sent_within c.args.limit c.args.queue.now.items c.args.out.now.items c.requires.within

pub returns-clause-taken : goal.returns-clause-taken
returns-clause-taken c =
    fills_behind c.args.most c.args.queue.now.items c.args.out.now.items c.in_ok-queued.queued c.in_ok-queued.room
    c.in_ok-sent.sent c.in_ok-sent.field-0-1 c.args.bytes.now.items c.append_first.new.bytes.items
    c.append_first-2.new.bytes.items c.in_ok-queued.ensures.fills
    (omega (arith, c.if-queued-len.false, c.args.queue.now.ok.0, c.len.ensures)) c.in_ok-sent.ensures.fills
