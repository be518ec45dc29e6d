use Rattle.amqp_endpoint_core.proofs.FeedLaws.{behind_closed, behind_fault, behind_more, behind_waiting}
use Rattle.amqp_endpoint_core.proofs.endpoint.Endpoint.read_frames.Goals as goal

pub loop-self-preserved : goal.loop-self-preserved
loop-self-preserved g c =
    let (more, told, takes) = (rw c.in-Ok-true.field-0-test at c.in-Ok-true.ensures.ok) in
    behind_more g.S.SessionRelay.does c.args.self.now c.loop-self.self c.args.events.now.items c.loop-self.events.items
    more c.read_frame.new.events.items c.read_frame.new.self c.loop-self.invariant (cc) takes told

pub returns-in-Ok-false : goal.returns-in-Ok-false
returns-in-Ok-false g c =
    let (waits, told, same) = (rw c.in-Ok-false.field-0-test at c.in-Ok-false.ensures.ok) in
    behind_waiting g.S.SessionRelay.does c.args.self.now c.loop-self.self c.args.events.now.items
    c.loop-self.events.items c.read_frame.new.events.items c.read_frame.new.self c.loop-self.invariant (cc) waits told
    same

pub returns-in-Err : goal.returns-in-Err
returns-in-Err g c =
    let (refused, told, cut) = c.in-Err.ensures.err in
    behind_fault g.S.SessionRelay.does c.args.self.now c.loop-self.self c.args.events.now.items
    c.loop-self.events.items c.read_frame.new.events.items c.read_frame.new.self c.end_by.new.self c.in-Err.fault
    c.end_by.result c.loop-self.invariant (cc) refused told cut c.end_by.ensures

pub returns : goal.returns
returns g c =
    behind_closed g.S.SessionRelay.does c.args.self.now c.loop-self.self c.args.events.now.items c.loop-self.events.items
    c.loop-self.invariant (cc)
