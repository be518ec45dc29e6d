use Rattle.std.proofs.Common.{◌++◌, refl}
use Rattle.amqp_endpoint_core.proofs.FeedLaws.{greets_later, greets_off, greets_on, told_nothing, told_where}
use Rattle.amqp_endpoint_core.proofs.endpoint.Endpoint.feed_header.Goals as goal

pub returns-in-Ok-true : goal.returns-in-Ok-true
returns-in-Ok-true g c =
    told_where
    (λ told.
    greets_on g.S.SessionRelay.does c.args.self.now (c.args.self.now.rest ++ c.args.bytes.now) c.take_in_header.new.self
    c.read_frames.new.self told c.read_frames.result (rw c.in-Ok-true.field-0-test at c.in-Ok-true.ensures.ok))
    c.read_frames.ensures

pub returns-in-Ok-false : goal.returns-in-Ok-false
returns-in-Ok-false g c =
    told_nothing c.args.events.now.items
    (greets_later g.S.SessionRelay.does c.args.self.now (c.args.self.now.rest ++ c.args.bytes.now)
    c.take_in_header.new.self _ _
    (rw c.in-Ok-false.field-0-test at c.in-Ok-false.ensures.ok) refl refl)

pub returns-in-Err : goal.returns-in-Err
returns-in-Err g c =
    told_nothing c.args.events.now.items
    (greets_off g.S.SessionRelay.does c.args.self.now c.take_in_header.new.self c.break_off.new.self c.args.bytes.now
    c.in-Err.fault _ _ c.in-Err.ensures.err refl refl c.break_off.ensures)
