use Rattle.std.proofs.Common.{◌++◌, refl, subst, List, Some, ap, ◌∙◌}
use Rattle.amqp_endpoint_model.specs.declared.event.Event.{Event}
use Rattle.amqp_endpoint_model.specs.State.{State}
use Rattle.amqp_endpoint_model.specs.Step.{Breaks, ReadsOn}
use Rattle.amqp_endpoint_core.proofs.FeedLaws.{feed_off, reads_behind, told_nothing, told_where}
use Rattle.amqp_endpoint_core.proofs.endpoint.Endpoint.feed_frames.Goals as goal

pub returns-in-Err : goal.returns-in-Err
returns-in-Err g c =
    let (memory, same) = c.in-Err.ensures.err in
    told_nothing c.args.events.now.items
    (feed_off g.S.SessionRelay.does c.args.self.now c.break_off.new.self (c.args.self.now.rest ++ c.args.bytes.now) _ _
    c.requires refl (ap Some memory)
    (subst (λ (s : State g.row.S.Denot). Breaks g.S.SessionRelay.does s c.break_off.new.self) same
    c.break_off.ensures))

pub returns-in-Ok : goal.returns-in-Ok
returns-in-Ok g c =
    told_where
    (λ told.
    reads_behind g.S.SessionRelay.does c.args.self.now c.take_in.new.self c.read_frames.new.self
    (c.args.self.now.rest ++ c.args.bytes.now) told c.read_frames.result c.in-Ok.ensures.ok)
    c.read_frames.ensures
