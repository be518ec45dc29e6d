use Rattle.std.proofs.Common.{◌∙◌}
use Rattle.amqp_endpoint_link_calls.proofs.AttachGoing.{live-goes}
use Rattle.amqp_endpoint_link_calls.proofs.placing.attach_live.Goals as goal

pub returns-clause-goes : goal.returns-clause-goes
returns-clause-goes c least =
    let call = c.attach_lent-placed in
    live-goes c.args.talk.now call.new.talk c.args.out.now.items call.new.out.items c.args.limit c.args.coming.session
    c.args.coming.link c.len-from.result (c.len-from.ensures ∙ c.args.out.now.ok.0) c.frames_are_read.ensures
    call.result
    least c.ranges.limit.fits call.ensures.ok call.ensures.short call.ensures.kept
