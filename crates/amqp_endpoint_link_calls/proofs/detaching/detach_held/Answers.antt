use Rattle.std.proofs.Common.{false, ◌∙◌}
use Rattle.amqp_endpoint_link_calls.proofs.Detached.{detached-goes}
use Rattle.amqp_endpoint_link_calls.proofs.detaching.detach_held.Goals as goal

pub returns-clause-goes : goal.returns-clause-goes
returns-clause-goes c limit least =
    let call = c.detach_in-detached in
    detached-goes c.args.talk.now call.new.talk c.args.session c.args.handle false c.args.out.now.items
    call.new.out.items c.len-from.result (c.len-from.ensures ∙ c.args.out.now.ok.0) c.handle_is_short.ensures
    c.frames_are_read.ensures limit least call.result call.ensures.ok call.ensures.kept
