use Rattle.std.proofs.Common.{◌∙◌}
use Rattle.amqp_endpoint_link_calls.proofs.Credited.{granted-goes}
use Rattle.amqp_endpoint_link_calls.proofs.crediting.grant.Goals as goal

pub returns-clause-goes : goal.returns-clause-goes
returns-clause-goes c limit =
    let call = c.grant_in-granted in
    granted-goes c.args.talk.now call.new.talk c.in_ok-session.session c.in_ok-session.handle c.args.out.now.items
    call.new.out.items c.len-from.result (c.len-from.ensures ∙ c.args.out.now.ok.0) c.frames_are_read.ensures limit
    c.args.credit call.result call.ensures.ok call.ensures.kept
