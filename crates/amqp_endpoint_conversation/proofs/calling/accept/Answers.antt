use Rattle.std.proofs.Common.{◌∙◌}
use Rattle.amqp_endpoint_conversation.proofs.Begins.{accepted-handed}
use Rattle.amqp_endpoint_conversation.proofs.Goings.{goes}
use Rattle.amqp_endpoint_conversation.proofs.calling.accept.Goals as goal

pub returns-clause-goes : goal.returns-clause-goes
returns-clause-goes g c limit =
    let call = c.accept-accepted in
    goes limit c.args.talk.now call.new.self c.args.out.now.items call.new.out.items c.len-from.result
    (c.len-from.ensures ∙ c.args.out.now.ok.0) c.frames_are_read.ensures
    (accepted-handed g.R.LinkRelay.gives limit c.args.talk.now call.new.self c.args.out.now.items call.new.out.items
    c.args.channel call.result call.ensures.ok call.ensures.kept)
