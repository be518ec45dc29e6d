use Rattle.std.proofs.Common.{◌∙◌}
use Rattle.amqp_endpoint_conversation.proofs.Begins.{begun-handed}
use Rattle.amqp_endpoint_conversation.proofs.Goings.{goes}
use Rattle.amqp_endpoint_conversation.proofs.calling.begin.Goals as goal

pub returns-clause-goes : goal.returns-clause-goes
returns-clause-goes g c limit =
    let call = c.begin-begun in
    goes limit c.args.talk.now call.new.self c.args.out.now.items call.new.out.items c.len-from.result
    (c.len-from.ensures ∙ c.args.out.now.ok.0) c.frames_are_read.ensures
    (begun-handed g.R.LinkRelay.gives limit c.args.talk.now call.new.self c.args.out.now.items call.new.out.items
    call.result call.ensures.ok call.ensures.kept)
