use Rattle.std.proofs.Common.{◌∙◌}
use Rattle.amqp_endpoint_conversation.specs.Going.{FitsIn}
use Rattle.amqp_endpoint_conversation.proofs.Ends.{FitsAbove}
use Rattle.amqp_endpoint_conversation.proofs.Fitting.{tells-none, tells-so}
use Rattle.amqp_endpoint_conversation.proofs.Goings.{Never, Nothing, goes, rests}
use Rattle.amqp_endpoint_conversation.proofs.Tellings.{flow-handed}
use Rattle.amqp_endpoint_conversation.proofs.saying.tell_flow.Goals as goal

pub returns-clause-goes : goal.returns-clause-goes
returns-clause-goes g c limit =
    let call = c.tell_flow in
    let gives = g.R.LinkRelay.gives in
    goes limit c.args.talk.now call.new.self c.args.out.now.items call.new.out.items c.len-from.result
    (c.len-from.ensures ∙ c.args.out.now.ok.0) c.frames_are_read.ensures
    (flow-handed gives (FitsIn limit) (FitsAbove limit) c.args.talk.now call.new.self c.args.number
    c.args.out.now.items call.new.out.items (tells-so gives limit) call.ensures.told)

pub returns-clause-rests : goal.returns-clause-rests
returns-clause-rests g c =
    let call = c.tell_flow in
    let gives = g.R.LinkRelay.gives in
    rests c.args.talk.now call.new.self c.args.out.now.items call.new.out.items c.len-from.result
    (c.len-from.ensures ∙ c.args.out.now.ok.0) c.frames_are_read.ensures
    (flow-handed gives Never Nothing c.args.talk.now call.new.self c.args.number c.args.out.now.items
    call.new.out.items (tells-none gives) call.ensures.told)
