use Rattle.std.proofs.Common.{◌∙◌}
use Rattle.amqp_endpoint_conversation.specs.Going.{FitsIn}
use Rattle.amqp_endpoint_conversation.proofs.Begins.{ended-handed}
use Rattle.amqp_endpoint_conversation.proofs.Ends.{FitsAbove, end-above}
use Rattle.amqp_endpoint_conversation.proofs.Goings.{Never, Nothing, goes, rests}
use Rattle.amqp_endpoint_conversation.proofs.calling.end.Goals as goal

pub returns-clause-goes : goal.returns-clause-goes
returns-clause-goes g c limit plain =
    let call = c.end-ended in
    goes limit c.args.talk.now call.new.self c.args.out.now.items call.new.out.items c.len-from.result
    (c.len-from.ensures ∙ c.args.out.now.ok.0) c.frames_are_read.ensures
    (ended-handed (FitsIn limit) (FitsAbove limit) c.args.talk.now call.new.self c.args.out.now.items
    call.new.out.items c.args.number c.args.error (λ s channel fits. end-above limit channel c.args.error plain)
    call.result call.ensures.ok call.ensures.kept)

pub returns-clause-rests : goal.returns-clause-rests
returns-clause-rests g c =
    let call = c.end-ended in
    rests c.args.talk.now call.new.self c.args.out.now.items call.new.out.items c.len-from.result
    (c.len-from.ensures ∙ c.args.out.now.ok.0) c.frames_are_read.ensures
    (ended-handed Never Nothing c.args.talk.now call.new.self c.args.out.now.items call.new.out.items c.args.number
    c.args.error (λ s channel none. none) call.result call.ensures.ok call.ensures.kept)
