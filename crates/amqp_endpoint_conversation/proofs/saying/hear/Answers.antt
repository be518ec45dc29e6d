use Rattle.std.proofs.Common.{◌∙◌}
use Rattle.amqp_endpoint_conversation.specs.Going.{FitsIn}
use Rattle.amqp_endpoint_conversation.proofs.Ends.{FitsAbove}
use Rattle.amqp_endpoint_conversation.proofs.Fitting.{fails-so, hears-none, hears-so}
use Rattle.amqp_endpoint_conversation.proofs.Goings.{Never, Nothing, goes, rests}
use Rattle.amqp_endpoint_conversation.proofs.HearingsFit.{answer-handed}
use Rattle.amqp_endpoint_conversation.proofs.saying.hear.Goals as goal

pub returns-clause-goes : goal.returns-clause-goes
returns-clause-goes g c limit plain =
    let call = c.on_incoming-answer in
    let gives = g.R.LinkRelay.gives in
    goes limit c.args.talk.now call.new.self c.args.out.now.items call.new.out.items c.len-from.result
    (c.len-from.ensures ∙ c.args.out.now.ok.0) c.frames_are_read.ensures
    (answer-handed gives (FitsIn limit) (FitsAbove limit) c.args.said (hears-so gives limit plain c.args.said)
    c.args.talk.now call.new.self c.args.channel call.result c.args.out.now.items call.new.out.items
    (fails-so gives limit) call.ensures.step)

pub returns-clause-rests : goal.returns-clause-rests
returns-clause-rests g c =
    let call = c.on_incoming-answer in
    let gives = g.R.LinkRelay.gives in
    rests c.args.talk.now call.new.self c.args.out.now.items call.new.out.items c.len-from.result
    (c.len-from.ensures ∙ c.args.out.now.ok.0) c.frames_are_read.ensures
    (answer-handed gives Never Nothing c.args.said (hears-none gives c.args.said) c.args.talk.now call.new.self
    c.args.channel call.result c.args.out.now.items call.new.out.items (λ s channel fault none. none)
    call.ensures.step)
