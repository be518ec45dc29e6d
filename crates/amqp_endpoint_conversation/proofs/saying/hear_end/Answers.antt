use Rattle.std.proofs.Common.{None, ◌∙◌}
use Rattle.amqp_endpoint_conversation.specs.Going.{FitsIn}
use Rattle.amqp_endpoint_conversation.proofs.Ends.{FitsAbove, end-above}
use Rattle.amqp_endpoint_conversation.proofs.Goings.{Never, Nothing, goes, rests}
use Rattle.amqp_endpoint_conversation.proofs.HearingsFit.{end-answered}
use Rattle.amqp_endpoint_conversation.proofs.saying.hear_end.Goals as goal

pub returns-clause-goes : goal.returns-clause-goes
returns-clause-goes g c limit =
    let call = c.on_incoming_end-answer in
    goes limit c.args.talk.now call.new.self c.args.out.now.items call.new.out.items c.len-from.result
    (c.len-from.ensures ∙ c.args.out.now.ok.0) c.frames_are_read.ensures
    (end-answered g.R.LinkRelay.gives (FitsIn limit) (FitsAbove limit) c.args.channel c.args.end.now
    (λ s channel fits. end-above limit channel None (record { error = tt })) c.args.talk.now call.new.self call.result
    c.args.out.now.items call.new.out.items call.ensures)

pub returns-clause-rests : goal.returns-clause-rests
returns-clause-rests g c =
    let call = c.on_incoming_end-answer in
    rests c.args.talk.now call.new.self c.args.out.now.items call.new.out.items c.len-from.result
    (c.len-from.ensures ∙ c.args.out.now.ok.0) c.frames_are_read.ensures
    (end-answered g.R.LinkRelay.gives Never Nothing c.args.channel c.args.end.now (λ s channel none. none)
    c.args.talk.now call.new.self call.result c.args.out.now.items call.new.out.items call.ensures)
