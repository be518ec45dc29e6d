use Rattle.std.proofs.Common.{◌∙◌}
use Rattle.amqp_endpoint_conversation.specs.Going.{FitsIn}
use Rattle.amqp_endpoint_conversation.proofs.Ends.{FitsAbove}
use Rattle.amqp_endpoint_conversation.proofs.Fitting.{begins-none, begins-so}
use Rattle.amqp_endpoint_conversation.proofs.Goings.{Never, Nothing, goes, rests}
use Rattle.amqp_endpoint_conversation.proofs.HearingsFit.{begin-handed}
use Rattle.amqp_endpoint_conversation.proofs.saying.hear_begin.Goals as goal

pub returns-clause-goes : goal.returns-clause-goes
returns-clause-goes g c limit =
    let call = c.on_incoming_begin-answer in
    let gives = g.R.LinkRelay.gives in
    goes limit c.args.talk.now call.new.self c.args.out.now.items call.new.out.items c.len-from.result
    (c.len-from.ensures ∙ c.args.out.now.ok.0) c.frames_are_read.ensures
    (begin-handed gives (FitsIn limit) (FitsAbove limit) c.args.channel c.args.begin
    (begins-so gives limit c.args.channel c.args.begin) c.args.talk.now call.new.self call.result
    c.args.out.now.items call.new.out.items call.ensures)

pub returns-clause-rests : goal.returns-clause-rests
returns-clause-rests g c =
    let call = c.on_incoming_begin-answer in
    let gives = g.R.LinkRelay.gives in
    rests c.args.talk.now call.new.self c.args.out.now.items call.new.out.items c.len-from.result
    (c.len-from.ensures ∙ c.args.out.now.ok.0) c.frames_are_read.ensures
    (begin-handed gives Never Nothing c.args.channel c.args.begin (begins-none gives c.args.channel c.args.begin)
    c.args.talk.now call.new.self call.result c.args.out.now.items call.new.out.items call.ensures)
