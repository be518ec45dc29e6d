use Rattle.std.proofs.Common.{◌∙◌}
use Rattle.amqp_endpoint_link_calls.proofs.Sent.{sent-goes}
use Rattle.amqp_endpoint_link_calls.proofs.sending.send.Goals as goal

pub returns-clause-goes : goal.returns-clause-goes
returns-clause-goes c =
    let call = c.send_in-sent in
    sent-goes c.args.talk.now call.new.talk c.in_ok-session.session c.in_ok-session.handle c.args.out.now.items
    call.new.out.items c.len-from.result (c.len-from.ensures ∙ c.args.out.now.ok.0) c.frames_are_read.ensures
    c.args.limit c.args.tag c.args.message.now call.result call.ensures.ok call.ensures.kept
