use Rattle.std.proofs.Common.{sym}
use Rattle.amqp_endpoint_link_calls.proofs.Done.{kept}
use Rattle.amqp_endpoint_link_calls.proofs.Sent.{sent-err, sent-ok}
use Rattle.amqp_endpoint_link_calls.proofs.sending.send_in.Goals as goal

pub returns-clause-ok : goal.returns-clause-ok
returns-clause-ok c =
    sent-ok c.args.talk.now c.args.session c.args.handle c.in-Some.session.now (sym c.in-Some.ensures.value)
    c.deref_mut.result.now c.send.new.session c.args.out.now.items c.send.new.out.items c.deref_mut.ensures.value
    c.args.limit c.args.tag c.args.message.now c.send.result c.send.ensures.answer

pub returns-clause-err : goal.returns-clause-err
returns-clause-err c =
    sent-err c.args.talk.now c.args.session c.args.handle c.in-Some.session.now (sym c.in-Some.ensures.value)
    c.deref_mut.result.now c.send.new.session c.args.out.now.items c.send.new.out.items c.deref_mut.ensures.value
    c.args.limit c.args.tag c.args.message.now c.send.result c.send.ensures.answer

pub returns-clause-kept : goal.returns-clause-kept
returns-clause-kept c =
    kept c.args.talk.now c.args.session c.in-Some.session.now (sym c.in-Some.ensures.value) c.send.result
    c.deref_mut.result.now c.send.new.session c.args.out.now.items c.send.new.out.items c.deref_mut.ensures.value
    c.send.ensures.kept
