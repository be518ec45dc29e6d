use Rattle.std.proofs.Common.{sym}
use Rattle.amqp_endpoint_link_calls.proofs.Credited.{drained-ok}
use Rattle.amqp_endpoint_link_calls.proofs.Done.{kept}
use Rattle.amqp_endpoint_link_calls.proofs.crediting.drain_in.Goals as goal

pub returns-clause-ok : goal.returns-clause-ok
returns-clause-ok c =
    drained-ok c.args.talk.now c.args.session c.args.handle c.in-Some.session.now (sym c.in-Some.ensures.value)
    c.deref_mut.result.now c.drain.new.session c.args.out.now.items c.drain.new.out.items c.deref_mut.ensures.value
    c.drain.result c.drain.ensures.answer

pub returns-clause-kept : goal.returns-clause-kept
returns-clause-kept c =
    kept c.args.talk.now c.args.session c.in-Some.session.now (sym c.in-Some.ensures.value) c.drain.result
    c.deref_mut.result.now c.drain.new.session c.args.out.now.items c.drain.new.out.items c.deref_mut.ensures.value
    c.drain.ensures.kept
