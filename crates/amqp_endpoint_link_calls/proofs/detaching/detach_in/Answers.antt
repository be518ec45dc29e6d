use Rattle.std.proofs.Common.{false, sym}
use Rattle.amqp_endpoint_link_calls.proofs.Detached.{detached-ok}
use Rattle.amqp_endpoint_link_calls.proofs.Done.{kept}
use Rattle.amqp_endpoint_link_calls.proofs.detaching.detach_in.Goals as goal

pub returns-clause-ok : goal.returns-clause-ok
returns-clause-ok c =
    detached-ok c.args.talk.now c.args.session c.args.handle false c.in-Some.session.now
    (sym c.in-Some.ensures.value)
    c.deref_mut.result.now c.detach.new.session c.args.out.now.items c.detach.new.out.items c.deref_mut.ensures.value
    c.detach.result c.detach.ensures.answer

pub returns-clause-kept : goal.returns-clause-kept
returns-clause-kept c =
    kept c.args.talk.now c.args.session c.in-Some.session.now (sym c.in-Some.ensures.value) c.detach.result
    c.deref_mut.result.now c.detach.new.session c.args.out.now.items c.detach.new.out.items c.deref_mut.ensures.value
    c.detach.ensures.kept
