use Rattle.std.proofs.Common.{sym}
use Rattle.amqp_endpoint_link_calls.proofs.Credited.{granted-ok}
use Rattle.amqp_endpoint_link_calls.proofs.Done.{kept}
use Rattle.amqp_endpoint_link_calls.proofs.crediting.grant_in.Goals as goal

pub returns-clause-ok : goal.returns-clause-ok
returns-clause-ok c =
    granted-ok c.args.talk.now c.args.session c.args.handle c.in-Some.session.now (sym c.in-Some.ensures.value)
    c.deref_mut.result.now c.grant.new.session c.args.out.now.items c.grant.new.out.items c.deref_mut.ensures.value
    c.args.credit c.grant.result c.grant.ensures.answer

pub returns-clause-kept : goal.returns-clause-kept
returns-clause-kept c =
    kept c.args.talk.now c.args.session c.in-Some.session.now (sym c.in-Some.ensures.value) c.grant.result
    c.deref_mut.result.now c.grant.new.session c.args.out.now.items c.grant.new.out.items c.deref_mut.ensures.value
    c.grant.ensures.kept
