use Rattle.std.proofs.Common.{sym}
use Rattle.amqp_endpoint_link_calls.specs.Calling.{DoneIn}
use Rattle.amqp_endpoint_link_calls.specs.Closing.{ClosedBy, closes}
use Rattle.amqp_endpoint_link_calls.proofs.Closed.{closed-in, if-ok}
use Rattle.amqp_endpoint_link_calls.proofs.Done.{changed, kept}
use Rattle.amqp_endpoint_link_calls.proofs.closing.close_in.Goals as goal

pub returns-clause-ok : goal.returns-clause-ok
returns-clause-ok c =
    let live = sym c.in-Some.ensures.value in
    if-ok
    (λ events. ClosedBy events.items c.args.handle c.deref_mut.result.now c.args.out.now.items
    c.close_by.new.session c.close_by.new.out.items)
    (λ events. DoneIn (closes events.items) c.args.session c.args.handle c.args.talk.now c.args.out.now.items
    (changed c.args.talk.now c.args.session c.in-Some.session.now live c.close_by.new.session)
    c.close_by.new.out.items)
    c.close_by.result
    (λ events closed.
    closed-in c.args.talk.now c.args.session c.args.handle c.in-Some.session.now live c.deref_mut.result.now
    c.close_by.new.session c.args.out.now.items c.close_by.new.out.items c.deref_mut.ensures.value events.items closed)
    c.close_by.ensures.ok

pub returns-clause-kept : goal.returns-clause-kept
returns-clause-kept c =
    kept c.args.talk.now c.args.session c.in-Some.session.now (sym c.in-Some.ensures.value) c.close_by.result
    c.deref_mut.result.now c.close_by.new.session c.args.out.now.items c.close_by.new.out.items
    c.deref_mut.ensures.value c.close_by.ensures.kept
