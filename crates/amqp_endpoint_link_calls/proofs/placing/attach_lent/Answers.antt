use Rattle.std.proofs.Common.{sym}
use Rattle.amqp_endpoint_link_calls.proofs.AttachLent.{all-attach, all-refuse, all-stay}
use Rattle.amqp_endpoint_link_calls.proofs.placing.attach_lent.Goals as goal

pub returns-clause-ok : goal.returns-clause-ok
returns-clause-ok c =
    all-attach c.args.talk.now c.args.coming.session c.in-Some.live.now (sym c.in-Some.ensures.value)
    c.deref_mut.result.now c.attach_in.new.live c.deref_mut.ensures.value c.args.limit c.args.coming.link
    c.args.out.now.items c.attach_in.new.out.items c.args.coming.number c.attach_in.result c.attach_in.ensures.ok
    c.attach_in.ensures.placed

pub returns-clause-err : goal.returns-clause-err
returns-clause-err c =
    all-refuse c.args.talk.now c.args.coming.session c.in-Some.live.now (sym c.in-Some.ensures.value)
    c.deref_mut.result.now c.attach_in.new.live c.deref_mut.ensures.value c.args.limit c.args.coming.link
    c.args.out.now.items c.attach_in.new.out.items c.attach_in.result c.attach_in.ensures.err

pub returns-clause-kept : goal.returns-clause-kept
returns-clause-kept c =
    all-stay c.args.talk.now c.args.coming.session c.in-Some.live.now (sym c.in-Some.ensures.value)
    c.deref_mut.result.now c.attach_in.new.live c.deref_mut.ensures.value c.args.limit c.args.coming.link
    c.args.out.now.items c.attach_in.new.out.items c.attach_in.result c.attach_in.ensures.kept
