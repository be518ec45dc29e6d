use Rattle.std.proofs.Common.{None, Some, refl}
use Rattle.amqp_endpoint_attached.specs.Linked.{Linked}
use Rattle.amqp_endpoint_messages.proofs.Credited.{credited, credited-not}
use Rattle.amqp_endpoint_messages.proofs.sending_on.send_on.Goals as goal

pub send_each-stopped-requires-clause-credit : goal.send_each-stopped-requires-clause-credit
send_each-stopped-requires-clause-credit c =
    (c.requires.may.link, c.requires.may.there, c.requires.may.credit)

pub close_for-requires-clause-place : goal.close_for-requires-clause-place
close_for-requires-clause-place c =
    c.send_each-stopped.ensures.place c.args.ready.closing.place c.requires.sends.place.some
    c.requires.sends.place.serves

pub returns-in-None : goal.returns-in-None
returns-in-None c = λ limit ons ready.
    let gone : Linked = record c.args.session.now { session = c.send_each-stopped.new.session } in
    credited limit c.args.ready.closing.session c.args.ready.closing.count c.args.ready.closing.handle
    c.args.ready.closing.why ons c.args.ready.sending ready c.args.session.now gone c.args.out.now.items
    c.send_each-stopped.new.out.items c.args.events.now.items c.send_each-stopped.result
    c.send_each-stopped.ensures.sent refl None c.in-None.ensures refl

pub returns-in-Some : goal.returns-in-Some
returns-in-Some c = λ limit ons ready.
    let gone : Linked = record c.args.session.now { session = c.send_each-stopped.new.session } in
    credited-not limit c.args.ready.closing.session c.args.ready.closing.count c.args.ready.closing.handle
    c.args.ready.closing.why ons c.args.ready.sending ready c.args.session.now gone c.args.out.now.items
    c.send_each-stopped.new.out.items c.args.events.now.items c.send_each-stopped.result
    c.send_each-stopped.ensures.sent refl (Some c.in-Some.error) c.in-Some.ensures c.in-Some.error
    c.close_for.new.session c.close_for.new.out.items c.close_for.new.events.items refl c.close_for.ensures
