use Rattle.std.proofs.Common.{arith, sym}
use Rattle.amqp_endpoint_link_hearing.proofs.AttachReadied.{closes-in, link-attached, link-refused}
use Rattle.amqp_endpoint_link_hearing.proofs.Takes.{numbered}
use Rattle.amqp_endpoint_link_hearing.proofs.attaching.take_by_link.Goals as goal

pub number_of-link-requires : goal.number_of-link-requires
number_of-link-requires c = c.requires.serves.there

pub tell_attached-requires : goal.tell_attached-requires
tell_attached-requires c = omega (arith, c.requires.tells)

pub go_on-requires-clause-tells : goal.go_on-requires-clause-tells
go_on-requires-clause-tells c =
    omega (arith, c.requires.tells, c.tell_attached.ensures.len, c.tell_attached.ensures.capacity)

pub close-requires-clause-closes : goal.close-requires-clause-closes
close-requires-clause-closes c =
    closes-in c.args.talk.now _ _ c.args.ready c.requires.serves

pub close-requires-clause-tells : goal.close-requires-clause-tells
close-requires-clause-tells c = omega (arith, c.requires.tells)

pub returns-in-Ok-clause-takes : goal.returns-in-Ok-clause-takes
returns-in-Ok-clause-takes c = λ limit left.
    link-attached limit c.args.ready.closing.count c.args.talk.now c.args.ready.closing.session
    c.args.ready.closing.handle c.number_of-link.result
    (numbered c.args.talk.now c.args.ready.closing.session c.args.ready.closing.handle c.number_of-link.result
    c.requires.serves.there c.number_of-link.ensures)
    c.args.told c.go_on.new.talk c.args.out.now.items c.go_on.new.out.items c.args.events.now.items
    c.tell_attached.new.events.items c.go_on.new.events.items c.in-Ok.attaching c.in-Ok.ensures
    c.tell_attached.ensures.told
    (c.go_on.ensures.does limit c.in-Ok.attaching.aborts (left c.in-Ok.attaching (sym c.in-Ok.ensures)))

pub returns-in-Ok-clause-goes : goal.returns-in-Ok-clause-goes
returns-in-Ok-clause-goes c = λ limit left.
    c.go_on.ensures.goes limit c.in-Ok.attaching.aborts (left c.in-Ok.attaching (sym c.in-Ok.ensures))

pub returns-in-Ok-clause-rests : goal.returns-in-Ok-clause-rests
returns-in-Ok-clause-rests c = λ limit left.
    c.go_on.ensures.rests limit c.in-Ok.attaching.aborts (left c.in-Ok.attaching (sym c.in-Ok.ensures))

pub returns-in-Err-clause-takes : goal.returns-in-Err-clause-takes
returns-in-Err-clause-takes c = λ limit left.
    link-refused limit c.args.ready.closing.count c.args.talk.now c.args.ready.closing.session
    c.args.ready.closing.handle c.number_of-link.result
    (numbered c.args.talk.now c.args.ready.closing.session c.args.ready.closing.handle c.number_of-link.result
    c.requires.serves.there c.number_of-link.ensures)
    c.args.told c.close.new.talk c.args.out.now.items c.close.new.out.items c.args.events.now.items
    c.args.events.now.items c.close.new.events.items c.in-Err.error c.in-Err.ensures c.close.ensures.does

pub returns-in-Err-clause-goes : goal.returns-in-Err-clause-goes
returns-in-Err-clause-goes c = λ limit left. c.close.ensures.goes limit

pub returns-in-Err-clause-rests : goal.returns-in-Err-clause-rests
returns-in-Err-clause-rests c = λ limit left. c.close.ensures.rests
