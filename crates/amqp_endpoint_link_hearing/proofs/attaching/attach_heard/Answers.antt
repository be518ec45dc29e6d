use Rattle.std.proofs.Common.{◌+◌}
use Rattle.std.specs.Vec.{vec_capacity, vec_len}
use Rattle.amqp_endpoint_link_hearing.proofs.Becoming.{absent-only, asked-only, attached-only, by-link, can-be-told}
use Rattle.amqp_endpoint_link_hearing.proofs.Becoming.{can-go-on, nothing-only, to-be-done, unready}
use Rattle.amqp_endpoint_link_hearing.specs.Readied.{count_of}
use Rattle.amqp_endpoint_link_hearing.proofs.attaching.attach_heard.Goals as goal

pub unreachable-requires : goal.unreachable-requires
unreachable-requires c =
    absurd
    (unready c.args.talk.now c.args.took c.args.awaited.named _ _ c.args.awaited.ready c.in-ByLink._session
    c.in-ByLink.told c.in-Waiting._handle c.in-ByLink.is c.in-Waiting.is c.requires.serves c.in-None.is)

pub take_by_link-requires-clause-serves : goal.take_by_link-requires-clause-serves
take_by_link-requires-clause-serves c =
    can-go-on c.args.talk.now c.args.took c.args.awaited.named _ _ c.args.awaited.ready c.in-ByLink._session
    c.in-ByLink.told c.in-Waiting._handle c.in-ByLink.is c.in-Waiting.is c.requires.serves c.in-Some.ready c.in-Some.is

pub take_by_link-requires-clause-tells : goal.take_by_link-requires-clause-tells
take_by_link-requires-clause-tells c =
    can-be-told c.args.talk.now c.args.took c.args.awaited.named _ _ c.args.awaited.ready c.in-ByLink._session
    c.in-ByLink.told c.in-Waiting._handle c.in-ByLink.is c.in-Waiting.is c.requires.serves c.in-Some.ready c.in-Some.is
    (vec_len c.args.events.now + 1) (vec_capacity c.args.events.now) c.requires.tells

pub returns-in-Some-clause-becomes : goal.returns-in-Some-clause-becomes
returns-in-Some-clause-becomes c = λ limit left.
    by-link c.args.talk.now c.args.took c.args.awaited.named _ _ c.args.awaited.ready c.in-ByLink._session
    c.in-ByLink.told c.in-Waiting._handle c.in-ByLink.is c.in-Waiting.is c.requires.serves c.in-Some.ready c.in-Some.is
    limit left c.args.awaited.asked c.take_by_link.new.talk c.args.out.now.items c.take_by_link.new.out.items
    c.args.events.now.items c.take_by_link.new.events.items
    (c.take_by_link.ensures.takes limit
    (to-be-done c.args.talk.now c.args.took c.args.awaited.named _ _ c.args.awaited.ready c.in-ByLink._session
    c.in-ByLink.told c.in-Waiting._handle c.in-ByLink.is c.in-Waiting.is c.requires.serves c.in-Some.ready c.in-Some.is
    limit left))

pub returns-in-Some-clause-goes : goal.returns-in-Some-clause-goes
returns-in-Some-clause-goes c = λ limit left.
    c.take_by_link.ensures.goes limit
    (to-be-done c.args.talk.now c.args.took c.args.awaited.named _ _ c.args.awaited.ready c.in-ByLink._session
    c.in-ByLink.told c.in-Waiting._handle c.in-ByLink.is c.in-Waiting.is c.requires.serves c.in-Some.ready c.in-Some.is
    limit left)

pub returns-in-Some-clause-rests : goal.returns-in-Some-clause-rests
returns-in-Some-clause-rests c = λ limit left.
    c.take_by_link.ensures.rests limit
    (to-be-done c.args.talk.now c.args.took c.args.awaited.named _ _ c.args.awaited.ready c.in-ByLink._session
    c.in-ByLink.told c.in-Waiting._handle c.in-ByLink.is c.in-Waiting.is c.requires.serves c.in-Some.ready c.in-Some.is
    limit left)

pub returns-in-Asked-clause-becomes : goal.returns-in-Asked-clause-becomes
returns-in-Asked-clause-becomes c = λ limit left.
    asked-only limit (count_of c.args.awaited.ready) c.args.talk.now c.args.took c.args.awaited.named
    c.args.awaited.asked c.args.out.now.items c.args.events.now.items c.in-Asked.session c.tell_asked.new.events.items
    c.in-Asked.is c.tell_asked.ensures

pub returns-in-Absent-clause-becomes : goal.returns-in-Absent-clause-becomes
returns-in-Absent-clause-becomes c = λ limit left.
    absent-only limit (count_of c.args.awaited.ready) c.args.talk.now c.args.took c.args.awaited.named
    c.args.awaited.asked c.args.out.now.items c.args.events.now.items c.in-ByLink._session c.in-ByLink.told
    c.in-ByLink.is
    c.in-Absent.is

pub returns-in-Attached-clause-becomes : goal.returns-in-Attached-clause-becomes
returns-in-Attached-clause-becomes c = λ limit left.
    attached-only limit (count_of c.args.awaited.ready) c.args.talk.now c.args.took c.args.awaited.named
    c.args.awaited.asked c.args.out.now.items c.args.events.now.items c.in-ByLink._session c.in-ByLink.told
    c.in-ByLink.is
    c.in-Attached.is

pub returns-in-Nothing-clause-becomes : goal.returns-in-Nothing-clause-becomes
returns-in-Nothing-clause-becomes c = λ limit left.
    nothing-only limit (count_of c.args.awaited.ready) c.args.talk.now c.args.took c.args.awaited.named
    c.args.awaited.asked c.args.out.now.items c.args.events.now.items c.in-Nothing.is
