use Rattle.amqp_endpoint.proofs.Arrived.{left-at-once, taken-at-once}
use Rattle.amqp_endpoint.proofs.linked.LinkedSessionsSessionRelay.takes_at_once.Goals as goal

pub returns-clause-taken : goal.returns-clause-taken
returns-clause-taken c =
    let call = c.hear_at_once in
    taken-at-once c.args.self.now call.new.talk call.new.given c.args._limit c.args.channel c.args.transfer.now
    c.args.payload.now c.args.out.now.items call.new.out.items c.requires.least c.requires.waiting
    (call.ensures.goes c.args._limit c.requires.least) call.result call.ensures.heard

pub returns-clause-none : goal.returns-clause-none
returns-clause-none c =
    let call = c.hear_at_once in
    left-at-once c.args.self.now call.new.talk call.new.given c.args._limit c.args.channel c.args.transfer.now
    c.args.payload.now c.args.out.now.items call.new.out.items call.result call.ensures.none

pub returns-clause-within : goal.returns-clause-within
returns-clause-within c = (c.hear_at_once.ensures.goes c.args._limit c.requires.least).waits c.requires.waiting

pub returns-clause-still : goal.returns-clause-still
returns-clause-still c = (c.hear_at_once.ensures.goes c.args._limit c.requires.least).still
