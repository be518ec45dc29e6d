use Rattle.std.proofs.Common.{refl}
use Rattle.amqp_endpoint_conversation.proofs.Calls.{none-within}
use Rattle.amqp_endpoint.specs.declared.linked.LinkedSessions.{LinkedSessions}
use Rattle.amqp_endpoint.proofs.Messages.{sends}
use Rattle.amqp_endpoint.proofs.linked.LinkedSessionsSessionRelay.send.Goals as goal

pub returns-clause-ok : goal.returns-clause-ok
returns-clause-ok c =
    let old = c.args.self.now in
    let call = c.send in
    let new : LinkedSessions = record old { talk = call.new.talk; sent = call.new.sent } in
    sends old new c.args.limit c.args.link c.args.message.now c.args.out.now.items call.new.out.items c.requires.least
    c.requires.waiting call.ensures.goes refl refl call.result call.ensures.counted call.ensures.ok

pub returns-clause-within : goal.returns-clause-within
returns-clause-within c = c.send.ensures.goes.waits c.requires.waiting

pub returns-clause-none : goal.returns-clause-none
returns-clause-none c none most = none-within most c.send.new.talk (c.send.ensures.rests.idle none)

pub returns-clause-quiet : goal.returns-clause-quiet
returns-clause-quiet c = c.send.ensures.rests.silent

pub returns-clause-idle : goal.returns-clause-idle
returns-clause-idle c = c.send.ensures.rests.idle

pub returns-clause-still : goal.returns-clause-still
returns-clause-still c = c.send.ensures.goes.still

pub returns-clause-err : goal.returns-clause-err
returns-clause-err c = c.send.ensures.err c.requires.least
