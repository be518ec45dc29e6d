use Rattle.std.proofs.Common.{refl}
use Rattle.amqp_endpoint.specs.declared.linked.LinkedSessions.{LinkedSessions}
use Rattle.amqp_endpoint.proofs.Messages.{disposes-one}
use Rattle.amqp_endpoint.proofs.linked.LinkedSessionsSessionRelay.dispose.Goals as goal

pub returns-clause-ok : goal.returns-clause-ok
returns-clause-ok c =
    let old = c.args.self.now in
    let call = c.dispose in
    let new : LinkedSessions = record old { talk = call.new.talk } in
    disposes-one old new c.args.limit c.args.link c.args.disposal.now c.args.out.now.items call.new.out.items
    c.requires.least c.requires.waiting call.ensures.goes refl refl refl c.args.message call.result call.ensures.ok
    call.ensures.allowed

pub returns-clause-within : goal.returns-clause-within
returns-clause-within c most least = c.dispose.ensures.waits most

pub returns-clause-quiet : goal.returns-clause-quiet
returns-clause-quiet c = c.dispose.ensures.rests.silent

pub returns-clause-idle : goal.returns-clause-idle
returns-clause-idle c = c.dispose.ensures.rests.idle

pub returns-clause-still : goal.returns-clause-still
returns-clause-still c = c.dispose.ensures.goes.still
