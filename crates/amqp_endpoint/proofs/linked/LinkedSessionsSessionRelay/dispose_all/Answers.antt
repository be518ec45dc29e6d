use Rattle.std.proofs.Common.{refl}
use Rattle.amqp_endpoint.specs.declared.linked.LinkedSessions.{LinkedSessions}
use Rattle.amqp_endpoint.proofs.Messages.{disposes-all}
use Rattle.amqp_endpoint.proofs.linked.LinkedSessionsSessionRelay.dispose_all.Goals as goal

pub returns-clause-ok : goal.returns-clause-ok
returns-clause-ok c =
    let old = c.args.self.now in
    let call = c.dispose_all in
    let new : LinkedSessions = record old { talk = call.new.talk } in
    disposes-all old new c.args.limit c.args.link c.args.disposal.now c.args.out.now.items call.new.out.items
    c.requires.least c.requires.waiting call.ensures.goes refl refl refl c.args.messages.now call.result call.ensures.ok
    call.ensures.allowed

pub returns-clause-within : goal.returns-clause-within
returns-clause-within c most least = c.dispose_all.ensures.waits most

pub returns-clause-quiet : goal.returns-clause-quiet
returns-clause-quiet c = c.dispose_all.ensures.rests.silent

pub returns-clause-idle : goal.returns-clause-idle
returns-clause-idle c = c.dispose_all.ensures.rests.idle

pub returns-clause-still : goal.returns-clause-still
returns-clause-still c = c.dispose_all.ensures.goes.still
