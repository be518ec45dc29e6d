use Rattle.std.proofs.Common.{refl}
use Rattle.amqp_endpoint_model.specs.declared.call.Call.TheVariants.{End}
use Rattle.amqp_endpoint_model.specs.Said.{done}
use Rattle.amqp_endpoint_linking.specs.Calling.{EndsOwn}
use Rattle.amqp_endpoint.specs.declared.linked.LinkedSessions.{LinkedSessions}
use Rattle.amqp_endpoint.proofs.Related.{called-on}
use Rattle.amqp_endpoint.proofs.linked.LinkedSessionsSessionRelay.end.Goals as goal

pub returns-clause-ok : goal.returns-clause-ok
returns-clause-ok c =
    let old = c.args.self.now in
    let new : LinkedSessions = record old { talk = c.end.new.talk; links = c.end.new.links } in
    called-on old new c.args._limit (End c.args.number) c.args.out.now.items c.end.new.out.items c.requires.least
    c.requires.waiting (c.end.ensures.goes c.args._limit) (record { sent = refl; given = refl }) done
    (λ frames. EndsOwn old.talk old.links c.args.number frames new.talk new.links) (λ frames ends. ends) c.end.result
    c.end.ensures.ok

pub returns-clause-within : goal.returns-clause-within
returns-clause-within c most = (c.end.ensures.goes most).waits

pub returns-clause-quiet : goal.returns-clause-quiet
returns-clause-quiet c = c.end.ensures.rests.silent

pub returns-clause-idle : goal.returns-clause-idle
returns-clause-idle c = c.end.ensures.rests.idle

pub returns-clause-still : goal.returns-clause-still
returns-clause-still c = (c.end.ensures.goes c.args._limit).still
