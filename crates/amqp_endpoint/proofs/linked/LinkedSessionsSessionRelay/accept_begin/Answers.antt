use Rattle.std.proofs.Common.{refl}
use Rattle.amqp_endpoint_model.specs.declared.call.Call.TheVariants.{AcceptBegin}
use Rattle.amqp_endpoint_model.specs.Said.{session_begun}
use Rattle.amqp_endpoint_linking.specs.Calling.{Accepts}
use Rattle.amqp_endpoint.specs.declared.linked.LinkedSessions.{LinkedSessions}
use Rattle.amqp_endpoint.proofs.Related.{called-if}
use Rattle.amqp_endpoint.proofs.linked.LinkedSessionsSessionRelay.accept_begin.Goals as goal

pub returns-clause-ok : goal.returns-clause-ok
returns-clause-ok c =
    let old = c.args.self.now in
    let call = c.accept_begin in
    let new : LinkedSessions = record old { talk = call.new.talk } in
    called-if old new c.args._limit (AcceptBegin c.args.channel) c.args.out.now.items call.new.out.items
    c.requires.least c.requires.waiting (call.ensures.goes c.args._limit) (record { sent = refl; given = refl })
    (λ number. session_begun number)
    (λ number frames. Accepts old.talk c.args.channel number frames new.talk)
    (λ number frames accepts. record { accepts = accepts; same = refl }) call.result call.ensures.ok

pub returns-clause-within : goal.returns-clause-within
returns-clause-within c = (c.accept_begin.ensures.goes c.args._limit).waits c.requires.waiting

pub returns-clause-still : goal.returns-clause-still
returns-clause-still c = (c.accept_begin.ensures.goes c.args._limit).still
