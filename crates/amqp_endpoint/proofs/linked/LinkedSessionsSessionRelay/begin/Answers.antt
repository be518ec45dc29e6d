use Rattle.std.proofs.Common.{refl}
use Rattle.amqp_endpoint_model.specs.declared.call.Call.TheVariants.{Begin}
use Rattle.amqp_endpoint_model.specs.Said.{session_begun}
use Rattle.amqp_endpoint_linking.specs.Calling.{Begins}
use Rattle.amqp_endpoint.specs.declared.linked.LinkedSessions.{LinkedSessions}
use Rattle.amqp_endpoint.proofs.Related.{called-if}
use Rattle.amqp_endpoint.proofs.linked.LinkedSessionsSessionRelay.begin.Goals as goal

pub returns-clause-ok : goal.returns-clause-ok
returns-clause-ok c =
    let old = c.args.self.now in
    let new : LinkedSessions = record old { talk = c.begin.new.talk } in
    called-if old new c.args._limit Begin c.args.out.now.items c.begin.new.out.items c.requires.least
    c.requires.waiting (c.begin.ensures.goes c.args._limit) (record { sent = refl; given = refl })
    (λ number. session_begun number) (λ number frames. Begins old.talk number frames new.talk)
    (λ number frames begins. record { begins = begins; same = refl }) c.begin.result c.begin.ensures.ok

pub returns-clause-within : goal.returns-clause-within
returns-clause-within c = (c.begin.ensures.goes c.args._limit).waits c.requires.waiting

pub returns-clause-still : goal.returns-clause-still
returns-clause-still c = (c.begin.ensures.goes c.args._limit).still
