use Rattle.std.proofs.Common.{refl}
use Rattle.amqp_endpoint_conversation.proofs.Calls.{none-within}
use Rattle.amqp_endpoint_model.specs.declared.call.Call.TheVariants.{Resume}
use Rattle.amqp_endpoint_model.specs.Said.{attaching}
use Rattle.amqp_endpoint.specs.Attaching.{LinkResumed}
use Rattle.amqp_endpoint.specs.declared.linked.LinkedSessions.{LinkedSessions}
use Rattle.amqp_endpoint.proofs.Related.{called-if}
use Rattle.amqp_endpoint.proofs.linked.LinkedSessionsSessionRelay.resume.Goals as goal

pub returns-clause-ok : goal.returns-clause-ok
returns-clause-ok c =
    let old = c.args.self.now in
    let call = c.resume in
    let new : LinkedSessions = record old { talk = call.new.talk; links = call.new.links } in
    called-if old new c.args.limit (Resume c.args.link c.args.session) c.args.out.now.items
    call.new.out.items c.requires.least c.requires.waiting (call.ensures.goes c.requires.least)
    (record { sent = refl; given = refl })
    (λ a. attaching a.link a.events.items)
    (λ a frames. LinkResumed old.talk old.links c.args.limit c.args.link c.args.session a.link
    a.events.items frames new.talk new.links)
    (λ a frames resumed. resumed) call.result call.ensures.ok

pub returns-clause-within : goal.returns-clause-within
returns-clause-within c = (c.resume.ensures.goes c.requires.least).waits c.requires.waiting

pub returns-clause-none : goal.returns-clause-none
returns-clause-none c none most =
    none-within most c.resume.new.talk (c.resume.ensures.rests.idle none)

pub returns-clause-quiet : goal.returns-clause-quiet
returns-clause-quiet c = c.resume.ensures.rests.silent

pub returns-clause-idle : goal.returns-clause-idle
returns-clause-idle c = c.resume.ensures.rests.idle

pub returns-clause-still : goal.returns-clause-still
returns-clause-still c = (c.resume.ensures.goes c.requires.least).still
