use Rattle.std.proofs.Common.{[], refl}
use Rattle.amqp_endpoint_model.specs.declared.call.Call.TheVariants.{Grant}
use Rattle.amqp_endpoint_tables.specs.LinkState.{place_at}
use Rattle.amqp_endpoint_model.specs.Said.{credit_is}
use Rattle.amqp_endpoint_link_calls.specs.Calling.{DoneAt, gives_credit}
use Rattle.amqp_endpoint.specs.declared.linked.LinkedSessions.{LinkedSessions}
use Rattle.amqp_endpoint.proofs.Related.{called-if, left-hands}
use Rattle.amqp_endpoint.proofs.linked.LinkedSessionsSessionRelay.grant.Goals as goal

pub returns-clause-ok : goal.returns-clause-ok
returns-clause-ok c =
    let old = c.args.self.now in
    let call = c.grant in
    let new : LinkedSessions = record old { talk = call.new.talk } in
    let place = place_at old.links c.args.link in
    called-if old new c.args._limit (Grant c.args.link c.args.credit) c.args.out.now.items call.new.out.items
    c.requires.least c.requires.waiting (call.ensures.goes c.args._limit) (record { sent = refl; given = refl })
    (λ left. credit_is left) (λ left frames. DoneAt (gives_credit c.args.credit left) place old.talk [] new.talk frames)
    (λ left frames is. record { is_done = is; same = refl }) call.result
    (left-hands (gives_credit c.args.credit) old.talk new.talk c.args.out.now.items call.new.out.items place
    call.result call.ensures.ok)

pub returns-clause-within : goal.returns-clause-within
returns-clause-within c most least = (c.grant.ensures.goes most).waits

pub returns-clause-quiet : goal.returns-clause-quiet
returns-clause-quiet c = c.grant.ensures.rests.silent

pub returns-clause-idle : goal.returns-clause-idle
returns-clause-idle c = c.grant.ensures.rests.idle

pub returns-clause-still : goal.returns-clause-still
returns-clause-still c = (c.grant.ensures.goes c.args._limit).still
