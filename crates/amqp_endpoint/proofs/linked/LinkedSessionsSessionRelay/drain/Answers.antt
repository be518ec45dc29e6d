use Rattle.std.proofs.Common.{[], refl}
use Rattle.amqp_endpoint_model.specs.declared.call.Call.TheVariants.{Drain}
use Rattle.amqp_endpoint_tables.specs.LinkState.{place_at}
use Rattle.amqp_endpoint_model.specs.Said.{done}
use Rattle.amqp_endpoint_link_calls.specs.Calling.{DoneAt, wants_drain}
use Rattle.amqp_endpoint.specs.declared.linked.LinkedSessions.{LinkedSessions}
use Rattle.amqp_endpoint.proofs.Related.{called-on, done-hands-on}
use Rattle.amqp_endpoint.proofs.linked.LinkedSessionsSessionRelay.drain.Goals as goal

pub returns-clause-ok : goal.returns-clause-ok
returns-clause-ok c =
    let old = c.args.self.now in
    let call = c.drain in
    let new : LinkedSessions = record old { talk = call.new.talk } in
    let place = place_at old.links c.args.link in
    called-on old new c.args._limit (Drain c.args.link) c.args.out.now.items call.new.out.items c.requires.least
    c.requires.waiting (call.ensures.goes c.args._limit) (record { sent = refl; given = refl }) done
    (λ frames. DoneAt wants_drain place old.talk [] new.talk frames)
    (λ frames is. record { is_done = is; same = refl }) call.result
    (done-hands-on wants_drain old.talk new.talk c.args.out.now.items call.new.out.items place call.result
    call.ensures.ok)

pub returns-clause-within : goal.returns-clause-within
returns-clause-within c most least = (c.drain.ensures.goes most).waits

pub returns-clause-quiet : goal.returns-clause-quiet
returns-clause-quiet c = c.drain.ensures.rests.silent

pub returns-clause-idle : goal.returns-clause-idle
returns-clause-idle c = c.drain.ensures.rests.idle

pub returns-clause-still : goal.returns-clause-still
returns-clause-still c = (c.drain.ensures.goes c.args._limit).still
