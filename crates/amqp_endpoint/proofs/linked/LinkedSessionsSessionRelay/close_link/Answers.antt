use Rattle.std.proofs.Common.{[], refl}
use Rattle.amqp_endpoint_model.specs.declared.call.Call.TheVariants.{CloseLink}
use Rattle.amqp_endpoint_tables.specs.LinkState.{place_at}
use Rattle.amqp_endpoint_model.specs.Said.{link_closed}
use Rattle.amqp_endpoint_link_calls.specs.Closing.{ClosedAt}
use Rattle.amqp_endpoint.specs.declared.linked.LinkedSessions.{LinkedSessions}
use Rattle.amqp_endpoint.proofs.Related.{called-if, closed-hands-if}
use Rattle.amqp_endpoint.proofs.linked.LinkedSessionsSessionRelay.close_link.Goals as goal

pub returns-clause-ok : goal.returns-clause-ok
returns-clause-ok c =
    let old = c.args.self.now in
    let call = c.close_link in
    let new : LinkedSessions = record old { talk = call.new.talk; links = call.new.links } in
    let place = place_at old.links c.args.link in
    called-if old new c.args._limit (CloseLink c.args.link) c.args.out.now.items call.new.out.items c.requires.least
    c.requires.waiting (call.ensures.goes c.args._limit c.requires.least) (record { sent = refl; given = refl })
    (λ events. link_closed events.items)
    (λ events frames. ClosedAt place old.talk old.links c.args.link [] events.items new.talk new.links frames)
    (λ events frames is. is) call.result
    (closed-hands-if old.talk new.talk old.links new.links c.args.link c.args.out.now.items call.new.out.items place
    call.result call.ensures.ok)

pub returns-clause-within : goal.returns-clause-within
returns-clause-within c most least = (c.close_link.ensures.goes most least).waits

pub returns-clause-quiet : goal.returns-clause-quiet
returns-clause-quiet c = c.close_link.ensures.rests.silent

pub returns-clause-idle : goal.returns-clause-idle
returns-clause-idle c = c.close_link.ensures.rests.idle

pub returns-clause-still : goal.returns-clause-still
returns-clause-still c = (c.close_link.ensures.goes c.args._limit c.requires.least).still
