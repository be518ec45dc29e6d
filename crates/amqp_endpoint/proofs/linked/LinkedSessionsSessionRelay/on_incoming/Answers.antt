use Rattle.std.proofs.Common.{◌≡◌, refl}
use Rattle.amqp_endpoint.proofs.Heard.{kept-so, refused, taken}
use Rattle.amqp_endpoint.specs.declared.linked.LinkedSessions.{LinkedSessions}
use Rattle.amqp_endpoint.proofs.linked.LinkedSessionsSessionRelay.on_incoming.Goals as goal

pub returns-clause-ok : goal.returns-clause-ok
returns-clause-ok c =
    let old = c.args.self.now in
    let new : LinkedSessions =
    record old { talk = c.hear.new.talk; links = c.hear.new.links; given = c.hear.new.given } in
    taken old new c.args.limit c.args.channel c.args.body c.args.out.now.items c.hear.new.out.items
    c.args.events.now.items c.hear.new.events.items refl c.requires.least c.requires.waiting
    (c.hear.ensures.goes c.requires.least) c.hear.result c.hear.ensures.ok

pub returns-clause-err : goal.returns-clause-err
returns-clause-err c =
    let old = c.args.self.now in
    let new : LinkedSessions =
    record old { talk = c.hear.new.talk; links = c.hear.new.links; given = c.hear.new.given } in
    refused old new c.args.limit c.args.channel c.args.body c.args.out.now.items c.hear.new.out.items
    c.args.events.now.items c.hear.new.events.items refl c.hear.result c.hear.ensures.err c.hear.ensures.kept

pub returns-clause-kept : goal.returns-clause-kept
returns-clause-kept c =
    kept-so
    ((c.hear.new.links ≡ c.args.self.now.links) × (c.hear.new.given ≡ c.args.self.now.given)
    × (c.hear.new.out.items ≡ c.args.out.now.items)
    × (c.hear.new.events.items ≡ c.args.events.now.items))
    ((c.hear.new.out.items ≡ c.args.out.now.items) × (c.hear.new.events.items ≡ c.args.events.now.items))
    (λ kept. (kept.2, kept.3)) c.hear.result c.hear.ensures.kept

pub returns-clause-within : goal.returns-clause-within
returns-clause-within c = (c.hear.ensures.goes c.requires.least).waits c.requires.waiting

pub returns-clause-still : goal.returns-clause-still
returns-clause-still c = (c.hear.ensures.goes c.requires.least).still
