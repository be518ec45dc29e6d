use Rattle.amqp_endpoint.proofs.AttachedLinks.{resumed}
use Rattle.amqp_endpoint.proofs.attaching.resume.Goals as goal

pub returns-clause-ok : goal.returns-clause-ok
returns-clause-ok c =
    let call = c.resume in
    resumed c.args.talk.now call.new.talk c.args.links.now call.new.links c.args.limit c.args.again.link
    c.args.again.session c.in_ok-placed.placed c.told.result.link c.told.result.events.items
    c.args.out.now.items call.new.out.items c.in_ok-placed.ensures.ok c.told.ensures.0 c.told.ensures.1
