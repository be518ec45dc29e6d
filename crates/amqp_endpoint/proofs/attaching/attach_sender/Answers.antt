use Rattle.amqp_endpoint_attached.specs.Links.{sender_by}
use Rattle.amqp_endpoint.proofs.AttachedLinks.{attached}
use Rattle.amqp_endpoint.proofs.attaching.attach_sender.Goals as goal

pub returns-clause-ok : goal.returns-clause-ok
returns-clause-ok c =
    let call = c.attach_sender in
    attached c.args.talk.now call.new.talk c.args.links.now call.new.links c.args.limit c.args.session
    (sender_by c.args.settings.now) c.in_ok-placed.placed c.told.result.link c.told.result.events.items
    c.args.out.now.items call.new.out.items c.in_ok-placed.ensures.ok c.told.ensures.0 c.told.ensures.1
