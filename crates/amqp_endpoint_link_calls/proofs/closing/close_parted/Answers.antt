use Rattle.amqp_endpoint_link_calls.proofs.Closed.{forgets-held}
use Rattle.amqp_endpoint_link_calls.proofs.closing.close_parted.Goals as goal

pub returns-clause-ok : goal.returns-clause-ok
returns-clause-ok c out =
    forgets-held c.args.talk.now c.fail_held.new.talk c.args.links.now c.close.new.self c.args.link c.args.session
    c.args.handle out c.close.result c.in_ok-events.events.items c.requires.held c.close.ensures
    (c.in_ok-events.ensures.ok out)
