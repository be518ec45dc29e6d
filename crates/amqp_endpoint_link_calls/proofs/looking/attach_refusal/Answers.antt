use Rattle.amqp_endpoint_link_calls.proofs.Looked.{name-found, session-found}
use Rattle.amqp_endpoint_link_calls.proofs.looking.attach_refusal.Goals as goal

pub returns-in-Some : goal.returns-in-Some
returns-in-Some c =
    name-found c.args.talk.now c.args.links.now c.args.session c.args.settings.now c.args.role c.in-Some.refusal
    c.in-Some.ensures

pub returns-in-None : goal.returns-in-None
returns-in-None c =
    session-found c.args.talk.now c.args.links.now c.args.session c.args.settings.now c.args.role c.in-None.ensures
    c.live_refusal.result c.live_refusal.ensures
