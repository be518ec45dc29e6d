use Rattle.amqp_endpoint_link_hearing.proofs.Messages.{remembers-not, remembers-so}
use Rattle.amqp_endpoint_link_hearing.proofs.handing.remember_unless_settled.Goals as goal

pub returns-then-message : goal.returns-then-message
returns-then-message c =
    remembers-not c.args.message.now.settled c.if-message.true c.args.handle
    c.args.message.now.delivery_tag c.args.number c.args.talk.now c.args.session

pub returns : goal.returns
returns c =
    remembers-so c.args.message.now.settled c.if-message.false c.args.handle
    c.args.message.now.delivery_tag c.args.number c.args.talk.now c.args.session c.remember.new.talk
    c.remember.ensures
