use Rattle.amqp_endpoint.proofs.Unsent.{looked}
use Rattle.amqp_endpoint.proofs.linked.LinkedSessionsSessionRelay.send_refusal.Goals as goal

pub returns : goal.returns
returns c limit message capped =
    looked c.args.self.now.sent c.args.self.now.talk c.args.self.now.links c.args.link c.args.size message
    c.send_refusal.result c.send_refusal.ensures capped
