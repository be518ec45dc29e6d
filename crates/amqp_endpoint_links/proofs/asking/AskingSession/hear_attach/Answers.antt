use Rattle.std.proofs.Common.{Err}
use Rattle.amqp_endpoint_links.proofs.Waiting.{attach-waits}
use Rattle.amqp_endpoint_links.proofs.asking.AskingSession.hear_attach.Goals as goal

pub returns-in-Err-clause-waiting : goal.returns-in-Err-clause-waiting
returns-in-Err-clause-waiting g c =
    attach-waits g.R.LinkRelay.gives c.args.self.now c.args.attach c.args.named (Err c.in-Err.error)
    c.on_incoming_attach.new.self c.in-Err.ensures
