use Rattle.std.proofs.Common.{rules}
use Rattle.amqp_link.proofs.Kept.{sender_kept}
use Rattle.amqp_link.proofs.relay.attach_sender.Goals as goal

-- src/relay.rt:117:1
pub returns-in-Err-clause-memory : goal.returns-in-Err-clause-memory
returns-in-Err-clause-memory c =
    λ refused. sender_kept c.args.link.now c.on_incoming_attach.new.self c.args.attach.now c.in-Err.ensures
