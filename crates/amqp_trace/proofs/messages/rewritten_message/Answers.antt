use Rattle.amqp_trace.proofs.Rewriting.{rewritten, not_written, write_done, write_refused}
use Rattle.amqp_trace.proofs.messages.rewritten_message.Goals as goal

pub returns-clause-ok : goal.returns-clause-ok
returns-clause-ok g c =
    write_done c.to_payload.result _ _ c.to_payload.ensures.ok
    (rewritten g.B.ReadBody.takes g.B.ReadBody.items g.B.WriteBody.items c.args.bytes.now c.in_ok-message.message c.in_ok-message.ensures.ok)

pub returns-clause-refused : goal.returns-clause-refused
returns-clause-refused g c =
    write_refused c.to_payload.result _ _ c.to_payload.ensures.refused
    (not_written g.B.ReadBody.takes g.B.ReadBody.items g.B.WriteBody.items c.args.bytes.now c.in_ok-message.message c.in_ok-message.ensures.ok)
