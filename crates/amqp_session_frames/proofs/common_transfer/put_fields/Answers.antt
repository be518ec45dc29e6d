use Rattle.amqp_session_frames.specs.CommonTransfer.{fields_of}
use Rattle.amqp_session_frames.proofs.TransferWritten.{fields_put}
use Rattle.amqp_session_frames.proofs.common_transfer.put_fields.Goals as goal

pub returns-clause-puts : goal.returns-clause-puts
returns-clause-puts c =
    fields_put (fields_of c.args.fields.now) _ _ _ _ _ _ _ _ _ _ _ _
    c.put_uint-at.ensures.puts
    c.put_uint-at-2.ensures.puts
    c.put_binary-at.ensures.puts
    c.put_uint-at-3.ensures.puts
    c.put_last.ensures.puts
