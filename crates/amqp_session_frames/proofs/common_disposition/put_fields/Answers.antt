use Rattle.amqp_session_frames.proofs.DispositionWritten.{fields_put}
use Rattle.amqp_session_frames.proofs.common_disposition.put_fields.Goals as goal

pub returns-clause-puts : goal.returns-clause-puts
returns-clause-puts c =
    fields_put c.args.fields _ _ _ _ _ _ _ _ _ _ _ _ _ _
    c.receives.ensures c.code_of.ensures
    c.put_boolean-at.ensures.puts
    c.put_uint-at.ensures.puts
    c.put_last-at.ensures.puts
    c.put_settled-at.ensures.puts
    c.put.ensures.puts
