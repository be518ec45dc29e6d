use Rattle.std.proofs.Common.{rules}
use Rattle.amqp_session_frames.specs.CommonTransfer.{fields_of}
use Rattle.amqp_session_frames.proofs.TransferWritten.{transfer_put}
use Rattle.amqp_session_frames.proofs.common_transfer.put_transfer.Goals as goal

pub returns : goal.returns
returns c =
    transfer_put (fields_of c.args.fields.now) _ _ _ _ _
    c.put_fields-end.ensures.fits (search rules) c.put_fields-end.ensures.small c.field_count.ensures
    c.put_fields-end.ensures.puts c.put_record.ensures (search rules) (search rules) (search rules)
