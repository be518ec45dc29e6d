use Rattle.std.proofs.Common.{refl}
use Rattle.amqp_session_frames.proofs.TransferRead.{performed_transfer}
use Rattle.amqp_session_frames.proofs.common_transfer.read_fields.Goals as goal

pub returns : goal.returns
returns c =
    performed_transfer c.args.content.now _ _ _ _ _ _ _ _
    c.in-Some.ensures
    c.in-Some-read_uint.ensures
    c.in-Some-read_uint-2.ensures
    c.in-Some-read_binary.ensures
    c.in-Some-read_uint-3.ensures
    c.in-Some-read_last.ensures
    refl
