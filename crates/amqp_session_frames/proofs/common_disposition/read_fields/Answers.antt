use Rattle.std.proofs.Common.{rules}
use Rattle.amqp_session_frames.proofs.DispositionRead.{performed_disposition}
use Rattle.amqp_session_frames.proofs.common_disposition.read_fields.Goals as goal

pub returns : goal.returns
returns c =
    performed_disposition c.args.content.now _ _ _ _ _ _ _ _ _
    c.in-Some.ensures (search rules)
    c.in-Some-read_boolean.ensures
    c.in-Some-read_uint.ensures
    c.in-Some-read_uint_or_null.ensures
    c.in-Some-read_flag.ensures
    c.in-Some-read_outcome.ensures
    c.role_of.ensures (search rules)
