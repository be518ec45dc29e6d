use Rattle.std.proofs.Common.{rules, ◌+◌, length}
use Rattle.amqp_session_frames.proofs.Fronts.{left_behind}
use Rattle.amqp_session_frames.proofs.TerminusRead.{addressed_found}
use Rattle.amqp_session_frames.proofs.common_terminus.read_addressed.Goals as goal

pub returns : goal.returns
returns c =
    addressed_found c.args.code _ c.args.bytes.now _ _ _ c.in-Some.ensures (search rules)
    c.in-Some-read_address.ensures (left_behind (6 + length c.in-Some.fields.now) c.args.bytes.now)
