use Rattle.std.proofs.Common.{rules}
use Rattle.amqp_session_frames.proofs.Fronts.{left_behind}
use Rattle.amqp_session_frames.proofs.TerminusRead.{bare_found}
use Rattle.amqp_session_frames.proofs.common_terminus.read_bare.Goals as goal

pub returns : goal.returns
returns c =
    bare_found c.args.bytes.now _ c.args.code (search rules) (search rules) (search rules) (search rules)
    (search rules) (left_behind 4 c.args.bytes.now)
