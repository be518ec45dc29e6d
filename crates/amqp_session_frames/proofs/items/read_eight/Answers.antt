use Rattle.std.proofs.Common.{rules}
use Rattle.amqp_session_frames.proofs.Fronts.{eight_found, left_behind}
use Rattle.amqp_session_frames.proofs.items.read_eight.Goals as goal

pub returns : goal.returns
returns c = eight_found c.args.bytes.now _ _ (search rules) (search rules) (left_behind 8 c.args.bytes.now)
