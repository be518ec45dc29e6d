use Rattle.std.proofs.Common.{rules}
use Rattle.amqp_session_frames.proofs.Fronts.{string_form}
use Rattle.amqp_session_frames.proofs.items.read_text.Goals as goal

pub returns : goal.returns
returns c =
    string_form c.args.bytes.now c.in-Some.rest.now c.in-Some-read_counted.content.now _
    c.in-Some-read_counted.rest.now c.in-Some.code.now
    (search rules) (search rules) c.in-Some-read_counted.ensures (search rules) (search rules)
