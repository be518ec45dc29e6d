use Rattle.std.proofs.Common.{rules}
use Rattle.amqp_session_frames.proofs.AttachRead.{performed_attach}
use Rattle.amqp_session_frames.proofs.common_attach.read_fields.Goals as goal

pub returns : goal.returns
returns c =
    performed_attach c.args.content.now _ _ _ _ _ _
    c.in-Some.ensures (search rules) (search rules)
    c.in-Some-read_link.ensures
    c.in-Some-read_modes.ensures
    c.in-Some-read_termini.ensures
    c.in-Some-read_last.ensures
