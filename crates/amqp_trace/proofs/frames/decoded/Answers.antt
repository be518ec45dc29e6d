use Rattle.std.proofs.Common.{List, ℕ, IfErr, subst}
use Rattle.amqp_session_frames.specs.Text.{NotRead}
use Rattle.amqp_trace.proofs.frames.decoded.Goals as goal

pub returns-in-Ok-clause-refused : goal.returns-in-Ok-clause-refused
returns-in-Ok-clause-refused c =
    subst (λ (bytes : List ℕ). IfErr c.decode.result (λ e. NotRead bytes e)) c.in-Ok.ensures c.decode.ensures.refused
