use Rattle.std.proofs.Common.{refl}
use Rattle.amqp_endpoint.proofs.linked.LinkedSessionsSessionRelay.is_ended.Goals as goal

pub returns : goal.returns
returns c limit =
    (record { told = c.is_ended.ensures; silent = refl; same = refl }, record { sent = refl; given = refl })
