use Rattle.std.proofs.Common.{rules}
use Rattle.amqp_session_core.proofs.Taking.{transfer-taken}
use Rattle.amqp_session_core.proofs.session.Session.on_incoming_transfer.Goals as goal

pub returns : goal.returns
returns g c =
    transfer-taken g.R.LinkRelay.gives _ _ c.args.transfer c.args.payload
    c.room_for_transfer-place.result
    c.in_ok-handle.handle
    c.in_ok-handle.answer
    c.count_transfer-flow.result
    (search rules)
    (search rules)
    (search rules)
    (search rules)
