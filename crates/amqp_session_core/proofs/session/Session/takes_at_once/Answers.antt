use Rattle.std.proofs.Common.{rules}
use Rattle.amqp_session_core.proofs.AtOnce.{taken_by_session}
use Rattle.amqp_session_core.proofs.session.Session.takes_at_once.Goals as goal

pub returns : goal.returns
returns g c =
    rw (← c.self.view_is)
    (taken_by_session g.R.LinkRelay.gives g.R.LinkRelay.tells g.R.LinkRelay.names _ _ c.args.transfer.now c.args.payload.now c.args.message _
    (c.in-Ok.ensures.ok.0)
    (c.if-not-link_takes.ensures.step)
    (search rules)
    (search rules)
    (search rules)
    (search rules))
