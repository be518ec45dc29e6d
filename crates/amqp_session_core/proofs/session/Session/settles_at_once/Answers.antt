use Rattle.std.proofs.Common.{◌≡◌, rules, refl, sym}
use Rattle.amqp_session_core.proofs.OneSettled.{copy-settles, none-taken}
use Rattle.amqp_session_core.proofs.session.Session.settles_at_once.Goals as goal

pub returns-in_default-take_settled : goal.returns-in_default-take_settled
returns-in_default-take_settled g c =
    rw (← c.self.view_is)
    (none-taken g.R.LinkRelay.gives _ _ c.args.disposition.now c.take_settled.new.self (search rules)
    c.take_settled.ensures.settled (search rules))

pub returns : goal.returns
returns g c =
    let same : c.in-Ok.state ≡ c.args.disposition.now.state = search rules in
    rw (← c.self.view_is)
    (copy-settles g.R.LinkRelay.gives _ _ c.args.disposition.now (c.if-not-settles_first.ensures refl)
    c.in-Some.delivery c.reach_one-is_echoed.result c.in-Ok.state (sym c.in-Some.ensures.delivery) same
    c.reach_one-is_echoed.ensures.step (search rules))
