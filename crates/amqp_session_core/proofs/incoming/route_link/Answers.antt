use Rattle.std.proofs.Common.{rules, ◌≡◌, ◌∙◌, ap}
use Rattle.std.specs.FinMap as map
use Rattle.amqp_session_core.specs.Tables.{RouteTable}
use Rattle.amqp_session_types.proofs.Tables.{taken-back}
use Rattle.amqp_session_core.proofs.incoming.route_link.Goals as goal

pub returns-in-Err-clause-err : goal.returns-in-Err-clause-err
returns-in-Err-clause-err g c =
    let key = (c.args.attach.now.handle).0 in
    let put : c.insert.new.self ≡ map.insert c.args.routes.now key (c.args.handle).0 = search rules in
    c.remove.ensures ∙ ap (λ (t : RouteTable). map.remove t key) put ∙ taken-back c.args.routes.now key (c.args.handle).0 c.requires.vacant
