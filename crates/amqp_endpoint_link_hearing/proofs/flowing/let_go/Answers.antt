use Rattle.std.proofs.Common.{ℕ, Option, drop, refl, sym, subst}
use Rattle.amqp_endpoint_link_hearing.specs.Flowing.{LetsGo}
use Rattle.amqp_endpoint_link_hearing.proofs.flowing.let_go.Goals as goal

pub let_go_in-requires : goal.let_go_in-requires
let_go_in-requires c = c.requires c.in-Some.session c.in-Some.is

pub returns-in_default-clause-leave : goal.returns-in_default-clause-leave
returns-in_default-clause-leave c =
    subst
    (λ (o : Option ℕ).
    LetsGo o (drop c.args.from c.args.out.now.items) c.args.talk.now c.args.links.now c.args.talk.now c.args.links.now)
    (sym c.in_default.is) (refl, refl)

pub returns-clause-leave : goal.returns-clause-leave
returns-clause-leave c =
    subst
    (λ (o : Option ℕ).
    LetsGo o (drop c.args.from c.args.out.now.items) c.args.talk.now c.args.links.now c.let_go_in.new.talk
    c.let_go_in.new.links)
    (sym c.in-Some.is) c.let_go_in.ensures.leave
