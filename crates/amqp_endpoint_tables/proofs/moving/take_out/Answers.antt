use Rattle.std.proofs.Common.{rules, ◌≡◌, sym, subst, List, Option, Some, None, slice_set}
use Rattle.amqp_endpoint_tables.specs.declared.link_place.Named.{Named}
use Rattle.amqp_endpoint_tables.specs.Inside.{AreNamed, TakesAway}
use Rattle.amqp_endpoint_tables.specs.LinkState.{name_in}
use Rattle.amqp_endpoint_tables.proofs.Naming.{taken-named}
use Rattle.amqp_endpoint_tables.proofs.moving.take_out.Goals as goal

pub returns-clause-named : goal.returns-clause-named
returns-clause-named g c =
    let old = c.args.numbers.now.entries in
    let had : name_in c.args.links.now.items c.args.number ≡ Some c.in_ok-name.name = search rules in
    let more = c.forget_name.new.numbers.entries in
    let away : TakesAway c.in_ok-name.name old more = search rules in
    let gone : c.take.new.self.items ≡ slice_set c.args.links.now.items c.args.number None = search rules in
    subst (λ (ls : List (Option (Named _))). AreNamed ls more) (sym gone)
    (taken-named c.args.links.now.items old c.requires.named c.args.number c.in_ok-name.name more had away)
