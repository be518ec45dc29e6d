use Rattle.std.proofs.Common.{rules, ◌≡◌, sym, subst, ℕ, List, Option, length}
use Rattle.amqp_endpoint_tables.specs.declared.link_place.Named.{Named}
use Rattle.amqp_endpoint_tables.specs.Inside.{AreNamed, PutsUnder}
use Rattle.amqp_endpoint_tables.specs.LinkState.{IsNewName}
use Rattle.amqp_endpoint_tables.proofs.Naming.{entered-named}
use Rattle.amqp_endpoint_tables.proofs.moving.enter.Goals as goal

pub returns-clause-named : goal.returns-clause-named
returns-clause-named g c =
    let last : c.next.result ≡ length c.args.links.now.items = search rules in
    let old = c.args.numbers.now.entries in
    let more = c.put_name.new.numbers.entries in
    let under : PutsUnder c.name.inside.own (length c.args.links.now.items) old more =
    subst (λ (n : ℕ). PutsUnder c.name.inside.own n old more) last
    (subst (λ (q : List ℕ). PutsUnder q c.next.result old more) c.name.invariant c.put_name.ensures.put) in
    let new : IsNewName c.args.links.now.items c.name.inside.own =
    subst (λ (q : List ℕ). IsNewName c.args.links.now.items q) (sym c.name.view_is) c.requires.unused in
    subst (λ (ls : List (Option (Named _))). AreNamed ls more) (sym c.push.ensures.items)
    (entered-named c.args.links.now.items old c.requires.named
    (record { name = c.name.inside.own; place = c.args.place }) more new under)
