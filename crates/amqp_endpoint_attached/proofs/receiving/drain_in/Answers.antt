use Rattle.std.proofs.Common.{◌≡◌, true, false, Option, sym, ap, ◌∙◌}
use Rattle.amqp_link.specs.declared.end.End.{End}
use Rattle.amqp_endpoint_attached.specs.Receiving.{is_receiving}
use Rattle.amqp_endpoint_attached.proofs.Credited.{drains_in}
use Rattle.amqp_endpoint_attached.proofs.There.{end_there, none_there, replaced_there}
use Rattle.amqp_endpoint_attached.proofs.receiving.drain_in.Goals as goal

pub unreachable-requires : goal.unreachable-requires
unreachable-requires c =
    let clash : false ≡ true =
    ap (λ (o : Option End). is_receiving o)
    (sym (none_there c.args.session.now c.args.handle c.in_default.ensures.value))
    ∙ c.requires in absurd cc

pub want_drain-requires : goal.want_drain-requires
want_drain-requires c =
    ap (λ (o : Option End). is_receiving o)
    (sym (end_there c.args.session.now c.args.handle c.in-Some.link.now c.in-Some.ensures.value))
    ∙ c.requires

pub returns-clause-drains : goal.returns-clause-drains
returns-clause-drains c =
    drains_in c.args.session.now c.args.handle c.in-Some.link.now c.want_drain.result c.want_drain.new.link
    c.in-Some.ensures.value
    (ap (λ (o : Option End). is_receiving o)
    (sym (end_there c.args.session.now c.args.handle c.in-Some.link.now c.in-Some.ensures.value))
    ∙ c.requires)
    c.want_drain.ensures

pub returns-clause-there : goal.returns-clause-there
returns-clause-there c =
    replaced_there c.args.session.now c.args.handle.0 c.in-Some.link.now
    (record c.in-Some.link.now { link = c.want_drain.new.link }) c.in-Some.ensures.value
