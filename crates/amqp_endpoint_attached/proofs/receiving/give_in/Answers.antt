use Rattle.std.proofs.Common.{◌≡◌, true, false, Option, sym, ap, ◌∙◌}
use Rattle.amqp_link.specs.declared.end.End.{End}
use Rattle.amqp_endpoint_attached.specs.Receiving.{is_receiving}
use Rattle.amqp_endpoint_attached.proofs.Credited.{gives_in}
use Rattle.amqp_endpoint_attached.proofs.There.{end_there, none_there, replaced_there}
use Rattle.amqp_endpoint_attached.proofs.receiving.give_in.Goals as goal

pub unreachable-requires : goal.unreachable-requires
unreachable-requires c =
    let clash : false ≡ true =
    ap (λ (o : Option End). is_receiving o)
    (sym (none_there c.args.session.now c.args.handle c.in_default.ensures.value))
    ∙ c.requires.there in absurd cc

pub give-requires-clause-there : goal.give-requires-clause-there
give-requires-clause-there c =
    ap (λ (o : Option End). is_receiving o)
    (sym (end_there c.args.session.now c.args.handle c.in-Some.link.now c.in-Some.ensures.value))
    ∙ c.requires.there

pub returns-clause-gives : goal.returns-clause-gives
returns-clause-gives c =
    gives_in c.args.session.now c.args.handle c.in-Some.link.now c.args.credit c.give.result c.give.new.link
    c.in-Some.ensures.value
    (ap (λ (o : Option End). is_receiving o)
    (sym (end_there c.args.session.now c.args.handle c.in-Some.link.now c.in-Some.ensures.value))
    ∙ c.requires.there)
    c.give.ensures

pub returns-clause-there : goal.returns-clause-there
returns-clause-there c =
    replaced_there c.args.session.now c.args.handle.0 c.in-Some.link.now
    (record c.in-Some.link.now { link = c.give.new.link }) c.in-Some.ensures.value
