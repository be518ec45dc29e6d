use Rattle.std.proofs.Common.{◌≡◌, true, false, Option, sym, ap, ◌∙◌}
use Rattle.amqp_link.specs.declared.end.End.{End}
use Rattle.amqp_endpoint_attached.specs.Detaching.{is_there}
use Rattle.amqp_endpoint_attached.proofs.Detached.{detaches_in}
use Rattle.amqp_endpoint_attached.proofs.There.{end_there, none_there, replaced_there}
use Rattle.amqp_endpoint_attached.proofs.detaching.detach_in.Goals as goal

pub unreachable-requires : goal.unreachable-requires
unreachable-requires c =
    let clash : false ≡ true =
    ap (λ (o : Option End). is_there o) (sym (none_there c.args.session.now c.args.handle c.in_default.ensures.value))
    ∙ c.requires in absurd cc

pub detach_end-requires : goal.detach_end-requires
detach_end-requires c =
    ap (λ (o : Option End). is_there o)
    (sym (end_there c.args.session.now c.args.handle c.in-Some.link.now c.in-Some.ensures.value))
    ∙ c.requires

pub returns-clause-detaches : goal.returns-clause-detaches
returns-clause-detaches c =
    detaches_in c.args.session.now c.args.handle c.args.closed c.in-Some.link.now c.detach_end.new.link
    c.in-Some.ensures.value c.detach_end.ensures

pub returns-clause-there : goal.returns-clause-there
returns-clause-there c =
    replaced_there c.args.session.now c.args.handle.0 c.in-Some.link.now
    (record c.in-Some.link.now { link = c.detach_end.new.link }) c.in-Some.ensures.value
