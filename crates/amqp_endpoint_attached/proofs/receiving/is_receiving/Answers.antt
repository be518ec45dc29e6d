use Rattle.std.proofs.Common.{Option, sym, ap, ◌∙◌}
use Rattle.amqp_link.specs.declared.end.End.{End}
use Rattle.amqp_endpoint_attached.specs.Receiving.{is_receiving}
use Rattle.amqp_endpoint_attached.proofs.There.{end_there, none_there}
use Rattle.amqp_endpoint_attached.proofs.receiving.is_receiving.Goals as goal

pub returns-in_default : goal.returns-in_default
returns-in_default c =
    ap (λ (o : Option End). is_receiving o) (sym (none_there c.args.session.now c.args.handle c.in_default.ensures))

pub returns : goal.returns
returns c =
    c.is_receiving_end.ensures
    ∙ ap (λ (o : Option End). is_receiving o)
    (sym (end_there c.args.session.now c.args.handle c.in-Some.link.now c.in-Some.ensures))
