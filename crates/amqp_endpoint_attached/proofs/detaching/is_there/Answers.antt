use Rattle.std.proofs.Common.{Option, sym, ap, ◌∙◌}
use Rattle.amqp_link_base.specs.State.{is_attached}
use Rattle.amqp_link_base.specs.declared.state.LinkState.{LinkState}
use Rattle.amqp_link.specs.declared.end.End.{End}
use Rattle.amqp_endpoint_attached.specs.Detaching.{is_there}
use Rattle.amqp_endpoint_attached.proofs.There.{end_there, none_there}
use Rattle.amqp_endpoint_attached.proofs.detaching.is_there.Goals as goal

pub returns-in_default : goal.returns-in_default
returns-in_default c =
    ap (λ (o : Option End). is_there o) (sym (none_there c.args.session.now c.args.handle c.in_default.ensures))

pub returns : goal.returns
returns c =
    c.is_attached.ensures ∙ ap (λ (s : LinkState). is_attached s) c.local_state.ensures
    ∙ ap (λ (o : Option End). is_there o)
    (sym (end_there c.args.session.now c.args.handle c.in-Some.link.now c.in-Some.ensures))
