use Rattle.std.proofs.Common.{◌≡◌, true, false, Option, sym, ap, subst, ◌∙◌}
use Rattle.std.specs.Prelude.{IfErr, IfOk}
use Rattle.amqp_link_receiver.specs.DisposingAll.{NotNamed}
use Rattle.amqp_link.specs.declared.end.End.{End}
use Rattle.amqp_endpoint_attached.specs.Receiving.{is_receiving}
use Rattle.amqp_endpoint_attached.proofs.There.{end_there, none_there}
use Rattle.amqp_endpoint_messages.specs.Disposing.{EndPrepares}
use Rattle.amqp_endpoint_messages.specs.Refusals.{named_at}
use Rattle.amqp_endpoint_messages.proofs.disposing_all.prepare_in.Goals as goal

pub unreachable-requires : goal.unreachable-requires
unreachable-requires c =
    let clash : false ≡ true =
    ap (λ (o : Option End). is_receiving o)
    (sym (none_there c.args.session.now c.args.handle c.in_default.ensures))
    ∙ c.requires in absurd cc

pub prepare_by-requires : goal.prepare_by-requires
prepare_by-requires c =
    ap (λ (o : Option End). is_receiving o)
    (sym (end_there c.args.session.now c.args.handle c.in-Some.link.now c.in-Some.ensures))
    ∙ c.requires

pub returns-clause-ready : goal.returns-clause-ready
returns-clause-ready c =
    subst
    (λ (o : Option End).
    IfOk c.prepare_by.result (λ p. EndPrepares o c.args.tags.now c.args.state c.args.settled p))
    (sym (end_there c.args.session.now c.args.handle c.in-Some.link.now c.in-Some.ensures)) c.prepare_by.ensures.ready

pub returns-clause-refused : goal.returns-clause-refused
returns-clause-refused c =
    subst
    (λ (o : Option End). IfErr c.prepare_by.result (λ error. NotNamed (named_at o c.args.tags.now) error))
    (sym (end_there c.args.session.now c.args.handle c.in-Some.link.now c.in-Some.ensures))
    c.prepare_by.ensures.refused
