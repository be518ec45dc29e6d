use Rattle.std.proofs.Common.{List, Option, Result, ap, subst, sym, ◌∙◌}
use Rattle.std.specs.Prelude.{IfOk}
use Rattle.amqp_link.specs.declared.end.End.{End}
use Rattle.amqp_link.specs.declared.preparing.PreparedAttach.{PreparedAttach}
use Rattle.amqp_link_types.specs.declared.link_error.LinkError.{LinkError}
use Rattle.amqp_link_unsettled.specs.declared.exchanging.Abort.{Abort}
use Rattle.amqp_endpoint_attached.proofs.There.{end_there, none_there}
use Rattle.amqp_endpoint_messages.specs.GivingUp.{given_up_by, planned_at}
use Rattle.amqp_endpoint_messages.specs.MadeReady.{IsMadeReady}
use Rattle.amqp_endpoint_messages.proofs.giving_up.giving_up_in.Goals as goal

pub returns-in_default : goal.returns-in_default
returns-in_default c =
    subst (λ (o : Option End). IsMadeReady c.args.limit c.args.handle (planned_at o c.args.attach.now) c.none.result)
    (sym (none_there c.args.session.now c.args.handle c.in_default.ensures)) (c.none.ensures c.args.limit c.args.handle)

pub returns : goal.returns
returns c =
    subst
    (λ (l : List Abort). IfOk c.giving_up_by.result (IsMadeReady c.args.limit c.args.handle l))
    (ap (λ (d : Result PreparedAttach LinkError). given_up_by d) c.in_ok-decided.ensures.ok
    ∙ ap (λ (o : Option End). planned_at o c.args.attach.now)
    (sym (end_there c.args.session.now c.args.handle c.in-Some.link.now c.in-Some.ensures)))
    c.giving_up_by.ensures
