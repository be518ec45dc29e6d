use Rattle.std.proofs.Common.{List, Result, subst, sym}
use Rattle.std.specs.Prelude.{IfOk}
use Rattle.amqp_link.specs.declared.preparing.PreparedAttach.{PreparedAttach}
use Rattle.amqp_link_types.specs.declared.link_error.LinkError.{LinkError}
use Rattle.amqp_link_unsettled.specs.declared.exchanging.Abort.{Abort}
use Rattle.amqp_endpoint_messages.specs.GivingUp.{given_up_by}
use Rattle.amqp_endpoint_messages.specs.MadeReady.{IsMadeReady}
use Rattle.amqp_endpoint_messages.proofs.giving_up.giving_up_by.Goals as goal

pub returns-in-Ok : goal.returns-in-Ok
returns-in-Ok c =
    subst
    (λ (d : Result PreparedAttach LinkError).
    IfOk c.make_giving_up.result (IsMadeReady c.args.limit c.args.handle (given_up_by d)))
    (sym c.in-Ok.is)
    (subst (λ (l : List Abort). IfOk c.make_giving_up.result (IsMadeReady c.args.limit c.args.handle l))
    c.aborts.ensures c.make_giving_up.ensures)

pub returns-in-Err : goal.returns-in-Err
returns-in-Err c =
    subst
    (λ (d : Result PreparedAttach LinkError).
    IsMadeReady c.args.limit c.args.handle (given_up_by d) c.none.result)
    (sym c.in-Err.is) (c.none.ensures c.args.limit c.args.handle)
