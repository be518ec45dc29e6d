use Rattle.std.proofs.Common.{◌≡◌, Ok, Option, sym, subst}
use Rattle.std.specs.Prelude.{IfOk}
use Rattle.amqp_session_performatives.specs.declared.link_flow.LinkFlow.{LinkFlow}
use Rattle.amqp_endpoint_messages.specs.GoingOn.{on_planned}
use Rattle.amqp_endpoint_link_calls.proofs.placing.ons_behind.Goals as goal

pub returns-in-Some : goal.returns-in-Some
returns-in-Some c =
    subst
    (λ (kept : Option LinkFlow).
    IfOk c.prepare_sends_on_behind.result
    (λ ons. ons.items ≡ on_planned c.args.link.now (Ok c.args.prepared.now.taken) kept))
    (sym c.in-Some.is) c.prepare_sends_on_behind.ensures

pub returns-in-None : goal.returns-in-None
returns-in-None c =
    subst
    (λ (kept : Option LinkFlow).
    c.new.result.items ≡ on_planned c.args.link.now (Ok c.args.prepared.now.taken) kept)
    (sym c.in-None.is) c.new.ensures.items
