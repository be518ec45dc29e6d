use Rattle.std.proofs.Common.{Option, subst}
use Rattle.amqp_session_performatives.specs.declared.attach.Attach.{Attach}
use Rattle.amqp_endpoint_links.specs.declared.links.AskedLink.{AskedLink}
use Rattle.amqp_endpoint_attached.specs.Answering.{asked_failed}
use Rattle.amqp_endpoint_attached.specs.Links.{link_by}
use Rattle.amqp_endpoint_attached.specs.Refusals.{FindsTested, test_failed}
use Rattle.amqp_endpoint_link_calls.proofs.looking.test_one.Goals as goal

pub returns : goal.returns
returns c =
    let link = link_by c.args.role c.args.settings.now in
    subst (λ (o : Option AskedLink). FindsTested (asked_failed link o) c.test.result) c.in-Some.ensures
    (subst (λ (a : Attach). FindsTested (test_failed link a) c.test.result) c.deref.ensures c.test.ensures)
