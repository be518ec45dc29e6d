use Rattle.std.proofs.Common.{IfErr, IfOk, inl, subst}
use Rattle.amqp_link.specs.declared.end.End.{End}
use Rattle.amqp_endpoint_attached.specs.Links.{receiver_by}
use Rattle.amqp_endpoint_link_calls.specs.Attaching.{LinkAttaches}
use Rattle.amqp_endpoint_link_calls.specs.Refusals.{BarsPlacing}
use Rattle.amqp_endpoint_link_calls.proofs.Looked.{all-clear-bars, found-bars}
use Rattle.amqp_endpoint_link_calls.proofs.attaching.attach_receiver.Goals as goal

pub returns-in-Some-clause-err : goal.returns-in-Some-clause-err
returns-in-Some-clause-err c =
    found-bars c.args.limit c.args.talk.now c.args.links.now c.args.session (receiver_by c.args.settings.now)
    c.in-Some.refusal c.in-Some.ensures

pub returns-in-Ok-clause-ok : goal.returns-in-Ok-clause-ok
returns-in-Ok-clause-ok c =
    subst
    (λ (link : End). IfOk c.attach.result (λ placed. LinkAttaches c.args.talk.now c.args.links.now c.args.out.now.items
    c.args.limit c.args.session link placed c.attach.new.talk c.attach.new.links c.attach.new.out.items))
    c.in-Ok.ensures c.attach.ensures.ok

pub returns-in-Ok-clause-err : goal.returns-in-Ok-clause-err
returns-in-Ok-clause-err c =
    all-clear-bars c.args.limit c.args.talk.now c.args.links.now c.args.session (receiver_by c.args.settings.now)
    c.in-None.ensures c.attach.result
    (subst
    (λ (link : End). IfErr c.attach.result (BarsPlacing c.args.limit c.args.talk.now c.args.links.now c.args.session
    link))
    c.in-Ok.ensures c.attach.ensures.err)

pub returns-in-Err-clause-err : goal.returns-in-Err-clause-err
returns-in-Err-clause-err c = (c.in-None.ensures.0, inl c.in-None.ensures.1)
