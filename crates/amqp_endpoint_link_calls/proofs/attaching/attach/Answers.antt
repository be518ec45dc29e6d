use Rattle.std.proofs.Common.{ℕ, List, ap, subst, ◌∙◌}
use Rattle.amqp_link_base.specs.declared.base.LinkBase.{LinkBase}
use Rattle.amqp_endpoint_link_calls.specs.Refusals.{MayAttach}
use Rattle.amqp_endpoint_link_calls.proofs.Entered.{all-attach, all-bars}
use Rattle.amqp_endpoint_link_calls.proofs.attaching.attach.Goals as goal

pub returns-clause-ok : goal.returns-clause-ok
returns-clause-ok c =
    let call = c.attach_new-placed in
    let given = c.in_ok-name.ensures.ok in
    all-attach c.args.talk.now call.new.talk c.args.links.now c.prepare.new.links c.enter.new.links
    c.args.out.now.items call.new.out.items c.args.limit c.args.session c.args.link c.in_ok-name.name
    c.next_number.result c.in_ok-name.ensures.may.0 given.1
    (given.0 ∙ ap (λ (b : LinkBase). b.name) c.base.ensures) c.next_number.ensures call.result call.ensures.ok
    call.ensures.numbered c.enter.ensures.ok

pub returns-clause-err : goal.returns-clause-err
returns-clause-err c =
    let call = c.attach_new-placed in
    all-bars c.args.limit c.args.talk.now c.args.links.now c.args.session c.args.link
    (subst (λ (n : List ℕ). MayAttach c.args.talk.now c.args.links.now c.args.session n)
    (ap (λ (b : LinkBase). b.name) c.base.ensures) c.in_ok-name.ensures.may)
    call.result call.ensures.err
