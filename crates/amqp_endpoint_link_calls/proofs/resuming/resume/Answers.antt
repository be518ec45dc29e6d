use Rattle.std.proofs.Common.{◌≡◌, subst, sym}
use Rattle.std.specs.Prelude.{IsSome}
use Rattle.amqp_link.specs.declared.end.End.{End}
use Rattle.amqp_endpoint_model.specs.declared.error.EndpointError.{EndpointError}
use Rattle.amqp_endpoint_tables.specs.LinkState.{held_at, put}
use Rattle.amqp_endpoint_tables.specs.declared.link_place.LinkPlace.TheVariants.{AtRest}
use Rattle.amqp_endpoint_link_calls.specs.Refusals.{BarsResuming}
use Rattle.amqp_endpoint_link_calls.proofs.Resumed.{is-said, link-resumes, refused-bars, rests-as-before, this-may}
use Rattle.amqp_endpoint_link_calls.proofs.resuming.resume.Goals as goal

pub returns-in_err-handle-clause-err : goal.returns-in_err-handle-clause-err
returns-in_err-handle-clause-err c =
    is-said c.from_residual.result _
    (BarsResuming c.args.limit c.args.talk.now c.args.links.now c.args.again.link c.args.again.session)
    c.from_residual.ensures.1 (c.in_err-handle.ensures.err c.args.limit)

pub returns-in-Ok-clause-ok : goal.returns-in-Ok-clause-ok
returns-in-Ok-clause-ok c =
    let again = c.args.again in
    link-resumes c.args.talk.now c.attach_live.new.talk c.args.links.now c.hold.new.self c.args.out.now.items
    c.attach_live.new.out.items c.args.limit again.link again.session c.in-Some.link c.in-Ok.placed
    c.in_ok-handle.handle
    (this-may c.args.talk.now c.args.links.now again.link again.session c.in_ok-handle.ensures.may c.in-Some.link
    c.in-Some.ensures.0)
    c.in_ok-handle.ensures.ok c.in-Ok.ensures.ok c.in-Ok.ensures.numbered c.in-Some.ensures

pub returns-in-Err-clause-err : goal.returns-in-Err-clause-err
returns-in-Err-clause-err c =
    let again = c.args.again in
    subst
    (λ (e : EndpointError). BarsResuming c.args.limit c.args.talk.now c.args.links.now again.link again.session e)
    (sym c.rest_again.ensures.said)
    (refused-bars c.args.talk.now c.args.links.now again.link again.session c.args.limit c.in-Some.link
    (this-may c.args.talk.now c.args.links.now again.link again.session c.in_ok-handle.ensures.may c.in-Some.link
    c.in-Some.ensures.0)
    c.in-Err.refused.refusal c.in-Err.ensures.err.0)

pub returns-in-Err-clause-kept : goal.returns-in-Err-clause-kept
returns-in-Err-clause-kept c =
    let again = c.args.again in (
      c.in-Err.ensures.kept.0,
      rests-as-before c.args.links.now again.link c.in-Some.link c.in-Some.ensures.0 again.session
          c.in_ok-handle.handle c.hold.new.self c.rest_again.new.links c.in-Some.ensures.1
          (subst
          (λ (end : End). IsSome (held_at c.hold.new.self again.link)
          → c.rest_again.new.links ≡ put c.hold.new.self again.link (AtRest end))
          c.in-Err.ensures.err.1 c.rest_again.ensures.back),
      c.in-Err.ensures.kept.1,
    )
