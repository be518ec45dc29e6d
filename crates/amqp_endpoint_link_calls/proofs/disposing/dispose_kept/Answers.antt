use Rattle.std.proofs.Common.{◌∙◌}
use Rattle.amqp_endpoint_tables.specs.State.{live_at}
use Rattle.amqp_endpoint_link_calls.specs.Disposing.{disposes_of_tags}
use Rattle.amqp_endpoint_link_calls.specs.Places.{end_live}
use Rattle.amqp_endpoint_link_calls.proofs.Disposed.{kept-disposed, kept-too-long, on-ok, with-state}
use Rattle.amqp_endpoint_link_calls.proofs.disposing.dispose_kept.Goals as goal

pub returns-clause-ok : goal.returns-clause-ok
returns-clause-ok c =
    let call = c.dispose_tags in
    on-ok call.result
    (λ done.
    kept-disposed c.args.limit c.args.disposal.now c.args.talk.now call.new.talk c.args.session c.args.handle
    c.args.out.now.items call.new.out.items c.args.messages.now c.deref.result.now
    (c.deref.ensures.value ∙ c.in_ok-tags.ensures)
    (with-state (disposes_of_tags c.args.limit c.deref.result.now) c.args.disposal.now c.args.talk.now
    call.new.talk c.args.session c.args.handle c.args.out.now.items call.new.out.items c.in_ok-state.state
    c.in_ok-state.ensures.cases done))
    call.ensures.ok

pub returns-clause-err : goal.returns-clause-err
returns-clause-err c =
    let call = c.dispose_tags in
    kept-too-long c.args.limit (end_live (live_at c.args.talk.now.sessions c.args.session) c.args.handle)
    c.args.messages.now c.deref.result.now c.args.disposal.now c.in_ok-state.state
    (c.deref.ensures.value ∙ c.in_ok-tags.ensures) c.in_ok-state.ensures.cases call.result call.ensures.err
