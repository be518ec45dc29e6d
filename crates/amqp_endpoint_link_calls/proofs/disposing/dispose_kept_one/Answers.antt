use Rattle.std.proofs.Common.{◌≡◌, Bool, sym, ◌∙◌}
use Rattle.amqp_endpoint_tables.specs.State.{live_at}
use Rattle.amqp_endpoint_model.specs.declared.error.EndpointError.{EndpointError}
use Rattle.amqp_endpoint_model.specs.declared.error.EndpointError.TheVariants.{Memory}
use Rattle.amqp_endpoint_link_calls.specs.Disposing.{disposes_of_tag}
use Rattle.amqp_endpoint_link_calls.specs.Places.{end_live}
use Rattle.amqp_endpoint_link_calls.specs.Refusing.{BarsTellingOne, message_fits}
use Rattle.amqp_endpoint_link_calls.proofs.Disposed.{err-on, keeps-none, kept-disposed-one, on-ok, with-state}
use Rattle.amqp_endpoint_link_calls.proofs.Refusals.{wants-memory}
use Rattle.amqp_endpoint_link_calls.proofs.disposing.dispose_kept_one.Goals as goal

pub unreachable-requires : goal.unreachable-requires
unreachable-requires c = absurd (keeps-none _ (sym c.in_default.is ∙ c.in_ok-kept.ensures) c.requires.keeps)

pub returns-clause-ok : goal.returns-clause-ok
returns-clause-ok c =
    let call = c.dispose_tag in
    on-ok call.result
    (λ done.
    kept-disposed-one c.args.limit c.args.disposal.now c.args.talk.now call.new.talk c.args.session c.args.handle
    c.args.out.now.items call.new.out.items c.args.message c.in-Some.tag
    (sym c.in-Some.is ∙ c.in_ok-kept.ensures)
    (with-state (disposes_of_tag c.args.limit c.in-Some.tag) c.args.disposal.now c.args.talk.now
    call.new.talk c.args.session c.args.handle c.args.out.now.items call.new.out.items c.in_ok-state.state
    c.in_ok-state.ensures.cases done))
    call.ensures.ok

pub returns-clause-err : goal.returns-clause-err
returns-clause-err c =
    let fit : Bool =
    message_fits c.args.limit (end_live (live_at c.args.talk.now.sessions c.args.session) c.args.handle)
    c.args.message c.args.disposal.now in
    err-on (λ (e : EndpointError). e ≡ Memory) (BarsTellingOne fit) c.dispose_tag.result
    (λ e is. wants-memory fit e (sym c.fits_in-fit.ensures ∙ c.if-not-fit.false) is) c.dispose_tag.ensures.err
