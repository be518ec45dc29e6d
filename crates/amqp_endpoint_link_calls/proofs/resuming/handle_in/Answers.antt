use Rattle.std.proofs.Common.{ap, subst, sym, ◌<◌, ◌∙◌}
use Rattle.amqp_endpoint_attached.specs.Linked.{Linked}
use Rattle.amqp_endpoint_attached.specs.Links.{offered}
use Rattle.amqp_endpoint_link_calls.specs.Refusals.{of_refusal}
use Rattle.amqp_endpoint_link_calls.proofs.resuming.handle_in.Goals as goal

pub returns-in-Ok-clause-ok : goal.returns-in-Ok-clause-ok
returns-in-Ok-clause-ok c =
    record {
      before = c.in-Some.live.now;
      live = sym c.in-Some.ensures;
      offers = c.in-Ok.ensures.ok.0 ∙ ap (λ (s : Linked). offered s.session) c.deref.ensures;
    }

pub returns-in-Err-clause-err : goal.returns-in-Err-clause-err
returns-in-Err-clause-err c = (
  c.of_refusal.ensures ∙ ap of_refusal c.in-Err.ensures.err.0,
  record {
    before = c.in-Some.live.now;
    live = sym c.in-Some.ensures;
    above =
        subst (λ (s : Linked). s.session.handle_max < s.session.offered) c.deref.ensures c.in-Err.ensures.err.1;
  },
)
