use Rattle.std.proofs.Common.{sym, subst}
use Rattle.amqp_endpoint_attached.specs.Linked.{Linked}
use Rattle.amqp_endpoint_attached.specs.Links.{link_by}
use Rattle.amqp_endpoint_link_calls.specs.Refusals.{FindsOne}
use Rattle.amqp_endpoint_link_calls.proofs.looking.live_refusal.Goals as goal

pub returns : goal.returns
returns c =
    record {
      found = c.refusal_in-found.result;
      finds =
          record {
            before = c.in-Some.live.now;
            live = sym c.in-Some.ensures;
            one =
                subst
                (λ (l : Linked). FindsOne l (link_by c.args.role c.args.settings.now) c.refusal_in-found.result)
                c.deref.ensures c.refusal_in-found.ensures;
          };
      says = c.said_of.ensures;
    }
