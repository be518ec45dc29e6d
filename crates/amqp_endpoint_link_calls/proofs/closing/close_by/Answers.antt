use Rattle.std.proofs.Common.{◌++◌, List, None, ap, subst, sym, ◌∙◌}
use Rattle.amqp_session_types.specs.declared.error.Error.{Error}
use Rattle.amqp_session_core.specs.State.{link_at}
use Rattle.amqp_endpoint_model.specs.declared.event.Event.{Event}
use Rattle.amqp_endpoint_messages.specs.All.{AreCopies, first_told}
use Rattle.amqp_endpoint_link_calls.proofs.Closed.{closed-by, no-copies}
use Rattle.amqp_endpoint_link_calls.proofs.closing.close_by.Goals as goal

pub returns-clause-ok : goal.returns-clause-ok
returns-clause-ok c =
    closed-by c.tell_first.new.events.items c.args.handle c.args.session.now c.detach.new.session
    c.tell_first.new.session c.args.out.now.items c.detach.new.out.items c.in_ok-count.count
    c.in_ok-count.ensures.ok c.in_ok-detach.ensures.answer c.tell_first.ensures.tells
    (c.tell_first.ensures.told None
    (subst (λ (l : List Error). AreCopies None c.in_ok-count.count l) (sym c.new.ensures.items)
    (no-copies c.in_ok-count.count))
    ∙ ap
    (λ (l : List Event).
    l ++ first_told c.in_ok-count.count None (link_at c.detach.new.session.session c.args.handle.0))
    c.in_ok-events.ensures.items)
