use Rattle.std.proofs.Common.{List, ◌++◌, ap, append-nil, sym, ◌∙◌}
use Rattle.amqp_endpoint_model.specs.declared.event.Event.{Event}
use Rattle.amqp_endpoint_messages.proofs.reached.tell_reached_one.Goals as goal

pub returns-clause-told : goal.returns-clause-told
returns-clause-told c =
    c.tell_one.ensures.told ∙ ap (λ (told : List Event). c.args.events.now.items ++ told) (sym (append-nil _))
