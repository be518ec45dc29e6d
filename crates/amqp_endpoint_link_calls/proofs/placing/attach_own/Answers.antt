use Rattle.amqp_endpoint_link_calls.proofs.placing.attach_own.Goals as goal

pub returns-in-Ok-clause-ok : goal.returns-in-Ok-clause-ok
returns-in-Ok-clause-ok c = (c.in-Ok.ensures.ok, c.new.ensures.items)
