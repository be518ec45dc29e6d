use Rattle.amqp_endpoint_tables.proofs.sessions.Sessions.on_incoming_end.Goals as goal

pub returns : goal.returns
returns g c = c.end_asked.ensures c.args.end.now
