use Rattle.amqp_endpoint_attached.proofs.sending.send_flow.Goals as goal

pub returns-clause-sent : goal.returns-clause-sent
returns-clause-sent g c =
    record {
      left = c.in-Ok.ensures.ok.left;
      answer = c.in-Ok.frame;
      sent = c.in-Ok.ensures.ok.stepped;
      added = c.queue.ensures.items;
    }
