use Rattle.std.proofs.Common.{subst}
use Rattle.amqp_session_core.specs.State.{State}
use Rattle.amqp_endpoint_links.specs.Beginning.{TakesAsked}
use Rattle.amqp_endpoint_links.proofs.Beginnings.{accepted-history}
use Rattle.amqp_endpoint_links.proofs.asking.AskingSession.accept.Goals as goal

pub returns : goal.returns
returns g c =
    record {
      history = accepted-history g.R.LinkRelay.gives c.args.channel c.args.first_transfer_number c.args.incoming_window c.args.incoming
          c.args.asked.now.begin c.args.asked.now.flow c.send_begin-frame.result c.take_asked.new.session c.send_begin-frame.new.session
          (subst (λ (s : State g.row.R.Denot). TakesAsked g.R.LinkRelay.gives s c.args.incoming c.args.asked.now.begin c.args.asked.now.flow c.take_asked.new.session)
          c.new-session.ensures c.in_ok-take_asked.ensures.step)
          c.send_begin-frame.ensures;
      links = c.new-asked.ensures;
    }
