use Rattle.std.proofs.Common.{refl, subst}
use Rattle.amqp_session_core.specs.State.{State}
use Rattle.amqp_session_core.specs.Steps.{Step, SendsBegin}
use Rattle.amqp_endpoint_links.proofs.asking.AskingSession.begin.Goals as goal

pub returns : goal.returns
returns g c =
    record {
      history = (
        c.send_begin-frame.new.session,
        subst (λ (s : State g.row.R.Denot). Step g.R.LinkRelay.gives s (SendsBegin c.send_begin-frame.result)
            c.send_begin-frame.new.session)
            c.new-session.ensures c.send_begin-frame.ensures,
        refl,
      );
      links = c.new-asked.ensures;
    }
