use Rattle.std.proofs.Common.{◌≡◌, sym, subst}
use Rattle.std.specs.Global.{Box}
use Rattle.amqp_session_performatives.specs.declared.session_frame.SessionFrame.{SessionFrame}
use Rattle.amqp_endpoint_links.specs.declared.session.AskedSession.{AskedSession}
use Rattle.amqp_endpoint_links.specs.Beginning.{Accepted}
use Rattle.amqp_endpoint_links.specs.declared.asking.AskingSession.{AskingSession}
use Rattle.amqp_endpoint_conversation.specs.Beginning.{Accepting}
use Rattle.amqp_endpoint_conversation.proofs.Answering.{answered_so}
use Rattle.amqp_endpoint_conversation.proofs.conversation.Conversation.accepting.Goals as goal

pub returns : goal.returns
returns g c =
    let accepted = c.in_ok-accepted.accepted in
    let wanted = c.in-Some.asked.now in
    let first = c.args.self.now.first_transfer_number in
    let window = c.args.self.now.incoming_window in
    answered_so
    (λ (made : Box (AskingSession g.row.R.Denot) × SessionFrame). Accepting g.R.LinkRelay.gives c.args.self.now
    c.args.channel
    c.args.number c.args.outgoing made.0 made.1)
    (λ (made : Box (AskingSession g.row.R.Denot) × SessionFrame). ((made.0).value ≡ accepted.0) × (made.1 ≡ accepted.1))
    (λ made is. record {
      wanted = wanted;
      asked = sym c.in-Some.ensures;
      accepted =
          subst (λ (s : AskingSession g.row.R.Denot). Accepted g.R.LinkRelay.gives wanted.value c.args.outgoing
          c.args.channel
          first window made.1 s) (sym is.0)
          (subst (λ (f : SessionFrame). Accepted g.R.LinkRelay.gives wanted.value c.args.outgoing c.args.channel first
          window f
          accepted.0) (sym is.1)
          (subst (λ (w : AskedSession). Accepted g.R.LinkRelay.gives w c.args.outgoing c.args.channel first window
          accepted.1
          accepted.0) c.deref.ensures c.in_ok-accepted.ensures));
    })
    c.box_first.result c.box_first.ensures
