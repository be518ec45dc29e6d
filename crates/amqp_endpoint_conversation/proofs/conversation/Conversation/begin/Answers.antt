use Rattle.std.proofs.Common.{◌≡◌, ℕ, List, [], ◌∷◌, ◌++◌, Result, sym, ap, subst, ◌∙◌}
use Rattle.std.specs.Prelude.{IfOk}
use Rattle.amqp_session_types.specs.declared.channels.OutgoingChannel.{OutgoingChannel}
use Rattle.amqp_session_types.specs.declared.refusals.BeginError.{BeginError}
use Rattle.amqp_session_performatives.specs.declared.session_frame.SessionFrame.{SessionFrame}
use Rattle.amqp_endpoint_links.specs.declared.asking.AskingSession.{AskingSession}
use Rattle.amqp_endpoint_links.specs.Beginning.{Begun}
use Rattle.amqp_endpoint_tables.specs.Steps.{Step, Begins}
use Rattle.amqp_session_frames.specs.State as channels
use Rattle.amqp_endpoint_conversation.specs.Beginning.{BeginsHere}
use Rattle.amqp_endpoint_conversation.proofs.Answering.{answered, numbered}
use Rattle.amqp_endpoint_conversation.proofs.conversation.Conversation.begin.Goals as goal

pub returns-clause-ok : goal.returns-clause-ok
returns-clause-ok g c =
    let old = c.args.self.now in
    let new = c.enter-entered.new.self in
    let out = c.args.out.now.items in
    let out_new = c.queue_if.new.out.items in
    let channel = c.in_ok-channel.channel in
    let session = c.in_ok-session.session in
    let frame = c.in_ok-session.frame in
    let first = old.first_transfer_number in
    let window = old.incoming_window in
    let offered =
    numbered channel old.sessions.connection.offered
    (c.in_ok-channel.ensures.ok.2 ∙ ap (λ (s : channels.State). s.offered) c.connection.ensures) in
    answered (λ (number : ℕ). BeginsHere g.R.LinkRelay.gives old out number new out_new)
    (λ (number : ℕ). Step old.sessions (Begins number (record { 0 = old.sessions.connection.offered }) session)
    new.sessions
    × (new ≡ record old { sessions = new.sessions }))
    (out_new ≡ c.reserve.new.self.items ++ frame ∷ [])
    (λ number entered queued. record {
      channel = channel;
      session = session;
      frame = frame;
      begun =
          subst (λ (s : AskingSession g.row.R.Denot). Begun g.R.LinkRelay.gives channel first window frame s)
          (sym c.in_ok-session.ensures.0)
          (subst (λ (f : SessionFrame). Begun g.R.LinkRelay.gives channel first window f c.begin-begun.result.0)
          (sym c.in_ok-session.ensures.1) c.begin-begun.ensures);
      stepped =
          subst (λ (ch : OutgoingChannel). Step old.sessions (Begins number ch session) new.sessions) (sym offered)
          entered.0;
      rest = entered.1;
      queued = queued ∙ ap (λ (fs : List SessionFrame). fs ++ frame ∷ []) c.reserve.ensures.items;
    })
    c.queue_if.result
    (subst (λ (r : Result ℕ BeginError). IfOk r (λ number. Step old.sessions
    (Begins number (record { 0 = old.sessions.connection.offered }) session) new.sessions
    × (new ≡ record old { sessions = new.sessions }))) (sym c.queue_if.ensures.answer) c.enter-entered.ensures.ok)
    c.queue_if.ensures.queued
