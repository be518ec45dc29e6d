use Rattle.std.proofs.Common.{List, [], ◌∷◌, ◌++◌, ap, subst, ◌∙◌}
use Rattle.std.specs.Global.{Box}
use Rattle.amqp_session_types.specs.declared.channels.OutgoingChannel.{OutgoingChannel}
use Rattle.amqp_session_performatives.specs.declared.session_frame.SessionFrame.{SessionFrame}
use Rattle.amqp_session_frames.specs.State as channels
use Rattle.amqp_endpoint_links.specs.declared.session.AskedSession.{AskedSession}
use Rattle.amqp_endpoint_links.specs.Beginning.{Accepted}
use Rattle.amqp_endpoint_conversation.proofs.Answering.{has_channel, is_live, was_asked}
use Rattle.amqp_endpoint_conversation.proofs.conversation.Conversation.accept_asked.Goals as goal

pub returns-in-Ok-clause-ok : goal.returns-in-Ok-clause-ok
returns-in-Ok-clause-ok g c =
    let made = c.in_ok-session.ensures in
    let (incoming, stepped) = c.in-Ok.ensures.ok in
    let session = c.in_ok-session.session in
    let frame = c.in_ok-session.frame in
    let outgoing = c.in-Ok.field-0-0 in
    let same =
    was_asked c.args.self.now.sessions c.args.number incoming c.in-Ok.asked outgoing session c.accept.new.self stepped
    made.wanted made.asked in
    let channel =
    has_channel c.args.self.now.sessions c.args.number incoming c.in-Ok.asked outgoing session c.accept.new.self stepped
    c.in_ok-outgoing.outgoing (c.in_ok-outgoing.ensures.ok.2
    ∙ ap (λ (s : channels.State). s.offered) c.connection.ensures) in
    record {
      asked = c.requires;
      incoming = incoming;
      wanted = c.in-Ok.asked;
      outgoing = outgoing;
      session = session;
      frame = frame;
      mid = c.accept.new.self;
      accepted =
          subst (λ (w : Box AskedSession). Accepted g.R.LinkRelay.gives w.value outgoing c.args.channel
          c.args.self.now.first_transfer_number c.args.self.now.incoming_window frame session.value) same
          (subst (λ (ch : OutgoingChannel). Accepted g.R.LinkRelay.gives made.wanted.value ch c.args.channel
          c.args.self.now.first_transfer_number c.args.self.now.incoming_window frame session.value) channel made.accepted);
      stepped = stepped;
      taken_over =
          c.take_over.ensures.taken session
          (is_live c.args.self.now.sessions c.args.number incoming c.in-Ok.asked outgoing session c.accept.new.self
          stepped);
      rest = c.take_over.ensures.rest;
      queued = c.push_back_reserved.ensures.items ∙ ap (λ (fs : List SessionFrame). fs ++ frame ∷ []) c.reserve.ensures.items;
    }
