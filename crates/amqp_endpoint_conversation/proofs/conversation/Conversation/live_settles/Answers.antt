use Rattle.std.proofs.Common.{ap, subst, sym, ◌∙◌}
use Rattle.std.specs.Box.{with_value}
use Rattle.amqp_session_core.specs.State.{State}
use Rattle.amqp_session_core.specs.OneSettled.{SettlesOne}
use Rattle.amqp_endpoint_links.specs.declared.asking.AskingSession.{AskingSession}
use Rattle.amqp_endpoint_tables.specs.Lends.{set_live}
use Rattle.amqp_endpoint_conversation.specs.Beginning.{Sessions}
use Rattle.amqp_endpoint_conversation.proofs.Answering.{unlent}
use Rattle.amqp_endpoint_conversation.proofs.conversation.Conversation.live_settles.Goals as goal

pub returns-in-Some-settles_at_once : goal.returns-in-Some-settles_at_once
returns-in-Some-settles_at_once g c =
    let old = c.args.self.now.sessions in
    let lent = c.in-Some.session.now in
    let after = c.settles_at_once.new.self in
    record {
      before = lent;
      after = after;
      live = sym c.in-Some.ensures.value;
      took =
          subst (λ (s : AskingSession g.row.R.Denot). SettlesOne g.R.LinkRelay.gives s.session c.args.disposition.now
          c.in-Some-settles_at_once.settled after)
          c.deref_mut.ensures.value c.in-Some-settles_at_once.ensures;
      becomes =
          ap (λ (s : AskingSession g.row.R.Denot). record c.args.self.now
          { sessions = set_live old c.args.number (with_value lent (record s { session = after })) })
          c.deref_mut.ensures.value;
    }

pub returns-in-None : goal.returns-in-None
returns-in-None g c =
    let old = c.args.self.now.sessions in
    let lent = c.in-Some.session.now in
    ap (λ (s : State g.row.R.Denot). record c.args.self.now
    { sessions = set_live old c.args.number (with_value lent (record c.deref_mut.result.now { session = s })) })
    c.in-None.ensures
    ∙ ap (λ (s : AskingSession g.row.R.Denot). record c.args.self.now
    { sessions = set_live old c.args.number (with_value lent s) })
    c.deref_mut.ensures.value
    ∙ ap (λ (ss : Sessions g.row.R.Denot). record c.args.self.now { sessions = ss })
    (unlent old c.args.number lent (sym c.in-Some.ensures.value))
