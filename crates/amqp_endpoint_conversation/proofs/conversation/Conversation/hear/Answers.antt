use Rattle.std.proofs.Common.{◌≡◌, refl, sym, ap, subst, ◌∙◌}
use Rattle.std.proofs.lemmas.Option.{same_Some}
use Rattle.std.specs.Box.{with_value}
use Rattle.std.specs.Global.{Box}
use Rattle.std.specs.VecDeque.{deque_len}
use Rattle.amqp_endpoint_links.specs.declared.asking.AskingSession.{AskingSession}
use Rattle.amqp_endpoint_links.specs.Hearing.{Hears}
use Rattle.amqp_endpoint_tables.specs.Lends.{set_live}
use Rattle.amqp_endpoint_conversation.specs.Beginning.{Sessions}
use Rattle.amqp_endpoint_conversation.proofs.Answering.{unlent}
use Rattle.amqp_endpoint_conversation.proofs.RoomsKept.{keeps-room}
use Rattle.amqp_endpoint_conversation.proofs.conversation.Conversation.hear.Goals as goal

pub returns-clause-step : goal.returns-clause-step
returns-clause-step g c before live =
    let lent = c.in-Some.session.now in
    let same : lent ≡ before = same_Some _ _ (c.in-Some.ensures.value ∙ live) in (
      with_value lent c.on_incoming.new.self,
      record {
        heard =
            subst (λ (s : AskingSession g.row.R.Denot). Hears g.R.LinkRelay.gives s c.args.out.now.items c.args.said
            c.on_incoming.result c.on_incoming.new.self c.on_incoming.new.out.items)
            (c.deref_mut.ensures.value ∙ ap (λ (b : Box (AskingSession g.row.R.Denot)). b.value) same)
            c.on_incoming.ensures.step;
        stepped = (live, refl);
      },
    )

pub returns-clause-memory : goal.returns-clause-memory
returns-clause-memory g c refused =
    let old = c.args.self.now.sessions in
    let number = c.args.number in
    let lent = c.in-Some.session.now in
    let kept = c.on_incoming.ensures.memory refused in
    let back : set_live old number (with_value lent c.on_incoming.new.self) ≡ old =
    ap (λ (s : AskingSession g.row.R.Denot). set_live old number (with_value lent s))
    (kept.0 ∙ c.deref_mut.ensures.value)
    ∙ unlent old number lent (sym c.in-Some.ensures.value) in (
      ap (λ (ss : Sessions g.row.R.Denot). record c.args.self.now { sessions = ss }) back,
      kept.1,
    )

pub returns-clause-room : goal.returns-clause-room
returns-clause-room g c before after =
    keeps-room c.args.self.now.sessions c.args.number c.in-Some.session.now c.deref_mut.result.now
    c.on_incoming.new.self c.in-Some.ensures.value c.deref_mut.ensures.value (deque_len c.args.out.now)
    (deque_len c.on_incoming.new.out) (c.on_incoming.ensures.frames_most, c.on_incoming.ensures.kept_room) before after
