use Rattle.std.proofs.Common.{◌≡◌, Bool, Some, inr, refl, sym, ap, subst, ◌∙◌}
use Rattle.std.specs.Box.{with_value}
use Rattle.amqp_session_core.specs.Table.{after_incoming_begin}
use Rattle.amqp_endpoint_links.specs.declared.asking.AskingSession.{AskingSession}
use Rattle.amqp_endpoint_tables.specs.Lends.{set_live}
use Rattle.amqp_endpoint_tables.specs.State.{live_at}
use Rattle.amqp_endpoint_conversation.specs.Beginning.{BeginBarred, HearsBegin, LeadsAlone, Sessions}
use Rattle.amqp_endpoint_conversation.proofs.Answering.{unlent}
use Rattle.amqp_endpoint_conversation.proofs.conversation.Conversation.answer.Goals as goal

pub returns-in-Ok-true : goal.returns-in-Ok-true
returns-in-Ok-true g c =
    let before = c.in-Some.session.now in
    let heard =
    subst (λ (s : AskingSession g.row.R.Denot). HearsBegin g.R.LinkRelay.gives c.in-Ok-true.field-0 s c.args.out.now.items
    c.args.channel c.args.begin.now c.hear_begin.new.session c.hear_begin.new.out.items)
    c.deref_mut.ensures.value c.in-Ok-true.ensures.ok in
    record {
      mid = c.on_incoming_begin.new.self;
      led = record { names_one = c.requires; stepped = c.in-Ok.ensures.ok };
      takes =
          record {
            before = before;
            after = with_value before c.hear_begin.new.session;
            taken =
                subst (λ (b : Bool). HearsBegin g.R.LinkRelay.gives b before.value c.args.out.now.items c.args.channel
                c.args.begin.now c.hear_begin.new.session c.hear_begin.new.out.items) c.in-Ok-true.field-0-test heard;
            stepped = (sym c.in-Some.ensures.value, refl);
          };
      rest = refl;
    }

pub returns-in-Ok-false : goal.returns-in-Ok-false
returns-in-Ok-false g c =
    let mid = c.on_incoming_begin.new.self in
    let before = c.in-Some.session.now in
    let live : live_at mid c.in-Ok.number ≡ Some before = sym c.in-Some.ensures.value in
    let (barred, same, out) =
    subst (λ (b : Bool). HearsBegin g.R.LinkRelay.gives b c.deref_mut.result.now c.args.out.now.items c.args.channel
    c.args.begin.now c.hear_begin.new.session c.hear_begin.new.out.items) c.in-Ok-false.field-0-test
    c.in-Ok-false.ensures.ok in
    let back : set_live mid c.in-Ok.number (with_value before c.hear_begin.new.session) ≡ mid =
    ap (λ (s : AskingSession g.row.R.Denot). set_live mid c.in-Ok.number (with_value before s)) (same ∙ c.deref_mut.ensures.value)
    ∙ unlent mid c.in-Ok.number before live in (
      subst (λ (ss : Sessions g.row.R.Denot). BeginBarred g.R.LinkRelay.gives c.args.self.now c.args.channel c.args.begin.now
          c.in-Ok.number (record c.args.self.now { sessions = ss })) (sym back)
          (record {
            led = record { names_one = c.requires; stepped = c.in-Ok.ensures.ok };
            session = before;
            live = live;
            barred =
                subst (λ (s : AskingSession g.row.R.Denot). after_incoming_begin s.session.local_state ≡ _)
                c.deref_mut.ensures.value barred;
            rest = refl;
          }),
      out,
    )

pub returns-in-Err-hear_begin : goal.returns-in-Err-hear_begin
returns-in-Err-hear_begin g c =
    let mid = c.on_incoming_begin.new.self in
    let before = c.in-Some.session.now in
    let live : live_at mid c.in-Ok.number ≡ Some before = sym c.in-Some.ensures.value in
    let (same, out) = c.in-Err-hear_begin.ensures.kept in
    let back : set_live mid c.in-Ok.number (with_value before c.hear_begin.new.session) ≡ mid =
    ap (λ (s : AskingSession g.row.R.Denot). set_live mid c.in-Ok.number (with_value before s)) (same ∙ c.deref_mut.ensures.value)
    ∙ unlent mid c.in-Ok.number before live in (
      out,
      inr (
        c.in-Ok.number,
        subst
            (λ (ss : Sessions g.row.R.Denot).
            LeadsAlone g.R.LinkRelay.gives c.args.self.now c.args.channel c.args.begin.now c.in-Ok.number
            (record c.args.self.now { sessions = ss }))
            (sym back)
            (record { led = record { names_one = c.requires; stepped = c.in-Ok.ensures.ok }; rest = refl }),
      ),
    )
