use Rattle.std.proofs.Common.{◌≡◌, Ok, Err, refl, ap, subst, ◌∙◌}
use Rattle.std.proofs.lemmas.Option.{same_Some}
use Rattle.std.specs.Box.{with_value}
use Rattle.std.specs.Global.{Box}
use Rattle.amqp_session_types.specs.declared.refusals.SessionError.{SessionError}
use Rattle.amqp_session_types.specs.declared.refusals.SessionError.TheVariants.{Memory}
use Rattle.amqp_endpoint_links.specs.declared.session.AskedSession.{AskedSession}
use Rattle.amqp_endpoint_links.specs.Hearing.{HearsAsked}
use Rattle.amqp_endpoint_conversation.proofs.Hearings.{asked_stays}
use Rattle.amqp_endpoint_conversation.proofs.conversation.Conversation.hear_in_asked.Goals as goal

pub returns-in-Ok : goal.returns-in-Ok
returns-in-Ok g c asked at =
    let lent = c.in-Some.session.now in
    let same : lent ≡ asked = same_Some _ _ (c.in-Some.ensures.value ∙ at) in (
      refl,
      record {
        after = with_value lent c.hear_asked.new.session;
        heard =
            subst (λ (s : AskedSession). HearsAsked s c.args.said (Ok tt) c.hear_asked.new.session)
            (c.deref_mut.ensures.value ∙ ap (λ (b : Box AskedSession). b.value) same) c.in-Ok.ensures.step;
        stepped = (at, refl);
        rest = refl;
      },
    )

pub returns-in-Memory : goal.returns-in-Memory
returns-in-Memory g c asked at =
    asked_stays c.args.self.now c.args.number c.in-Some.session.now asked c.in-Some.ensures.value at c.args.said Memory
    c.hear_asked.new.session (c.in-Err.ensures.kept ∙ c.deref_mut.ensures.value)
    (subst (λ (s : AskedSession). HearsAsked s c.args.said (Err Memory) c.hear_asked.new.session)
    c.deref_mut.ensures.value
    (subst (λ (e : SessionError). HearsAsked c.deref_mut.result.now c.args.said (Err e) c.hear_asked.new.session)
    c.in-Memory.is
    c.in-Err.ensures.step))

pub returns-in_default-error : goal.returns-in_default-error
returns-in_default-error g c asked at = (
  refl {a = c.args.number},
  c.in_default-error.not-Memory,
  asked_stays c.args.self.now c.args.number c.in-Some.session.now asked c.in-Some.ensures.value at c.args.said
      c.in-Err.error c.hear_asked.new.session (c.in-Err.ensures.kept ∙ c.deref_mut.ensures.value)
      (subst (λ (s : AskedSession). HearsAsked s c.args.said (Err c.in-Err.error) c.hear_asked.new.session)
      c.deref_mut.ensures.value c.in-Err.ensures.step),
)
