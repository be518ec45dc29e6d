use Rattle.std.proofs.Common.{Err, refl, ap}
use Rattle.amqp_session_types.specs.declared.refusals.SessionError.{SessionError}
use Rattle.amqp_endpoint_conversation.proofs.Hearings.{refused}
use Rattle.amqp_endpoint_conversation.proofs.conversation.Conversation.hear_in_live.Goals as goal

pub returns-in-Ok-clause-step : goal.returns-in-Ok-clause-step
returns-in-Ok-clause-step g c before live =
    let heard = c.in-Ok.ensures.step before live in (
      refl {a = c.args.number},
      record { after = heard.0; hears = heard.1; rest = c.in-Ok.ensures.rest },
    )

pub returns-in-Err-clause-step : goal.returns-in-Err-clause-step
returns-in-Err-clause-step g c before live =
    let heard = c.in-Err.ensures.step before live in
    refused g.R.LinkRelay.gives c.args.self.now c.args.out.now.items c.args.number before c.args.said live
    c.in-Err.error
    heard.0 c.hear.new.self c.hear.new.out.items heard.1 c.in-Err.ensures.rest
    (λ is. c.in-Err.ensures.memory (ap (λ (e : SessionError). Err e) is))
    c.refuse.result c.refuse.new.self c.refuse.new.out.items c.refuse.ensures
