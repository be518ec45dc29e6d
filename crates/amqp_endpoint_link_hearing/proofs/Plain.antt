-- What links answer to a Flow has no properties.
use Rattle.std.proofs.Common.{◌≡◌, Option, Some, None, Result, Ok, ap}
use Rattle.amqp_session_performatives.specs.declared.link_flow.LinkFlow.{LinkFlow}
use Rattle.amqp_session_core.specs.declared.relay.RelayError.{RelayError}
use Rattle.amqp_link.specs.Ends.{flow_answer, state_of}
use Rattle.amqp_link.specs.Gives.{flows_at}
use Rattle.amqp_link.specs.Standing.{standing_of}
use Rattle.amqp_link.specs.declared.end.End.{End}
use Rattle.amqp_link.specs.declared.standing.Standing.{Standing}
use Rattle.amqp_link.specs.declared.standing.Standing.TheVariants.{Attached, Detaching, Apart}
use Rattle.amqp_endpoint_conversation.specs.Going.{AnswersPlain}
use Rattle.amqp_endpoint_attached.specs.Linked.{gives}
use Rattle.amqp_endpoint_attached.proofs.Fitting.{reply_plain}

abbrev told-ok : Option LinkFlow → Result (Option LinkFlow) RelayError
told-ok told = Ok told

same-answer : (answer : LinkFlow) (told : Option LinkFlow) → told-ok (Some answer) ≡ told-ok told → told ≡ Some answer
same-answer answer (Some other) is = let same : other ≡ answer = cc in ap (λ (f : LinkFlow). Some f) same
same-answer answer None is = absurd cc

at : (standing : Standing) (before after : End) (flow answer : LinkFlow)
    → flows_at standing before flow (Ok (Some answer)) after → flow_answer before flow ≡ Some answer
at Attached before after flow answer t = same-answer answer (flow_answer before flow) t.0
at Detaching before after flow answer t = let is = t.0 in absurd cc
at Apart before after flow answer t = let is = t.0 in absurd cc

pub answers-plain : AnswersPlain gives
answers-plain before after flow answer t =
    reply_plain before.link flow answer
    (at (standing_of (state_of before.link)) before.link after.link flow answer t.0)
