use Rattle.std.proofs.Common.{refl, ◌∙◌}
use Rattle.amqp_endpoint_conversation.proofs.conversation.Conversation.ask.Goals as goal

pub returns-in-Ok-ask : goal.returns-in-Ok-ask
returns-in-Ok-ask g c out = (
  record {
    names_none = c.requires;
    asked = c.in-Ok.asked;
    by_begin = c.in-Ok.ensures ∙ c.new.ensures;
    stepped = c.in-Ok-ask.ensures.ok;
    rest = refl;
  },
  refl,
)
