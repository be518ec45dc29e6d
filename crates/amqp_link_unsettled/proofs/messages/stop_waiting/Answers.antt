use Rattle.std.proofs.Common.{rules}
use Rattle.std.proofs.lemmas.Fn.{filter_same}
use Rattle.amqp_link_unsettled.proofs.messages.stop_waiting.Goals as goal

pub returns : goal.returns
returns c = filter_same _ _ _ (λ x b g call. search rules) _ _ c.retain.ensures.filtered
