use Rattle.std.proofs.Common.{◌≡◌}
use Rattle.amqp_session_performatives.proofs.Clones.{unsettled_cloned}
use Rattle.amqp_session_performatives.proofs.attach.Attach.clone_unsettled.Goals as goal

pub returns : goal.returns
returns c = unsettled_cloned (λ x y. y ≡ x) (λ x y e. e) _ _ c.in_ok-clone.ensures.cases
