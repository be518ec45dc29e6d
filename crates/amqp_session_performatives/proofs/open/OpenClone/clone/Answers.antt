use Rattle.std.proofs.Common.{rules, refl}
use Rattle.amqp_session_performatives.specs.OpenLaws.{open_parts}
use Rattle.amqp_session_performatives.proofs.Clones.{values_cloned}
use Rattle.amqp_session_performatives.proofs.open.OpenClone.clone.Goals as goal

pub returns : goal.returns
returns c = record {
  cases = open_parts _ _
      (search rules)
      (search rules)
      refl
      refl
      refl
      (search rules)
      (search rules)
      (search rules)
      (search rules)
      (values_cloned _ _ c.in_ok-clone-3.ensures.cases);
}
