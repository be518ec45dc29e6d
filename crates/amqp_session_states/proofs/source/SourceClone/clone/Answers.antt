use Rattle.std.proofs.Common.{rules, refl}
use Rattle.amqp_session_states.specs.SourceLaws.{source_parts}
use Rattle.amqp_session_states.proofs.source.SourceClone.clone.Goals as goal

pub returns : goal.returns
returns c = record {
  cases = source_parts _ _
      (search rules)
      refl
      refl
      refl
      refl
      (search rules)
      refl
      (search rules)
      (search rules)
      (search rules)
      (search rules);
}
