use Rattle.std.proofs.Common.{refl}
use Rattle.amqp_session_performatives.specs.AttachLaws.{attach_parts}
use Rattle.amqp_session_performatives.proofs.attach.AttachClone.clone.Goals as goal

pub returns : goal.returns
returns c =
    let parts = c.in_ok-name.ensures in
    record {
      cases = attach_parts _ _
          parts.0.0.0
          refl
          refl
          refl
          refl
          parts.1.1.0
          parts.1.1.1
          parts.1.0
          refl
          refl
          refl
          parts.0.1.0
          parts.0.1.1
          parts.0.0.1;
    }
