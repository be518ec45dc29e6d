use Rattle.std.proofs.Common.{refl}
use Rattle.amqp_link_sections.specs.PropertiesLaws.{properties_parts}
use Rattle.amqp_link_sections.proofs.properties.PropertiesClone.clone.Goals as goal

pub returns : goal.returns
returns c =
    let parts = c.in_ok-message_id.ensures in
    record {
      cases = properties_parts _ _
          parts.0.0.0
          parts.0.1.0
          parts.1.0.0
          parts.0.1.1
          parts.1.0.1
          parts.0.0.1
          parts.1.1.0.0
          parts.1.1.0.1
          refl
          refl
          parts.1.1.1.0
          refl
          parts.1.1.1.1;
    }
