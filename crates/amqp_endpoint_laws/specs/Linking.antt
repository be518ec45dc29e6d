-- How the links of an endpoint came about (part 2, 2.6.1).
use Rattle.std.specs.Prelude.{List}
use Rattle.amqp_link.specs.declared.end.End.{End}
use Rattle.amqp_endpoint_tables.specs.LinkState.{fresh}
use Rattle.amqp_endpoint_tables.specs.LinkSteps.{History, Act}
use Rattle.amqp_endpoint_linking.specs.Linking.{Links}

-- links are what these steps, one after the other, made of none
pub record HaveCome (links : Links) : Type 0 where
  pub steps : List (Act End)
  pub history : History fresh steps links
