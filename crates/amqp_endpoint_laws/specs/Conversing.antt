-- How the sessions of an endpoint go on (part 2, 2.5).
use Rattle.std.specs.Prelude.{List}
use Rattle.std.specs.Global.{Box}
use Rattle.amqp_endpoint_links.specs.declared.session.AskedSession.{AskedSession}
use Rattle.amqp_endpoint_tables.specs.Steps.{History, Act}
use Rattle.amqp_endpoint_linking.specs.Linking.{Session, Sessions}

-- what happens to the sessions of an endpoint
abbrev pub SessionsAct : Type 0
SessionsAct = Act (Box AskedSession) Session

-- these steps, one after the other, made the new sessions of the old
pub record SessionsGoOn (old new : Sessions) : Type 0 where
  pub steps : List SessionsAct
  pub history : History old steps new
