-- An endpoint's sessions and its table of links agree (part 2, 2.6.2).
use Rattle.amqp_endpoint.specs.declared.linked.LinkedSessions.{LinkedSessions}
use Rattle.amqp_endpoint_laws.specs.Held.{Agrees, number_at}

-- each link that a session holds stands there under its handle, with its number, and the other way round
abbrev pub Agree : LinkedSessions → Type 0
Agree s = Agrees (number_at s.talk.sessions) s.links
