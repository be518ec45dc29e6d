-- The sessions of an endpoint, and its links by their numbers: part 2, 2.5, 2.6.
use Rattle.std.specs.Prelude.{List}
use Rattle.std.specs.Global.{Box}
use Rattle.amqp_session_core.specs.State.{links_in}
use Rattle.amqp_link.specs.declared.end.End.{End}
use Rattle.amqp_endpoint_links.specs.declared.session.AskedSession.{AskedSession}
use Rattle.amqp_endpoint_links.specs.declared.numbered.Numbered.{Numbered}
use Rattle.amqp_endpoint_tables.specs.LinkState as names
use Rattle.amqp_endpoint_tables.specs.declared.place.Place.{Place}
use Rattle.amqp_endpoint_conversation.specs.declared.conversation.Conversation.{Conversation}
use Rattle.amqp_endpoint_conversation.specs.Beginning as conversation
use Rattle.amqp_endpoint_attached.specs.Linked.{Linked}

-- a link with its number
abbrev pub Link : Type 0
Link = Numbered End

-- the links of an endpoint, by their numbers and their names (part 2, 2.6.1)
abbrev pub Links : Type 0
Links = names.State End

-- its sessions, and what is said in them
abbrev pub Talk : Type 0
Talk = Conversation Link

abbrev pub Sessions : Type 0
Sessions = conversation.Sessions Link

-- a session that has begun, with its links
abbrev pub Session : Type 0
Session = Box Linked

-- where a session stands
abbrev pub Stood : Type 0
Stood = Place (Box AskedSession) Session

-- its links, by rising own handle (part 2, 2.6.2)
abbrev pub links_of : Session → List Link
links_of session = links_in session.value.session.links
