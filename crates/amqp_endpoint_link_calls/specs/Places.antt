-- An endpoint's links where they stand: in its sessions by their handles, or at rest (part 2, 2.6.2, 2.6.4).
use Rattle.std.specs.Prelude.{◌≡◌, Option, Some, None}
use Rattle.std.specs.Global.{Box}
use Rattle.amqp_session_types.specs.declared.handles.OutputHandle.{OutputHandle}
use Rattle.amqp_link.specs.declared.end.End.{End}
use Rattle.amqp_endpoint_links.specs.declared.numbered.Numbered.{Numbered}
use Rattle.amqp_endpoint_tables.specs.LinkState.{State}
use Rattle.amqp_endpoint_tables.specs.declared.link_place.LinkPlace.{LinkPlace}
use Rattle.amqp_endpoint_tables.specs.declared.link_place.LinkPlace.TheVariants.{Held, AtRest}
use Rattle.amqp_endpoint_tables.specs.State.{live_at}
use Rattle.amqp_endpoint_conversation.specs.declared.conversation.Conversation.{Conversation}
use Rattle.amqp_endpoint_model.specs.declared.error.EndpointError.{EndpointError}
use Rattle.amqp_endpoint_model.specs.declared.error.EndpointError.TheVariants.{UnknownLink, IllegalState}
use Rattle.amqp_endpoint_attached.specs.Linked.{Linked, end_at}

-- the sessions of an endpoint, with links that bear their numbers
abbrev pub LinkTalk : Type 0
LinkTalk = Conversation (Numbered End)

-- its links by their numbers
abbrev pub LinksBy : Type 0
LinksBy = State End

-- where a link is, if it has a number
abbrev pub Where : Type 0
Where = Option (LinkPlace End)

-- the link with this own handle in a session, where that has begun
abbrev pub end_live : Option (Box Linked) → OutputHandle → Option End
end_live None handle = None
end_live (Some session) handle = end_at session.value handle

-- a link as it stands in the session that holds it
abbrev pub end_held : LinkTalk → LinkPlace End → Option End
end_held talk (Held session handle) = end_live (live_at talk.sessions session) handle
end_held talk (AtRest end) = None

-- a link wherever it stands
abbrev pub end_of : LinkTalk → Where → Option End
end_of talk None = None
end_of talk (Some (Held session handle)) = end_live (live_at talk.sessions session) handle
end_of talk (Some (AtRest end)) = Some end

-- why no session holds a link: there is none with the number, or it is at rest
abbrev pub IsNotHeld : Where → EndpointError → Type 0
IsNotHeld None e = e ≡ UnknownLink
IsNotHeld (Some (AtRest end)) e = e ≡ IllegalState
IsNotHeld (Some (Held session handle)) e = ⊥
