-- A session of an endpoint with its links: part 2, 2.6.
use Rattle.std.specs.Prelude.{Option, option_map}
use Rattle.amqp_session_types.specs.declared.handles.OutputHandle.{OutputHandle}
use Rattle.amqp_session_core.specs.Relay.{Relations}
use Rattle.amqp_session_core.specs.State.{State, link_at}
use Rattle.amqp_link_base.specs.declared.detached.Detached.{Detached}
use Rattle.amqp_link_receiver.specs.declared.answer.Told.{Told}
use Rattle.amqp_link.specs.Gives.{attaches, flows, transfers, disposes, detaches}
use Rattle.amqp_link.specs.declared.end.End.{End}
use Rattle.amqp_link.specs.declared.relay.AttachTold.{AttachTold}
use Rattle.amqp_endpoint_links.specs.Numbering.{numbered}
use Rattle.amqp_endpoint_links.specs.declared.asking.AskingSession.{AskingSession}
use Rattle.amqp_endpoint_links.specs.declared.numbered.Numbered.{Numbered}

-- what the peer's frames make of an end of a link
abbrev pub end_gives : Relations End AttachTold Told Detached
end_gives =
    record { attaches = attaches; flows = flows; transfers = transfers; disposes = disposes; detaches = detaches }

-- and of one that bears its number
abbrev pub gives : Relations (Numbered End) AttachTold Told Detached
gives = numbered end_gives

-- a session of either ends of links, each with its number
abbrev pub LinksIn : Type 0
LinksIn = State (Numbered End)

-- such a session, and the links that its peer asks for in it
abbrev pub Linked : Type 0
Linked = AskingSession (Numbered End)

-- the link with this own handle
abbrev pub end_in : LinksIn → OutputHandle → Option End
end_in s handle = option_map (λ (n : Numbered End). n.link) (link_at s handle.0)

abbrev pub end_at : Linked → OutputHandle → Option End
end_at s handle = end_in s.session handle
