-- The link that a peer's Attach names (part 2, 2.6.1, 2.6.3).
use Rattle.std.specs.Prelude.{◌≡◌, ◌==◌, ℕ, Bool, true, false, Option, Some, None, if◌then◌else◌}
use Rattle.amqp_session_types.specs.declared.channels.IncomingChannel.{IncomingChannel}
use Rattle.amqp_session_types.specs.declared.handles.OutputHandle.{OutputHandle}
use Rattle.amqp_session_types.specs.declared.modes.Role.{Role}
use Rattle.amqp_session_types.specs.declared.modes.Role.TheVariants as role
use Rattle.amqp_session_performatives.specs.declared.attach.Attach.{Attach}
use Rattle.amqp_session_core.specs.State.{link_at}
use Rattle.amqp_link_base.specs.declared.state.LinkState.{LinkState}
use Rattle.amqp_link_base.specs.declared.state.LinkState.TheVariants as state
use Rattle.amqp_link.specs.Ends.{state_of}
use Rattle.amqp_link.specs.declared.end.End.{End}
use Rattle.amqp_endpoint_links.specs.declared.asking.NamedLink.{NamedLink}
use Rattle.amqp_endpoint_links.specs.declared.asking.NamedLink.TheVariants.{Absent, Attached, Waiting}
use Rattle.amqp_endpoint_tables.specs.LinkState.{Names, held_at}
use Rattle.amqp_endpoint_tables.specs.State.{live_at, reached}
use Rattle.amqp_endpoint_attached.specs.Ends.{role_of}
use Rattle.amqp_endpoint_linking.specs.Linking.{Link, Links, Session, Talk}

-- a sender's peer is a receiver, and the other way round (part 2, 2.6.1)
abbrev pub is_other : Role → Role → Bool
is_other role.Sender role.Receiver = true
is_other role.Receiver role.Sender = true
is_other own peer = false

-- it sent its Attach, and the peer's hasn't come; or both came, and no Detach
abbrev pub standing : LinkState → OutputHandle → NamedLink
standing state.AttachSent handle = Waiting handle
standing state.IncompleteAttachSent handle = Waiting handle
standing state.Attached handle = Attached
standing state.IncompleteAttachExchanged handle = Attached
standing other handle = Absent

-- a link, where it is the other end of what the peer attaches
abbrev pub named_end : End → Role → OutputHandle → NamedLink
named_end link peer handle = if is_other (role_of link) peer then standing (state_of link) handle else Absent

abbrev pub named_link : Option Link → Role → OutputHandle → NamedLink
named_link None peer handle = Absent
named_link (Some link) peer handle = named_end link.link peer handle

-- the link with this own handle in a session that has begun
abbrev pub link_in : Option Session → OutputHandle → Option Link
link_in None handle = None
link_in (Some session) handle = link_at session.value.session handle.0

abbrev pub link_of : Talk → ℕ → OutputHandle → Option Link
link_of talk session handle = link_in (live_at talk.sessions session) handle

-- where the link with the name is held by the session itself
abbrev pub named_held : Talk → ℕ → Role → Option (ℕ × OutputHandle) → NamedLink
named_held talk session peer None = Absent
named_held talk session peer (Some held) =
    if held.0 == session then named_link (link_of talk session held.1) peer held.1 else Absent

abbrev pub named_by : Talk → Links → ℕ → Role → Option ℕ → NamedLink
named_by talk links session peer None = Absent
named_by talk links session peer (Some number) = named_held talk session peer (held_at links number)

-- what the endpoint has of the link that an Attach names in a session
pub record IsNamed (talk : Talk) (links : Links) (session : ℕ) (attach : Attach) (named : NamedLink) : Type 0 where
  pub number : Option ℕ
  pub names : Names links.links attach.name number
  pub is : named ≡ named_by talk links session attach.role number

-- in the session that a channel of the peer reaches: where it reaches none there is none
abbrev pub IsNamedIn : Option ℕ → Talk → Links → Attach → NamedLink → Type 0
IsNamedIn None talk links attach named = named ≡ Absent
IsNamedIn (Some session) talk links attach named = IsNamed talk links session attach named

abbrev pub IsNamedOn : Talk → Links → IncomingChannel → Attach → NamedLink → Type 0
IsNamedOn talk links channel attach named = IsNamedIn (reached talk.sessions channel.0) talk links attach named
