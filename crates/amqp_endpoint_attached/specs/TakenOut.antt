-- How a link leaves its session: part 2, 2.6.5.
use Rattle.std.specs.Prelude.{◌≡◌, ◌⊎◌, ◌<◌, length, Option, Some, None}
use Rattle.amqp_session_types.specs.declared.handles.OutputHandle.{OutputHandle}
use Rattle.amqp_session_outgoing.specs.Queues.{units_of}
use Rattle.amqp_session_core.specs.State.{link_at}
use Rattle.amqp_session_core.specs.Steps.{Step, Deallocates}
use Rattle.amqp_link.specs.declared.end.End.{End}
use Rattle.amqp_endpoint_links.specs.declared.numbered.Numbered.{Numbered}
use Rattle.amqp_endpoint_attached.specs.Linked.{Linked, gives}

-- the link is taken out, and nothing of it waits; or no link is there, or something of it waits, and nothing changes
abbrev pub TakenOut : Linked → OutputHandle → Option (Numbered End) → Linked → Type 0
TakenOut old handle (Some link) new =
    (link_at old.session handle.0 ≡ Some link)
    × Step gives old.session (Deallocates handle.0) new.session
    × (new ≡ record old { session = new.session })
TakenOut old handle None new =
    ((link_at old.session handle.0 ≡ None) ⊎ (0 < length (units_of handle.0 old.session.outgoing.queues)))
    × (new ≡ old)
