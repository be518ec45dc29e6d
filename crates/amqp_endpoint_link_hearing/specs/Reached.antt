-- The link that a Transfer reaches, as it stands before (part 2, 2.5.1, 2.6.2, 2.6.7).
use Rattle.std.specs.Prelude.{ℕ, Bool, false, List, Option, Some, None}
use Rattle.amqp_session_types.specs.declared.channels.IncomingChannel.{IncomingChannel}
use Rattle.amqp_session_performatives.specs.declared.transfer.Transfer.{Transfer}
use Rattle.amqp_session_core.specs.State.{link_at, reached}
use Rattle.amqp_link_receiver.specs.Flowing.{link_recounted}
use Rattle.amqp_link_receiver.specs.Foreseen.{completes}
use Rattle.amqp_link.specs.declared.end.End.{End}
use Rattle.amqp_link.specs.declared.end.End.TheVariants.{Receiver, Sender}
use Rattle.amqp_endpoint_tables.specs.State.{live_at}
use Rattle.amqp_endpoint_tables.specs.State as sessions
use Rattle.amqp_endpoint_attached.specs.Linked.{Linked}
use Rattle.amqp_endpoint_linking.specs.Linking.{Link, Session, Talk}
use Rattle.amqp_endpoint_link_hearing.specs.declared.reaching.Counts.{Counts}

-- the link that the peer's frames with a handle reach in a session
abbrev pub link_under : Linked → Option ℕ → Option Link
link_under session None = None
link_under session (Some handle) = link_at session.session handle

abbrev pub link_below : Linked → ℕ → Option Link
link_below session input = link_under session (reached session.session input)

abbrev pub link_within : Option Session → ℕ → Option Link
link_within None input = None
link_within (Some session) input = link_below session.value input

abbrev pub link_among : Talk → Option ℕ → ℕ → Option Link
link_among talk None input = None
link_among talk (Some session) input = link_within (live_at talk.sessions session) input

-- the one that they reach on a channel, if that is the channel of a session that has begun
abbrev pub link_on : Talk → IncomingChannel → ℕ → Option Link
link_on talk channel input = link_among talk (sessions.reached talk.sessions channel.0) input

-- the counts of a receiving link; of a sending one none are of interest here
abbrev pub no_counts : Counts
no_counts = record { delivery_count = 0; link_credit = 0 }

abbrev pub counts_by : End → Counts
counts_by (Receiver r) =
    record { delivery_count = r.end.flow.delivery_count; link_credit = r.end.flow.link_credit }
counts_by (Sender s) = no_counts

abbrev pub counts_of : Option Link → Counts
counts_of None = no_counts
counts_of (Some link) = counts_by link.link

-- a receiving link with these counts
abbrev pub recounted : Counts → End → End
recounted counts (Receiver r) = Receiver (link_recounted r counts.delivery_count counts.link_credit)
recounted counts (Sender s) = Sender s

-- a link would hand out a message for a Transfer
abbrev pub completes_by : End → Transfer → List ℕ → Bool
completes_by (Receiver r) it payload = completes r it payload
completes_by (Sender s) it payload = false

abbrev pub completes_of : Option Link → Transfer → List ℕ → Bool
completes_of None it payload = false
completes_of (Some link) it payload = completes_by link.link it payload
