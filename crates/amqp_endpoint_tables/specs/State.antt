-- The sessions of an endpoint, by their numbers (part 2, 2.5).
use Rattle.std.specs.Prelude.{◌≡◌, ℕ, List, [], Bool, true, false, Option, Some, None, slice_get}
use Rattle.std.specs.FinMap as map
use Rattle.amqp_session_types.specs.declared.channels.IncomingChannel.{IncomingChannel}
use Rattle.amqp_session_types.specs.declared.channels.OutgoingChannel.{OutgoingChannel}
use Rattle.amqp_session_frames.specs.State as channels
use Rattle.amqp_endpoint_tables.specs.declared.place.PeerEnd.{PeerEnd}
use Rattle.amqp_endpoint_tables.specs.declared.place.PeerEnd.TheVariants.{Missing, Received, Told}
use Rattle.amqp_endpoint_tables.specs.declared.place.Place.{Place}
use Rattle.amqp_endpoint_tables.specs.declared.place.Place.TheVariants.{Asked, Live, Ending, Over}
use Rattle.amqp_endpoint_tables.specs.declared.place.Standing.{Standing}
use Rattle.amqp_endpoint_tables.specs.declared.place.Standing.TheVariants as standing

pub record State (A S : Type 0) : Type 0 where
  -- which session has which outgoing channel, and where the peer's channels lead
  pub connection : channels.State
  -- where each session stands, by its number
  pub places : List (Place A S)
  -- the sessions that the peer asks for, by its channel
  pub asked : channels.Table

-- what came of the peer's End, once the caller was told
abbrev pub told_after : PeerEnd → PeerEnd
told_after Received = Told
told_after peer_end = peer_end

abbrev pub first_of : Option ℕ → Option ℕ → Option ℕ
first_of (Some number) other = Some number
first_of None other = other

module _ {A S : Type 0} where
  -- without sessions
  abbrev pub fresh : channels.State → State A S
  fresh c = record { connection = c; places = []; asked = map.empty }

  -- where a session stands; nothing where none has the number
  abbrev pub place_at : State A S → ℕ → Option (Place A S)
  place_at s number = slice_get s.places number

  abbrev pub standing_of : Place A S → Standing
  standing_of (Asked channel a) = standing.Asked
  standing_of (Live channel s) = standing.Live
  standing_of (Ending channel own_end) = standing.Ending
  standing_of (Over peer_end complete) = standing.Over

  -- the outgoing channel that a session has (part 2, 2.5.1)
  abbrev pub channel_of : Place A S → Option OutgoingChannel
  channel_of (Live channel s) = Some channel
  channel_of (Ending channel own_end) = Some channel
  channel_of place = None

  abbrev pub channel_in : Option (Place A S) → Option OutgoingChannel
  channel_in None = None
  channel_in (Some place) = channel_of place

  abbrev pub channel_at : State A S → ℕ → Option OutgoingChannel
  channel_at s number = channel_in (place_at s number)

  -- a session that is asked for, or that has begun
  abbrev pub asked_of : Option (Place A S) → Option A
  asked_of (Some (Asked channel a)) = Some a
  asked_of place = None

  abbrev pub live_of : Option (Place A S) → Option S
  live_of (Some (Live channel s)) = Some s
  live_of place = None

  -- a place with another session there, where there is one
  abbrev pub with_asked : Place A S → A → Place A S
  with_asked (Asked channel old) a = Asked channel a
  with_asked place a = place

  abbrev pub with_live : Place A S → S → Place A S
  with_live (Live channel old) s = Live channel s
  with_live place s = place

  abbrev pub asked_at : State A S → ℕ → Option A
  asked_at s number = asked_of (place_at s number)

  abbrev pub live_at : State A S → ℕ → Option S
  live_at s number = live_of (place_at s number)

  -- the peer's channel of a session that is asked for
  abbrev pub asked_channel_of : Option (Place A S) → Option IncomingChannel
  asked_channel_of (Some (Asked channel a)) = Some channel
  asked_channel_of place = None

  abbrev pub asked_channel_at : State A S → ℕ → Option IncomingChannel
  asked_channel_at s number = asked_channel_of (place_at s number)

  -- the outgoing channel of a session that has begun
  abbrev pub live_channel_of : Option (Place A S) → Option OutgoingChannel
  live_channel_of (Some (Live channel s)) = Some channel
  live_channel_of place = None

  abbrev pub live_channel_at : State A S → ℕ → Option OutgoingChannel
  live_channel_at s number = live_channel_of (place_at s number)

  -- the number of a session that has an outgoing channel
  abbrev pub with_channel : ℕ → Option (Place A S) → Option ℕ
  with_channel number (Some (Live channel s)) = Some number
  with_channel number (Some (Ending channel own_end)) = Some number
  with_channel number place = None

  -- the number of a session that is asked for
  abbrev pub when_asked : ℕ → Option (Place A S) → Option ℕ
  when_asked number (Some (Asked channel a)) = Some number
  when_asked number place = None

  abbrev pub routed_in : State A S → Option ℕ → Option ℕ
  routed_in s None = None
  routed_in s (Some number) = with_channel number (place_at s number)

  abbrev pub asked_in : State A S → Option ℕ → Option ℕ
  asked_in s None = None
  asked_in s (Some number) = when_asked number (place_at s number)

  -- the session to which a channel of the peer was led by a Begin, as long as it has an outgoing channel
  abbrev pub routed : State A S → ℕ → Option ℕ
  routed s channel = routed_in s (map.get s.connection.routes channel)

  -- the session that the peer asks for on a channel
  abbrev pub asked_on : State A S → ℕ → Option ℕ
  asked_on s channel = asked_in s (map.get s.asked channel)

  -- the session that the peer's frames on a channel reach: the one that it was led to, before one that is asked for
  abbrev pub reached : State A S → ℕ → Option ℕ
  reached s channel = first_of (routed s channel) (asked_on s channel)

  -- a place behind the peer's End: both End have passed where the own one has, or is the answer to it. One that is
  -- asked for was not begun here, and of one that the own Close ended none is sent any more (part 2, 2.4.3, 2.5.2)
  abbrev pub ended_place : Place A S → Place A S
  ended_place (Asked channel a) = Over Received false
  ended_place (Live channel s) = Over Received true
  ended_place (Ending channel own_end) = Over Received own_end
  ended_place (Over peer_end complete) = Over peer_end complete

  -- a place once the connection is over
  abbrev pub finished_place : Place A S → Place A S
  finished_place (Over peer_end complete) = Over peer_end true
  finished_place place = Over Missing true

  -- whether both End have passed, or the connection is over
  abbrev pub is_complete : Option (Place A S) → Bool
  is_complete (Some (Over peer_end complete)) = complete
  is_complete place = false

  -- what came of the peer's End
  abbrev pub peer_end_of : Option (Place A S) → PeerEnd
  peer_end_of (Some (Over peer_end complete)) = peer_end
  peer_end_of place = Missing

  -- the caller was told of the peer's End
  abbrev pub told_place : Place A S → Place A S
  told_place (Over peer_end complete) = Over (told_after peer_end) complete
  told_place place = place
