-- What passes on an endpoint's connection, as one sees it who reads along (part 2, 2.4, 2.5).
use Rattle.std.specs.Prelude.{◌≡◌, ℕ, List, [], ◌∷◌, IsSome, Some, flat_map, map}
use Rattle.amqp_session_types.specs.declared.channels.OutgoingChannel.{OutgoingChannel}
use Rattle.amqp_endpoint_laws.specs.Deeds.{Deed, Does, Hears, Takes}
use Rattle.amqp_endpoint.specs.declared.linked.LinkedSessions.{LinkedSessions}
use Rattle.amqp_endpoint_linking.specs.Linking.{Session}
use Rattle.amqp_endpoint_laws.specs.Following.{goes}
use Rattle.amqp_endpoint_laws.specs.Reading.{Comes, Goes, Reader, Wired, behind, goes_for, read_on}
use Rattle.amqp_endpoint_tables.specs.State.{place_at}
use Rattle.amqp_endpoint_tables.specs.declared.place.Place.TheVariants.{Live}
use Rattle.amqp_endpoint_conversation.specs.Windows.{Came, Passing, Went}

-- the frames that pass by a deed: the peer's that is taken, and behind it those that sessions hand out
abbrev pub wired_in : Deed → List Wired
wired_in (Hears frame events) = Comes frame ∷ []
wired_in (Takes limit frame frames events) = Comes frame ∷ goes frames
wired_in (Does limit call answer frames) = goes frames
wired_in deed = []

abbrev pub wired_by : List Deed → List Wired
wired_by deeds = flat_map wired_in deeds

-- a frame of a session's, as it passes in the session
abbrev pub passing_of : Wired → Passing
passing_of (Comes frame) = Came frame.body
passing_of (Goes frame) = Went frame

-- what passes in the session with this number on a connection, as it is read
abbrev pub passing_in : ℕ → Reader → List Wired → List Passing
passing_in number r frames = map passing_of (read_on number r frames)

-- a frame that goes is read as a session's
abbrev pub IsOnes : Reader → Wired → Type 0
IsOnes r (Comes frame) = Unit {0}
IsOnes r (Goes frame) = IsSome (goes_for r frame.channel frame.body)

-- so is each that goes among those that pass, one behind the other
abbrev pub AreOnes : Reader → List Wired → Type 0
AreOnes r [] = Unit {0}
AreOnes r (it ∷ later) = IsOnes r it × AreOnes (behind r it) later

-- each session that goes on is on the channel on which it hands its frames out
abbrev pub OnOwnChannels : LinkedSessions → Type 0
OnOwnChannels s =
    (number : ℕ) (channel : OutgoingChannel) (session : Session)
    → place_at s.talk.sessions number ≡ Some (Live channel session)
    → ((session.value).session).fields.channel ≡ channel
