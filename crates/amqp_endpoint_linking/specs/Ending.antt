-- How sessions end with their connection, and their links with them (part 2, 2.4.3, 2.5.2).
use Rattle.std.specs.Prelude.{◌≡◌, ℕ, zero, suc, length, Option, Some, None, false}
use Rattle.amqp_session_types.specs.declared.channels.OutgoingChannel.{OutgoingChannel}
use Rattle.amqp_endpoint_tables.specs.State.{live_of}
use Rattle.amqp_endpoint_tables.specs.Steps.{EndSent, Finished}
use Rattle.amqp_endpoint_linking.specs.Linking.{Links, Session, Sessions, Stood, Talk}
use Rattle.amqp_endpoint_linking.specs.GivingBack.{SessionGivenBack}

abbrev pub session_of : Option (OutgoingChannel × Session) → Option Session
session_of None = None
session_of (Some left) = Some left.1

-- the own side of a session is over, without a frame, and its links are given back: where it has begun it is ending
pub record LeavesOne (old : Sessions) (links : Links) (number : ℕ) (new : Sessions) (links_new : Links)
    : Type 0 where
  pub left : Option (OutgoingChannel × Session)
  pub sent : EndSent false old number left new
  pub back : SessionGivenBack links (session_of left) links_new

-- the own sides of the sessions with the first so many numbers are
abbrev pub LeavesFirst : ℕ → Sessions → Links → Sessions → Links → Type 0
LeavesFirst zero old links new links_new = (new ≡ old) × (links_new ≡ links)
LeavesFirst (suc number) old links new links_new =
    (mid : Sessions) × (links_mid : Links) × LeavesFirst number old links mid links_mid
    × LeavesOne mid links_mid number new links_new

-- the connection of a session is over, and its links are given back where it had begun and its own side hadn't ended
pub record FinishesOne (old : Sessions) (links : Links) (number : ℕ) (new : Sessions) (links_new : Links)
    : Type 0 where
  pub stood : Option Stood
  pub finished : Finished old number stood new
  pub back : SessionGivenBack links (live_of stood) links_new

-- the connection of the sessions with the first so many numbers is
abbrev pub FinishesFirst : ℕ → Sessions → Links → Sessions → Links → Type 0
FinishesFirst zero old links new links_new = (new ≡ old) × (links_new ≡ links)
FinishesFirst (suc number) old links new links_new =
    (mid : Sessions) × (links_mid : Links) × FinishesFirst number old links mid links_mid
    × FinishesOne mid links_mid number new links_new

-- the own Close is sent: each session that has begun is ending
pub record Leaves (old : Talk) (links : Links) (new : Talk) (links_new : Links) : Type 0 where
  pub each : LeavesFirst (length old.sessions.places) old.sessions links new.sessions links_new
  pub rest : new ≡ record old { sessions = new.sessions }

-- the connection is over: each session is
pub record Finishes (old : Talk) (links : Links) (new : Talk) (links_new : Links) : Type 0 where
  pub each : FinishesFirst (length old.sessions.places) old.sessions links new.sessions links_new
  pub rest : new ≡ record old { sessions = new.sessions }
