-- What passes in a session, and how each of its transfers is held to the peer's window (part 2, 2.5.6).
use Rattle.std.specs.Prelude.{◌≡◌, ℕ, ◌+◌, ◌%◌, ◌^◌, ◌<◌, List, [], ◌∷◌, Option, Some, None, map}
use Rattle.amqp_session_frames.specs.declared.frame.FrameBody.{FrameBody}
use Rattle.amqp_session_frames.specs.declared.frame.FrameBody.TheVariants as body
use Rattle.amqp_session_performatives.specs.declared.session_frame.SessionFrame.{SessionFrame}
use Rattle.amqp_session_performatives.specs.declared.session_frame.SessionFrameBody.{SessionFrameBody}
use Rattle.amqp_session_performatives.specs.declared.session_frame.SessionFrameBody.TheVariants.{Transfer}
use Rattle.amqp_session_outgoing.specs.Range.{ahead}
use Rattle.amqp_session_outgoing.specs.State as sending
use Rattle.amqp_session_core.specs.declared.batch.BehindFrame.{BehindFrame}
use Rattle.amqp_session_core.specs.declared.batch.TransferFrame.{TransferFrame}
use Rattle.amqp_endpoint_links.specs.declared.hearing.LinkPerformative.{LinkPerformative}
use Rattle.amqp_endpoint_links.specs.declared.hearing.LinkPerformative.TheVariants as said

-- what a peer says in a session, as the body of its frame
abbrev pub body_said : LinkPerformative → FrameBody
body_said (said.Attach attach named) = body.Attach attach
body_said (said.Flow flow) = body.Flow flow
body_said (said.Transfer transfer payload) = body.Transfer transfer payload
body_said (said.Disposition disposition) = body.Disposition disposition
body_said (said.Detach detach) = body.Detach detach

-- one of the frames that pass in a session
pub data Passing : Type 0 where
  -- the session takes this of its peer's
  Came : (body : FrameBody) → Passing
  -- this is handed out for it
  Went : (frame : SessionFrame) → Passing

-- the numbers of a session's first transfer and of its next, and the peer's window: the first number in it, and how
-- many (part 2, 2.5.6)
pub record Count : Type 0 where
  pub first : ℕ
  pub next : ℕ
  pub base : ℕ
  pub width : ℕ

-- before anything passes the window is shut
abbrev pub begins_with : ℕ → Count
begins_with first = record { first = first; next = first; base = first; width = 0 }

-- where a Flow has the window begin: at the session's first transfer, where the peer knew no number yet
abbrev pub base_by : ℕ → Option ℕ → ℕ
base_by first None = first
base_by first (Some next) = next

-- the peer's Begin opens the window for the next transfers, and each of its Flows tells it anew
abbrev pub told_by : FrameBody → Count → Count
told_by (body.Begin begin) c = record c { base = c.next; width = begin.incoming_window }
told_by (body.Flow flow) c = record c { base = base_by c.first flow.next_incoming_id; width = flow.incoming_window }
told_by body c = c

-- each transfer that goes takes the next number, on a circle of 2^32
abbrev pub sent_by : SessionFrameBody → Count → Count
sent_by (Transfer transfer payload) c = record c { next = (c.next + 1) % 2 ^ 32 }
sent_by body c = c

-- and this lies in the window
abbrev pub IsAllowed : Count → SessionFrameBody → Type 0
IsAllowed c (Transfer transfer payload) = ahead c.next c.base < c.width
IsAllowed c body = Unit {0}

-- so it is with each transfer among what passes
abbrev pub KeepsWindow : Count → List Passing → Type 0
KeepsWindow c [] = Unit {0}
KeepsWindow c (Came body ∷ passings) = KeepsWindow (told_by body c) passings
KeepsWindow c (Went frame ∷ passings) = IsAllowed c frame.body × KeepsWindow (sent_by frame.body c) passings

-- what is counted behind all that passes
abbrev pub count_behind : Count → List Passing → Count
count_behind c [] = c
count_behind c (Came body ∷ passings) = count_behind (told_by body c) passings
count_behind c (Went frame ∷ passings) = count_behind (sent_by frame.body c) passings

-- frames that are handed out, one behind the other
abbrev pub went : List SessionFrame → List Passing
went frames = map Went frames

-- as this passes, each transfer lies in the window, and so much is counted behind it
pub record Keeps (old : Count) (passings : List Passing) (new : Count) : Type 0 where
  pub each : KeepsWindow old passings
  pub counts : count_behind old passings ≡ new

-- what a session counts on its sending side
abbrev pub Sending : Type 0
Sending = sending.State TransferFrame BehindFrame

abbrev pub counted : Sending → Count
counted s =
    record {
      first = s.initial_outgoing_id;
      next = s.next_outgoing_id;
      base = s.window_base;
      width = s.window_width;
    }
