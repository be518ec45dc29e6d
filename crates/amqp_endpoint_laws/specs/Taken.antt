-- What comes in a session, and by which Attach of the peer's a link is attached (part 2, 2.6.2, 2.6.3).
use Rattle.std.specs.Prelude.{◌≡◌, ◌==◌, ℕ, false, true, List, [], ◌∷◌, ◌++◌, Option, Some, map as each}
use Rattle.std.specs.FinMap as map
use Rattle.amqp_session_types.specs.declared.handles.OutputHandle.{OutputHandle}
use Rattle.amqp_session_performatives.specs.declared.attach.Attach.{Attach}
use Rattle.amqp_session_frames.specs.declared.frame.FrameBody.{FrameBody}
use Rattle.amqp_session_frames.specs.declared.frame.FrameBody.TheVariants as body
use Rattle.amqp_link_base.specs.Readings.{nothing, readings}
use Rattle.amqp_endpoint_links.specs.Asked.{Asked}
use Rattle.amqp_endpoint.specs.declared.linked.LinkedSessions.{LinkedSessions}
use Rattle.amqp_endpoint_linking.specs.Linking.{Stood}
use Rattle.amqp_endpoint_tables.specs.State.{live_at}
use Rattle.amqp_endpoint_tables.specs.declared.place.Place.TheVariants as place
use Rattle.amqp_endpoint_laws.specs.Attachments.{attachment, is_named, uses}
use Rattle.amqp_endpoint_laws.specs.Handed.{Handed, NoneResumes, handed_as, leads_there, pieces_come}
use Rattle.amqp_endpoint_laws.specs.Queued.{Message}

-- none of these frames of the peer's attaches by this handle
abbrev pub IsOther : ℕ → FrameBody → Type 0
IsOther theirs (body.Attach attach) = (attach.handle.0 == theirs) ≡ false
IsOther theirs it = Unit {0}

abbrev pub NoneAttaches : ℕ → List FrameBody → Type 0
NoneAttaches theirs [] = Unit {0}
NoneAttaches theirs (it ∷ others) = IsOther theirs it × NoneAttaches theirs others

-- this Attach came by this handle; and behind it none came by the handle, and no transfer on it
pub record CameLast (theirs : ℕ) (attach : Attach) (came : List FrameBody) : Type 0 where
  pub earlier : List FrameBody
  pub later : List FrameBody
  pub are : came ≡ earlier ++ body.Attach attach ∷ later
  pub handled : attach.handle.0 ≡ theirs
  pub alone : NoneAttaches theirs later
  pub silent : pieces_come theirs later ≡ []

-- the links that the peer asks for in a session, by the handles that it gave them
abbrev pub asked_in : Option Stood → Asked
asked_in (Some (place.Asked channel wanted)) = wanted.value.links
asked_in (Some (place.Live channel session)) = session.value.asked
asked_in stood = map.empty

-- by one of the Attaches that came in a session a link with this name is attached there: the last with its handle, which
-- leads to the link; and what is handed out by the link is what the transfers of that attachment say, where none of
-- them says that it resumes a delivery
pub record HandsOut (s : LinkedSessions) (session : ℕ) (own : OutputHandle) (name : List ℕ) (came : List FrameBody)
    (handed : List Handed) : Type 0 where
  pub earlier : List FrameBody
  pub attach : Attach
  pub later : List FrameBody
  pub are : came ≡ earlier ++ body.Attach attach ∷ later
  pub named : is_named name attach ≡ true
  pub leads : leads_there (live_at s.talk.sessions session) attach.handle.0 own ≡ true
  pub alone : NoneAttaches attach.handle.0 later
  pub says :
      let read = attachment name (uses name earlier) came in
      NoneResumes read → handed ≡ each (handed_as own) (readings nothing read).messages

-- a message that is handed out, in the words of one that is accepted: what its sender said of it
abbrev pub message_handed : Handed → Message
message_handed it =
    record {
      tag = Some it.delivery.delivery_tag;
      format = it.delivery.message_format;
      settled = Some it.settled;
      payload = it.delivery.message.body.0;
    }
