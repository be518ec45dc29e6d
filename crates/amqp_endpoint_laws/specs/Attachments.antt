-- Attachments of links, read off the frames of their session (part 2, 2.6.2, 2.6.3).
use Rattle.std.specs.Prelude.{ℕ, suc, zero, Bool, true, false, List, [], ◌∷◌, ◌++◌, ◌==◌, ◌&&◌, if◌then◌else◌, map}
use Rattle.std.specs.Prelude.{Option, Some, None}
use Rattle.std.specs.Str.{bytes_eq}
use Rattle.amqp_session_types.specs.declared.modes.Role.{Role}
use Rattle.amqp_session_types.specs.declared.modes.Role.TheVariants as role
use Rattle.amqp_session_performatives.specs.declared.attach.Attach.{Attach}
use Rattle.amqp_session_performatives.specs.declared.session_frame.SessionFrame.{SessionFrame}
use Rattle.amqp_session_performatives.specs.declared.session_frame.SessionFrameBody.{SessionFrameBody}
use Rattle.amqp_session_performatives.specs.declared.session_frame.SessionFrameBody.TheVariants as session
use Rattle.amqp_session_frames.specs.declared.frame.FrameBody.{FrameBody}
use Rattle.amqp_session_frames.specs.declared.frame.FrameBody.TheVariants as body
use Rattle.amqp_link.specs.declared.end.End.{End}
use Rattle.amqp_link_base.specs.Readings.{Piece}
use Rattle.amqp_endpoint_laws.specs.Deeds.{Deed, Does, Takes}
use Rattle.amqp_endpoint_model.specs.State.{body_of}
use Rattle.amqp_endpoint_model.specs.declared.call.Call.{Call}
use Rattle.amqp_endpoint_model.specs.declared.call.Call.TheVariants.{AttachReceiver, AttachSender, Resume}
use Rattle.amqp_endpoint_link_calls.specs.Naming.{name_of}
use Rattle.amqp_endpoint_linking.specs.Linking.{Links}
use Rattle.amqp_endpoint_tables.specs.LinkState.{rest_at}
use Rattle.amqp_endpoint.specs.declared.linked.LinkedSessions.{LinkedSessions}
use Rattle.amqp_endpoint_laws.specs.Handed.{piece_on}

-- the Attach of a frame
abbrev pub attach_in : SessionFrameBody → List Attach
attach_in (session.Attach attach) = attach ∷ []
attach_in said = []

-- those among frames, in order
abbrev pub attaches_in : List SessionFrame → List Attach
attaches_in [] = []
attaches_in (frame ∷ frames) = attach_in frame.body ++ attaches_in frames

-- the names that they have
abbrev pub names_in : List SessionFrame → List (List ℕ)
names_in frames = map (λ (attach : Attach). attach.name) (attaches_in frames)

-- the frames of sessions that are handed out in a deed
abbrev pub gone_in : Deed → List SessionFrame
gone_in (Takes limit frame frames events) = frames
gone_in (Does limit call answer frames) = frames
gone_in deed = []

-- the name of a link, if there is one
abbrev pub named_if : Option End → List (List ℕ)
named_if None = []
named_if (Some link) = name_of link ∷ []

-- the name of the link that a call has attach, of a new one or of one that is at rest among these
abbrev pub named_by : Links → Call → List (List ℕ)
named_by links (AttachSender session its) = its.name ∷ []
named_by links (AttachReceiver session its) = its.name ∷ []
named_by links (Resume link session) = named_if (rest_at links link)
named_by links call = []

-- that of the one that is called to attach in a deed
abbrev pub attached_in : LinkedSessions → Deed → List (List ℕ)
attached_in s (Does limit call answer frames) = named_by s.links call
attached_in s deed = []

-- the Attach of a sending end with this name: a receiving end may have the name of a sending one (part 2, 2.6.1)
abbrev pub is_sending : Role → Bool
is_sending role.Sender = true
is_sending role.Receiver = false

abbrev pub is_named : List ℕ → Attach → Bool
is_named name attach = bytes_eq attach.name name && is_sending attach.role

-- how many of the Attaches are such
abbrev pub named : List ℕ → List Attach → ℕ
named name [] = 0
named name (attach ∷ attaches) = if is_named name attach then suc (named name attaches) else named name attaches

-- what frames say that a session hands out, as they come to its peer
abbrev pub bodies_of : List SessionFrame → List FrameBody
bodies_of frames = map (λ (f : SessionFrame). body_of f.body) frames

-- the Attaches among frames that come
abbrev pub attach_of : FrameBody → List Attach
attach_of (body.Attach attach) = attach ∷ []
attach_of it = []

abbrev pub attaches_of : List FrameBody → List Attach
attaches_of [] = []
attaches_of (it ∷ others) = attach_of it ++ attaches_of others

-- how many of them are of a sending end with this name
abbrev pub uses : List ℕ → List FrameBody → ℕ
uses name came = named name (attaches_of came)

-- where one stands who reads of one attachment of a sending end: so many others with its name come before it, it goes by
-- this handle, or its handle is another's
pub data Stand : Type 0 where
  Waits : (others : ℕ) → Stand
  Follows : (handle : ℕ) → Stand
  Past : Stand

-- behind an Attach with its name
abbrev pub named_behind : ℕ → ℕ → Stand
named_behind zero handle = Follows handle
named_behind (suc others) handle = Waits others

-- behind any Attach: a handle is of the link that attached by it last
abbrev pub attached_behind : List ℕ → Stand → Attach → Stand
attached_behind name (Waits others) attach =
    if is_named name attach then named_behind others attach.handle.0 else Waits others
attached_behind name (Follows handle) attach = if attach.handle.0 == handle then Past else Follows handle
attached_behind name Past attach = Past

abbrev pub stand_behind : List ℕ → Stand → FrameBody → Stand
stand_behind name stand (body.Attach attach) = attached_behind name stand attach
stand_behind name stand it = stand

-- a transfer of it
abbrev pub piece_at : Stand → FrameBody → List Piece
piece_at (Follows handle) it = piece_on handle it
piece_at stand it = []

abbrev pub pieces_from : List ℕ → Stand → List FrameBody → List Piece
pieces_from name stand [] = []
pieces_from name stand (it ∷ others) = piece_at stand it ++ pieces_from name (stand_behind name stand it) others

-- the transfers of the attachment of a sending end with this name before which so many others with it come: those with
-- the handle of its Attach, from there up to the next Attach with that handle. The frames are those of a session, as they
-- come to the peer of the end that hands them out
abbrev pub attachment : List ℕ → ℕ → List FrameBody → List Piece
attachment name others came = pieces_from name (Waits others) came
