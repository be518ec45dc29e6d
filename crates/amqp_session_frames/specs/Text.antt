-- The bytes of a frame: part 2, 2.3.
use Rattle.std.specs.Prelude.{◌≡◌, ℕ, ◌+◌, ◌*◌, ◌<◌, ◌≤◌, ◌^◌, ◌≢◌, List, [], ◌∷◌, ◌++◌, length, slice_index, Option}
use Rattle.std.specs.Prelude.{Some, None, if◌then◌else◌, nat_lt}
use Rattle.std.specs.Int.{w16, w32, to_be_bytes}
use Rattle.serde_amqp_item.specs.Item.{Item}
use Rattle.serde_amqp_item.specs.Wire.{Wire, IsCapped, IsStrict}
use Rattle.serde_amqp_item.specs.Canon.{canon, AllWithin, RawKept, ◌>>=◌}
use Rattle.amqp_session_performatives.specs.Performative.{performative_item, performative_taken}
use Rattle.amqp_session_performatives.specs.declared.open.Open.{Open as Opening}
use Rattle.amqp_session_performatives.specs.declared.performative.Performative.{Performative}
use Rattle.amqp_session_performatives.specs.declared.performative.Performative.TheVariants as performing
use Rattle.amqp_session_frames.specs.Cutting.{IsPiece, ReadsAs, written, with_size}
use Rattle.amqp_session_frames.specs.declared.error.Error.{Error}
use Rattle.amqp_session_frames.specs.declared.error.Error.TheVariants.{DecodeError, NotImplemented, TooLarge, Memory}
use Rattle.amqp_session_frames.specs.declared.frame.Frame.{Frame}
use Rattle.amqp_session_frames.specs.declared.frame.FrameBody.{FrameBody}
use Rattle.amqp_session_frames.specs.declared.frame.FrameBody.TheVariants.{Empty, Open, Begin, Attach, Flow, Transfer}
use Rattle.amqp_session_frames.specs.declared.frame.FrameBody.TheVariants.{Disposition, Detach, End, Close}
pub use Rattle.amqp_session_frames.specs.Cutting.{said_size, IsPartial}

-- The layout: the size in bytes, the data offset in words of four, the type, the channel, the extended header, and the
-- frame body (2.3.1).
pub record Framed (bytes : List ℕ) (kind channel : ℕ) (extended content : List ℕ) : Type 0 where
  pub doff : ℕ
  pub whole : bytes ≡ to_be_bytes w32 (length bytes) ++ doff ∷ kind ∷ (to_be_bytes w16 channel ++ (extended ++ content))
  pub size : length bytes < 2 ^ 32
  pub offset : 8 + length extended ≡ 4 * doff
  pub channels : channel < 2 ^ 16

-- a front is a wire form of an item that is read as this performative, and the rest stands behind it
pub record Performs (content : List ℕ) (performative : Performative) (rest : List ℕ) : Type 0 where
  pub item : Item
  pub front : List ℕ
  pub whole : content ≡ front ++ rest
  pub form : Wire item None front
  pub value_is : performative_taken item ≡ Some (performative_item performative)

-- the performative of a body; an empty frame has none (2.3.2, 2.4.5)
abbrev pub performative_of : FrameBody → Option Performative
performative_of Empty = None
performative_of (Open o) = Some (performing.Open o)
performative_of (Begin b) = Some (performing.Begin b)
performative_of (Attach a) = Some (performing.Attach a)
performative_of (Flow f) = Some (performing.Flow f)
performative_of (Transfer t payload) = Some (performing.Transfer t)
performative_of (Disposition d) = Some (performing.Disposition d)
performative_of (Detach d) = Some (performing.Detach d)
performative_of (End e) = Some (performing.End e)
performative_of (Close c) = Some (performing.Close c)

-- the payload of a transfer stands behind its performative (2.3.2, 2.7.5); what stands behind another is left unread
abbrev pub IsBehind : FrameBody → List ℕ → Type 0
IsBehind (Transfer t payload) rest = rest ≡ payload
IsBehind body rest = Unit {0}

-- The performative, and what stands behind it. An empty frame has neither.
abbrev pub Says : List ℕ → FrameBody → Option Performative → Type 0
Says content body None = content ≡ []
Says content body (Some p) = (rest : List ℕ) × Performs content p rest × IsBehind body rest

abbrev pub BodyText : List ℕ → FrameBody → Type 0
BodyText content body = Says content body (performative_of body)

-- the bytes are the frame; AMQP's frames have the type 0 (2.3.2)
pub record FrameText (bytes : List ℕ) (frame : Frame) : Type 0 where
  pub extended : List ℕ
  pub content : List ℕ
  pub layout : Framed bytes 0 frame.channel extended content
  pub body : BodyText content frame.body

-- a frame that says nothing (2.4.5)
abbrev pub empty_on : ℕ → Frame
empty_on channel = record { channel = channel; body = Empty }

-- the bytes are no such frame, whatever channel
pub record IsNoEmpty (bytes : List ℕ) : Type 0 where
  pub none : (channel : ℕ) → FrameText bytes (empty_on channel) → ⊥

-- a frame that begins the connection (2.4.1)
abbrev pub open_on : ℕ → Opening → Frame
open_on channel o = record { channel = channel; body = Open o }

-- these frames one behind the other, and then a rest
abbrev pub Reads : List ℕ → List Frame → List ℕ → Type 0
Reads = ReadsAs FrameText

-- a whole piece stands in front that is no frame
pub record IsMalformed (bytes : List ℕ) : Type 0 where
  pub piece : List ℕ
  pub more : List ℕ
  pub whole : bytes ≡ piece ++ more
  pub sized : IsPiece piece
  pub none : (frame : Frame) → FrameText piece frame → ⊥

-- what a body's performative is written as
abbrev pub performative_text : Option Performative → Option (List ℕ)
performative_text None = Some []
performative_text (Some p) = canon (performative_item p)

abbrev pub payload_of : FrameBody → List ℕ
payload_of (Transfer t payload) = payload
payload_of body = []

-- what a frame's body is written as
abbrev pub body_text : FrameBody → Option (List ℕ)
body_text body = performative_text (performative_of body) >>= λ text. Some (text ++ payload_of body)

-- without its size: no extended header, the type 0, the channel, and the body
abbrev pub piece_text : Frame → Option (List ℕ)
piece_text f = body_text f.body >>= λ content. Some (2 ∷ 0 ∷ (to_be_bytes w16 f.channel ++ content))

-- with its size, where a size field can say it
abbrev pub sized_text : List ℕ → Option (List ℕ)
sized_text piece = if nat_lt (4 + length piece) (2 ^ 32) then Some (with_size piece) else None

-- what a frame is written as
abbrev pub frame_text : Frame → Option (List ℕ)
frame_text f = piece_text f >>= sized_text

abbrev pub texts : List Frame → Option (List ℕ)
texts = written frame_text

-- no list, array or map in it has more elements than may be read, and what it keeps as bytes are wire forms
abbrev pub PerformativeWithinCaps : Option Performative → Type 0
PerformativeWithinCaps None = Unit {0}
PerformativeWithinCaps (Some p) = AllWithin IsCapped (performative_item p) × RawKept IsStrict (performative_item p)

abbrev pub IsWithinCaps : FrameBody → Type 0
IsWithinCaps body = PerformativeWithinCaps (performative_of body)

abbrev pub AllWithinCaps : List Frame → Type 0
AllWithinCaps [] = Unit {0}
AllWithinCaps (f ∷ fs) = (f.channel < 2 ^ 16) × IsWithinCaps f.body × AllWithinCaps fs

-- it has no text, or one that is longer than this
abbrev pub IsOver : ℕ → Option (List ℕ) → Type 0
IsOver most None = Unit {0}
IsOver most (Some text) = most < length text

-- it has a text, of at most so many bytes
abbrev pub IsWithin : ℕ → Option (List ℕ) → Type 0
IsWithin most None = ⊥
IsWithin most (Some text) = length text ≤ most

-- there is a type field, and it is not that of AMQP's frames
abbrev pub IsOtherType : List ℕ → Type 0
IsOtherType bytes = (6 ≤ length bytes) × (slice_index bytes 5 ≢ 0)

-- why bytes are not read as a frame
abbrev pub NotRead : List ℕ → Error → Type 0
NotRead bytes NotImplemented = IsOtherType bytes
NotRead bytes DecodeError = (IsOtherType bytes → ⊥) × ((f : Frame) → FrameText bytes f → ⊥)
NotRead bytes Memory = Unit {0}
NotRead bytes TooLarge = ⊥
