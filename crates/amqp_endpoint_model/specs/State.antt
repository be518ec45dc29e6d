-- What an endpoint is to its callers.
use Rattle.std.specs.Prelude.{ℕ, Bool, true, false, List, [], ◌∷◌, length, Option, Some, None, nat_le}
use Rattle.amqp_session_types.specs.declared.error.Error.{Error}
use Rattle.amqp_session_frames.specs.declared.frame.Frame.{Frame}
use Rattle.amqp_session_frames.specs.declared.frame.FrameBody.{FrameBody}
use Rattle.amqp_session_frames.specs.declared.frame.FrameBody.TheVariants.{Empty, Open, Close}
use Rattle.amqp_session_performatives.specs.declared.session_frame.SessionFrame.{SessionFrame}
use Rattle.amqp_session_frames.specs.Text.{frame_text}
pub use Rattle.amqp_session_frames.specs.OfSession.{body_of, frame_of}
use Rattle.amqp_endpoint_model.specs.declared.settings.Settings.{Settings}
use Rattle.amqp_endpoint_model.specs.declared.phase.Phase.{Phase}
use Rattle.amqp_endpoint_model.specs.declared.phase.Phase.TheVariants.{Unconnected, Running, Over}

-- what waits to be pulled: the protocol header (part 2, 2.2), or a frame
pub data Waiting : Type 0 where
  the_header : Waiting
  the_frame : Frame → Waiting

-- an endpoint whose sessions are an S
pub record State (S : Type 0) : Type 0 where
  pub settings : Settings
  pub phase : Phase
  -- the max-frame-size of the peer's Open, since the latest connect
  pub peer_limit : Option ℕ
  -- whether the own Close was queued, and the peer's Close taken, since the latest connect
  pub own_close : Bool
  pub peer_close : Bool
  -- whether try_close has told of the peer's Close since then
  pub close_told : Bool
  -- the bytes fed that are no whole frame yet
  pub rest : List ℕ
  -- what pull will give, each as its text
  pub queue : List Waiting
  -- the sessions, on the connection that gives them channels
  pub sessions : S

-- a new endpoint, with these sessions
abbrev pub fresh : {S : Type 0} → Settings → S → State S
fresh s sessions =
    record {
      settings = s;
      phase = Unconnected;
      peer_limit = None;
      own_close = false;
      peer_close = false;
      close_told = false;
      rest = [];
      queue = [];
      sessions = sessions;
    }

abbrev pub is_unconnected : Phase → Bool
is_unconnected Unconnected = true
is_unconnected _ = false

abbrev pub is_running : Phase → Bool
is_running Running = true
is_running _ = false

-- whether the own Open was queued
abbrev pub has_opened : Phase → Bool
has_opened Running = true
has_opened Over = true
has_opened _ = false

-- AMQP, protocol id 0, version 1.0.0 (part 2, 2.2)
abbrev pub protocol_header : List ℕ
protocol_header = 0x41 ∷ 0x4d ∷ 0x51 ∷ 0x50 ∷ 0 ∷ 1 ∷ 0 ∷ 0 ∷ []

-- what a frame is written as, on channel 0; nothing where it has no text
abbrev pub text_or_nothing : Option (List ℕ) → List ℕ
text_or_nothing (Some text) = text
text_or_nothing None = []

unfoldable pub written : Frame → List ℕ
written f = text_or_nothing (frame_text f)

-- the bytes that pull gives of it: a frame's with its size in front (part 2, 2.3.1)
abbrev pub text_of : Waiting → List ℕ
text_of the_header = protocol_header
text_of (the_frame f) = written f

-- what a session handed out
abbrev pub waiting_of : SessionFrame → Waiting
waiting_of f = the_frame (frame_of f)

-- the own Open (part 2, 2.7.1)
abbrev pub own_open : Settings → Frame
own_open s =
    record {
      channel = 0;
      body =
          Open (record {
            container_id = s.container_id;
            hostname = None;
            max_frame_size = s.max_frame_size;
            channel_max = s.channel_max;
            idle_time_out = s.idle_time_out;
            outgoing_locales = [];
            incoming_locales = [];
            offered_capabilities = [];
            desired_capabilities = [];
            properties = None;
          });
    }

-- the frame that keeps a connection alive (part 2, 2.4.5)
abbrev pub heartbeat : Frame
heartbeat = record { channel = 0; body = Empty }

-- the own Close (part 2, 2.7.9)
abbrev pub own_close_with : Option Error → Frame
own_close_with error = record { channel = 0; body = Close (record { error = error }) }

-- an error that says its condition alone (part 2, 2.8.14)
abbrev pub error_of : List ℕ → Error
error_of condition = record { condition = condition; description = None; info = None }

-- a frame has a text, of at most so many bytes
abbrev pub text_fits : ℕ → Option (List ℕ) → Bool
text_fits limit (Some text) = nat_le (length text) limit
text_fits limit None = false

abbrev pub fits : ℕ → Frame → Bool
fits limit f = text_fits limit (frame_text f)

-- the limit of written frames: 512 until the peer's Open, then the peer's (part 2, 2.4.1, 2.7.1)
abbrev pub limit_of : Option ℕ → ℕ
limit_of None = 512
limit_of (Some n) = n
