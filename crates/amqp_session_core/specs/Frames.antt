-- The frames that a session hands out.
use Rattle.std.specs.Prelude.{ℕ, ◌+◌, ◌%◌, ◌^◌, List, [], ◌∷◌, ◌++◌, Bool, true, false, Some, None, if◌then◌else◌}
use Rattle.amqp_session_performatives.specs.declared.link_flow.LinkFlow.{LinkFlow}
use Rattle.amqp_session_performatives.specs.declared.session_frame.SessionFrame.{SessionFrame}
use Rattle.amqp_session_performatives.specs.declared.session_frame.SessionFrameBody.{SessionFrameBody}
use Rattle.amqp_session_performatives.specs.declared.session_frame.SessionFrameBody.TheVariants as body
use Rattle.amqp_session_outgoing.specs.declared.frames.Sent.{Sent}
use Rattle.amqp_session_core.specs.declared.fields.SessionFields.{SessionFields}
use Rattle.amqp_session_core.specs.declared.batch.TransferFrame.{TransferFrame}
use Rattle.amqp_session_core.specs.declared.batch.BehindFrame.{BehindFrame}
use Rattle.amqp_session_core.specs.declared.batch.BehindFrame.TheVariants as behind

-- the transfers that left, and the frames behind them
abbrev pub Left : Type 0
Left = List (Sent TransferFrame BehindFrame)

abbrev pub frame_of : SessionFields → SessionFrameBody → SessionFrame
frame_of f said = record { channel = (f.channel).0; body = said }

-- a Flow that tells the session's state, where this is the number of its next transfer (part 2, 2.7.4)
abbrev pub session_flow : SessionFields → ℕ → SessionFrame
session_flow f number =
    frame_of f (body.Flow (record {
      next_incoming_id = f.next_incoming_id;
      incoming_window = f.incoming_window;
      next_outgoing_id = number;
      outgoing_window = 2048;
      handle = None;
      delivery_count = None;
      link_credit = None;
      available = None;
      drain = false;
      echo = false;
      properties = None;
    }))

-- a Flow that tells the session's state and a link's
abbrev pub link_flow : SessionFields → ℕ → LinkFlow → SessionFrame
link_flow f number link =
    frame_of f (body.Flow (record {
      next_incoming_id = f.next_incoming_id;
      incoming_window = f.incoming_window;
      next_outgoing_id = number;
      outgoing_window = 2048;
      handle = Some link.handle;
      delivery_count = link.delivery_count;
      link_credit = link.link_credit;
      available = link.available;
      drain = link.drain;
      echo = link.echo;
      properties = link.properties;
    }))

-- a frame that stood behind transfers, as it leaves
abbrev pub behind_frame : SessionFields → ℕ → BehindFrame → SessionFrame
behind_frame f number (behind.Flow link) = link_flow f number link
behind_frame f number (behind.Detach detach) = frame_of f (body.Detach detach)

-- a transfer as it leaves: with its link's handle, and the number of the delivery that it begins (part 2, 2.7.5)
abbrev pub transfer_frame : SessionFields → Sent TransferFrame BehindFrame → SessionFrame
transfer_frame f s =
    frame_of f
    (body.Transfer (record (s.transfer).performative {
      handle = record { 0 = (s.handle).0 };
      delivery_id = s.delivery;
    }) (s.transfer).payload)

abbrev pub frames_behind : SessionFields → ℕ → List BehindFrame → List SessionFrame
frames_behind f number [] = []
frames_behind f number (b ∷ bs) = behind_frame f number b ∷ frames_behind f number bs

-- a transfer and what stood behind it. The Flows tell the number after the transfer's
abbrev pub frames_sent : SessionFields → Sent TransferFrame BehindFrame → List SessionFrame
frames_sent f s = transfer_frame f s ∷ frames_behind f ((s.number + 1) % 2 ^ 32) s.behind

abbrev pub frames_left : SessionFields → Left → List SessionFrame
frames_left f [] = []
frames_left f (s ∷ left) = frames_sent f s ++ frames_left f left

abbrev pub says_flow : SessionFrameBody → Bool
says_flow (body.Flow flow) = true
says_flow said = false

-- a Flow is among these
abbrev pub has_flow : List SessionFrame → Bool
has_flow [] = false
has_flow (frame ∷ frames) = if says_flow frame.body then true else has_flow frames
