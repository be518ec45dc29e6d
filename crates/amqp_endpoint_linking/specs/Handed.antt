-- What a call or a frame of the peer does hands out frames behind those that were to be sent, and tells events behind
-- those that were told.
use Rattle.std.specs.Prelude.{◌≡◌, List, ◌++◌}
use Rattle.amqp_session_performatives.specs.declared.session_frame.SessionFrame.{SessionFrame}
use Rattle.amqp_endpoint_model.specs.declared.event.Event.{Event}

-- these frames are handed out, of which this is so
pub record Hands (IsSo : List SessionFrame → Type 0) (out out_new : List SessionFrame) : Type 0 where
  pub frames : List SessionFrame
  pub is_so : IsSo frames
  pub queued : out_new ≡ out ++ frames

-- and these events are told
pub record Tells (IsSo : List SessionFrame → List Event → Type 0) (out : List SessionFrame) (told : List Event)
    (out_new : List SessionFrame) (told_new : List Event) : Type 0 where
  pub frames : List SessionFrame
  pub events : List Event
  pub is_so : IsSo frames events
  pub queued : out_new ≡ out ++ frames
  pub are_told : told_new ≡ told ++ events
