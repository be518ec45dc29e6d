-- What a session hands out, as a frame: part 2, 2.3.2.
use Rattle.amqp_session_frames.specs.declared.frame.Frame.{Frame}
use Rattle.amqp_session_frames.specs.declared.frame.FrameBody.{FrameBody}
use Rattle.amqp_session_frames.specs.declared.frame.FrameBody.TheVariants.{Begin, Attach, Flow, Transfer, Disposition}
use Rattle.amqp_session_frames.specs.declared.frame.FrameBody.TheVariants.{Detach, End}
use Rattle.amqp_session_performatives.specs.declared.session_frame.SessionFrame.{SessionFrame}
use Rattle.amqp_session_performatives.specs.declared.session_frame.SessionFrameBody.{SessionFrameBody}
use Rattle.amqp_session_performatives.specs.declared.session_frame.SessionFrameBody.TheVariants as session

abbrev pub body_of : SessionFrameBody → FrameBody
body_of (session.Begin begin) = Begin begin
body_of (session.Attach attach) = Attach attach
body_of (session.Flow flow) = Flow flow
body_of (session.Transfer transfer payload) = Transfer transfer payload
body_of (session.Disposition disposition) = Disposition disposition
body_of (session.Detach detach) = Detach detach
body_of (session.End end) = End end

abbrev pub frame_of : SessionFrame → Frame
frame_of f = record { channel = f.channel; body = body_of f.body }
