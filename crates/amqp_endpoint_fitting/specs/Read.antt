-- Frames whose numbers lie in their fields' ranges, as those of every frame do that is read: part 2, 2.7.
use Rattle.std.specs.Prelude.{◌<◌, ◌^◌, IfSome}
use Rattle.amqp_session_performatives.specs.declared.begin.Begin.{Begin}
use Rattle.amqp_session_performatives.specs.declared.disposition.Disposition.{Disposition}
use Rattle.amqp_session_performatives.specs.declared.flow.Flow.{Flow}
use Rattle.amqp_session_performatives.specs.declared.session_frame.SessionFrame.{SessionFrame}
use Rattle.amqp_session_performatives.specs.declared.session_frame.SessionFrameBody.{SessionFrameBody}
use Rattle.amqp_session_performatives.specs.declared.session_frame.SessionFrameBody.TheVariants as body
use Rattle.amqp_endpoint_fitting.specs.Plain.{IsUint, MayBeUint}

-- the numbers of a Begin (2.7.2)
pub record IsReadBegin (begin : Begin) : Type 0 where
  pub remote_channel : IfSome begin.remote_channel (λ n. n < 2 ^ 16)
  pub next_outgoing_id : IsUint begin.next_outgoing_id
  pub incoming_window : IsUint begin.incoming_window
  pub outgoing_window : IsUint begin.outgoing_window
  pub handle_max : IsUint begin.handle_max

-- the numbers of a Flow (2.7.4)
pub record IsReadFlow (flow : Flow) : Type 0 where
  pub next_incoming_id : MayBeUint flow.next_incoming_id
  pub incoming_window : IsUint flow.incoming_window
  pub next_outgoing_id : IsUint flow.next_outgoing_id
  pub outgoing_window : IsUint flow.outgoing_window
  pub handle : IfSome flow.handle (λ h. IsUint h.0)
  pub delivery_count : MayBeUint flow.delivery_count
  pub link_credit : MayBeUint flow.link_credit
  pub available : MayBeUint flow.available

-- the numbers of a Disposition (2.7.6)
pub record IsReadDisposition (disposition : Disposition) : Type 0 where
  pub first : IsUint disposition.first
  pub last : MayBeUint disposition.last

-- the numbers that a frame of a session says: of a Transfer that of its delivery (2.7.5), of a Detach its handle
-- (2.7.7)
abbrev pub IsReadBody : SessionFrameBody → Type 0
IsReadBody (body.Begin begin) = IsReadBegin begin
IsReadBody (body.Attach attach) = Unit {0}
IsReadBody (body.Flow flow) = IsReadFlow flow
IsReadBody (body.Transfer transfer payload) = MayBeUint transfer.delivery_id
IsReadBody (body.Disposition disposition) = IsReadDisposition disposition
IsReadBody (body.Detach detach) = IsUint (detach.handle).0
IsReadBody (body.End end) = Unit {0}

abbrev pub IsRead : SessionFrame → Type 0
IsRead frame = IsReadBody frame.body
