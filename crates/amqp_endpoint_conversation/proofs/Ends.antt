-- The own Begins and Ends of sessions fit, whatever the peer's limit is.
use Rattle.std.proofs.Common.{◌≡◌, ◌≤◌, ℕ, true, [], Option, Some, None, refl, sym, subst}
use Rattle.std.specs.Prelude.{◌-◌, ◌^◌}
use Rattle.amqp_session_types.specs.declared.channels.OutgoingChannel.{OutgoingChannel}
use Rattle.amqp_session_types.specs.declared.error.Error.{Error}
use Rattle.amqp_session_types.specs.declared.refusals.SessionError.{SessionError}
use Rattle.amqp_session_types.specs.declared.refusals.SessionError.TheVariants.{HandleInUse, UnattachedHandle}
use Rattle.amqp_session_performatives.specs.declared.begin.Begin.{Begin as BeginPerformative}
use Rattle.amqp_session_performatives.specs.declared.session_frame.SessionFrame.{SessionFrame}
use Rattle.amqp_session_performatives.specs.declared.session_frame.SessionFrameBody.TheVariants as body
use Rattle.amqp_endpoint_links.specs.Beginning.{begin_frame}
use Rattle.amqp_endpoint_conversation.specs.Ending.{end_frame}
use Rattle.amqp_endpoint_conversation.specs.Faults.{fault_error}
use Rattle.amqp_endpoint_fitting.specs.Plain.{IsPlainBegin, IsPlainEnd, SaysConditionAlone}
use Rattle.amqp_endpoint_fitting.proofs.Frames.{begin_fits, end_fits, handle_in_use-short, larger_fits}
use Rattle.amqp_endpoint_fitting.proofs.Frames.{not_allowed-short, unattached_handle-short}
use Rattle.amqp_endpoint_model.specs.State.{fits, frame_of}
use Rattle.amqp_endpoint_fitting.specs.Read.{IsRead, IsReadBegin}

-- it fits each limit that a peer may set (part 2, 2.4.1)
abbrev pub FitsAbove : ℕ → SessionFrame → Type 0
FitsAbove limit frame = 512 ≤ limit → fits limit (frame_of frame) ≡ true

above : (limit : ℕ) (frame : SessionFrame) → fits 512 (frame_of frame) ≡ true → FitsAbove limit frame
above limit frame short least = larger_fits limit (frame_of frame) least short

-- an own End
pub end-above : (limit : ℕ) (channel : OutgoingChannel) (error : Option Error)
    → IsPlainEnd (record { error = error }) → FitsAbove limit (end_frame channel error)
end-above limit channel error plain =
    above limit (end_frame channel error) (end_fits channel.0 (record { error = error }) plain)

fault-alone : (fault : SessionError) → SaysConditionAlone (fault_error fault)
fault-alone UnattachedHandle = unattached_handle-short
fault-alone HandleInUse = handle_in_use-short
fault-alone fault = not_allowed-short

pub fault-above : (limit : ℕ) (channel : OutgoingChannel) (fault : SessionError)
    → FitsAbove limit (end_frame channel (Some (fault_error fault)))
fault-above limit channel fault =
    end-above limit channel (Some (fault_error fault)) (record { error = fault-alone fault })

-- an own Begin
abbrev begin_of : Option ℕ → ℕ → ℕ → BeginPerformative
begin_of remote first window =
    record {
      remote_channel = remote;
      next_outgoing_id = first;
      incoming_window = window;
      outgoing_window = 2048;
      handle_max = 2 ^ 32 - 1;
      offered_capabilities = [];
      desired_capabilities = [];
      properties = None;
    }

plain-begin : (begin : BeginPerformative) → begin.offered_capabilities ≡ [] → begin.desired_capabilities ≡ []
    → begin.properties ≡ None → IsReadBegin begin → IsPlainBegin begin
plain-begin begin offered desired none r =
    record {
      remote_channel = r.remote_channel;
      next_outgoing_id = r.next_outgoing_id;
      incoming_window = r.incoming_window;
      outgoing_window = r.outgoing_window;
      handle_max = r.handle_max;
      offered_capabilities = offered;
      desired_capabilities = desired;
      properties = none;
    }

begin-plain : (limit : ℕ) (channel : OutgoingChannel) (begin : BeginPerformative) (frame : SessionFrame)
    → begin.offered_capabilities ≡ [] → begin.desired_capabilities ≡ [] → begin.properties ≡ None
    → frame ≡ record { channel = channel.0; body = body.Begin begin } → IsRead frame → FitsAbove limit frame
begin-plain limit channel begin frame offered desired none is read =
    subst (FitsAbove limit) (sym is)
    (above limit (record { channel = channel.0; body = body.Begin begin })
    (begin_fits channel.0 begin (plain-begin begin offered desired none (subst IsRead is read))))

-- whose numbers are read
pub begin-above : (limit : ℕ) (channel : OutgoingChannel) (remote : Option ℕ) (first window : ℕ)
    (frame : SessionFrame) → frame ≡ begin_frame channel remote first window → IsRead frame → FitsAbove limit frame
begin-above limit channel remote first window frame is read =
    begin-plain limit channel (begin_of remote first window) frame refl refl refl is read
