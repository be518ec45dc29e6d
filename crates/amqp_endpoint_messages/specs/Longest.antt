-- Whether the peer takes a frame that tells a state: part 2, 2.4.1, 2.7.6.
use Rattle.std.specs.Prelude.{ℕ, ◌-◌, ◌^◌, ◌&&◌, Bool, true, false, List, [], ◌∷◌, Some}
use Rattle.amqp_session_types.specs.declared.modes.Role.TheVariants.{Receiver}
use Rattle.amqp_session_states.specs.declared.delivery_state.DeliveryState.{DeliveryState}
use Rattle.amqp_session_performatives.specs.declared.disposition.Disposition.{Disposition}
use Rattle.amqp_session_performatives.specs.declared.session_frame.SessionFrame.{SessionFrame}
use Rattle.amqp_session_performatives.specs.declared.session_frame.SessionFrameBody.TheVariants as body
use Rattle.amqp_endpoint_model.specs.State.{fits, frame_of}

-- the longest Disposition by which a receiver tells a state: its numbers are the largest (part 1, 1.6.5)
abbrev pub longest : DeliveryState → Disposition
longest state =
    record {
      role = Receiver;
      first = 2 ^ 32 - 1;
      last = Some (2 ^ 32 - 1);
      settled = true;
      state = Some state;
      batchable = false;
    }

-- a Disposition on a channel
abbrev pub disposition_frame : ℕ → Disposition → SessionFrame
disposition_frame channel d = record { channel = channel; body = body.Disposition d }

-- whichever deliveries a state is told of, the Disposition fits the limit
abbrev pub state_fits : ℕ → ℕ → DeliveryState → Bool
state_fits limit channel state = fits limit (frame_of (disposition_frame channel (longest state)))

-- the frame of a Disposition fits the limit, whatever its channel
abbrev pub disposition_fits : ℕ → Disposition → Bool
disposition_fits limit d = fits limit (frame_of (disposition_frame 0 d))

-- each of these does
abbrev pub all_fit : ℕ → List Disposition → Bool
all_fit limit [] = true
all_fit limit (d ∷ rest) = disposition_fits limit d && all_fit limit rest
