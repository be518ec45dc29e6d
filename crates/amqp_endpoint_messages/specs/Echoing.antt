-- What goes back to a receiver that settles once the sender did: part 2, 2.6.12, 2.7.6, 2.8.3.
use Rattle.std.specs.Prelude.{◌≡◌, ◌≤◌, ℕ, List, [], ◌∷◌, map, length, nat_le, All, Bool, true, false, Option, Some}
use Rattle.std.specs.Prelude.{None, if◌then◌else◌}
use Rattle.std.specs.Vec.{vec_capacity}
use Rattle.amqp_session_types.specs.declared.modes.Role.TheVariants.{Sender}
use Rattle.amqp_session_states.specs.declared.delivery_state.DeliveryState.{DeliveryState}
use Rattle.amqp_session_performatives.specs.declared.disposition.Disposition.{Disposition}
use Rattle.amqp_session_performatives.specs.declared.session_frame.SessionFrame.{SessionFrame}
use Rattle.amqp_endpoint_model.specs.State.{fits, frame_of}
use Rattle.amqp_endpoint_messages.specs.Longest.{disposition_frame, state_fits}
use Rattle.amqp_endpoint_messages.specs.Dispositions.{SendsEach, frames_of}
use Rattle.amqp_endpoint_attached.specs.Linked.{Linked, gives}
use Rattle.amqp_endpoint_messages.specs.declared.echoing.Echoes.{Echoes}

-- The sender settles a run of deliveries, of which its first and its last number are said, and tells this state of
-- them.
abbrev pub echo : Option DeliveryState → ℕ × ℕ → Disposition
echo state run =
    record {
      role = Sender;
      first = run.0;
      last = Some run.1;
      settled = true;
      state = state;
      batchable = false;
    }

-- One Disposition goes back for each of these runs, in their order.
abbrev pub echoes_of : Option DeliveryState → List (ℕ × ℕ) → List Disposition
echoes_of state runs = map (echo state) runs

-- Whether the peer takes the frame that settles a run so, whatever its channel (part 2, 2.4.1).
abbrev pub run_fits : ℕ → Option DeliveryState → ℕ × ℕ → Bool
run_fits limit state run = fits limit (frame_of (disposition_frame 0 (echo state run)))

-- Those of these runs, in their order, of which the peer takes that frame.
abbrev pub going : ℕ → Option DeliveryState → List (ℕ × ℕ) → List (ℕ × ℕ)
going limit state [] = []
going limit state (run ∷ runs) =
    if run_fits limit state run then run ∷ going limit state runs else going limit state runs

-- And those of which it doesn't.
abbrev pub barred : ℕ → Option DeliveryState → List (ℕ × ℕ) → List (ℕ × ℕ)
barred limit state [] = []
barred limit state (run ∷ runs) =
    if run_fits limit state run then barred limit state runs else run ∷ barred limit state runs

-- The peer takes the frame of each run: where it tells a state, the longest that tells it fits; else each limit that a
-- peer may set is enough (part 2, 2.4.1, 2.7.1).
abbrev pub each_fits : ℕ → Option DeliveryState → Bool
each_fits limit None = nat_le 512 limit
each_fits limit (Some state) = state_fits limit 0 state

-- There are copies of the state for so many runs, and room for those of which the peer doesn't take the frame, unless
-- it takes each.
pub record ServesFor (limit runs : ℕ) (echoes : Echoes) : Type 0 where
  pub each : All (λ s. s ≡ echoes.state) echoes.copies.items
  pub enough : runs ≤ length echoes.copies.items
  pub fit : echoes.fits ≡ true → each_fits limit echoes.state ≡ true
  pub none : echoes.barred.items ≡ []
  pub room : echoes.fits ≡ false → runs ≤ vec_capacity echoes.barred

-- A session settles these runs with this state, and hands out the Dispositions that tell it.
pub record SendsEchoes (state : Option DeliveryState) (runs : List (ℕ × ℕ)) (old : Linked) (frames : List SessionFrame)
    (new : Linked) : Type 0 where
  pub sends : SendsEach gives old.session (echoes_of state runs) new.session
  pub rest : new ≡ record old { session = new.session }
  pub frames_are : frames ≡ frames_of old.session.fields (echoes_of state runs)
