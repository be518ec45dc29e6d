-- The Dispositions that tell runs of deliveries.
use Rattle.std.proofs.Common.{◌≡◌, ℕ, ◌<◌, ◌^◌, Bool, true, false, List, [], ◌∷◌, All, refl, sym, ap, subst}
use Rattle.std.proofs.lemmas.List.Elements.{All-cons, All-map, All-nil}
use Rattle.std.specs.Prelude.{◌&&◌, Option}
use Rattle.amqp_session_types.specs.declared.modes.ReceiverSettleMode.{ReceiverSettleMode}
use Rattle.amqp_session_types.specs.declared.modes.Role.TheVariants.{Receiver}
use Rattle.amqp_session_states.specs.declared.delivery_state.DeliveryState.{DeliveryState}
use Rattle.amqp_session_performatives.specs.declared.disposition.Disposition.{Disposition}
use Rattle.amqp_session_core.specs.declared.fields.SessionFields.{SessionFields}
use Rattle.amqp_link_receiver.specs.DisposingAll.{Named, TellsRuns, run_disposition, runs_of}
use Rattle.amqp_endpoint_fitting.specs.Fits.{FrameFits}
use Rattle.amqp_endpoint_messages.specs.Longest.{all_fit, disposition_fits}
use Rattle.amqp_endpoint_messages.specs.Dispositions.{frames_of, said_by}
use Rattle.amqp_endpoint_messages.proofs.Longer.{telling}
use Rattle.amqp_endpoint_messages.proofs.Sizes.{to-frame, to-text}

-- a receiver's Disposition tells this state
abbrev pub Tells : DeliveryState → Disposition → Type 0
Tells state d = d ≡ telling d.first d.last d.settled state

-- where each fits, their frames do in a session, whatever its channel
pub told-fit : (limit : ℕ) (fields : SessionFields) (told : List Disposition) → limit < 2 ^ 32
    → all_fit limit told ≡ true → All (FrameFits limit) (frames_of fields told)
told-fit limit fields [] least fit = All-nil (FrameFits limit)
told-fit limit fields (d ∷ rest) least fit =
    by (disposition_fits limit d) refl fit (λ others. told-fit limit fields rest least others)
  where
    by : (b : Bool) → disposition_fits limit d ≡ b → (b && all_fit limit rest) ≡ true
        → (all_fit limit rest ≡ true → All (FrameFits limit) (frames_of fields rest))
        → All (FrameFits limit) (frames_of fields (d ∷ rest))
    by true one others so =
        All-cons (FrameFits limit) (said_by fields d) (frames_of fields rest)
        (to-frame limit (fields.channel).0 d least (to-text limit 0 d one)) (so others)
    by false one others so = absurd (let clash : false ≡ true = others in cc)

-- those of runs tell the state
pub runs-tell : (link : ReceiverSettleMode) (named : Named) (state : DeliveryState) (asked : Option Bool)
    (told : List Disposition) → TellsRuns link named state asked told → All (Tells state) told
runs-tell link named state asked told tells =
    subst (λ (l : List Disposition). All (Tells state) l) (sym tells.is)
    (All-map (Tells state) (run_disposition link state asked) (runs_of tells.ordered) (λ k r lt. refl))

pub are-receivers : (state : DeliveryState) (told : List Disposition) → All (Tells state) told
    → All (λ (d : Disposition). d.role ≡ Receiver) told
are-receivers state told tells = λ k d lt. ap (λ (x : Disposition). x.role) (tells k d lt)
