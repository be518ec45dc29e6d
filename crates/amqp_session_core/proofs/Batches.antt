-- Batches of transfers as their session accepts them.
use Rattle.std.proofs.Common.{◌≡◌, ℕ, IsSome, List, [], ◌∷◌, length, refl, ap, arith}
use Rattle.std.specs.Prelude.{slice_index_or}
use Rattle.std.proofs.lemmas.List.Elements.{All-head, All-tail}
use Rattle.amqp_session_outgoing.specs.Frames.{frames_count}
use Rattle.amqp_session_outgoing.proofs.Serving.{StandAlone}
use Rattle.amqp_session_outgoing.specs.History as sending_history
use Rattle.amqp_session_outgoing.specs.declared.error.TransferError.{TransferError}
use Rattle.amqp_session_outgoing.specs.declared.error.TransferError.TheVariants as refused
use Rattle.amqp_session_outgoing.specs.declared.frames.Outbound.{Outbound}
use Rattle.amqp_session_outgoing.specs.declared.frames.Part.{Part}
use Rattle.amqp_session_outgoing.specs.declared.frames.Part.TheVariants.{Untagged, Settled, Unsettled, Continuation}
use Rattle.amqp_session_core.specs.declared.batch.TransferFrame.{TransferFrame}
use Rattle.amqp_session_core.specs.declared.batch.BehindFrame.{BehindFrame}
use Rattle.amqp_session_core.specs.Batch.{Transfers, AreWhole, IsWhole}
use Rattle.amqp_session_core.specs.Refusals.{RefusesTransfers, refusal}
use Rattle.amqp_session_core.specs.State.{State, link_at}

-- nothing stands behind a transfer of a batch
alone : (part : Part) (u : Outbound TransferFrame BehindFrame) → IsWhole part u → u.behind ≡ []
alone Continuation u whole = ap (λ (x : Outbound TransferFrame BehindFrame). x.behind) whole
alone Untagged u whole = ap (λ (x : Outbound TransferFrame BehindFrame). x.behind) whole
alone Settled u whole = ap (λ (x : Outbound TransferFrame BehindFrame). x.behind) whole
alone (Unsettled tag) u whole = ap (λ (x : Outbound TransferFrame BehindFrame). x.behind) whole

pub whole-alone : (batch : Transfers) → AreWhole batch → StandAlone batch
whole-alone batch whole =
    λ k d lt. alone (slice_index_or batch k d).part (slice_index_or batch k d) (whole k d lt)

pub whole-count : (batch : Transfers) → AreWhole batch → frames_count batch ≡ length batch
whole-count [] whole = refl
whole-count (u ∷ us) whole =
    let none = ap (λ (fs : List BehindFrame). length fs) (alone u.part u (All-head (λ x. IsWhole x.part x) u us whole)) in
    omega (arith, none, whole-count us (All-tail (λ x. IsWhole x.part x) u us whole))

-- why a session refuses a batch
pub refuses : {R : Type 0} (s : State R) (handle : ℕ) (batch : Transfers) (error : TransferError) → IsSome (link_at s handle)
    → sending_history.RefusesBatch s.outgoing batch error → RefusesTransfers s handle batch (refusal error)
refuses s handle batch refused.IllegalState live why = (live, why)
refuses s handle batch refused.NumberInUse live why = (live, why)
refuses s handle batch refused.Memory live why = (live, why)
