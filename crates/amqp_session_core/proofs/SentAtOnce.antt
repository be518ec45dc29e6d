-- A message that leaves as one transfer at once leaves as a batch of this one does.
use Rattle.std.proofs.Common.{◌≡◌, ℕ, Bool, true, false, List, [], ◌∷◌, ◌++◌, Option, Some, None, IsSome, refl}
use Rattle.std.proofs.Common.{sym, ap, subst, ◌∙◌}
use Rattle.amqp_session_types.specs.declared.handles.OutputHandle.{OutputHandle}
use Rattle.amqp_session_performatives.specs.declared.session_frame.SessionFrame.{SessionFrame}
use Rattle.amqp_session_performatives.specs.declared.session_frame.SessionFrameBody.{SessionFrameBody}
use Rattle.amqp_session_performatives.specs.declared.session_frame.SessionFrameBody.TheVariants as body
use Rattle.amqp_session_outgoing.specs.PassesAtOnce.{Passes, PassesAtOnce}
use Rattle.amqp_session_outgoing.specs.State.{sent_as}
use Rattle.amqp_session_core.specs.Batch.{first_of}
use Rattle.amqp_session_core.specs.Frames.{frame_of, frames_left}
use Rattle.amqp_session_core.specs.Relay.{Relations}
use Rattle.amqp_session_core.specs.SendsAtOnce.{SendsAtOnce, kept_tag, whole_transfer}
use Rattle.amqp_session_core.specs.State.{State, link_at}
use Rattle.amqp_session_core.specs.Told.{TransfersSent}

-- what its frame says
abbrev pub said : OutputHandle → List ℕ → ℕ → Bool → ℕ → List ℕ → SessionFrameBody
said handle tag format settled number payload =
    body.Transfer (record (whole_transfer handle tag format settled) { delivery_id = Some number }) payload

module _ {R A T D : Type 0} (gives : Relations R A T D) (s n : State R) (out out_new : List SessionFrame)
    (handle : OutputHandle) (tag : List ℕ) (format : ℕ) (payload : List ℕ) (number : ℕ) where
  abbrev pushed : Bool → ℕ → List SessionFrame
  pushed settled k = out ++ frame_of s.fields (said handle tag format settled k payload) ∷ []

  sent : (settled : Bool) → Passes s.outgoing handle (kept_tag settled tag) number n.outgoing
      → IsSome (link_at s handle.0) → out_new ≡ pushed settled number → n ≡ record s { outgoing = n.outgoing }
      → TransfersSent gives s out handle (first_of (whole_transfer handle tag format settled) payload ∷ []) n out_new
  sent true passes there told becomes =
      record {
        left = sent_as s.outgoing handle (first_of (whole_transfer handle tag format true) payload) ∷ [];
        frames = frames_left s.fields
            (sent_as s.outgoing handle (first_of (whole_transfer handle tag format true) payload) ∷ []);
        added = told ∙ ap (λ (k : ℕ). pushed true k) passes.next;
        stepped = (
          passes.stepped (record { performative = whole_transfer handle tag format true; payload = payload }),
          refl,
          becomes,
          there,
        );
      }
  sent false passes there told becomes =
      record {
        left = sent_as s.outgoing handle (first_of (whole_transfer handle tag format false) payload) ∷ [];
        frames = frames_left s.fields
            (sent_as s.outgoing handle (first_of (whole_transfer handle tag format false) payload) ∷ []);
        added = told ∙ ap (λ (k : ℕ). pushed false k) passes.next;
        stepped = (
          passes.stepped (record { performative = whole_transfer handle tag format false; payload = payload }),
          refl,
          becomes,
          there,
        );
      }

  pub sent_at_once : (settled : Bool) (kept : Option (List ℕ)) (frame : SessionFrame)
      → kept ≡ kept_tag settled tag → PassesAtOnce s.outgoing handle kept (Some number) n.outgoing
      → IsSome (link_at s handle.0)
      → frame ≡ frame_of s.fields (said handle tag format settled number payload) → out_new ≡ out ++ frame ∷ []
      → n ≡ record s { outgoing = n.outgoing }
      → SendsAtOnce gives s out handle (whole_transfer handle tag format settled) payload true n out_new
  sent_at_once settled kept frame is passes there says told becomes =
      sent settled
      (subst (λ (o : Option (List ℕ)). Passes s.outgoing handle o number n.outgoing) is passes) there
      (told ∙ ap (λ (f : SessionFrame). out ++ f ∷ []) says) becomes
