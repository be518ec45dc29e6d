-- How a transfer is answered.
use Rattle.std.proofs.Common.{◌≡◌, ℕ, Bool, true, false, List, Option, Some, None, Result, Ok, Err, IsSome, is_some, refl, sym, ◌∙◌, ap, subst, slice_index_or, if◌then◌else◌}
use Rattle.std.specs.FinMap as map
use Rattle.amqp_session_types.specs.declared.handles.OutputHandle.{OutputHandle}
use Rattle.amqp_session_types.specs.declared.refusals.SessionError.{SessionError}
use Rattle.amqp_session_types.specs.declared.refusals.SessionError.TheVariants as session
use Rattle.amqp_session_performatives.specs.declared.transfer.Transfer.{Transfer}
use Rattle.amqp_session_performatives.specs.declared.session_frame.SessionFrame.{SessionFrame}
use Rattle.amqp_session_core.specs.declared.relay.RelayError.{RelayError}
use Rattle.amqp_session_core.specs.declared.relay.RelayError.TheVariants as relay
use Rattle.amqp_session_core.specs.declared.relay.TransferAnswer.{TransferAnswer}
use Rattle.amqp_session_core.specs.Incoming.{AnswersAt, LinkAnswers, TransferAt}
use Rattle.amqp_session_core.specs.Relay.{Relations}
use Rattle.amqp_session_core.specs.State.{State, StepsAt, live_in}
use Rattle.amqp_session_core.specs.Steps.{Counts, registers}
use Rattle.amqp_session_core.specs.Told as told

pub unreached : {R T : Type 0} (gives : R → Transfer → List ℕ → Result (TransferAnswer T) RelayError → R → Type 0) (old : List (Option R)) (place : Result OutputHandle SessionError) (handle : OutputHandle) (transfer : Transfer) (payload : List ℕ)
    → place ≡ Ok handle → slice_index_or old handle.0 None ≡ None → TransferAt gives old place transfer payload (Err session.UnattachedHandle) old
unreached gives old place handle transfer payload is none =
    subst (λ p. TransferAt gives old p transfer payload (Err session.UnattachedHandle) old) (sym is)
    (relay.UnattachedHandle, refl, subst (λ o. AnswersAt (λ before said after. gives before transfer payload said after) o handle.0 old (Err relay.UnattachedHandle) old) (sym none) (refl, refl))

-- a link that is reached is there
there-at : {R : Type 0} (links : List (Option R)) (found : Option ℕ) (handle : ℕ) → live_in links found ≡ Some handle → IsSome (slice_index_or links handle None)
there-at links None handle is = absurd cc
there-at links (Some to) handle is = by (is_some (slice_index_or links to None)) refl is
  where
    by : (b : Bool) → is_some (slice_index_or links to None) ≡ b → (if b then Some to else None) ≡ Some handle → IsSome (slice_index_or links handle None)
    by true e same = ap (λ k. is_some (slice_index_or links k None)) (let x : to ≡ handle = cc in sym x) ∙ e
    by false e same = absurd cc

module _ {R T : Type 0} (gives : R → Transfer → List ℕ → Result (TransferAnswer T) RelayError → R → Type 0) (transfer : Transfer) (payload : List ℕ) (old new : List (Option R)) (handle : OutputHandle) (answer : TransferAnswer T) where
  -- the link answered, so it was reached
  pub reached-at : (place : Result OutputHandle SessionError) → TransferAt gives old place transfer payload (Ok (handle, answer)) new
      → (place ≡ Ok handle) × LinkAnswers (λ before said after. gives before transfer payload said after) handle.0 old (Ok answer) new
  reached-at (Err e) at = absurd (let x = at.0 in cc)
  reached-at (Ok h) at = (ap (λ x. Ok x) (sym at.0), subst (λ x. LinkAnswers (λ before said after. gives before transfer payload said after) x.0 old (Ok answer) new) (sym at.0) at.1)

  answered-at : (o : Option R) → IsSome o → AnswersAt (λ before said after. gives before transfer payload said after) o handle.0 old (Ok answer) new
      → StepsAt (λ before after. gives before transfer payload (Ok answer) after) old handle.0 new
  answered-at None there answers = absurd cc
  answered-at (Some link) there answers = answers

module _ {R A T D : Type 0} (gives : Relations R A T D) where
  pub transfer-taken : (s n : State R) (transfer : Transfer) (payload : List ℕ) (place : Result OutputHandle SessionError) (handle : OutputHandle) (answer : TransferAnswer T) (flow : Option SessionFrame)
      → TransferAt gives.transfers s.links place transfer payload (Ok (handle, answer)) n.links
      → (place ≡ Ok handle → live_in s.links (map.get s.routes (transfer.handle).0) ≡ Some handle.0)
      → Counts s flow n.fields n.taken
      → n ≡ record s { fields = n.fields; taken = n.taken; links = n.links; received = registers s.received handle.0 answer.registration }
      → told.TransferAnswered gives s transfer payload (Ok (record { told = answer.told; flow = flow })) n
  transfer-taken s n transfer payload place handle answer flow at reaches counts becomes =
      let went = reached-at gives.transfers transfer payload s.links n.links handle answer place at in
      let found : live_in s.links (map.get s.routes (transfer.handle).0) ≡ Some handle.0 = reaches went.0 in
      let there : IsSome (slice_index_or s.links handle.0 None) = there-at s.links (map.get s.routes (transfer.handle).0) handle.0 found in
      subst (λ o. told.TransferAt gives s transfer payload o (Ok (record { told = answer.told; flow = flow })) n) (sym found)
      (record {
        answer = answer;
        told = refl;
        stepped = (found, answered-at gives.transfers transfer payload s.links n.links handle answer (slice_index_or s.links handle.0 None) there went.1, counts, becomes);
      })
