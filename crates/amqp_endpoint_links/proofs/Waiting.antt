-- What an Attach leaves as it was: what waits for the peer's window.
use Rattle.std.proofs.Common.{◌≡◌, ℕ, List, [], ◌∷◌, Result, Ok, Err, ap, subst, ◌∙◌}
use Rattle.amqp_session_types.specs.declared.refusals.SessionError.{SessionError}
use Rattle.amqp_session_performatives.specs.declared.attach.Attach.{Attach}
use Rattle.amqp_session_outgoing.specs.State as sending
use Rattle.amqp_session_core.specs.declared.batch.TransferFrame.{TransferFrame}
use Rattle.amqp_session_core.specs.declared.batch.BehindFrame.{BehindFrame}
use Rattle.amqp_session_core.specs.declared.relay.RelayError.{RelayError}
use Rattle.amqp_session_core.specs.History.{History}
use Rattle.amqp_session_core.specs.Relay.{Relations}
use Rattle.amqp_session_core.specs.State.{State}
use Rattle.amqp_session_core.specs.Steps.{Act, Step, TakesAttach}
use Rattle.amqp_endpoint_links.specs.declared.asking.AskingSession.{AskingSession}
use Rattle.amqp_endpoint_links.specs.declared.asking.NamedLink.{NamedLink}
use Rattle.amqp_endpoint_links.specs.declared.asking.AttachTaken.{AttachTaken}
use Rattle.amqp_endpoint_links.specs.Asking.{AttachAnswered, in_use}
use Rattle.amqp_endpoint_links.specs.Hearing.{KeepsWaiting}
use Rattle.amqp_endpoint_links.specs.History.{AtMostOne, IsAttach}
use Rattle.amqp_endpoint_links.proofs.Projecting.{attach-done}

abbrev Side : Type 0
Side = sending.State TransferFrame BehindFrame

module _ {R A T D : Type 0} (gives : Relations R A T D) where
  side-kept : (handle : ℕ) (attach : Attach) (told : Result A RelayError) (a b : State R)
      → Step gives a (TakesAttach handle attach told) b → b.outgoing ≡ a.outgoing
  side-kept handle attach (Ok told) a b does = ap (λ (s : State R). s.outgoing) does.2
  side-kept handle attach (Err e) a b does = ap (λ (s : State R). s.outgoing) does.2

  done-kept : (attach : Attach) (named : NamedLink) (old new : State R) (steps : List (Act R A T D))
      → AtMostOne (IsAttach attach named) steps → History gives old steps new → new.outgoing ≡ old.outgoing
  done-kept attach named old new [] are run = ap (λ (s : State R). s.outgoing) run
  done-kept attach named old new (step ∷ []) are (mid, does, same) =
      ap (λ (s : State R). s.outgoing) same
      ∙ side-kept (are.handle).0 attach are.told old mid
      (subst (λ (s : Act R A T D). Step gives old s mid) are.is does)
  done-kept attach named old new (step ∷ next ∷ steps) are run = absurd are

  pub attach-waits : (old : AskingSession R) (attach : Attach) (named : NamedLink)
      (result : Result (AttachTaken A) SessionError) (new : AskingSession R)
      → AttachAnswered gives old attach named result new → KeepsWaiting old new
  attach-waits old attach named result new t =
      let done = attach-done gives (in_use old (attach.handle).0) old attach named result new t in
      let kept = done-kept attach named old.session new.session done.steps done.are done.run in
      record { queues = ap (λ (o : Side). o.queues) kept; room = ap (λ (o : Side). o.room) kept }
