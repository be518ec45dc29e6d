-- What a session hears is one of its calls at most.
use Rattle.std.proofs.Common.{◌≡◌, ℕ, List, [], ◌∷◌, Bool, false, Option, Some, None, Result, Ok, Err, refl, sym, ap, subst}
use Rattle.amqp_session_types.specs.declared.refusals.SessionError.{SessionError}
use Rattle.amqp_session_types.specs.declared.refusals.SessionError.TheVariants.{UnattachedHandle, RemoteAttachingLinkNameNotFound, HandleInUse, IllegalState, ConnectionStopped, TransferFrameToSender, RemoteEnded, RemoteEndedWithError, NumberInUse, HandleMaxReached, Memory}
use Rattle.amqp_session_performatives.specs.declared.attach.Attach.{Attach as AttachFrame}
use Rattle.amqp_session_performatives.specs.declared.detach.Detach.{Detach as DetachFrame}
use Rattle.amqp_session_performatives.specs.declared.disposition.Disposition.{Disposition as DispositionFrame}
use Rattle.amqp_session_performatives.specs.declared.flow.Flow.{Flow as FlowFrame}
use Rattle.amqp_session_performatives.specs.declared.session_frame.SessionFrame.{SessionFrame}
use Rattle.amqp_session_performatives.specs.declared.transfer.Transfer.{Transfer as TransferFrame}
use Rattle.amqp_session_core.specs.declared.incoming.TransferTaken.{TransferTaken}
use Rattle.amqp_session_core.specs.Relay.{Relations}
use Rattle.amqp_session_core.specs.State.{State, reached}
use Rattle.amqp_session_core.specs.Steps.{Step, TakesTransfer, TakesDisposition}
use Rattle.amqp_session_core.specs.Told.{LinkRefuses, TransferAt}
use Rattle.amqp_endpoint_links.specs.declared.asking.AskingSession.{AskingSession}
use Rattle.amqp_endpoint_links.specs.declared.asking.NamedLink.{NamedLink}
use Rattle.amqp_endpoint_links.specs.declared.hearing.LinkPerformative.{LinkPerformative}
use Rattle.amqp_endpoint_links.specs.declared.hearing.LinkPerformative.TheVariants.{Attach, Flow, Transfer, Disposition, Detach}
use Rattle.amqp_endpoint_links.specs.declared.hearing.PerformativeTaken.{PerformativeTaken}
use Rattle.amqp_endpoint_links.specs.declared.hearing.PerformativeTaken.TheVariants as taken
use Rattle.amqp_endpoint_links.specs.Hearing.{Hears, HearsAttach, HearsDetach, HearsDisposition, HearsFlow, HearsTransfer}
use Rattle.amqp_endpoint_links.specs.History.{AskingAct, InSession, TakesAttach, TakesFlow, TakesDetach, AskingStep}
use Rattle.amqp_endpoint_links.specs.History.{AskingHistory, IsHearing, AreHearing, AllKeep, RouteNone, StepKeeps}
use Rattle.amqp_endpoint_links.specs.History.{RoutesNone, frees_handle, is_handle_freed}

module _ {R A T D : Type 0} (gives : Relations R A T D) where
  abbrev pub Heard : LinkPerformative → AskingSession R → AskingSession R → Type 0
  Heard said old new =
      (steps : List (AskingAct R A T D)) × AreHearing said steps × AskingHistory gives old steps new

  nothing : (said : LinkPerformative) (old new : AskingSession R) → new ≡ old → Heard said old new
  nothing said old new same = ([], tt, same)

  one : (said : LinkPerformative) (step : AskingAct R A T D) (old new : AskingSession R) → IsHearing said step
      → AskingStep gives old step new → Heard said old new
  one said step old new is does = (step ∷ [], is, (new, does, refl))

  attach-heard : (attach : AttachFrame) (named : NamedLink) (told : Result (PerformativeTaken A T D) SessionError)
      (old new : AskingSession R) → HearsAttach gives old attach named told new → Heard (Attach attach named) old new
  attach-heard attach named (Ok (taken.Attach t)) old new h =
      one (Attach attach named) (TakesAttach attach named (Ok t)) old new (Ok t, refl) h
  attach-heard attach named (Ok other) old new h = absurd h
  attach-heard attach named (Err e) old new h =
      one (Attach attach named) (TakesAttach attach named (Err e)) old new (Err e, refl) h

  flow-heard : (out : List SessionFrame) (flow : FlowFrame) (told : Result (PerformativeTaken A T D) SessionError)
      (old new : AskingSession R) (out_new : List SessionFrame) → HearsFlow gives old out flow told new out_new
      → Heard (Flow flow) old new
  flow-heard out flow (Ok taken.Flow) old new out_new h =
      one (Flow flow) (TakesFlow out flow (Ok tt) out_new) old new (out, Ok tt, out_new, refl) h
  flow-heard out flow (Ok other) old new out_new h = absurd h
  flow-heard out flow (Err e) old new out_new h =
      one (Flow flow) (TakesFlow out flow (Err e) out_new) old new (out, Err e, out_new, refl) h

  same-within : (old new : AskingSession R) (rest : new ≡ record old { session = new.session })
      → new.session ≡ old.session → new ≡ old
  same-within old new rest same =
      subst (λ (s : State R). new ≡ record old { session = s }) same rest

  refused-transfer : (handle : ℕ) (transfer : TransferFrame) (payload : List ℕ) (e : SessionError)
      (old new : AskingSession R)
      → new ≡ record old { session = new.session }
      → LinkRefuses gives (λ told. TakesTransfer handle transfer payload told None) old.session e new.session
      → Heard (Transfer transfer payload) old new
  refused-transfer handle transfer payload e old new rest r =
      one (Transfer transfer payload) (InSession (TakesTransfer handle transfer payload (Err r.reason) None)) old new
      (handle, Err r.reason, None, refl) (r.stepped, rest)

  transfer-at : (to : Option ℕ) (transfer : TransferFrame) (payload : List ℕ)
      (answer : Result (TransferTaken T) SessionError)
      (old new : AskingSession R) → new ≡ record old { session = new.session }
      → TransferAt gives old.session transfer payload to answer new.session → Heard (Transfer transfer payload) old new
  transfer-at None transfer payload (Ok told) old new rest h = absurd h
  transfer-at None transfer payload (Err e) old new rest h =
      nothing (Transfer transfer payload) old new (same-within old new rest h.1)
  transfer-at (Some to) transfer payload (Ok told) old new rest h =
      one (Transfer transfer payload) (InSession (TakesTransfer to transfer payload (Ok h.answer) told.flow)) old new
      (to, Ok h.answer, told.flow, refl) (h.stepped, rest)
  transfer-at (Some to) transfer payload (Err Memory) old new rest h =
      nothing (Transfer transfer payload) old new (same-within old new rest h)
  transfer-at (Some to) transfer payload (Err HandleInUse) old new rest h = refused-transfer to transfer payload
      HandleInUse old new rest h
  transfer-at (Some to) transfer payload (Err RemoteAttachingLinkNameNotFound) old new rest h = refused-transfer to
      transfer payload RemoteAttachingLinkNameNotFound old new rest h
  transfer-at (Some to) transfer payload (Err UnattachedHandle) old new rest h = refused-transfer to transfer payload
      UnattachedHandle old new rest h
  transfer-at (Some to) transfer payload (Err IllegalState) old new rest h = refused-transfer to transfer payload
      IllegalState old new rest h
  transfer-at (Some to) transfer payload (Err ConnectionStopped) old new rest h = refused-transfer to transfer payload
      ConnectionStopped old new rest h
  transfer-at (Some to) transfer payload (Err TransferFrameToSender) old new rest h = refused-transfer to transfer
      payload TransferFrameToSender old new rest h
  transfer-at (Some to) transfer payload (Err RemoteEnded) old new rest h = refused-transfer to transfer payload
      RemoteEnded old new rest h
  transfer-at (Some to) transfer payload (Err (RemoteEndedWithError error)) old new rest h = refused-transfer to
      transfer payload (RemoteEndedWithError error) old new rest h
  transfer-at (Some to) transfer payload (Err NumberInUse) old new rest h = refused-transfer to transfer payload
      NumberInUse old new rest h
  transfer-at (Some to) transfer payload (Err HandleMaxReached) old new rest h = refused-transfer to transfer payload
      HandleMaxReached old new rest h

  transfer-heard : (transfer : TransferFrame) (payload : List ℕ) (told : Result (PerformativeTaken A T D) SessionError)
      (old new : AskingSession R) → HearsTransfer gives old transfer payload told new
      → Heard (Transfer transfer payload) old new
  transfer-heard transfer payload (Ok (taken.Transfer t)) old new h =
      transfer-at (reached old.session (transfer.handle).0) transfer payload (Ok t) old new h.1 h.0
  transfer-heard transfer payload (Ok other) old new h = absurd h
  transfer-heard transfer payload (Err e) old new h =
      transfer-at (reached old.session (transfer.handle).0) transfer payload (Err e) old new h.1 h.0

  disposition-heard : (disposition : DispositionFrame) (told : Result (PerformativeTaken A T D) SessionError)
      (old new : AskingSession R) → HearsDisposition gives old disposition told new
      → Heard (Disposition disposition) old new
  disposition-heard disposition (Ok (taken.Disposition back runs)) old new h =
      one (Disposition disposition) (InSession (TakesDisposition disposition (h.1).walk _)) old new
      ((h.1).walk, _, refl) ((h.1).stepped, h.2)
  disposition-heard disposition (Ok other) old new h = absurd h
  disposition-heard disposition (Err e) old new h = nothing (Disposition disposition) old new h.1

  detach-heard : (detach : DetachFrame) (told : Result (PerformativeTaken A T D) SessionError)
      (old new : AskingSession R)
      → HearsDetach gives old detach told new → Heard (Detach detach) old new
  detach-heard detach (Ok (taken.Detach t)) old new h = one (Detach detach) (TakesDetach detach (Ok t)) old new
      (Ok t, refl) h
  detach-heard detach (Ok other) old new h = absurd h
  detach-heard detach (Err e) old new h = one (Detach detach) (TakesDetach detach (Err e)) old new (Err e, refl) h

  pub heard : (old new : AskingSession R) (out out_new : List SessionFrame) (said : LinkPerformative)
      (told : Result (PerformativeTaken A T D) SessionError) → Hears gives old out said told new out_new
      → Heard said old new
  heard old new out out_new (Attach attach named) told h = attach-heard attach named told old new h.0
  heard old new out out_new (Flow flow) told h = flow-heard out flow told old new out_new h
  heard old new out out_new (Transfer transfer payload) told h = transfer-heard transfer payload told old new h.0
  heard old new out out_new (Disposition disposition) told h = disposition-heard disposition told old new h.0
  heard old new out out_new (Detach detach) told h = detach-heard detach told old new h.0

module _ {R A T D : Type 0} (keeps : R → R → Type 0) where
  -- a call that frees no handle, isn't a link's owner's, and leads no handle of the peer's to a link by itself
  abbrev pub IsPlain : List (AskingAct R A T D) → Type 0
  IsPlain steps = ((link : ℕ) → is_handle_freed link steps ≡ false) × AllKeep keeps steps × RouteNone steps

  plain-one : (said : LinkPerformative) (step : AskingAct R A T D) → IsHearing said step → IsPlain (step ∷ [])
  plain-one (Attach attach named) step (result, is) =
      subst (λ (s : AskingAct R A T D). IsPlain (s ∷ [])) (sym is) (λ link. refl, (tt, tt), (tt, tt))
  plain-one (Flow flow) step (out, result, out_new, is) =
      subst (λ (s : AskingAct R A T D). IsPlain (s ∷ [])) (sym is) (λ link. refl, (tt, tt), (tt, tt))
  plain-one (Transfer transfer payload) step (handle, told, due, is) =
      subst (λ (s : AskingAct R A T D). IsPlain (s ∷ [])) (sym is) (λ link. refl, (tt, tt), (refl, tt))
  plain-one (Disposition disposition) step (walk, echoes, is) =
      subst (λ (s : AskingAct R A T D). IsPlain (s ∷ [])) (sym is) (λ link. refl, (tt, tt), (refl, tt))
  plain-one (Detach detach) step (result, is) =
      subst (λ (s : AskingAct R A T D). IsPlain (s ∷ [])) (sym is) (λ link. refl, (tt, tt), (tt, tt))

  pub plain : (said : LinkPerformative) (steps : List (AskingAct R A T D)) → AreHearing said steps → IsPlain steps
  plain said [] are = (λ link. refl, tt, tt)
  plain said (step ∷ []) are = plain-one said step are
  plain said (step ∷ next ∷ steps) are = absurd are
