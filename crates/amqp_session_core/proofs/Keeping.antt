-- What the owners of links keep, and what they send, in each link's own history.
use Rattle.std.proofs.Common.{◌≡◌, ℕ, List, [], ◌∷◌, ◌++◌, Bool, true, false, refl, sym, ◌∙◌, ap, if◌then◌else◌, ◌==◌}
use Rattle.std.proofs.lemmas.List.{append_assoc}
use Rattle.std.proofs.lemmas.Bool.{eq-eqb}
use Rattle.std.specs.Prelude.{Option, Some, None, Result}
use Rattle.amqp_session_types.specs.declared.handles.Handle.{Handle}
use Rattle.amqp_session_types.specs.declared.handles.OutputHandle.{OutputHandle}
use Rattle.amqp_session_performatives.specs.declared.disposition.Disposition.{Disposition}
use Rattle.amqp_session_performatives.specs.declared.flow.Flow.{Flow}
use Rattle.amqp_session_performatives.specs.declared.link_flow.LinkFlow.{LinkFlow}
use Rattle.amqp_session_performatives.specs.declared.session_frame.SessionFrame.{SessionFrame}
use Rattle.amqp_session_core.specs.declared.batch.BehindFrame.{BehindFrame}
use Rattle.amqp_session_core.specs.declared.relay.RelayError.{RelayError}
use Rattle.amqp_session_core.specs.Batch.{Transfers as Batch}
use Rattle.amqp_session_core.specs.Echoes.{Reach}
use Rattle.amqp_session_core.specs.Frames.{Left}
use Rattle.amqp_session_core.specs.Relay.{LinkAct, OwnerKeeps, SendsBatch, SendsFrame}
use Rattle.amqp_session_core.specs.Relay.{SendsDisposition as SendsItsDisposition, Changes as ChangesIt}
use Rattle.amqp_session_core.specs.Steps.{Act, Stays, SendsBegin, TakesBegin, SendsEnd, TakesEnd, TakesAttach}
use Rattle.amqp_session_core.specs.Steps.{TakesFlow, SetsWindow, TakesTransfer, TakesDisposition, TakesDetach}
use Rattle.amqp_session_core.specs.Steps.{SendsBehind, SendsTransfers, SendsDisposition, TellsFlow, Allocates}
use Rattle.amqp_session_core.specs.Steps.{Deallocates, Reserves, Changes}
use Rattle.amqp_session_core.specs.History.{at_link, flow_told, told_to, reached_by, own_in, own_of, CallKeeps, OwnersKeep}

module _ (R A T D : Type 0) (keeps : R → R → Type 0) where
  abbrev Keeps : List (LinkAct R A T D) → Type 0
  Keeps = OwnerKeeps keeps

  both : (steps more : List (LinkAct R A T D)) → Keeps steps → Keeps more → Keeps (steps ++ more)
  both [] more k then_k = then_k
  both (step ∷ steps) more k then_k = (k.0, both steps more k.1 then_k)

  if-any : (b : Bool) (steps : List (LinkAct R A T D)) → Keeps steps → Keeps (if b then steps else [])
  if-any true steps k = k
  if-any false steps k = tt

  flow-keeps : (link h : ℕ) (flow : Flow) (named : Option Handle) (told : Result (Option LinkFlow) RelayError)
      → Keeps (at_link link h (flow_told flow named told))
  flow-keeps link h flow None told = if-any (h == link) [] tt
  flow-keeps link h flow (Some handle) told = if-any (h == link) (flow_told flow (Some handle) told) (tt, tt)

  told-keeps : (link : ℕ) (flow : Flow) (told : Option (ℕ × Result (Option LinkFlow) RelayError))
      → Keeps (told_to link flow told)
  told-keeps link flow None = tt
  told-keeps link flow (Some told) = flow-keeps link told.0 flow flow.handle told.1

  reach-keeps : (live : Bool) (link h : ℕ) (step : LinkAct R A T D) → Keeps (step ∷ [])
      → Keeps (if live then at_link link h (step ∷ []) else [])
  reach-keeps true link h step k = if-any (h == link) (step ∷ []) k
  reach-keeps false link h step k = tt

  walk-keeps : (link : ℕ) (d : Disposition) (walk : List Reach) → Keeps (reached_by link d walk)
  walk-keeps link d [] = tt
  walk-keeps link d (r ∷ walk) = both _ (reached_by link d walk) (reach-keeps r.live link r.handle _ (tt, tt)) (walk-keeps link d walk)

  call-keeps : (link : ℕ) (step : Act R A T D) → CallKeeps keeps step → Keeps (own_in link step)
  call-keeps link Stays k = tt
  call-keeps link (SendsBegin frame) k = tt
  call-keeps link (TakesBegin channel begin base left frames) k = tt
  call-keeps link (SendsEnd error frame) k = tt
  call-keeps link TakesEnd k = tt
  call-keeps link (TakesAttach handle attach told) k = if-any (handle == link) _ (tt, tt)
  call-keeps link (TakesFlow flow told reply base left frames) k = told-keeps link flow told
  call-keeps link (SetsWindow flow base) k = tt
  call-keeps link (TakesTransfer handle transfer payload told flow) k = if-any (handle == link) _ (tt, tt)
  call-keeps link (TakesDisposition d walk echoes) k = walk-keeps link d walk
  call-keeps link (TakesDetach handle detach told) k = if-any (handle == link) _ (tt, tt)
  call-keeps link (SendsBehind handle frame left answer) k = if-any (handle.0 == link) _ (tt, tt)
  call-keeps link (SendsTransfers handle batch left frames) k = if-any (handle.0 == link) _ (tt, tt)
  call-keeps link (SendsDisposition d numbers) k = (tt, tt)
  call-keeps link (TellsFlow frame) k = tt
  call-keeps link (Allocates handle x input) k = tt
  call-keeps link (Deallocates handle) k = tt
  call-keeps link (Reserves count) k = tt
  call-keeps link (Changes handle before after) k = if-any (handle == link) _ (k, tt)

  -- so the changes of one link do
  pub owner-keeps : (link : ℕ) (steps : List (Act R A T D)) → OwnersKeep keeps steps → Keeps (own_of link steps)
  owner-keeps link [] k = tt
  owner-keeps link (step ∷ steps) k =
      both (own_in link step) (own_of link steps) (call-keeps link step k.0) (owner-keeps link steps k.1)

module _ {R A T D : Type 0} where
  own-append : (link : ℕ) (steps more : List (Act R A T D)) → own_of link (steps ++ more) ≡ own_of link steps
      ++ own_of link more
  own-append link [] more = refl
  own-append link (step ∷ steps) more =
      ap (λ (xs : List (LinkAct R A T D)). own_in link step ++ xs) (own-append link steps more)
      ∙ sym (append_assoc (own_in link step) (own_of link steps) (own_of link more))

  -- what a link's history has of a call with its handle
  here : (link : ℕ) (step : LinkAct R A T D) → at_link link link (step ∷ []) ≡ step ∷ []
  here link step = ap (λ (b : Bool). if b then step ∷ [] else []) (eq-eqb link link refl)

  -- one call's part of a link's history stands in its place
  pub placed : (link : ℕ) (call : Act R A T D) (step : LinkAct R A T D) (before later : List (Act R A T D))
      → own_in link call ≡ step ∷ [] → own_of link (before ++ call ∷ later) ≡ own_of link before ++ step ∷ own_of link later
  placed link call step before later is =
      own-append link before (call ∷ later)
      ∙ ap (λ (xs : List (LinkAct R A T D)). own_of link before ++ (xs ++ own_of link later)) is

  pub sent-in-place : (handle : OutputHandle) (batch : Batch) (left : Left) (frames : List SessionFrame)
      (before later : List (Act R A T D))
      → own_of handle.0 (before ++ SendsTransfers handle batch left frames ∷ later) ≡ own_of handle.0 before ++ SendsBatch batch ∷ own_of handle.0 later
  sent-in-place handle batch left frames before later =
      placed handle.0 (SendsTransfers handle batch left frames) (SendsBatch batch) before later (here handle.0 (SendsBatch batch))

  pub behind-in-place : (handle : OutputHandle) (frame : BehindFrame) (left : Option BehindFrame)
      (answer : Option SessionFrame) (before later : List (Act R A T D))
      → own_of handle.0 (before ++ SendsBehind handle frame left answer ∷ later) ≡ own_of handle.0 before ++ SendsFrame frame ∷ own_of handle.0 later
  behind-in-place handle frame left answer before later =
      placed handle.0 (SendsBehind handle frame left answer) (SendsFrame frame) before later (here handle.0 (SendsFrame frame))

  pub disposed-in-place : (link : ℕ) (d : Disposition) (numbers : List ℕ) (before later : List (Act R A T D))
      → own_of link (before ++ SendsDisposition d numbers ∷ later) ≡ own_of link before ++ SendsItsDisposition d ∷ own_of link later
  disposed-in-place link d numbers before later =
      placed link (SendsDisposition d numbers) (SendsItsDisposition d) before later refl

  pub changed-in-place : (link : ℕ) (old new : R) (before later : List (Act R A T D))
      → own_of link (before ++ Changes link old new ∷ later) ≡ own_of link before ++ ChangesIt old new ∷ own_of link later
  changed-in-place link old new before later =
      placed link (Changes link old new) (ChangesIt old new) before later (here link (ChangesIt old new))
