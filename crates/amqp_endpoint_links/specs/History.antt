-- Histories of a session with its asked links, and what they say of the session itself.
use Rattle.std.specs.Prelude.{◌≡◌, ◌⊎◌, ℕ, List, [], ◌∷◌, ◌++◌, Bool, true, false, Option, Some, None, Result, Ok, ⊤}
use Rattle.std.specs.Prelude.{if◌then◌else◌}
use Rattle.std.specs.FinMap as map
use Rattle.amqp_session_types.specs.declared.handles.OutputHandle.{OutputHandle}
use Rattle.amqp_session_types.specs.declared.refusals.SessionError.{SessionError}
use Rattle.amqp_session_performatives.specs.declared.attach.Attach.{Attach as AttachFrame}
use Rattle.amqp_session_performatives.specs.declared.detach.Detach.{Detach as DetachFrame}
use Rattle.amqp_session_performatives.specs.declared.disposition.Disposition.{Disposition as DispositionFrame}
use Rattle.amqp_session_performatives.specs.declared.flow.Flow.{Flow as FlowFrame}
use Rattle.amqp_session_performatives.specs.declared.link_flow.LinkFlow.{LinkFlow}
use Rattle.amqp_session_performatives.specs.declared.session_frame.SessionFrame.{SessionFrame}
use Rattle.amqp_session_core.specs.declared.relay.RelayError.{RelayError}
use Rattle.amqp_session_core.specs.declared.relay.TransferAnswer.{TransferAnswer}
use Rattle.amqp_session_core.specs.Echoes.{Reach}
use Rattle.amqp_session_core.specs.Frames.{Left}
use Rattle.amqp_session_core.specs.History.{CallKeeps, frees}
use Rattle.amqp_session_core.specs.Relay.{Relations}
use Rattle.amqp_session_core.specs.Steps.{Act, Step, Reply, TakesAttach as SessionAttaches, TakesFlow as SessionFlows}
use Rattle.amqp_session_core.specs.Steps.{SetsWindow, TakesDetach as SessionDetaches, Allocates, TakesTransfer}
use Rattle.amqp_session_core.specs.Steps.{TakesDisposition}
use Rattle.amqp_endpoint_links.specs.AskedSession.{session_part}
use Rattle.amqp_endpoint_links.specs.declared.asking.AskingSession.{AskingSession}
use Rattle.amqp_endpoint_links.specs.declared.asking.NamedLink.{NamedLink}
use Rattle.amqp_endpoint_links.specs.declared.asking.NamedLink.TheVariants.{Waiting}
use Rattle.amqp_endpoint_links.specs.declared.asking.AttachTaken.{AttachTaken}
use Rattle.amqp_endpoint_links.specs.declared.asking.DetachTaken.{DetachTaken}
use Rattle.amqp_endpoint_links.specs.declared.hearing.LinkPerformative.{LinkPerformative}
use Rattle.amqp_endpoint_links.specs.declared.hearing.LinkPerformative.TheVariants.{Attach, Flow, Transfer, Disposition}
use Rattle.amqp_endpoint_links.specs.declared.hearing.LinkPerformative.TheVariants.{Detach}
use Rattle.amqp_endpoint_links.specs.Asking.{AttachAnswered, FlowAnswered, DetachAnswered}

-- a call, what it was given, and what it answered
pub data AskingAct (R A T D : Type 0) : Type 0 where
  -- the session itself does something, and the asked links stay
  InSession : (step : Act R A T D) → AskingAct R A T D
  TakesAttach : (attach : AttachFrame) (named : NamedLink) (result : Result (AttachTaken A) SessionError)
      → AskingAct R A T D
  -- a Flow is taken, with what was handed out before and what is behind it
  TakesFlow : (out : List SessionFrame) (flow : FlowFrame) (result : Result ⊤ SessionError)
      (out_new : List SessionFrame) → AskingAct R A T D
  TakesDetach : (detach : DetachFrame) (result : Result (DetachTaken D) SessionError) → AskingAct R A T D
  -- a link that answers an asked one, or another, gets an own handle, and is reached by this handle of the peer's
  AnswersLink : (handle : ℕ) (link : R) (input : ℕ) → AskingAct R A T D

module _ {R A T D : Type 0} (gives : Relations R A T D) where
  -- the states around a call
  abbrev pub AskingStep : AskingSession R → AskingAct R A T D → AskingSession R → Type 0
  AskingStep old (InSession step) new =
      Step gives old.session step new.session × (new ≡ record old { session = new.session })
  AskingStep old (TakesAttach attach named result) new = AttachAnswered gives old attach named result new
  AskingStep old (TakesFlow out flow result out_new) new = FlowAnswered gives old out flow result new out_new
  AskingStep old (TakesDetach detach result) new = DetachAnswered gives old detach result new
  AskingStep old (AnswersLink handle link input) new =
      Step gives old.session (Allocates handle link (Some input)) new.session
      × (new ≡ record old { session = new.session; asked = map.remove old.asked input })

  -- the states around a list of calls
  abbrev pub AskingHistory : AskingSession R → List (AskingAct R A T D) → AskingSession R → Type 0
  AskingHistory start [] end = end ≡ start
  AskingHistory start (step ∷ steps) end =
      (mid : AskingSession R) × AskingStep start step mid × AskingHistory mid steps end

module _ {R A T D : Type 0} where
  -- these steps of the session are one at most, and that one is such
  abbrev pub AtMostOne : (Act R A T D → Type 0) → List (Act R A T D) → Type 0
  AtMostOne is [] = Unit {0}
  AtMostOne is (step ∷ []) = is step
  AtMostOne is (step ∷ next ∷ steps) = ⊥

  -- the link that waits takes this Attach
  pub record IsAttach (attach : AttachFrame) (named : NamedLink) (step : Act R A T D) : Type 0 where
    pub handle : OutputHandle
    pub told : Result A RelayError
    pub waits : named ≡ Waiting handle
    pub is : step ≡ SessionAttaches handle.0 attach told

  -- this Flow is taken, with or without a link
  pub record IsTaken (flow : FlowFrame) (step : Act R A T D) : Type 0 where
    pub told : Option (ℕ × Result (Option LinkFlow) RelayError)
    pub reply : Reply
    pub base : ℕ
    pub left : Left
    pub frames : List SessionFrame
    pub is : step ≡ SessionFlows flow told reply base left frames

  -- the session takes this Flow, or what it tells of the session alone; or its window is set, where no link has the
  -- handle
  abbrev pub IsFlow : FlowFrame → Act R A T D → Type 0
  IsFlow flow step = IsTaken flow step ⊎ IsTaken (session_part flow) step ⊎ ((base : ℕ) × (step ≡ SetsWindow flow base))

  -- a link takes this Detach
  pub record IsDetach (detach : DetachFrame) (step : Act R A T D) : Type 0 where
    pub handle : ℕ
    pub told : Result D RelayError
    pub is : step ≡ SessionDetaches handle detach told

  -- what a call does in the session itself
  abbrev pub IsDoneBy : AskingAct R A T D → List (Act R A T D) → Type 0
  IsDoneBy (InSession step) done = done ≡ step ∷ []
  IsDoneBy (TakesAttach attach named result) done = AtMostOne (IsAttach attach named) done
  IsDoneBy (TakesFlow out flow result out_new) done = AtMostOne (IsFlow flow) done
  IsDoneBy (TakesDetach detach result) done = AtMostOne (IsDetach detach) done
  IsDoneBy (AnswersLink handle link input) done = done ≡ Allocates handle link (Some input) ∷ []

  -- what a list of calls does there, one after another
  abbrev pub AreDoneBy : List (AskingAct R A T D) → List (Act R A T D) → Type 0
  AreDoneBy [] done = done ≡ []
  AreDoneBy (step ∷ steps) done =
      (first : List (Act R A T D)) × (later : List (Act R A T D)) × IsDoneBy step first × AreDoneBy steps later
      × (done ≡ first ++ later)

  -- the own handle is taken back
  abbrev pub frees_handle : ℕ → AskingAct R A T D → Bool
  frees_handle link (InSession step) = frees link step
  frees_handle link step = false

  abbrev pub is_handle_freed : ℕ → List (AskingAct R A T D) → Bool
  is_handle_freed link [] = false
  is_handle_freed link (step ∷ steps) = if frees_handle link step then true else is_handle_freed link steps

  -- each change of a link by its owner keeps a relation
  abbrev pub StepKeeps : (R → R → Type 0) → AskingAct R A T D → Type 0
  StepKeeps keeps (InSession step) = CallKeeps keeps step
  StepKeeps keeps step = Unit {0}

  abbrev pub AllKeep : (R → R → Type 0) → List (AskingAct R A T D) → Type 0
  AllKeep keeps [] = Unit {0}
  AllKeep keeps (step ∷ steps) = StepKeeps keeps step × AllKeep keeps steps

  -- the handle of the peer's that leads to a link from then on
  abbrev pub routed_in : Act R A T D → Option ℕ
  routed_in (SessionAttaches handle attach (Ok told)) = Some (attach.handle).0
  routed_in (Allocates handle link (Some input)) = Some input
  routed_in step = None

  -- where the session itself does something, no handle of the peer's comes to lead to a link
  abbrev pub RoutesNone : AskingAct R A T D → Type 0
  RoutesNone (InSession step) = routed_in step ≡ None
  RoutesNone step = Unit {0}

  abbrev pub RouteNone : List (AskingAct R A T D) → Type 0
  RouteNone [] = Unit {0}
  RouteNone (step ∷ steps) = RoutesNone step × RouteNone steps

  -- a call takes what the peer says
  abbrev pub IsHearing : LinkPerformative → AskingAct R A T D → Type 0
  IsHearing (Attach attach named) step =
      (result : Result (AttachTaken A) SessionError) × (step ≡ TakesAttach attach named result)
  IsHearing (Flow flow) step =
      (out : List SessionFrame) × (result : Result ⊤ SessionError) × (out_new : List SessionFrame)
      × (step ≡ TakesFlow out flow result out_new)
  IsHearing (Transfer transfer payload) step =
      (handle : ℕ) × (told : Result (TransferAnswer T) RelayError) × (due : Option SessionFrame)
      × (step ≡ InSession (TakesTransfer handle transfer payload told due))
  IsHearing (Disposition disposition) step =
      (walk : List Reach) × (echoes : List DispositionFrame)
      × (step ≡ InSession (TakesDisposition disposition walk echoes))
  IsHearing (Detach detach) step =
      (result : Result (DetachTaken D) SessionError) × (step ≡ TakesDetach detach result)

  -- one at most does
  abbrev pub AreHearing : LinkPerformative → List (AskingAct R A T D) → Type 0
  AreHearing said [] = Unit {0}
  AreHearing said (step ∷ []) = IsHearing said step
  AreHearing said (step ∷ next ∷ steps) = ⊥
