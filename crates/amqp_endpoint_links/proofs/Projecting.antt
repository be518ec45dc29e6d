-- The session's own history inside that of the session with its asked links.
use Rattle.std.proofs.Common.{◌≡◌, inl, inr, ℕ, List, [], ◌∷◌, ◌++◌, Bool, true, false, Option, Some, None, Result, Ok, Err, refl, ap, subst}
use Rattle.std.specs.Prelude.{⊤, is_some}
use Rattle.std.specs.FinMap as map
use Rattle.amqp_session_types.specs.declared.handles.OutputHandle.{OutputHandle}
use Rattle.amqp_session_types.specs.declared.refusals.SessionError.{SessionError}
use Rattle.amqp_session_types.specs.declared.refusals.SessionError.TheVariants.{UnattachedHandle, RemoteAttachingLinkNameNotFound, HandleInUse, IllegalState, ConnectionStopped, TransferFrameToSender, RemoteEnded, RemoteEndedWithError, NumberInUse, HandleMaxReached, Memory}
use Rattle.amqp_session_performatives.specs.declared.attach.Attach.{Attach}
use Rattle.amqp_session_performatives.specs.declared.detach.Detach.{Detach}
use Rattle.amqp_session_performatives.specs.declared.flow.Flow.{Flow}
use Rattle.amqp_session_performatives.specs.declared.session_frame.SessionFrame.{SessionFrame}
use Rattle.amqp_session_core.specs.History.{History}
use Rattle.amqp_session_core.specs.Relay.{Relations}
use Rattle.amqp_session_core.specs.State.{State, leads, reached}
use Rattle.amqp_session_core.specs.Steps.{Act, Step, TakesAttach as SessionAttaches, TakesFlow as SessionFlows}
use Rattle.amqp_session_core.specs.Steps.{SetsWindow, TakesDetach as SessionDetaches, Allocates}
use Rattle.amqp_session_core.specs.Told.{AttachTaken as SessionAttached, DetachAt as SessionDetachAt, FlowTaken, LinkRefuses}
use Rattle.amqp_endpoint_links.specs.Asked.{is_asked}
use Rattle.amqp_endpoint_links.specs.AskedSession.{session_part}
use Rattle.amqp_endpoint_links.specs.declared.asking.AskingSession.{AskingSession}
use Rattle.amqp_endpoint_links.specs.declared.asking.NamedLink.{NamedLink}
use Rattle.amqp_endpoint_links.specs.declared.asking.NamedLink.TheVariants.{Absent, Waiting, Attached}
use Rattle.amqp_endpoint_links.specs.declared.asking.AttachTaken.{AttachTaken}
use Rattle.amqp_endpoint_links.specs.declared.asking.DetachTaken.{DetachTaken}
use Rattle.amqp_endpoint_links.specs.Asking.{in_use, AttachAt, FlowAt, FlowInSession, DetachAt}
use Rattle.amqp_endpoint_links.specs.History.{AskingAct, InSession, TakesAttach, TakesFlow, TakesDetach, AnswersLink}
use Rattle.amqp_endpoint_links.specs.History.{AskingStep, AskingHistory, AtMostOne, IsAttach, IsTaken, IsFlow}
use Rattle.amqp_endpoint_links.specs.History.{IsDetach, IsDoneBy, AreDoneBy}

module _ {R A T D : Type 0} (gives : Relations R A T D) where
  -- one step at most of the session itself, and that is such
  pub record Done (is : Act R A T D → Type 0) (old new : State R) : Type 0 where
    pub steps : List (Act R A T D)
    pub are : AtMostOne is steps
    pub run : History gives old steps new

  none-done : (is : Act R A T D → Type 0) (old new : State R) → new ≡ old → Done is old new
  none-done is old new same = record { steps = []; are = tt; run = same }

  one-done : (is : Act R A T D → Type 0) (step : Act R A T D) (old new : State R) → is step → Step gives old step new
      → Done is old new
  one-done is step old new such does = record { steps = step ∷ []; are = such; run = (new, does, refl) }

  -- the link that waits takes an Attach
  refused-attach : (own : OutputHandle) (attach : Attach) (e : SessionError) (old new : State R)
      → LinkRefuses gives (SessionAttaches own.0 attach) old e new → Done (IsAttach attach (Waiting own)) old new
  refused-attach own attach e old new r = one-done _ (SessionAttaches own.0 attach (Err r.reason)) old new (record { handle = own; told = Err r.reason; waits = refl; is = refl }) r.stepped

  by-link : (own : OutputHandle) (attach : Attach) (told : Result A SessionError) (old new : State R)
      → SessionAttached gives old own.0 attach told new → Done (IsAttach attach (Waiting own)) old new
  by-link own attach (Ok told) old new t = one-done _ (SessionAttaches own.0 attach (Ok told)) old new (record { handle = own; told = Ok told; waits = refl; is = refl }) t
  by-link own attach (Err HandleInUse) old new t = none-done _ old new t.1
  by-link own attach (Err RemoteAttachingLinkNameNotFound) old new t = none-done _ old new t.2
  by-link own attach (Err Memory) old new t = none-done _ old new t.2
  by-link own attach (Err UnattachedHandle) old new t = refused-attach own attach UnattachedHandle old new t
  by-link own attach (Err IllegalState) old new t = refused-attach own attach IllegalState old new t
  by-link own attach (Err ConnectionStopped) old new t = refused-attach own attach ConnectionStopped old new t
  by-link own attach (Err TransferFrameToSender) old new t = refused-attach own attach TransferFrameToSender old new t
  by-link own attach (Err RemoteEnded) old new t = refused-attach own attach RemoteEnded old new t
  by-link own attach (Err (RemoteEndedWithError error)) old new t = refused-attach own attach (RemoteEndedWithError error) old new t
  by-link own attach (Err NumberInUse) old new t = refused-attach own attach NumberInUse old new t
  by-link own attach (Err HandleMaxReached) old new t = refused-attach own attach HandleMaxReached old new t

  pub attach-done : (used : Bool) (old : AskingSession R) (attach : Attach) (named : NamedLink) (result : Result (AttachTaken A) SessionError) (new : AskingSession R)
      → AttachAt gives used old attach named result new → Done (IsAttach attach named) old.session new.session
  attach-done true old attach named result new t = none-done _ old.session new.session (ap (λ (s : AskingSession R). s.session) t.1)
  attach-done false old attach Attached result new t = none-done _ old.session new.session (ap (λ (s : AskingSession R). s.session) t.1)
  attach-done false old attach Absent result new t = none-done _ old.session new.session (ap (λ (s : AskingSession R). s.session) t.1)
  attach-done false old attach (Waiting own) result new t = by-link own attach t.told old.session new.session t.taken

  -- the session takes a Flow
  taken : (flow : Flow) (answer : Result ⊤ SessionError) (old new : State R) (out out_new : List SessionFrame)
      → (t : FlowTaken gives old out flow answer new out_new) → IsTaken {R = R} {A = A} {T = T} {D = D} flow (SessionFlows flow t.told t.reply t.base t.left t.frames)
  taken flow answer old new out out_new t =
      record { told = t.told; reply = t.reply; base = t.base; left = t.left; frames = t.frames; is = refl }

  whole-flow : (flow : Flow) (answer : Result ⊤ SessionError) (old new : State R) (out out_new : List SessionFrame)
      → FlowTaken gives old out flow answer new out_new → Done (IsFlow flow) old new
  whole-flow flow answer old new out out_new t =
      one-done _ (SessionFlows flow t.told t.reply t.base t.left t.frames) old new (inl (taken flow answer old new out out_new t)) t.stepped

  part-flow : (flow : Flow) (answer : Result ⊤ SessionError) (old new : State R) (out out_new : List SessionFrame)
      → FlowTaken gives old out (session_part flow) answer new out_new → Done (IsFlow flow) old new
  part-flow flow answer old new out out_new t =
      one-done _ (SessionFlows (session_part flow) t.told t.reply t.base t.left t.frames) old new
      (inr (inl (taken (session_part flow) answer old new out out_new t))) t.stepped

  flow-in : (leads : Bool) (flow : Flow) (result : Result ⊤ SessionError) (old new : State R) (out out_new : List SessionFrame)
      → FlowInSession gives leads old out flow result new out_new → Done (IsFlow flow) old new
  flow-in false flow result old new out out_new t = one-done _ (SetsWindow flow t.base) old new (inr (inr (t.base, refl))) t.stepped
  flow-in true flow (Ok done) old new out out_new t = whole-flow flow (Ok done) old new out out_new t
  flow-in true flow (Err Memory) old new out out_new t = none-done _ old new t.0
  flow-in true flow (Err HandleInUse) old new out out_new t = whole-flow flow (Err HandleInUse) old new out out_new t
  flow-in true flow (Err RemoteAttachingLinkNameNotFound) old new out out_new t = whole-flow flow (Err RemoteAttachingLinkNameNotFound) old new out out_new t
  flow-in true flow (Err UnattachedHandle) old new out out_new t = whole-flow flow (Err UnattachedHandle) old new out out_new t
  flow-in true flow (Err IllegalState) old new out out_new t = whole-flow flow (Err IllegalState) old new out out_new t
  flow-in true flow (Err ConnectionStopped) old new out out_new t = whole-flow flow (Err ConnectionStopped) old new out out_new t
  flow-in true flow (Err TransferFrameToSender) old new out out_new t = whole-flow flow (Err TransferFrameToSender) old new out out_new t
  flow-in true flow (Err RemoteEnded) old new out out_new t = whole-flow flow (Err RemoteEnded) old new out out_new t
  flow-in true flow (Err (RemoteEndedWithError error)) old new out out_new t = whole-flow flow (Err (RemoteEndedWithError error)) old new out out_new t
  flow-in true flow (Err NumberInUse) old new out out_new t = whole-flow flow (Err NumberInUse) old new out out_new t
  flow-in true flow (Err HandleMaxReached) old new out out_new t = whole-flow flow (Err HandleMaxReached) old new out out_new t

  pub flow-done : (asked : Bool) (old : AskingSession R) (out : List SessionFrame) (flow : Flow) (result : Result ⊤ SessionError) (new : AskingSession R) (out_new : List SessionFrame)
      → FlowAt gives asked old out flow result new out_new → Done (IsFlow flow) old.session new.session
  flow-done false old out flow result new out_new t = flow-in (leads old.session flow.handle) flow result old.session new.session out out_new t.0
  flow-done true old out flow (Ok done) new out_new t = part-flow flow (Ok tt) old.session new.session out out_new t.0
  flow-done true old out flow (Err e) new out_new t = none-done _ old.session new.session (ap (λ (s : AskingSession R). s.session) t.1)

  -- the session takes a Detach
  refused-detach : (handle : ℕ) (detach : Detach) (e : SessionError) (old new : State R)
      → LinkRefuses gives (SessionDetaches handle detach) old e new → Done (IsDetach detach) old new
  refused-detach handle detach e old new r = one-done _ (SessionDetaches handle detach (Err r.reason)) old new (record { handle = handle; told = Err r.reason; is = refl }) r.stepped

  detach-in : (to : Option ℕ) (detach : Detach) (told : Result D SessionError) (old new : State R)
      → SessionDetachAt gives old detach to told new → Done (IsDetach detach) old new
  detach-in None detach (Ok told) old new t = absurd t
  detach-in None detach (Err e) old new t = none-done _ old new t.1
  detach-in (Some handle) detach (Ok told) old new t = one-done _ (SessionDetaches handle detach (Ok told)) old new (record { handle = handle; told = Ok told; is = refl }) t
  detach-in (Some handle) detach (Err Memory) old new t = none-done _ old new t
  detach-in (Some handle) detach (Err HandleInUse) old new t = refused-detach handle detach HandleInUse old new t
  detach-in (Some handle) detach (Err RemoteAttachingLinkNameNotFound) old new t = refused-detach handle detach RemoteAttachingLinkNameNotFound old new t
  detach-in (Some handle) detach (Err UnattachedHandle) old new t = refused-detach handle detach UnattachedHandle old new t
  detach-in (Some handle) detach (Err IllegalState) old new t = refused-detach handle detach IllegalState old new t
  detach-in (Some handle) detach (Err ConnectionStopped) old new t = refused-detach handle detach ConnectionStopped old new t
  detach-in (Some handle) detach (Err TransferFrameToSender) old new t = refused-detach handle detach TransferFrameToSender old new t
  detach-in (Some handle) detach (Err RemoteEnded) old new t = refused-detach handle detach RemoteEnded old new t
  detach-in (Some handle) detach (Err (RemoteEndedWithError error)) old new t = refused-detach handle detach (RemoteEndedWithError error) old new t
  detach-in (Some handle) detach (Err NumberInUse) old new t = refused-detach handle detach NumberInUse old new t
  detach-in (Some handle) detach (Err HandleMaxReached) old new t = refused-detach handle detach HandleMaxReached old new t

  pub detach-done : (asked : Bool) (old : AskingSession R) (detach : Detach) (result : Result (DetachTaken D) SessionError) (new : AskingSession R)
      → DetachAt gives asked old detach result new → Done (IsDetach detach) old.session new.session
  detach-done true old detach result new t = none-done _ old.session new.session (ap (λ (s : AskingSession R). s.session) t.1)
  detach-done false old detach result new t = detach-in (reached old.session (detach.handle).0) detach t.told old.session new.session t.taken

  -- a call is these steps of the session itself
  pub record Within (step : AskingAct R A T D) (old new : AskingSession R) : Type 0 where
    pub steps : List (Act R A T D)
    pub are : IsDoneBy step steps
    pub run : History gives old.session steps new.session

  pub step-within : (step : AskingAct R A T D) (old new : AskingSession R) → AskingStep gives old step new
      → Within step old new
  step-within (InSession step) old new s = record { steps = step ∷ []; are = refl; run = (new.session, s.0, refl) }
  step-within (TakesAttach attach named result) old new s =
      let done = attach-done (in_use old (attach.handle).0) old attach named result new s in
      record { steps = done.steps; are = done.are; run = done.run }
  step-within (TakesFlow out flow result out_new) old new s =
      let done = flow-done (is_asked old.asked flow.handle) old out flow result new out_new s in
      record { steps = done.steps; are = done.are; run = done.run }
  step-within (TakesDetach detach result) old new s =
      let done = detach-done (is_some (map.get old.asked (detach.handle).0)) old detach result new s in
      record { steps = done.steps; are = done.are; run = done.run }
  step-within (AnswersLink handle link input) old new s =
      record { steps = Allocates handle link (Some input) ∷ []; are = refl; run = (new.session, s.0, refl) }

  pub joined : (steps later : List (Act R A T D)) (start mid end : State R) → History gives start steps mid
      → History gives mid later end → History gives start (steps ++ later) end
  joined [] later start mid end run more = subst (λ (s : State R). History gives s later end) run more
  joined (step ∷ steps) later start mid end run more = (run.0, run.1, joined steps later run.0 mid end run.2 more)

  pub record Inner (steps : List (AskingAct R A T D)) (start end : AskingSession R) : Type 0 where
    pub done : List (Act R A T D)
    pub are : AreDoneBy steps done
    pub run : History gives start.session done end.session

  pub within : (steps : List (AskingAct R A T D)) (start end : AskingSession R) → AskingHistory gives start steps end
      → Inner steps start end
  within [] start end run = record { done = []; are = refl; run = ap (λ (s : AskingSession R). s.session) run }
  within (step ∷ steps) start end run =
      let one = step-within step start run.0 run.1 in
      let rest = within steps run.0 end run.2 in
      record {
        done = one.steps ++ rest.done;
        are = (one.steps, rest.done, one.are, rest.are, refl);
        run = joined one.steps rest.done start.session (run.0).session end.session one.run rest.run;
      }
