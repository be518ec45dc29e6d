-- What the calls of a session with its asked links do in the session itself.
use Rattle.std.proofs.Common.{◌≡◌, inl, inr, ℕ, List, [], ◌∷◌, ◌++◌, Bool, true, false, Option, Some, None, refl, sym, ap, subst, ◌∙◌, if◌then◌else◌}
use Rattle.std.specs.FinMap as map
use Rattle.amqp_session_types.specs.declared.channels.IncomingChannel.{IncomingChannel}
use Rattle.amqp_session_types.specs.declared.channels.OutgoingChannel.{OutgoingChannel}
use Rattle.amqp_session_performatives.specs.declared.attach.Attach.{Attach}
use Rattle.amqp_session_performatives.specs.declared.detach.Detach.{Detach}
use Rattle.amqp_session_performatives.specs.declared.flow.Flow.{Flow}
use Rattle.amqp_session_performatives.specs.declared.session_frame.SessionFrame.{SessionFrame}
use Rattle.amqp_session_core.specs.History.{History, CallKeeps, OwnersKeep, frees, is_freed}
use Rattle.amqp_session_core.specs.Relay.{Relations}
use Rattle.amqp_session_core.specs.State.{State, fresh}
use Rattle.amqp_session_core.specs.Steps.{Act, SendsBegin, TakesBegin}
use Rattle.amqp_endpoint_links.specs.declared.session.AskedSession.{AskedSession}
use Rattle.amqp_endpoint_links.specs.declared.session.SessionFlow.{SessionFlow}
use Rattle.amqp_endpoint_links.specs.declared.asking.AskingSession.{AskingSession}
use Rattle.amqp_endpoint_links.specs.declared.asking.NamedLink.{NamedLink}
use Rattle.amqp_endpoint_links.specs.Beginning.{Begun, Accepted, kept_steps}
use Rattle.amqp_endpoint_links.specs.History.{AskingAct, InSession, TakesAttach, TakesFlow, TakesDetach, AnswersLink}
use Rattle.amqp_endpoint_links.specs.History.{AtMostOne, IsAttach, IsFlow, IsDetach, IsDoneBy, AreDoneBy}
use Rattle.amqp_endpoint_links.specs.History.{frees_handle, is_handle_freed, StepKeeps, AllKeep}

bool-if : (b : Bool) → (if b then true else false) ≡ b
bool-if true = refl
bool-if false = refl

if-apart : (b c d : Bool) → (if (if b then true else c) then true else d) ≡ (if b then true else (if c then true else d))
if-apart true c d = refl
if-apart false c d = refl

module _ {R A T D : Type 0} where
  -- a step that neither frees a handle nor is a link's owner's
  pub record IsPlain (step : Act R A T D) : Type 1 where
    pub frees_none : (link : ℕ) → frees link step ≡ false
    pub keeps : (keeps : R → R → Type 0) → CallKeeps keeps step

  attach-plain : (attach : Attach) (named : NamedLink) (step : Act R A T D) → IsAttach attach named step → IsPlain step
  attach-plain attach named step is = subst (λ (s : Act R A T D). IsPlain s) (sym is.is)
      (record { frees_none = λ link. refl; keeps = λ keeps. tt })

  flow-plain : (flow : Flow) (step : Act R A T D) → IsFlow flow step → IsPlain step
  flow-plain flow step (inl is) = subst (λ (s : Act R A T D). IsPlain s) (sym is.is)
      (record { frees_none = λ link. refl; keeps = λ keeps. tt })
  flow-plain flow step (inr (inl is)) = subst (λ (s : Act R A T D). IsPlain s) (sym is.is)
      (record { frees_none = λ link. refl; keeps = λ keeps. tt })
  flow-plain flow step (inr (inr is)) = subst (λ (s : Act R A T D). IsPlain s) (sym is.1)
      (record { frees_none = λ link. refl; keeps = λ keeps. tt })

  detach-plain : (detach : Detach) (step : Act R A T D) → IsDetach detach step → IsPlain step
  detach-plain detach step is = subst (λ (s : Act R A T D). IsPlain s) (sym is.is)
      (record { frees_none = λ link. refl; keeps = λ keeps. tt })

  one-frees-none : (is : Act R A T D → Type 0) (steps : List (Act R A T D)) → AtMostOne is steps
      → ((step : Act R A T D) → is step → IsPlain step)
      → (link : ℕ) → is_freed link steps ≡ false
  one-frees-none is [] are plain link = refl
  one-frees-none is (step ∷ []) are plain link = ap (λ (b : Bool). if b then true else false) ((plain step are).frees_none link)
  one-frees-none is (step ∷ next ∷ steps) are plain link = absurd are

  one-keeps : (is : Act R A T D → Type 0) (steps : List (Act R A T D)) → AtMostOne is steps
      → ((step : Act R A T D) → is step → IsPlain step)
      → (keeps : R → R → Type 0) → OwnersKeep keeps steps
  one-keeps is [] are plain keeps = tt
  one-keeps is (step ∷ []) are plain keeps = ((plain step are).keeps keeps, tt)
  one-keeps is (step ∷ next ∷ steps) are plain keeps = absurd are

  freed-in : (link : ℕ) (step : AskingAct R A T D) (done : List (Act R A T D)) → IsDoneBy step done
      → is_freed link done ≡ frees_handle link step
  freed-in link (InSession step) done is = ap (λ (steps : List (Act R A T D)). is_freed link steps) is
      ∙ bool-if (frees link step)
  freed-in link (TakesAttach attach named result) done is = one-frees-none _ done is (attach-plain attach named) link
  freed-in link (TakesFlow out flow result out_new) done is = one-frees-none _ done is (flow-plain flow) link
  freed-in link (TakesDetach detach result) done is = one-frees-none _ done is (detach-plain detach) link
  freed-in link (AnswersLink handle given input) done is = ap (λ (steps : List (Act R A T D)). is_freed link steps) is

  kept-in : (keeps : R → R → Type 0) (step : AskingAct R A T D) (done : List (Act R A T D)) → IsDoneBy step done
      → StepKeeps keeps step → OwnersKeep keeps done
  kept-in keeps (InSession step) done is kept = subst (λ (steps : List (Act R A T D)). OwnersKeep keeps steps)
      (sym is) (kept, tt)
  kept-in keeps (TakesAttach attach named result) done is kept = one-keeps _ done is (attach-plain attach named) keeps
  kept-in keeps (TakesFlow out flow result out_new) done is kept = one-keeps _ done is (flow-plain flow) keeps
  kept-in keeps (TakesDetach detach result) done is kept = one-keeps _ done is (detach-plain detach) keeps
  kept-in keeps (AnswersLink handle given input) done is kept =
      subst (λ (steps : List (Act R A T D)). OwnersKeep keeps steps) (sym is) (tt, tt)

  freed-joined : (link : ℕ) (steps later : List (Act R A T D))
      → is_freed link (steps ++ later) ≡ (if is_freed link steps then true else is_freed link later)
  freed-joined link [] later = refl
  freed-joined link (step ∷ steps) later =
      ap (λ (b : Bool). if frees link step then true else b) (freed-joined link steps later)
      ∙ sym (if-apart (frees link step) (is_freed link steps) (is_freed link later))

  kept-joined : (keeps : R → R → Type 0) (steps later : List (Act R A T D)) → OwnersKeep keeps steps
      → OwnersKeep keeps later → OwnersKeep keeps (steps ++ later)
  kept-joined keeps [] later kept more = more
  kept-joined keeps (step ∷ steps) later kept more = (kept.0, kept-joined keeps steps later kept.1 more)

  pub freed-of : (link : ℕ) (steps : List (AskingAct R A T D)) (done : List (Act R A T D)) → AreDoneBy steps done
      → is_freed link done ≡ is_handle_freed link steps
  freed-of link [] done are = ap (λ (steps : List (Act R A T D)). is_freed link steps) are
  freed-of link (step ∷ steps) done are =
      ap (λ (steps : List (Act R A T D)). is_freed link steps) are.4
      ∙ freed-joined link are.0 are.1
      ∙ ap (λ (b : Bool). if b then true else is_freed link are.1) (freed-in link step are.0 are.2)
      ∙ ap (λ (b : Bool). if frees_handle link step then true else b) (freed-of link steps are.1 are.3)

  pub kept-of : (keeps : R → R → Type 0) (steps : List (AskingAct R A T D)) (done : List (Act R A T D))
      → AreDoneBy steps done → AllKeep keeps steps → OwnersKeep keeps done
  kept-of keeps [] done are kept = subst (λ (steps : List (Act R A T D)). OwnersKeep keeps steps) (sym are) tt
  kept-of keeps (step ∷ steps) done are kept =
      subst (λ (steps : List (Act R A T D)). OwnersKeep keeps steps) (sym are.4)
      (kept-joined keeps are.0 are.1 (kept-in keeps step are.0 are.2 kept.0) (kept-of keeps steps are.1 are.3 kept.1))

module _ {R A T D : Type 0} (gives : Relations R A T D) where
  routes-of : (s t : State R) → s ≡ t → s.routes ≡ t.routes
  routes-of s t same = ap (λ (x : State R). x.routes) same

  sent-routes : (frame : SessionFrame) (mid end : State R) → History gives mid (SendsBegin frame ∷ []) end → end.routes ≡ mid.routes
  sent-routes frame mid end (last, sent, same) = routes-of end last same ∙ routes-of last _ sent.2

  answered-routes : (first : ℕ) (flow : Option SessionFlow) (frame : SessionFrame) (mid end : State R)
      → History gives mid (kept_steps first flow ++ SendsBegin frame ∷ []) end → end.routes ≡ mid.routes
  answered-routes first None frame mid end run = sent-routes frame mid end run
  answered-routes first (Some flow) frame mid end (told, does, run) = sent-routes frame told end run ∙ routes-of told _ does.becomes

  pub begun-routes : (channel : OutgoingChannel) (first window : ℕ) (frame : SessionFrame) (new : AskingSession R) → Begun gives channel first window frame new
      → new.session.routes ≡ map.empty
  begun-routes channel first window frame new b = sent-routes frame (fresh channel first window) new.session b.history

  pub accepted-routes : (wanted : AskedSession) (channel : OutgoingChannel) (incoming : IncomingChannel) (first window : ℕ) (frame : SessionFrame) (new : AskingSession R)
      → Accepted gives wanted channel incoming first window frame new → new.session.routes ≡ map.empty
  accepted-routes wanted channel incoming first window frame new a = by a.history
    where
      by : History gives (fresh channel first window) (TakesBegin incoming wanted.begin first [] [] ∷ (kept_steps first wanted.flow ++ SendsBegin frame ∷ [])) new.session
          → new.session.routes ≡ map.empty
      by (mid, begun, run) = answered-routes first wanted.flow frame mid new.session run ∙ routes-of mid _ begun.5
