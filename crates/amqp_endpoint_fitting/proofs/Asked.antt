-- The same of a session with its asked links.
use Rattle.std.proofs.Common.{◌≡◌, ◌≤◌, inl, inr, ℕ, List, [], ◌∷◌, ◌++◌, Bool, true, false, refl, sym, ap, subst, ◌∙◌, append-nil}
use Rattle.std.specs.Prelude.{All, Some, Result, Ok, Err, ⊤}
use Rattle.std.proofs.lemmas.List.{append_cancel_left}
use Rattle.std.proofs.lemmas.List.Elements.{All-nil, All-append}
use Rattle.amqp_session_types.specs.declared.channels.OutgoingChannel.{OutgoingChannel}
use Rattle.amqp_session_types.specs.declared.refusals.SessionError.{SessionError}
use Rattle.amqp_session_types.specs.declared.refusals.SessionError.TheVariants.{Memory}
use Rattle.amqp_session_performatives.specs.declared.attach.Attach.{Attach as AttachFrame}
use Rattle.amqp_session_performatives.specs.declared.detach.Detach.{Detach as DetachFrame}
use Rattle.amqp_session_performatives.specs.declared.flow.Flow.{Flow as FlowFrame}
use Rattle.amqp_session_performatives.specs.declared.session_frame.SessionFrame.{SessionFrame}
use Rattle.amqp_session_core.specs.History.{History}
use Rattle.amqp_session_core.specs.Relay.{Relations}
use Rattle.amqp_session_core.specs.State.{State, leads}
use Rattle.amqp_session_core.specs.Steps.{Act, Step, Allocates}
use Rattle.amqp_session_core.specs.Told.{FlowTaken}
use Rattle.amqp_endpoint_links.specs.Asked.{is_asked}
use Rattle.amqp_endpoint_links.specs.AskedSession.{session_part}
use Rattle.amqp_endpoint_links.specs.declared.asking.AskingSession.{AskingSession}
use Rattle.amqp_endpoint_links.specs.declared.asking.NamedLink.{NamedLink}
use Rattle.amqp_endpoint_links.specs.declared.hearing.LinkPerformative.{LinkPerformative}
use Rattle.amqp_endpoint_links.specs.declared.hearing.LinkPerformative.TheVariants.{Attach, Flow, Transfer, Disposition, Detach}
use Rattle.amqp_endpoint_links.specs.declared.hearing.PerformativeTaken.{PerformativeTaken}
use Rattle.amqp_endpoint_links.specs.declared.hearing.PerformativeTaken.TheVariants as taken
use Rattle.amqp_endpoint_links.specs.Asking.{FlowAt, FlowInSession}
use Rattle.amqp_endpoint_links.specs.Hearing.{Hears, HearsFlow}
use Rattle.amqp_endpoint_links.specs.History.{AskingAct, InSession, TakesAttach, TakesFlow, TakesDetach, AnswersLink}
use Rattle.amqp_endpoint_links.specs.History.{AskingStep, AskingHistory, AtMostOne, IsAttach, IsDetach, IsFlow}
use Rattle.amqp_endpoint_links.specs.History.{IsTaken, IsHearing, AreHearing}
use Rattle.amqp_endpoint_links.proofs.Heard.{heard}
use Rattle.amqp_endpoint_links.proofs.Projecting.{step-within}
use Rattle.amqp_endpoint_fitting.specs.Fits.{FrameFits}
use Rattle.amqp_endpoint_fitting.specs.Handed.{AllAskingEndFit, AllAskingHand, AllAskingSendFit, AllSendFit, AskingEndFits, AskingHands, AskingSendsFit, RepliesFit, SendsFit}
use Rattle.amqp_endpoint_fitting.specs.Read.{IsRead}
use Rattle.amqp_endpoint_fitting.proofs.Handing.{Lines, channel_of, flow-hands, flow-sends, history-channel, history-waits, whole-hands}
use Rattle.amqp_endpoint_fitting.proofs.Lengths.{all-left, all-right}

module _ {R A T D : Type 0} (gives : Relations R A T D) where
  abbrev AllWait : AskingSession R → ℕ → ℕ → Type 0
  AllWait s channel limit = Lines gives s.session channel limit

  abbrev Channel : AskingSession R → ℕ
  Channel s = channel_of gives s.session

  -- what a call does in the session brings what the call brings
  attach-sends : (channel limit : ℕ) (attach : AttachFrame) (named : NamedLink) (done : List (Act R A T D))
      → AtMostOne (IsAttach attach named) done → AllSendFit channel limit done
  attach-sends channel limit attach named [] are = tt
  attach-sends channel limit attach named (step ∷ []) are =
      (subst (λ (s : Act R A T D). SendsFit channel limit s) (sym are.is) tt, tt)
  attach-sends channel limit attach named (step ∷ next ∷ steps) are = absurd are

  detach-sends : (channel limit : ℕ) (detach : DetachFrame) (done : List (Act R A T D))
      → AtMostOne (IsDetach detach) done → AllSendFit channel limit done
  detach-sends channel limit detach [] are = tt
  detach-sends channel limit detach (step ∷ []) are =
      (subst (λ (s : Act R A T D). SendsFit channel limit s) (sym are.is) tt, tt)
  detach-sends channel limit detach (step ∷ next ∷ steps) are = absurd are

  taken-sends : (channel limit : ℕ) (replies : RepliesFit gives) (flow : FlowFrame) (step : Act R A T D)
      (old mid : State R) → IsTaken flow step → Step gives old step mid → SendsFit channel limit step
  taken-sends channel limit replies flow step old mid t does =
      subst (λ (s : Act R A T D). SendsFit channel limit s) (sym t.is)
      (flow-sends gives replies flow t.told t.reply t.base t.left t.frames old mid
      (subst (λ (s : Act R A T D). Step gives old s mid) t.is does))

  flow-step-sends : (channel limit : ℕ) (replies : RepliesFit gives) (flow : FlowFrame) (step : Act R A T D)
      (old mid : State R) → IsFlow flow step → Step gives old step mid → SendsFit channel limit step
  flow-step-sends channel limit replies flow step old mid (inl t) does =
      taken-sends channel limit replies flow step old mid t does
  flow-step-sends channel limit replies flow step old mid (inr (inl t)) does =
      taken-sends channel limit replies (session_part flow) step old mid t does
  flow-step-sends channel limit replies flow step old mid (inr (inr (base, is))) does =
      subst (λ (s : Act R A T D). SendsFit channel limit s) (sym is) tt

  flow-done-sends : (channel limit : ℕ) (replies : RepliesFit gives) (flow : FlowFrame) (done : List (Act R A T D))
      (old new : State R) → AtMostOne (IsFlow flow) done → History gives old done new → AllSendFit channel limit done
  flow-done-sends channel limit replies flow [] old new are run = tt
  flow-done-sends channel limit replies flow (step ∷ []) old new are run =
      (flow-step-sends channel limit replies flow step old run.0 are run.1, tt)
  flow-done-sends channel limit replies flow (step ∷ next ∷ steps) old new are run = absurd are

  -- a call
  abbrev Waits : ℕ → ℕ → AskingSession R → AskingSession R → Type 0
  Waits channel limit old new = AllWait old channel limit → AllWait new channel limit

  step-waits-asked : (channel limit : ℕ) (replies : RepliesFit gives) (step : AskingAct R A T D)
      (old new : AskingSession R)
      → AskingStep gives old step new → AskingSendsFit channel limit step → Waits channel limit old new
  step-waits-asked channel limit replies (InSession step) old new s b =
      history-waits gives channel limit (step ∷ []) old.session new.session (new.session, s.0, refl) (b, tt)
  step-waits-asked channel limit replies (TakesAttach attach named result) old new s b =
      let done = step-within gives (TakesAttach attach named result) old new s in
      history-waits gives channel limit done.steps old.session new.session done.run
      (attach-sends channel limit attach named done.steps done.are)
  step-waits-asked channel limit replies (TakesFlow out flow result out_new) old new s b =
      let done = step-within gives (TakesFlow out flow result out_new) old new s in
      history-waits gives channel limit done.steps old.session new.session done.run
      (flow-done-sends channel limit replies flow done.steps old.session new.session done.are done.run)
  step-waits-asked channel limit replies (TakesDetach detach result) old new s b =
      let done = step-within gives (TakesDetach detach result) old new s in
      history-waits gives channel limit done.steps old.session new.session done.run
      (detach-sends channel limit detach done.steps done.are)
  step-waits-asked channel limit replies (AnswersLink handle link input) old new s b =
      history-waits gives channel limit (Allocates handle link (Some input) ∷ []) old.session new.session
      (new.session, s.0, refl) (tt, tt)

  pub asking-waits : (channel limit : ℕ) (replies : RepliesFit gives) (steps : List (AskingAct R A T D))
      (start end : AskingSession R) → AskingHistory gives start steps end → AllAskingSendFit channel limit steps
      → Waits channel limit start end
  asking-waits channel limit replies [] start end run b = λ h.
      subst (λ (s : AskingSession R). AllWait s channel limit) (sym run) h
  asking-waits channel limit replies (step ∷ steps) start end run b = λ h.
      asking-waits channel limit replies steps run.0 end run.2 b.1
      (step-waits-asked channel limit replies step start run.0 run.1 b.0 h)

  abbrev KeepsChannel : AskingSession R → AskingSession R → Type 0
  KeepsChannel old new = ((new.session).fields).channel ≡ ((old.session).fields).channel

  step-channel-asked : (step : AskingAct R A T D) (old new : AskingSession R) → AskingStep gives old step new
      → KeepsChannel old new
  step-channel-asked step old new s =
      let done = step-within gives step old new s in
      history-channel gives done.steps old.session new.session done.run

  pub asking-channel : (steps : List (AskingAct R A T D)) (start end : AskingSession R)
      → AskingHistory gives start steps end → KeepsChannel start end
  asking-channel [] start end run = ap (λ (s : AskingSession R). ((s.session).fields).channel) run
  asking-channel (step ∷ steps) start end run =
      asking-channel steps run.0 end run.2 ∙ step-channel-asked step start run.0 run.1

  -- what is handed out
  abbrev Gives : ℕ → List SessionFrame → Type 0
  Gives limit frames = All IsRead frames → All (FrameFits limit) frames

  none-given : (limit : ℕ) (frames : List SessionFrame) → frames ≡ [] → Gives limit frames
  none-given limit frames is = subst (Gives limit) (sym is) (λ r. All-nil (FrameFits limit))

  pub nothing-behind : (limit : ℕ) (out out_new frames : List SessionFrame) → out_new ≡ out → out_new ≡ out ++ frames
      → Gives limit frames
  nothing-behind limit out out_new frames same is =
      none-given limit frames (append_cancel_left out frames [] (sym is ∙ same ∙ sym (append-nil out)))

  flow-taken-gives : (limit : ℕ) (replies : RepliesFit gives) (flow : FlowFrame) (answer : Result ⊤ SessionError)
      (old new : State R) (out out_new frames : List SessionFrame) → 512 ≤ limit
      → FlowTaken gives old out flow answer new out_new → Lines gives old (channel_of gives old) limit
      → out_new ≡ out ++ frames → Gives limit frames
  flow-taken-gives limit replies flow answer old new out out_new frames least t h is =
      let same : frames ≡ t.frames = append_cancel_left out frames t.frames (sym is ∙ t.added) in
      subst (Gives limit) (sym same)
      (flow-hands gives limit flow t.told t.reply t.base t.left t.frames old new least t.stepped
      (flow-sends gives replies flow t.told t.reply t.base t.left t.frames old new t.stepped) h)

  flow-in-gives : (limit : ℕ) (replies : RepliesFit gives) (leads : Bool) (flow : FlowFrame)
      (result : Result ⊤ SessionError)
      (old new : State R) (out out_new frames : List SessionFrame) → 512 ≤ limit
      → FlowInSession gives leads old out flow result new out_new → Lines gives old (channel_of gives old) limit
      → out_new ≡ out ++ frames → Gives limit frames
  flow-in-gives limit replies false flow result old new out out_new frames least t h is =
      nothing-behind limit out out_new frames t.same is
  flow-in-gives limit replies true flow (Err Memory) old new out out_new frames least t h is =
      nothing-behind limit out out_new frames t.1 is
  flow-in-gives limit replies true flow (Ok done) old new out out_new frames least t h is =
      flow-taken-gives limit replies flow (Ok done) old new out out_new frames least t h is
  flow-in-gives limit replies true flow (Err e) old new out out_new frames least t h is =
      flow-taken-gives limit replies flow (Err e) old new out out_new frames least t h is

  pub flow-gives : (limit : ℕ) (replies : RepliesFit gives) (asked : Bool) (flow : FlowFrame)
      (result : Result ⊤ SessionError)
      (old new : AskingSession R) (out out_new frames : List SessionFrame) → 512 ≤ limit
      → FlowAt gives asked old out flow result new out_new → AllWait old (Channel old) limit
      → out_new ≡ out ++ frames → Gives limit frames
  flow-gives limit replies false flow result old new out out_new frames least t h is =
      flow-in-gives limit replies (leads old.session flow.handle) flow result old.session new.session out out_new frames
      least t.0 h is
  flow-gives limit replies true flow (Ok done) old new out out_new frames least t h is =
      flow-taken-gives limit replies (session_part flow) (Ok tt) old.session new.session out out_new frames least t.0 h
      is
  flow-gives limit replies true flow (Err e) old new out out_new frames least t h is =
      nothing-behind limit out out_new frames t.2 is

  step-gives : (limit : ℕ) (replies : RepliesFit gives) (step : AskingAct R A T D) (old new : AskingSession R)
      (frames : List SessionFrame) → 512 ≤ limit → AskingStep gives old step new
      → AskingSendsFit (Channel old) limit step → AskingEndFits limit step → AllWait old (Channel old) limit
      → AskingHands step frames → Gives limit frames
  step-gives limit replies (InSession step) old new frames least s b e h is =
      subst (Gives limit) (sym is) (whole-hands gives limit step old.session new.session least s.0 b e h)
  step-gives limit replies (TakesAttach attach named result) old new frames least s b e h is =
      none-given limit frames is
  step-gives limit replies (TakesFlow out flow result out_new) old new frames least s b e h is =
      flow-gives limit replies (is_asked old.asked flow.handle) flow result old new out out_new frames least s h is
  step-gives limit replies (TakesDetach detach result) old new frames least s b e h is = none-given limit frames is
  step-gives limit replies (AnswersLink handle link input) old new frames least s b e h is =
      none-given limit frames is

  pub asking-gives : (channel limit : ℕ) (replies : RepliesFit gives) (steps : List (AskingAct R A T D))
      (start end : AskingSession R) (frames : List SessionFrame) → 512 ≤ limit → AskingHistory gives start steps end
      → Channel start ≡ channel → AllAskingSendFit channel limit steps → AllAskingEndFit limit steps
      → AllWait start channel limit → AllAskingHand steps frames → Gives limit frames
  asking-gives channel limit replies [] start end frames least run same b e h is = none-given limit frames is
  asking-gives channel limit replies (step ∷ steps) start end all least run same b e h (first, later, here, more, is) =
      let one : Gives limit first =
      step-gives limit replies step start run.0 first least run.1
      (subst (λ (c : ℕ). AskingSendsFit c limit step) (sym same) b.0) e.0
      (subst (λ (c : ℕ). AllWait start c limit) (sym same) h) here in
      let rest : Gives limit later =
      asking-gives channel limit replies steps run.0 end later least run.2
      (ap (λ (c : OutgoingChannel). c.0) (step-channel-asked step start run.0 run.1) ∙ same) b.1 e.1
      (step-waits-asked channel limit replies step start run.0 run.1 b.0 h) more in
      subst (Gives limit) (sym is)
      (λ r.
      All-append (FrameFits limit) first later (one (all-left IsRead first later r))
      (rest (all-right IsRead first later r)))

  -- what the peer says
  hearing-sends-one : (channel limit : ℕ) (said : LinkPerformative) (step : AskingAct R A T D) → IsHearing said step
      → AskingSendsFit channel limit step
  hearing-sends-one channel limit (Attach attach named) step (result, is) =
      subst (λ (s : AskingAct R A T D). AskingSendsFit channel limit s) (sym is) tt
  hearing-sends-one channel limit (Flow flow) step (out, result, out_new, is) =
      subst (λ (s : AskingAct R A T D). AskingSendsFit channel limit s) (sym is) tt
  hearing-sends-one channel limit (Transfer transfer payload) step (handle, told, due, is) =
      subst (λ (s : AskingAct R A T D). AskingSendsFit channel limit s) (sym is) tt
  hearing-sends-one channel limit (Disposition disposition) step (walk, echoes, is) =
      subst (λ (s : AskingAct R A T D). AskingSendsFit channel limit s) (sym is) tt
  hearing-sends-one channel limit (Detach detach) step (result, is) =
      subst (λ (s : AskingAct R A T D). AskingSendsFit channel limit s) (sym is) tt

  hearing-sends : (channel limit : ℕ) (said : LinkPerformative) (steps : List (AskingAct R A T D))
      → AreHearing said steps → AllAskingSendFit channel limit steps
  hearing-sends channel limit said [] are = tt
  hearing-sends channel limit said (step ∷ []) are = (hearing-sends-one channel limit said step are, tt)
  hearing-sends channel limit said (step ∷ next ∷ steps) are = absurd are

  pub heard-waits : (channel limit : ℕ) (replies : RepliesFit gives) (old new : AskingSession R)
      (out out_new : List SessionFrame) (said : LinkPerformative)
      (told : Result (PerformativeTaken A T D) SessionError)
      → Hears gives old out said told new out_new → KeepsChannel old new × Waits channel limit old new
  heard-waits channel limit replies old new out out_new said told h =
      let does = heard gives old new out out_new said told h in (
        asking-channel does.0 old new does.2,
        asking-waits channel limit replies does.0 old new does.2 (hearing-sends channel limit said does.0 does.1),
      )

  flow-heard-gives : (limit : ℕ) (replies : RepliesFit gives) (flow : FlowFrame)
      (told : Result (PerformativeTaken A T D) SessionError) (old new : AskingSession R)
      (out out_new frames : List SessionFrame) → 512 ≤ limit
      → HearsFlow gives old out flow told new out_new → AllWait old (Channel old) limit
      → out_new ≡ out ++ frames → Gives limit frames
  flow-heard-gives limit replies flow (Ok taken.Flow) old new out out_new frames least t h is =
      flow-gives limit replies (is_asked old.asked flow.handle) flow (Ok tt) old new out out_new frames least t h is
  flow-heard-gives limit replies flow (Ok other) old new out out_new frames least t h is = absurd t
  flow-heard-gives limit replies flow (Err e) old new out out_new frames least t h is =
      flow-gives limit replies (is_asked old.asked flow.handle) flow (Err e) old new out out_new frames least t h is

  pub heard-gives : (limit : ℕ) (replies : RepliesFit gives) (said : LinkPerformative)
      (told : Result (PerformativeTaken A T D) SessionError) (old new : AskingSession R)
      (out out_new frames : List SessionFrame) → 512 ≤ limit
      → Hears gives old out said told new out_new → AllWait old (Channel old) limit
      → out_new ≡ out ++ frames → Gives limit frames
  heard-gives limit replies (Attach attach named) told old new out out_new frames least t h is =
      nothing-behind limit out out_new frames t.1 is
  heard-gives limit replies (Flow flow) told old new out out_new frames least t h is =
      flow-heard-gives limit replies flow told old new out out_new frames least t h is
  heard-gives limit replies (Transfer transfer payload) told old new out out_new frames least t h is =
      nothing-behind limit out out_new frames t.1 is
  heard-gives limit replies (Disposition disposition) told old new out out_new frames least t h is =
      nothing-behind limit out out_new frames t.1 is
  heard-gives limit replies (Detach detach) told old new out out_new frames least t h is =
      nothing-behind limit out out_new frames t.1 is
