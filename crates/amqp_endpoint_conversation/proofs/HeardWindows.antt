-- What a session hears of its peer keeps its transfers in the peer's window.
use Rattle.std.proofs.Common.{◌≡◌, ◌≢◌, ℕ, Bool, true, false, List, [], ◌∷◌, Option, Result, Ok, Err}
use Rattle.std.proofs.Common.{ap, refl, sym, subst, ◌∙◌}
use Rattle.std.specs.Prelude.{⊤}
use Rattle.amqp_session_types.specs.declared.refusals.SessionError.{SessionError}
use Rattle.amqp_session_types.specs.declared.refusals.SessionError.TheVariants.{UnattachedHandle, HandleInUse, Memory}
use Rattle.amqp_session_types.specs.declared.refusals.SessionError.TheVariants.{RemoteAttachingLinkNameNotFound}
use Rattle.amqp_session_types.specs.declared.refusals.SessionError.TheVariants.{IllegalState, ConnectionStopped}
use Rattle.amqp_session_types.specs.declared.refusals.SessionError.TheVariants.{TransferFrameToSender, RemoteEnded}
use Rattle.amqp_session_types.specs.declared.refusals.SessionError.TheVariants.{RemoteEndedWithError, NumberInUse}
use Rattle.amqp_session_types.specs.declared.refusals.SessionError.TheVariants.{HandleMaxReached}
use Rattle.amqp_session_performatives.specs.declared.attach.Attach.{Attach}
use Rattle.amqp_session_performatives.specs.declared.detach.Detach.{Detach}
use Rattle.amqp_session_performatives.specs.declared.flow.Flow.{Flow}
use Rattle.amqp_session_performatives.specs.declared.transfer.Transfer.{Transfer}
use Rattle.amqp_session_performatives.specs.declared.session_frame.SessionFrame.{SessionFrame}
use Rattle.amqp_session_frames.specs.declared.frame.FrameBody.{FrameBody}
use Rattle.amqp_session_frames.specs.declared.frame.FrameBody.TheVariants as body
use Rattle.amqp_session_core.specs.declared.relay.RelayError.{RelayError}
use Rattle.amqp_session_core.specs.declared.relay.TransferAnswer.{TransferAnswer}
use Rattle.amqp_session_core.specs.History.{History}
use Rattle.amqp_session_core.specs.Relay.{Relations}
use Rattle.amqp_session_core.specs.State.{State, leads}
use Rattle.amqp_session_core.specs.Steps.{Act, Step, TakesAttach, TakesDetach, TakesDisposition, TakesTransfer}
use Rattle.amqp_session_core.specs.Told.{FlowTaken}
use Rattle.amqp_endpoint_links.specs.Asked.{is_asked}
use Rattle.amqp_endpoint_links.specs.AskedSession.{session_part}
use Rattle.amqp_endpoint_links.specs.Asking.{FlowAt, FlowInSession}
use Rattle.amqp_endpoint_links.specs.Hearing.{Hears}
use Rattle.amqp_endpoint_links.specs.History.{AreHearing, AskingHistory, AskingAct, AtMostOne, IsAttach}
use Rattle.amqp_endpoint_links.specs.History.{IsDetach, IsDoneBy, IsHearing}
use Rattle.amqp_endpoint_links.specs.declared.asking.AskingSession.{AskingSession}
use Rattle.amqp_endpoint_links.specs.declared.hearing.LinkPerformative.{LinkPerformative}
use Rattle.amqp_endpoint_links.specs.declared.hearing.LinkPerformative.TheVariants as said
use Rattle.amqp_endpoint_links.specs.declared.hearing.PerformativeTaken.{PerformativeTaken}
use Rattle.amqp_endpoint_links.specs.declared.hearing.PerformativeTaken.TheVariants as taken
use Rattle.amqp_endpoint_links.proofs.Heard.{heard}
use Rattle.amqp_endpoint_links.proofs.Projecting.{Within, step-within}
use Rattle.amqp_endpoint_conversation.specs.Windows.{Came, Keeps, body_said, counted, went}
use Rattle.amqp_endpoint_conversation.proofs.Windows.{flow-keeps, set-keeps, step-keeps}

module _ {R A T D : Type 0} (gives : Relations R A T D) where
  abbrev Same : State R → State R → Type 0
  Same old new = counted new.outgoing ≡ counted old.outgoing

  attach-same : (handle : ℕ) (attach : Attach) (told : Result A RelayError) (old new : State R)
      → Step gives old (TakesAttach handle attach told) new → Same old new
  attach-same handle attach told old new s =
      sym (step-keeps gives (TakesAttach handle attach told) old new tt s).counts

  detach-same : (handle : ℕ) (detach : Detach) (told : Result D RelayError) (old new : State R)
      → Step gives old (TakesDetach handle detach told) new → Same old new
  detach-same handle detach told old new s =
      sym (step-keeps gives (TakesDetach handle detach told) old new tt s).counts

  transfer-same : (handle : ℕ) (transfer : Transfer) (payload : List ℕ) (told : Result (TransferAnswer T) RelayError)
      (due : Option SessionFrame) (old new : State R)
      → Step gives old (TakesTransfer handle transfer payload told due) new → Same old new
  transfer-same handle transfer payload (Ok told) due old new s = ap (λ (t : State R). counted t.outgoing) s.3
  transfer-same handle transfer payload (Err e) due old new s = ap (λ (t : State R). counted t.outgoing) s.3

  -- one step at most is done, and it is such
  one-same : (Is : Act R A T D → Type 0)
      → ((step : Act R A T D) (old new : State R) → Is step → Step gives old step new → Same old new)
      → (steps : List (Act R A T D)) (old new : State R) → AtMostOne Is steps → History gives old steps new
      → Same old new
  one-same Is by [] old new are same = ap (λ (t : State R). counted t.outgoing) same
  one-same Is by (step ∷ []) old new are (mid, stepped, same) =
      ap (λ (t : State R). counted t.outgoing) same ∙ by step old mid are stepped
  one-same Is by (step ∷ next ∷ steps) old new are h = absurd are

  step-same : (it : LinkPerformative) (step : AskingAct R A T D) (old new : AskingSession R) → IsHearing it step
      → ((flow : Flow) → it ≢ said.Flow flow) → (w : Within gives step old new) → Same old.session new.session
  step-same (said.Attach attach named) step old new (result, is) other w =
      one-same (IsAttach attach named)
      (λ s a b i stepped.
      attach-same (i.handle).0 attach i.told a b (subst (λ (x : Act R A T D). Step gives a x b) i.is stepped))
      w.steps old.session new.session
      (subst (λ (x : AskingAct R A T D). IsDoneBy x w.steps) is w.are) w.run
  step-same (said.Flow flow) step old new is other w = absurd (other flow refl)
  step-same (said.Transfer transfer payload) step old new (handle, told, due, is) other w =
      let done : w.steps ≡ TakesTransfer handle transfer payload told due ∷ [] =
      subst (λ (x : AskingAct R A T D). IsDoneBy x w.steps) is w.are in
      let run = subst (λ (ss : List (Act R A T D)). History gives old.session ss new.session) done w.run in
      ap (λ (t : State R). counted t.outgoing) (run.2)
      ∙ transfer-same handle transfer payload told due old.session run.0 run.1
  step-same (said.Disposition disposition) step old new (walk, echoes, is) other w =
      let done : w.steps ≡ TakesDisposition disposition walk echoes ∷ [] =
      subst (λ (x : AskingAct R A T D). IsDoneBy x w.steps) is w.are in
      let run = subst (λ (ss : List (Act R A T D)). History gives old.session ss new.session) done w.run in
      ap (λ (t : State R). counted t.outgoing) (run.2)
      ∙ sym (step-keeps gives (TakesDisposition disposition walk echoes) old.session run.0 tt run.1).counts
  step-same (said.Detach detach) step old new (result, is) other w =
      one-same (IsDetach detach)
      (λ s a b i stepped.
      detach-same i.handle detach i.told a b (subst (λ (x : Act R A T D). Step gives a x b) i.is stepped))
      w.steps old.session new.session
      (subst (λ (x : AskingAct R A T D). IsDoneBy x w.steps) is w.are) w.run

  heard-same : (it : LinkPerformative) (steps : List (AskingAct R A T D)) (old new : AskingSession R)
      → AreHearing it steps → ((flow : Flow) → it ≢ said.Flow flow) → AskingHistory gives old steps new
      → Same old.session new.session
  heard-same it [] old new are other same = ap (λ (t : AskingSession R). counted t.session.outgoing) same
  heard-same it (step ∷ []) old new are other (mid, stepped, same) =
      ap (λ (t : AskingSession R). counted t.session.outgoing) same
      ∙ step-same it step old mid are other (step-within gives step old mid stepped)
  heard-same it (step ∷ next ∷ steps) old new are other h = absurd are

  abbrev KeepsBy : FrameBody → List SessionFrame → State R → State R → Type 0
  KeepsBy it frames old new = Keeps (counted old.outgoing) (Came it ∷ went frames) (counted new.outgoing)

  flow-taken : (flow : Flow) (frames : List SessionFrame) (answer : Result ⊤ SessionError) (old new : State R)
      → FlowTaken gives old [] flow answer new frames → KeepsBy (body.Flow flow) frames old new
  flow-taken flow frames answer old new f =
      subst (λ (fs : List SessionFrame). KeepsBy (body.Flow flow) fs old new) (sym f.added)
      (flow-keeps gives flow f.told f.reply f.base f.left f.frames old new f.stepped)

  flow-in : (attached : Bool) (flow : Flow) (frames : List SessionFrame) (answer : Result ⊤ SessionError)
      (old new : State R) → answer ≢ Err Memory → FlowInSession gives attached old [] flow answer new frames
      → KeepsBy (body.Flow flow) frames old new
  flow-in false flow frames answer old new fault f =
      subst (λ (fs : List SessionFrame). KeepsBy (body.Flow flow) fs old new) (sym f.same)
      (set-keeps gives flow f.base old new f.stepped)
  flow-in true flow frames (Ok done) old new fault f = flow-taken flow frames _ old new f
  flow-in true flow frames (Err Memory) old new fault f = absurd (fault refl)
  flow-in true flow frames (Err UnattachedHandle) old new fault f = flow-taken flow frames _ old new f
  flow-in true flow frames (Err HandleInUse) old new fault f = flow-taken flow frames _ old new f
  flow-in true flow frames (Err RemoteAttachingLinkNameNotFound) old new fault f = flow-taken flow frames _ old new f
  flow-in true flow frames (Err IllegalState) old new fault f = flow-taken flow frames _ old new f
  flow-in true flow frames (Err ConnectionStopped) old new fault f = flow-taken flow frames _ old new f
  flow-in true flow frames (Err TransferFrameToSender) old new fault f = flow-taken flow frames _ old new f
  flow-in true flow frames (Err RemoteEnded) old new fault f = flow-taken flow frames _ old new f
  flow-in true flow frames (Err (RemoteEndedWithError e)) old new fault f = flow-taken flow frames _ old new f
  flow-in true flow frames (Err NumberInUse) old new fault f = flow-taken flow frames _ old new f
  flow-in true flow frames (Err HandleMaxReached) old new fault f = flow-taken flow frames _ old new f

  flow-at : (asked : Bool) (flow : Flow) (frames : List SessionFrame) (answer : Result ⊤ SessionError)
      (old new : AskingSession R) → answer ≢ Err Memory → FlowAt gives asked old [] flow answer new frames
      → KeepsBy (body.Flow flow) frames old.session new.session
  flow-at false flow frames answer old new fault f =
      flow-in (leads old.session flow.handle) flow frames answer old.session new.session fault f.0
  flow-at true flow frames (Ok done) old new fault f =
      let k : KeepsBy (body.Flow (session_part flow)) frames old.session new.session =
      flow-taken (session_part flow) frames _ old.session new.session f.0 in
      record { each = k.each; counts = k.counts }
  flow-at true flow frames (Err e) old new fault f = absurd (fault (ap Err f.0))

  same-keeps : (it : FrameBody) (frames : List SessionFrame) (old new : State R)
      → Keeps (counted old.outgoing) (Came it ∷ []) (counted old.outgoing) → frames ≡ [] → Same old new
      → KeepsBy it frames old new
  same-keeps it frames old new k none same =
      subst (λ (fs : List SessionFrame). KeepsBy it fs old new) (sym none)
      (record { each = k.each; counts = k.counts ∙ sym same })

  -- what is heard, where it isn't refused for want of memory
  pub hears-keep : (it : LinkPerformative) (told : Result (PerformativeTaken A T D) SessionError)
      (frames : List SessionFrame) (old new : AskingSession R) → told ≢ Err Memory
      → Hears gives old [] it told new frames → KeepsBy (body_said it) frames old.session new.session
  hears-keep (said.Flow flow) (Ok taken.Flow) frames old new fault h =
      flow-at (is_asked old.asked flow.handle) flow frames (Ok tt) old new (λ e. let clash = e in absurd cc) h
  hears-keep (said.Flow flow) (Ok (taken.Attach it)) frames old new fault h = absurd h
  hears-keep (said.Flow flow) (Ok (taken.Transfer it)) frames old new fault h = absurd h
  hears-keep (said.Flow flow) (Ok (taken.Disposition back runs)) frames old new fault h = absurd h
  hears-keep (said.Flow flow) (Ok (taken.Detach it)) frames old new fault h = absurd h
  hears-keep (said.Flow flow) (Err e) frames old new fault h =
      flow-at (is_asked old.asked flow.handle) flow frames (Err e) old new
      (λ (is : Err e ≡ Err Memory). fault (let x : e ≡ Memory = cc in ap Err x)) h
  hears-keep (said.Attach attach named) told frames old new fault h =
      let (steps, are, history) = heard gives old new [] frames (said.Attach attach named) told h in
      same-keeps _ frames old.session new.session (record { each = tt; counts = refl }) h.1
      (heard-same (said.Attach attach named) steps old new are (λ flow e. let clash = e in absurd cc) history)
  hears-keep (said.Transfer transfer payload) told frames old new fault h =
      let (steps, are, history) = heard gives old new [] frames (said.Transfer transfer payload) told h in
      same-keeps _ frames old.session new.session (record { each = tt; counts = refl }) h.1
      (heard-same (said.Transfer transfer payload) steps old new are (λ flow e. let clash = e in absurd cc) history)
  hears-keep (said.Disposition disposition) told frames old new fault h =
      let (steps, are, history) = heard gives old new [] frames (said.Disposition disposition) told h in
      same-keeps _ frames old.session new.session (record { each = tt; counts = refl }) h.1
      (heard-same (said.Disposition disposition) steps old new are (λ flow e. let clash = e in absurd cc) history)
  hears-keep (said.Detach detach) told frames old new fault h =
      let (steps, are, history) = heard gives old new [] frames (said.Detach detach) told h in
      same-keeps _ frames old.session new.session (record { each = tt; counts = refl }) h.1
      (heard-same (said.Detach detach) steps old new are (λ flow e. let clash = e in absurd cc) history)
