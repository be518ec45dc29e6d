-- Routes last from a Begin to an End.
use Rattle.std.proofs.Common.{◌≡◌, ℕ, List, [], ◌∷◌, ◌++◌, Option, Some, None, Ok, Err, sym, ap, ◌∙◌}
use Rattle.std.specs.FinMap as map
use Rattle.amqp_session_types.specs.declared.channels.IncomingChannel.{IncomingChannel}
use Rattle.amqp_session_types.specs.declared.refusals.ConnectionError.{ConnectionError}
use Rattle.amqp_session_types.specs.declared.refusals.ConnectionError.TheVariants.{NotFound}
use Rattle.amqp_session_performatives.specs.declared.open.Open.{Open}
use Rattle.amqp_session_performatives.specs.declared.end.End.{End}
use Rattle.amqp_session_frames.specs.declared.state.ConnectionState.{ConnectionState}
use Rattle.amqp_session_frames.specs.State.{State, fresh}
use Rattle.amqp_session_frames.specs.Steps.{Act, Step, History, DeallocateSession, SetsStopReason, SendsHeader}
use Rattle.amqp_session_frames.specs.Steps.{TakesHeader, SendsOpen, TakesOpen, SendsClose, TakesClose, SendsBegin}
use Rattle.amqp_session_frames.specs.Steps.{SendsEnd, AllocatesSession, DeallocatesSession, TakesBegin}
use Rattle.amqp_session_frames.specs.Steps.{AcceptsRoute, TakesEnd, FindsSession}
use Rattle.amqp_session_frames.specs.Told.{rerouted, routed}
use Rattle.amqp_session_frames.proofs.Histories.{last_step}
use Rattle.amqp_session_types.proofs.Tables.{get-put, get-take}
use Rattle.amqp_session_frames.proofs.Tables.{get-none}

module _ (q : ℕ) where
  abbrev at : State → Option ℕ
  at s = map.get s.routes q

  deallocated : (old new : State) (channel : ℕ) (session : Option ℕ) → DeallocateSession old channel session new → at new ≡ at old
  deallocated old new channel None s = ap at s
  deallocated old new channel (Some session) s = ap at s

  step_routes : (step : Act) (old new : State) → Step old step new → at new ≡ rerouted q step (at old)
  step_routes (SetsStopReason given) old new s = ap at s
  step_routes (SendsHeader (Err e)) old new s = ap at s.2
  step_routes (SendsHeader (Ok x)) old new s = ap at s.1
  step_routes (TakesHeader (Err e)) old new s = ap at s.2
  step_routes (TakesHeader (Ok x)) old new s = ap at s.1
  step_routes (SendsOpen (Err e)) old new s = ap at s.1
  step_routes (SendsOpen (Ok frame)) old new s = ap at s.2
  step_routes (TakesOpen channel opening (Err e)) old new s = ap at s.2
  step_routes (TakesOpen channel opening (Ok x)) old new s = ap at s.1
  step_routes (SendsClose error (Err e)) old new s = ap at s.2
  step_routes (SendsClose error (Ok frame)) old new s = ap at s.2
  step_routes (TakesClose channel closing (Err e)) old new s = ap at s.2
  step_routes (TakesClose channel closing (Ok x)) old new s = ap at s.1
  step_routes (SendsBegin channel beginning frame) old new s = ap at s.1
  step_routes (SendsEnd channel ending frame) old new s = ap at s.1
  step_routes (AllocatesSession session (Err e)) old new s = ap at s.1
  step_routes (AllocatesSession session (Ok channel)) old new s = ap at s.4
  step_routes (DeallocatesSession channel) old new s = deallocated old new channel.0 (map.get old.live channel.0) s
  step_routes (TakesBegin channel beginning (Err e)) old new s = ap at s.1
  step_routes (TakesBegin channel beginning (Ok session)) old new s = ap at s.1 ∙ get-put old.routes channel.0 q session
  step_routes (AcceptsRoute channel session (Err e)) old new s = ap at s
  step_routes (AcceptsRoute channel session (Ok x)) old new s = ap at s ∙ get-put old.routes channel.0 q session
  step_routes (TakesEnd channel ending (Err e)) old new s = ap at s.2
  step_routes (TakesEnd channel ending (Ok session)) old new s = ap at s.1 ∙ get-take old.routes channel.0 q
  step_routes (FindsSession channel answer) old new s = ap at s.1

  history_routes : (steps : List Act) (start end : State) → History start steps end → at end ≡ routed q (at start) steps
  history_routes [] start end run = ap at run
  history_routes (step ∷ steps) start end run =
      history_routes steps run.0 end run.2 ∙ ap (λ (o : Option ℕ). routed q o steps) (step_routes step start run.0 run.1)

  from_fresh : (state : ConnectionState) (opening : Open) (steps : List Act) (end : State)
      → History (fresh state opening) steps end → at end ≡ routed q None steps
  from_fresh state opening steps end run = history_routes steps (fresh state opening) end run ∙ ap (λ (o : Option ℕ). routed q o steps) (get-none q)

module _ (state : ConnectionState) (opening : Open) (end : State) (steps : List Act) (channel : IncomingChannel) where
  pub found : (answer : Option ℕ) → History (fresh state opening) (steps ++ FindsSession channel answer ∷ []) end → answer ≡ routed channel.0 None steps
  found answer run =
      let l = last_step steps (FindsSession channel answer) (fresh state opening) end run in
      l.last.0 ∙ from_fresh channel.0 state opening steps l.mid l.before

  pub ended : (ending : End) (session : ℕ) → History (fresh state opening) (steps ++ TakesEnd channel ending (Ok session) ∷ []) end → routed channel.0 None steps ≡ Some session
  ended ending session run =
      let l = last_step steps (TakesEnd channel ending (Ok session)) (fresh state opening) end run in
      sym (from_fresh channel.0 state opening steps l.mid l.before) ∙ l.last.0

  pub not_ended : (ending : End) (e : ConnectionError) → History (fresh state opening) (steps ++ TakesEnd channel ending (Err e) ∷ []) end → (e ≡ NotFound) × (routed channel.0 None steps ≡ None)
  not_ended ending e run =
      let l = last_step steps (TakesEnd channel ending (Err e)) (fresh state opening) end run in
      (l.last.0, sym (from_fresh channel.0 state opening steps l.mid l.before) ∙ l.last.1)
