-- What every call keeps.
use Rattle.std.proofs.Common.{◌≡◌, ◌<◌, arith, ℕ, List, [], ◌∷◌, refl, sym, ◌∙◌, ap, subst, Option, Some, None, inl, inr}
use Rattle.amqp_endpoint_model.specs.declared.error.EndpointError.{EndpointError}
use Rattle.amqp_endpoint_model.specs.declared.event.Event.{Event}
use Rattle.amqp_endpoint_model.specs.declared.phase.Phase.{Phase}
use Rattle.amqp_endpoint_model.specs.declared.phase.Phase.TheVariants.{Unconnected, Greeting, Running, Over}
use Rattle.amqp_endpoint_model.specs.declared.settings.Settings.{Settings}
use Rattle.amqp_endpoint_model.specs.declared.call.Call.{Call}
use Rattle.amqp_endpoint_model.specs.declared.call.Call.TheVariants.{Connect, Feed, Pull, Queued, IsIdle, Heartbeat}
use Rattle.amqp_endpoint_model.specs.declared.call.Call.TheVariants.{BreakOff, Close as CloseCall, IsClosed, TryClose}
use Rattle.amqp_endpoint_model.specs.declared.call.Call.TheVariants.{Begin, AcceptBegin, End, IsEnded, TryEnd}
use Rattle.amqp_endpoint_model.specs.declared.call.Call.TheVariants.{AttachSender, AttachReceiver, Detach, CloseLink}
use Rattle.amqp_endpoint_model.specs.declared.call.Call.TheVariants.{Grant, Drain, Credit, HeldBack}
use Rattle.amqp_endpoint_model.specs.declared.call.Call.TheVariants.{Waiting as WaitingCall}
use Rattle.amqp_endpoint_model.specs.declared.call.Call.TheVariants.{Resume, Send, Dispose, DisposeAll}
use Rattle.amqp_endpoint_model.specs.Relay.{Relations}
use Rattle.amqp_endpoint_model.specs.Said.{Said, done, refused, fed, pulled, count, truth, tried_close, session_begun}
use Rattle.amqp_endpoint_model.specs.Said.{tried_end, attaching, link_closed, credit_is, waiting, message_sent, Told}
use Rattle.amqp_endpoint_model.specs.State.{State, fresh}
use Rattle.amqp_endpoint_model.specs.Step.{AfterFault, EndsRunning, Ends, ReadsOn, FeedsIn, condition_of, opened, Step}
use Rattle.amqp_endpoint_model.specs.History.{Run, Summary, nothing, note, summary, Pieces}
use Rattle.amqp_endpoint_model.proofs.Takings.{same_settings}
use Rattle.amqp_endpoint_model.proofs.PieceLaws.{StandsAt, greeting_broken, stands-pieces, step-stands, unopened-judged}

module _ {S : Type 0} (does : Relations S) where
  fault-settings : (condition : Option (List ℕ)) (s new : State S) → AfterFault does condition s new
      → new.settings ≡ s.settings
  fault-settings None s new (finishes, after) = ap (λ x. x.settings) after
  fault-settings (Some condition) s new (closes, after) = ap (λ x. x.settings) after

  running-settings : (mid : State S) (left : List ℕ) (fault : Option EndpointError) (new : State S)
      → EndsRunning does mid left fault new → new.settings ≡ mid.settings
  running-settings mid left None new (waits, after) = ap (λ s. s.settings) after
  running-settings mid left (Some e) new r =
      fault-settings (condition_of e) (record mid { sessions = r.sessions }) new r.after

  ends-settings : (p : Phase) (mid : State S) (left : List ℕ) (fault : Option EndpointError) (new : State S)
      → Ends does mid p left fault new → new.settings ≡ mid.settings
  ends-settings Running mid left fault new e = running-settings mid left fault new e
  ends-settings Over mid left None new e = ap (λ s. s.settings) e
  ends-settings Over mid left (Some f) new e = absurd e
  ends-settings p mid left fault new e = absurd e

  reads_on-settings : (old : State S) (bytes : List ℕ) (es : List Event) (fault : Option EndpointError) (new : State S)
      → ReadsOn does old bytes es fault new → new.settings ≡ old.settings
  reads_on-settings old bytes es fault new r =
      ends-settings r.mid.phase r.mid r.left fault new r.ends
      ∙ same_settings does (record old { rest = [] }) r.frames es r.mid r.taken

  feed-settings : (p : Phase) (old : State S) (bytes : List ℕ) (es : List Event) (fault : Option EndpointError)
      (new : State S) → FeedsIn does p old bytes es fault new → new.settings ≡ old.settings
  feed-settings Unconnected old bytes es fault new (none, is, after) = ap (λ s. s.settings) after
  feed-settings Greeting old bytes es fault new (inl (short, none, clean, after)) = ap (λ s. s.settings) after
  feed-settings Greeting old bytes es fault new (inr (inl (long, other, none, is, breaks))) =
      ap (λ s. s.settings) breaks.1
  feed-settings Greeting old bytes es fault new (inr (inr (inl (header, r)))) =
      reads_on-settings (opened does old) _ es fault new r
  feed-settings Greeting old bytes es fault new (inr (inr (inr (none, memory, breaks)))) =
      ap (λ s. s.settings) (greeting_broken does old new breaks)
  feed-settings Running old bytes es fault new r = reads_on-settings old _ es fault new r
  feed-settings Over old bytes es fault new (none, is, after) = ap (λ s. s.settings) after

  pub step-settings : (old : State S) (call : Call) (answer : Said) (new : State S) → Step does old call answer new
      → new.settings ≡ old.settings
  step-settings old call (refused e) new (may, same) = ap (λ s. s.settings) same
  step-settings old (Feed bytes) (fed es fault) new step = feed-settings old.phase old bytes es fault new step
  step-settings old Connect done new (none, after) = ap (λ s. s.settings) after
  step-settings old Pull (pulled None) new (empty, same) = ap (λ s. s.settings) same
  step-settings old Pull (pulled (Some bytes)) new (first, others, is, text, after) = ap (λ s. s.settings) after
  step-settings old Queued (count n) new (is, same) = ap (λ s. s.settings) same
  step-settings old IsIdle (truth b) new (is, same) = ap (λ s. s.settings) same
  step-settings old Heartbeat done new (none, after) = ap (λ s. s.settings) after
  step-settings old BreakOff done new breaks = ap (λ s. s.settings) breaks.1
  step-settings old CloseCall done new (none, closes, after) = ap (λ s. s.settings) after
  step-settings old IsClosed (truth b) new (is, same) = ap (λ s. s.settings) same
  step-settings old TryClose (tried_close o) new (is, after) = ap (λ s. s.settings) after
  step-settings old Begin (session_begun number) new step = ap (λ s. s.settings) step.queued
  step-settings old (AcceptBegin channel) (session_begun number) new step = ap (λ s. s.settings) step.queued
  step-settings old (End number) done new step = ap (λ s. s.settings) step.queued
  step-settings old (IsEnded number) (truth b) new step = ap (λ s. s.settings) step.same
  step-settings old (TryEnd number) (tried_end o) new step = ap (λ s. s.settings) step.queued
  step-settings old (AttachSender session settings) (attaching link events) new step = ap (λ s. s.settings) step.queued
  step-settings old (AttachReceiver session settings) (attaching link events) new step =
      ap (λ s. s.settings) step.queued
  step-settings old (Resume link session) (attaching number events) new step =
      ap (λ s. s.settings) step.queued
  step-settings old (Detach link) done new step = ap (λ s. s.settings) step.queued
  step-settings old (CloseLink link) (link_closed events) new step = ap (λ s. s.settings) step.queued
  step-settings old (Grant link credit) (credit_is left) new step = ap (λ s. s.settings) step.queued
  step-settings old (Drain link) done new step = ap (λ s. s.settings) step.queued
  step-settings old (Send link message) (message_sent tag outcome) new step = ap (λ s. s.settings) step.queued
  step-settings old (Dispose link message disposal) done new step = ap (λ s. s.settings) step.queued
  step-settings old (DisposeAll link messages disposal) done new step = ap (λ s. s.settings) step.queued
  step-settings old (Credit link) (credit_is left) new step = ap (λ s. s.settings) step.same
  step-settings old (HeldBack session) (count n) new step = ap (λ s. s.settings) step.same
  step-settings old (WaitingCall session) (waiting turn) new step = ap (λ s. s.settings) step.same
  step-settings old call answer new step = absurd step

  run-stands : (limit : ℕ) (σ : Summary) (old : State S) (calls : List Call) (ts : List Told) (new : State S)
      → old.settings.max_frame_size ≡ limit → StandsAt does limit σ old → Run does old calls ts new
      → StandsAt does limit (summary σ calls ts) new
  run-stands limit σ old [] [] new l h same =
      let P : State S → Type 0 = λ s. StandsAt does limit σ s in
      subst P (sym same) h
  run-stands limit σ old [] (t ∷ ts) new l h run = absurd run
  run-stands limit σ old (call ∷ calls) [] new l h run = absurd run
  run-stands limit σ old (call ∷ calls) (t ∷ ts) new l h (mid, one, queued, rest) =
      let kept : mid.settings ≡ old.settings = step-settings old call t.answer mid one in
      run-stands limit (note σ call t.answer) mid calls ts new (ap (λ s. s.max_frame_size) kept ∙ l)
      (step-stands does limit σ old call t.answer mid l h one) rest

  pub fresh-stands : (s : Settings) (sessions : S) → StandsAt does s.max_frame_size nothing (fresh s sessions)
  fresh-stands s sessions =
      (inl (let short : 0 < 8 = omega arith in short, refl, refl), unopened-judged None nothing refl)

  -- all bytes fed are frames one behind the other
  pub pieces : (sessions : S) (s : Settings) (calls : List Call) (ts : List Told) (end : State S)
      → Run does (fresh s sessions) calls ts end → Pieces does s.max_frame_size (summary nothing calls ts)
  pieces sessions s calls ts end run =
      let start : State S = fresh s sessions in
      stands-pieces does end.phase s.max_frame_size end.rest end.peer_limit (summary nothing calls ts)
      (run-stands s.max_frame_size nothing start calls ts end refl (fresh-stands s sessions) run)
