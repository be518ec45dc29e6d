-- Laws of calls that sessions answer.
use Rattle.std.proofs.Common.{◌≡◌, arith, ℕ, false, List, [], ◌++◌, length, None, refl, sym, ◌∙◌, ap, subst, append_assoc, append-nil}
use Rattle.std.proofs.lemmas.List.{length-append, nil_from_length}
use Rattle.amqp_session_performatives.specs.declared.session_frame.SessionFrame.{SessionFrame}
use Rattle.amqp_endpoint_model.specs.declared.call.Call.{Call}
use Rattle.amqp_endpoint_model.specs.Relay.{Called, Relations}
use Rattle.amqp_endpoint_model.specs.Said.{Said}
use Rattle.amqp_endpoint_model.specs.State.{State, Waiting, is_running, limit_of}
use Rattle.amqp_endpoint_model.specs.Step.{SessionsAnswer, SessionsDo, refusal}
use Rattle.amqp_endpoint_core.specs.Queue.{AllWithin, frames_waiting}
use Rattle.amqp_endpoint_core.proofs.QueueLaws.{frames_waiting-append, within-same, within-sent}
use Rattle.amqp_endpoint_core.proofs.SessionLaws.{fit_at}

-- where nothing came behind them, there was nothing
none_sent : (out frames : List SessionFrame) → out ≡ out ++ frames → frames ≡ []
none_sent out frames is =
    nil_from_length frames
    (omega (arith, ap (λ (l : List SessionFrame). length l) is, length-append out frames))

module _ {S : Type 0} (does : Relations S) (old : State S) where
  -- sessions do what they are called for, and what they send waits behind what waited
  pub called : (limit : ℕ) (call : Call) (answer : Said) (queue : List Waiting) (out out_new : List SessionFrame)
      (s new : S) (behind : State S) → s ≡ old.sessions → limit ≡ limit_of old.peer_limit
      → queue ++ frames_waiting out ≡ old.queue → refusal old call ≡ None
      → (is_running old.phase ≡ false → out_new ≡ out) → Called does s limit call answer out new out_new
      → behind ≡ record old { sessions = new; queue = queue ++ frames_waiting out_new }
      → SessionsDo does old call answer behind
  called limit call answer queue out out_new s new behind s_is limit_is queue_is allowed quiet t is =
      let P : State S → Type 0 = λ x. SessionsDo does old call answer x in
      let T : S → Type 0 = λ x. does.calls x limit call answer t.frames new in
      let L : ℕ → Type 0 = λ n. does.calls old.sessions n call answer t.frames new in
      let whole : queue ++ frames_waiting out_new ≡ old.queue ++ frames_waiting t.frames =
      ap (λ (o : List SessionFrame). queue ++ frames_waiting o) t.queued
      ∙ ap (λ (ws : List Waiting). queue ++ ws) (frames_waiting-append out t.frames)
      ∙ sym (append_assoc queue (frames_waiting out) (frames_waiting t.frames))
      ∙ ap (λ (ws : List Waiting). ws ++ frames_waiting t.frames) queue_is in
      let done : SessionsDo does old call answer
      (record old { sessions = new; queue = queue ++ frames_waiting out_new })
      =
      record {
        allowed = allowed;
        frames = t.frames;
        quiet = λ outside. none_sent out t.frames (sym (quiet outside) ∙ t.queued);
        calls = subst L limit_is (subst T s_is t.calls);
        fit = fit_at limit (limit_of old.peer_limit) t.frames limit_is t.fit;
        queued = ap (λ (ws : List Waiting). record old { sessions = new; queue = ws }) whole;
      } in
      subst P (sym is) done

  -- sessions answer, and send nothing
  pub answered : (call : Call) (answer : Said) (s new : S) (behind : State S) → refusal old call ≡ None
      → s ≡ old.sessions
      → ((limit : ℕ) → does.calls s limit call answer [] new) → behind ≡ record old { sessions = new }
      → SessionsDo does old call answer behind
  answered call answer s new behind allowed s_is calls is =
      let P : State S → Type 0 = λ x. SessionsDo does old call answer x in
      let T : S → Type 0 = λ x. does.calls x (limit_of old.peer_limit) call answer [] new in
      let done : SessionsDo does old call answer (record old { sessions = new }) =
      record {
        allowed = allowed;
        frames = [];
        quiet = λ out. refl;
        calls = subst T s_is (calls (limit_of old.peer_limit));
        fit = λ k d lt. absurd (omega (arith, lt));
        queued = ap (λ (ws : List Waiting). record old { sessions = new; queue = ws }) (sym (append-nil old.queue));
      } in
      subst P (sym is) done

  -- sessions answer, and nothing changes
  pub asked : (call : Call) (answer : Said) (s : S) → refusal old call ≡ None → s ≡ old.sessions
      → ((limit : ℕ) → does.calls s limit call answer [] s) → SessionsAnswer does old call answer old
  asked call answer s allowed s_is calls =
      let T : S → Type 0 = λ x. does.calls x (limit_of old.peer_limit) call answer [] x in
      record { allowed = allowed; calls = subst T s_is (calls (limit_of old.peer_limit)); same = refl }

-- what they send then is within the limit, as what waited is
pub queue_called : {S : Type 0} (does : Relations S) (limit told : ℕ) (call : Call) (answer : Said)
    (queue : List Waiting) (out out_new : List SessionFrame) (s new : S) → told ≡ limit
    → Called does s told call answer out new out_new → AllWithin limit (queue ++ frames_waiting out)
    → AllWithin limit (queue ++ frames_waiting out_new)
queue_called does limit told call answer queue out out_new s new is t within =
    within-same limit _ _ (ap (λ (o : List SessionFrame). queue ++ frames_waiting o) t.queued)
    (within-sent limit queue out t.frames within (fit_at told limit t.frames is t.fit))
