-- Want of memory aside, a call's answer and what it leads to are decided by the state.
use Rattle.std.proofs.Common.{◌≡◌, ◌≢◌, ℕ, true, List, [], ◌∷◌, ◌++◌, length, drop, refl, sym, ◌∙◌, ap, append-nil}
use Rattle.std.proofs.Common.{arith, subst, Option, Some, None, inl, inr}
use Rattle.std.specs.Prelude.{◌&&◌, ◌||◌, ◌==◌, is_none}
use Rattle.amqp_session_types.specs.declared.refusals.TryCloseError.{TryCloseError}
use Rattle.amqp_endpoint_model.specs.declared.error.EndpointError.{EndpointError}
use Rattle.amqp_endpoint_model.specs.declared.error.EndpointError.TheVariants.{Memory}
use Rattle.amqp_endpoint_model.specs.declared.event.Event.{Event}
use Rattle.amqp_endpoint_model.specs.declared.phase.Phase.{Phase}
use Rattle.amqp_endpoint_model.specs.declared.phase.Phase.TheVariants.{Unconnected, Greeting, Running, Over}
use Rattle.amqp_endpoint_model.specs.declared.call.Call.{Call}
use Rattle.amqp_endpoint_model.specs.declared.call.Call.TheVariants.{Connect, Feed, Pull, Queued, IsIdle, Heartbeat}
use Rattle.amqp_endpoint_model.specs.declared.call.Call.TheVariants.{BreakOff, Close as CloseCall, IsClosed, TryClose}
use Rattle.amqp_endpoint_model.specs.declared.call.Call.TheVariants.{Begin, AcceptBegin, End, IsEnded, TryEnd}
use Rattle.amqp_endpoint_model.specs.declared.call.Call.TheVariants.{AttachSender, AttachReceiver, Detach, CloseLink}
use Rattle.amqp_endpoint_model.specs.declared.call.Call.TheVariants.{Grant, Drain, Credit, HeldBack}
use Rattle.amqp_endpoint_model.specs.declared.call.Call.TheVariants.{Waiting as WaitingCall}
use Rattle.amqp_endpoint_model.specs.declared.call.Call.TheVariants.{Resume, Send, Dispose, DisposeAll}
use Rattle.amqp_endpoint_model.specs.Said.{Said, done, refused, fed, pulled, count, truth, tried_close, session_begun}
use Rattle.amqp_endpoint_model.specs.Said.{tried_end, attaching, link_closed, credit_is, waiting, message_sent, Told}
use Rattle.amqp_endpoint_model.specs.Relay.{Relations, Decides}
use Rattle.amqp_endpoint_model.specs.State.{State, Waiting, the_frame, text_of, heartbeat, own_close_with, limit_of}
use Rattle.amqp_endpoint_model.specs.Step.{refusal, MayRefuse, Breaks, ClosesOwn, connected, opened, close_refusal}
use Rattle.amqp_endpoint_model.specs.Step.{Greets, FeedsIn, Pulls, SessionsAnswer, SessionsDo, SessionsRefuseCall, Step}
use Rattle.amqp_endpoint_model.specs.History.{Run, HasMemory, AllHaveMemory, feeds_joined, told_joined}
use Rattle.amqp_endpoint_model.proofs.Joins.{header_long}
use Rattle.amqp_endpoint_model.proofs.Moves.{breaks-unique, closes_own-unique, sent-same}
use Rattle.amqp_endpoint_model.proofs.Recuts.{FeedSaid, feed_said, has_memory, Joined, joined-run}
use Rattle.amqp_endpoint_model.proofs.Endings.{SameRead, reads_on-unique}

-- what a call answers and leads to where it may be refused
abbrev answer_or : Option EndpointError → Said → Said
answer_or (Some e) answer = refused e
answer_or None answer = answer

abbrev state_or : {S : Type 0} → Option EndpointError → State S → State S → State S
state_or (Some e) old new = old
state_or None old new = new

pub record Decided {S : Type 0} (answer given : Said) (state reached : State S) : Type 0 where
  pub answer_is : answer ≡ given
  pub state_is : state ≡ reached

abbrev first_text : List Waiting → Option (List ℕ)
first_text [] = None
first_text (w ∷ ws) = Some (text_of w)

abbrev others_behind : List Waiting → List Waiting
others_behind [] = []
others_behind (w ∷ ws) = ws

-- the calls whose answer is said by the state alone
abbrev IsPlain : Call → Type 0
IsPlain (Feed bytes) = ⊥
IsPlain BreakOff = ⊥
IsPlain CloseCall = ⊥
IsPlain Begin = ⊥
IsPlain (AcceptBegin channel) = ⊥
IsPlain (End number) = ⊥
IsPlain (IsEnded number) = ⊥
IsPlain (TryEnd number) = ⊥
IsPlain (AttachSender session settings) = ⊥
IsPlain (AttachReceiver session settings) = ⊥
IsPlain (Resume link session) = ⊥
IsPlain (Detach link) = ⊥
IsPlain (CloseLink link) = ⊥
IsPlain (Grant link credit) = ⊥
IsPlain (Drain link) = ⊥
IsPlain (Send link message) = ⊥
IsPlain (Dispose link message disposal) = ⊥
IsPlain (DisposeAll link messages disposal) = ⊥
IsPlain (Credit link) = ⊥
IsPlain (HeldBack session) = ⊥
IsPlain (WaitingCall session) = ⊥
IsPlain call = Unit {0}

module _ {S : Type 0} where
  no_refusal : (s : State S) (call : Call) (e : EndpointError) → refusal s call ≡ None → MayRefuse s call e → e ≢ Memory
      → ⊥
  no_refusal s call e none (inl is) n = cc
  no_refusal s call e none (inr (none2, memory, grows)) n = n memory

  refused-decided : (s : State S) (call : Call) (e : EndpointError) (given : Said) (m reached : State S)
      → MayRefuse s call e → m ≡ s → e ≢ Memory
      → Decided (refused e) (answer_or (refusal s call) given) m (state_or (refusal s call) s reached)
  refused-decided s call e given m reached (inl is) same n = record {
    answer_is = ap (λ o. answer_or o given) (sym is);
    state_is = same ∙ ap (λ o. state_or o s reached) (sym is);
  }
  refused-decided s call e given m reached (inr (none, memory, grows)) same n = absurd (n memory)

  done-decided : (s : State S) (call : Call) (given : Said) (m reached : State S) → refusal s call ≡ None → m ≡ reached
      → Decided given (answer_or (refusal s call) given) m (state_or (refusal s call) s reached)
  done-decided s call given m reached none after = record {
    answer_is = ap (λ o. answer_or o given) (sym none);
    state_is = after ∙ ap (λ o. state_or o s reached) (sym none);
  }

  pulls-decided : (s : State S) (o : Option (List ℕ)) (m : State S) → Pulls s o m
      → Decided (pulled o) (pulled (first_text s.queue)) m (record s { queue = others_behind s.queue })
  pulls-decided s None m (empty, same) = record {
    answer_is = ap (λ q. pulled (first_text q)) (sym empty);
    state_is = same ∙ ap (λ q. record s { queue = q }) (empty ∙ ap others_behind (sym empty));
  }
  pulls-decided s (Some bytes) m (first, others, is, text, after) = record {
    answer_is = ap (λ b. pulled (Some b)) text ∙ ap (λ q. pulled (first_text q)) (sym is);
    state_is = after ∙ ap (λ q. record s { queue = others_behind q }) (sym is);
  }

  abbrev beaten : State S → State S
  beaten s = record s { queue = s.queue ++ the_frame heartbeat ∷ [] }

  abbrev told : State S → Option TryCloseError → State S
  told s o = record s { close_told = s.close_told || is_none o }

  -- the own Close is queued
  abbrev closing : State S → S → State S
  closing s sessions = record s {
    own_close = true;
    queue = s.queue ++ the_frame (own_close_with None) ∷ [];
    sessions = sessions;
  }

module _ {S : Type 0} (does : Relations S) where
  -- the answer of a plain call, and the state behind it
  abbrev answer_of : State S → Call → Said
  answer_of s Connect = answer_or (refusal s Connect) done
  answer_of s Pull = pulled (first_text s.queue)
  answer_of s Queued = count (length s.queue)
  answer_of s IsIdle = truth (length s.queue == 0)
  answer_of s Heartbeat = answer_or (refusal s Heartbeat) done
  answer_of s IsClosed = truth (s.own_close && s.peer_close)
  answer_of s TryClose = tried_close (close_refusal s)
  answer_of s call = done

  abbrev state_of : State S → Call → State S
  state_of s Connect = state_or (refusal s Connect) s (connected does s)
  state_of s Pull = record s { queue = others_behind s.queue }
  state_of s Heartbeat = state_or (refusal s Heartbeat) s (beaten s)
  state_of s TryClose = told s (close_refusal s)
  state_of s call = s

  decided : (s : State S) (call : Call) (a : Said) (m : State S) → IsPlain call → Step does s call a m → HasMemory a
      → Decided a (answer_of s call) m (state_of s call)
  decided s (Feed bytes) a m plain step h = absurd plain
  decided s BreakOff a m plain step h = absurd plain
  decided s CloseCall a m plain step h = absurd plain
  decided s Begin a m plain step h = absurd plain
  decided s (AcceptBegin channel) a m plain step h = absurd plain
  decided s (End number) a m plain step h = absurd plain
  decided s (IsEnded number) a m plain step h = absurd plain
  decided s (TryEnd number) a m plain step h = absurd plain
  decided s (AttachSender session settings) a m plain step h = absurd plain
  decided s (AttachReceiver session settings) a m plain step h = absurd plain
  decided s (Resume link session) a m plain step h = absurd plain
  decided s (Detach link) a m plain step h = absurd plain
  decided s (CloseLink link) a m plain step h = absurd plain
  decided s (Grant link credit) a m plain step h = absurd plain
  decided s (Drain link) a m plain step h = absurd plain
  decided s (Send link message) a m plain step h = absurd plain
  decided s (Dispose link message disposal) a m plain step h = absurd plain
  decided s (DisposeAll link messages disposal) a m plain step h = absurd plain
  decided s (Credit link) a m plain step h = absurd plain
  decided s (HeldBack session) a m plain step h = absurd plain
  decided s (WaitingCall session) a m plain step h = absurd plain
  decided s Connect (refused e) m plain (may, same) h = refused-decided s Connect e done m (connected does s) may same h
  decided s Connect done m plain (none, after) h = done-decided s Connect done m (connected does s) none after
  decided s Heartbeat (refused e) m plain (may, same) h = refused-decided s Heartbeat e done m (beaten s) may same h
  decided s Heartbeat done m plain (none, after) h = done-decided s Heartbeat done m (beaten s) none after
  decided s Pull (refused e) m plain (may, same) h = absurd (no_refusal s Pull e refl may h)
  decided s Pull (pulled o) m plain step h = pulls-decided s o m step
  decided s Queued (refused e) m plain (may, same) h = absurd (no_refusal s Queued e refl may h)
  decided s Queued (count n) m plain (is, same) h = record { answer_is = ap count is; state_is = same }
  decided s IsIdle (refused e) m plain (may, same) h = absurd (no_refusal s IsIdle e refl may h)
  decided s IsIdle (truth b) m plain (is, same) h = record { answer_is = ap truth is; state_is = same }
  decided s IsClosed (refused e) m plain (may, same) h = absurd (no_refusal s IsClosed e refl may h)
  decided s IsClosed (truth b) m plain (is, same) h = record { answer_is = ap truth is; state_is = same }
  decided s TryClose (refused e) m plain (may, same) h = absurd (no_refusal s TryClose e refl may h)
  decided s TryClose (tried_close o) m plain (is, after) h = record {
    answer_is = ap tried_close is;
    state_is = after ∙ ap (λ x. told s x) is;
  }
  decided s call a m plain step h = absurd step

  -- breaking off is never refused
  broken_off : (s : State S) (a : Said) (m : State S) → Step does s BreakOff a m → HasMemory a
      → (a ≡ done) × Breaks does s m
  broken_off s (refused e) m (may, same) h = absurd (no_refusal s BreakOff e refl may h)
  broken_off s done m step h = (refl, step)
  broken_off s a m step h = absurd step

  -- the own Close is refused, or queued
  data CloseSaid (s : State S) (a : Said) (m : State S) : Type 0 where
    no_close : (e : EndpointError) → refusal s CloseCall ≡ Some e → a ≡ refused e → m ≡ s → CloseSaid s a m
    has_closed : refusal s CloseCall ≡ None → a ≡ done → ClosesOwn does s.sessions m.sessions
        → m ≡ closing s m.sessions → CloseSaid s a m

  close_refused : (s : State S) (e : EndpointError) (m : State S) → MayRefuse s CloseCall e → m ≡ s → e ≢ Memory
      → CloseSaid s (refused e) m
  close_refused s e m (inl is) same n = no_close e is refl same
  close_refused s e m (inr (none, memory, grows)) same n = absurd (n memory)

  close_said : (s : State S) (a : Said) (m : State S) → Step does s CloseCall a m → HasMemory a → CloseSaid s a m
  close_said s (refused e) m (may, same) h = close_refused s e m may same h
  close_said s done m (none, closes, after) h = has_closed none refl closes after
  close_said s a m step h = absurd step

  -- a step of a call that the sessions answer
  abbrev TheirStep : State S → Call → Said → State S → Type 0
  TheirStep s Begin a m = Step does s Begin a m
  TheirStep s (AcceptBegin channel) a m = Step does s (AcceptBegin channel) a m
  TheirStep s (End number) a m = Step does s (End number) a m
  TheirStep s (IsEnded number) a m = Step does s (IsEnded number) a m
  TheirStep s (TryEnd number) a m = Step does s (TryEnd number) a m
  TheirStep s (AttachSender session settings) a m = Step does s (AttachSender session settings) a m
  TheirStep s (AttachReceiver session settings) a m = Step does s (AttachReceiver session settings) a m
  TheirStep s (Resume link session) a m = Step does s (Resume link session) a m
  TheirStep s (Detach link) a m = Step does s (Detach link) a m
  TheirStep s (CloseLink link) a m = Step does s (CloseLink link) a m
  TheirStep s (Grant link credit) a m = Step does s (Grant link credit) a m
  TheirStep s (Drain link) a m = Step does s (Drain link) a m
  TheirStep s (Send link message) a m = Step does s (Send link message) a m
  TheirStep s (Dispose link message disposal) a m = Step does s (Dispose link message disposal) a m
  TheirStep s (DisposeAll link messages disposal) a m = Step does s (DisposeAll link messages disposal) a m
  TheirStep s (Credit link) a m = Step does s (Credit link) a m
  TheirStep s (HeldBack session) a m = Step does s (HeldBack session) a m
  TheirStep s (WaitingCall session) a m = Step does s (WaitingCall session) a m
  TheirStep s call a m = ⊥

  -- a call that concerns sessions is refused here, or the sessions refuse it, or do it
  data SessionsSaid (s : State S) (call : Call) (a : Said) (m : State S) : Type 0 where
    not_allowed : (e : EndpointError) → refusal s call ≡ Some e → a ≡ refused e → m ≡ s → SessionsSaid s call a m
    barred : (e : EndpointError) → refusal s call ≡ None → does.bars s.sessions (limit_of s.peer_limit) call e
        → e ≢ Memory → a ≡ refused e → m ≡ s → SessionsSaid s call a m
    called : SessionsDo does s call a m → SessionsSaid s call a m

  refused_said : (s : State S) (call : Call) (e : EndpointError) (m : State S) → SessionsRefuseCall does s call e
      → m ≡ s → e ≢ Memory → SessionsSaid s call (refused e) m
  refused_said s call e m (inl is) same h = not_allowed e is refl same
  refused_said s call e m (inr (none, bars)) same h = barred e none bars h refl same

  -- what they answer is done without a frame
  answer_does : (s : State S) (call : Call) (a : Said) (m : State S) → SessionsAnswer does s call a m
      → SessionsDo does s call a m
  answer_does s call a m answers =
      let P : State S → Type 0 = λ x. SessionsDo does s call a x in
      let did : SessionsDo does s call a s =
      record {
        allowed = answers.allowed;
        frames = [];
        quiet = λ outside. refl;
        calls = answers.calls;
        fit = λ k d lt. absurd (omega (arith, lt));
        queued = ap (λ (ws : List Waiting). record s { queue = ws }) (sym (append-nil s.queue));
      } in
      subst P (sym answers.same) did

  sessions_said : (s : State S) (call : Call) (a : Said) (m : State S) → TheirStep s call a m → HasMemory a
      → SessionsSaid s call a m
  sessions_said s Begin (refused e) m (refuses, same) h = refused_said s Begin e m refuses same h
  sessions_said s Begin (session_begun number) m step h = called step
  sessions_said s (AcceptBegin channel) (refused e) m (refuses, same) h =
      refused_said s (AcceptBegin channel) e m refuses same h
  sessions_said s (AcceptBegin channel) (session_begun number) m step h = called step
  sessions_said s (End number) (refused e) m (refuses, same) h = refused_said s (End number) e m refuses same h
  sessions_said s (End number) done m step h = called step
  sessions_said s (IsEnded number) (refused e) m (may, same) h =
      absurd (no_refusal s (IsEnded number) e refl may h)
  sessions_said s (IsEnded number) (truth b) m step h =
      called (answer_does s (IsEnded number) (truth b) m step)
  sessions_said s (TryEnd number) (refused e) m (may, same) h =
      absurd (no_refusal s (TryEnd number) e refl may h)
  sessions_said s (TryEnd number) (tried_end o) m step h = called step
  sessions_said s (AttachSender session settings) (refused e) m (refuses, same) h =
      refused_said s (AttachSender session settings) e m refuses same h
  sessions_said s (AttachSender session settings) (attaching link events) m step h = called step
  sessions_said s (AttachReceiver session settings) (refused e) m (refuses, same) h =
      refused_said s (AttachReceiver session settings) e m refuses same h
  sessions_said s (AttachReceiver session settings) (attaching link events) m step h = called step
  sessions_said s (Resume link session) (refused e) m (refuses, same) h =
      refused_said s (Resume link session) e m refuses same h
  sessions_said s (Resume link session) (attaching number events) m step h = called step
  sessions_said s (Detach link) (refused e) m (refuses, same) h =
      refused_said s (Detach link) e m refuses same h
  sessions_said s (Detach link) done m step h = called step
  sessions_said s (CloseLink link) (refused e) m (refuses, same) h =
      refused_said s (CloseLink link) e m refuses same h
  sessions_said s (CloseLink link) (link_closed events) m step h = called step
  sessions_said s (Grant link credit) (refused e) m (refuses, same) h =
      refused_said s (Grant link credit) e m refuses same h
  sessions_said s (Grant link credit) (credit_is left) m step h = called step
  sessions_said s (Drain link) (refused e) m (refuses, same) h =
      refused_said s (Drain link) e m refuses same h
  sessions_said s (Drain link) done m step h = called step
  sessions_said s (Send link message) (refused e) m (refuses, same) h =
      refused_said s (Send link message) e m refuses same h
  sessions_said s (Send link message) (message_sent tag outcome) m step h = called step
  sessions_said s (Dispose link message disposal) (refused e) m (refuses, same) h =
      refused_said s (Dispose link message disposal) e m refuses same h
  sessions_said s (Dispose link message disposal) done m step h = called step
  sessions_said s (DisposeAll link messages disposal) (refused e) m (refuses, same) h =
      refused_said s (DisposeAll link messages disposal) e m refuses same h
  sessions_said s (DisposeAll link messages disposal) done m step h = called step
  sessions_said s (Credit link) (refused e) m (refuses, same) h =
      refused_said s (Credit link) e m refuses same h
  sessions_said s (Credit link) (credit_is left) m step h =
      called (answer_does s (Credit link) (credit_is left) m step)
  sessions_said s (HeldBack session) (refused e) m (refuses, same) h =
      refused_said s (HeldBack session) e m refuses same h
  sessions_said s (HeldBack session) (count n) m step h =
      called (answer_does s (HeldBack session) (count n) m step)
  sessions_said s (WaitingCall session) (refused e) m (refuses, same) h =
      refused_said s (WaitingCall session) e m refuses same h
  sessions_said s (WaitingCall session) (waiting turn) m step h =
      called (answer_does s (WaitingCall session) (waiting turn) m step)
  sessions_said s call a m step h = absurd step

module _ {S : Type 0} (does : Relations S) (law : Decides does) where
  greets-unique : (s : State S) (bytes : List ℕ) (es ds : List Event) (f g : Option EndpointError) (a b : State S)
      → f ≢ Some Memory → g ≢ Some Memory → Greets does s bytes es f a → Greets does s bytes ds g b
      → SameRead es ds f g a b
  greets-unique s bytes es ds f g a b n m (inr (inr (inr (none, memory, after)))) t = absurd (n memory)
  greets-unique s bytes es ds f g a b n m r (inr (inr (inr (none, memory, after)))) = absurd (m memory)
  greets-unique s bytes es ds f g a b n m (inl (short, none, well, after)) (inl (short2, none2, well2, after2)) =
      record { events = none ∙ sym none2; fault = well ∙ sym well2; state = after ∙ sym after2 }
  greets-unique s bytes es ds f g a b n m (inl (short, none, well, after))
      (inr (inl (long, other, none2, is, after2))) =
      absurd (omega arith)
  greets-unique s bytes es ds f g a b n m (inl (short, none, well, after)) (inr (inr (inl (header, reads)))) =
      absurd (omega (arith, header_long bytes header))
  greets-unique s bytes es ds f g a b n m (inr (inl (long, other, none2, is, after2)))
      (inl (short, none, well, after)) =
      absurd (omega arith)
  greets-unique s bytes es ds f g a b n m (inr (inl (long, other, none, is, breaks)))
      (inr (inl (long2, other2, none2, is2, breaks2))) =
      record { events = none ∙ sym none2; fault = is ∙ sym is2; state = breaks-unique does law s a b breaks breaks2 }
  greets-unique s bytes es ds f g a b n m (inr (inl (long, other, none, is, after))) (inr (inr (inl (header, reads)))) =
      absurd (other header)
  greets-unique s bytes es ds f g a b n m (inr (inr (inl (header, reads)))) (inl (short, none, well, after)) =
      absurd (omega (arith, header_long bytes header))
  greets-unique s bytes es ds f g a b n m (inr (inr (inl (header, reads)))) (inr (inl (long, other, none, is, after))) =
      absurd (other header)
  greets-unique s bytes es ds f g a b n m (inr (inr (inl (header, reads)))) (inr (inr (inl (header2, reads2)))) =
      reads_on-unique does law (opened does s) (drop 8 bytes) es ds f g a b n m reads reads2

  feeds-unique : (p : Phase) (s : State S) (bytes : List ℕ) (es ds : List Event) (f g : Option EndpointError)
      (a b : State S) → f ≢ Some Memory → g ≢ Some Memory → FeedsIn does p s bytes es f a
      → FeedsIn does p s bytes ds g b → SameRead es ds f g a b
  feeds-unique Unconnected s bytes es ds f g a b n m (none, is, after) (none2, is2, after2) =
      record { events = none ∙ sym none2; fault = is ∙ sym is2; state = after ∙ sym after2 }
  feeds-unique Greeting s bytes es ds f g a b n m r t = greets-unique s (s.rest ++ bytes) es ds f g a b n m r t
  feeds-unique Running s bytes es ds f g a b n m r t =
      reads_on-unique does law s (s.rest ++ bytes) es ds f g a b n m r t
  feeds-unique Over s bytes es ds f g a b n m (none, is, after) (none2, is2, after2) =
      record { events = none ∙ sym none2; fault = is ∙ sym is2; state = after ∙ sym after2 }

  feed-decides : (s : State S) (bytes : List ℕ) (a b : Said) (m n : State S) → Step does s (Feed bytes) a m
      → Step does s (Feed bytes) b n → HasMemory a → HasMemory b → (a ≡ b) × (m ≡ n)
  feed-decides s bytes a b m n r t h k =
      let x : FeedSaid does s bytes a m = feed_said does s bytes a m r in
      let y : FeedSaid does s bytes b n = feed_said does s bytes b n t in
      let same : SameRead x.events y.events x.fault y.fault m n
      = feeds-unique s.phase s bytes x.events y.events x.fault y.fault m n (has_memory a x.events x.fault x.answer_is h)
      (has_memory b y.events y.fault y.answer_is k) x.feeds y.feeds in (
        x.answer_is ∙ ap (λ es. fed es x.fault) same.events ∙ ap (λ f. fed y.events f) same.fault ∙ sym y.answer_is,
        same.state,
      )

  break-decides : (s : State S) (a b : Said) (m n : State S) → Step does s BreakOff a m → Step does s BreakOff b n
      → HasMemory a → HasMemory b → (a ≡ b) × (m ≡ n)
  break-decides s a b m n r t h k =
      let (is, breaks) = broken_off does s a m r h in
      let (is2, breaks2) = broken_off does s b n t k in
      (is ∙ sym is2, breaks-unique does law s m n breaks breaks2)

  closes-decide : (s : State S) (a b : Said) (m n : State S) → CloseSaid does s a m → CloseSaid does s b n
      → (a ≡ b) × (m ≡ n)
  closes-decide s a b m n (no_close e why is same) (no_close d why2 is2 same2) =
      let x : e ≡ d = (let y : Some e ≡ Some d = sym why ∙ why2 in cc) in
      (is ∙ ap refused x ∙ sym is2, same ∙ sym same2)
  closes-decide s a b m n (no_close e why is same) (has_closed none is2 closes after) = absurd (cc)
  closes-decide s a b m n (has_closed none is closes after) (no_close e why is2 same) = absurd (cc)
  closes-decide s a b m n (has_closed none is closes after) (has_closed none2 is2 closes2 after2) =
      let same : m.sessions ≡ n.sessions
      = closes_own-unique does law s.sessions m.sessions n.sessions closes closes2 in
      (is ∙ sym is2, after ∙ ap (λ (x : S). closing s x) same ∙ sym after2)

  sessions-decide : (s : State S) (call : Call) (a b : Said) (m n : State S) → SessionsSaid does s call a m
      → SessionsSaid does s call b n → (a ≡ b) × (m ≡ n)
  sessions-decide s call a b m n (not_allowed e why is same) (not_allowed d why2 is2 same2) =
      let x : e ≡ d = (let y : Some e ≡ Some d = sym why ∙ why2 in cc) in
      (is ∙ ap refused x ∙ sym is2, same ∙ sym same2)
  sessions-decide s call a b m n (not_allowed e why is same) (barred d none bars k is2 same2) = absurd (cc)
  sessions-decide s call a b m n (not_allowed e why is same) (called t) =
      let none : refusal s call ≡ None = t.allowed in absurd (cc)
  sessions-decide s call a b m n (barred d none bars k is2 same2) (not_allowed e why is same) = absurd (cc)
  sessions-decide s call a b m n (called t) (not_allowed e why is same) =
      let none : refusal s call ≡ None = t.allowed in absurd (cc)
  sessions-decide s call a b m n (barred e none bars h is same) (barred d none2 bars2 k is2 same2) =
      let x : e ≡ d = law.barred s.sessions (limit_of s.peer_limit) call e d bars bars2 h k in
      (is ∙ ap refused x ∙ sym is2, same ∙ sym same2)
  sessions-decide s call a b m n (barred e none bars h is same) (called t) =
      absurd (law.uncalled s.sessions n.sessions (limit_of s.peer_limit) call b t.frames e t.calls bars h)
  sessions-decide s call a b m n (called r) (barred e none bars h is same) =
      absurd (law.uncalled s.sessions m.sessions (limit_of s.peer_limit) call a r.frames e r.calls bars h)
  sessions-decide s call a b m n (called r) (called t) =
      let (answer, frames, sessions) = law.called s.sessions m.sessions n.sessions (limit_of s.peer_limit) call a b
      r.frames t.frames r.calls t.calls in
      (answer, sent-same s m n r.frames t.frames sessions frames r.queued t.queued)

  theirs-decide : (s : State S) (call : Call) (a b : Said) (m n : State S) → TheirStep does s call a m
      → TheirStep does s call b n → HasMemory a → HasMemory b → (a ≡ b) × (m ≡ n)
  theirs-decide s call a b m n r t h k =
      sessions-decide s call a b m n (sessions_said does s call a m r h) (sessions_said does s call b n t k)

  plain-decides : (s : State S) (call : Call) (a b : Said) (m n : State S) → IsPlain call → Step does s call a m
      → Step does s call b n → HasMemory a → HasMemory b → (a ≡ b) × (m ≡ n)
  plain-decides s call a b m n plain r t h k =
      let x : Decided a (answer_of does s call) m (state_of does s call) = decided does s call a m plain r h in
      let y : Decided b (answer_of does s call) n (state_of does s call) = decided does s call b n plain t k in
      (x.answer_is ∙ sym y.answer_is, x.state_is ∙ sym y.state_is)

  pub step-decides : (s : State S) (call : Call) (a b : Said) (m n : State S) → Step does s call a m
      → Step does s call b n → HasMemory a → HasMemory b → (a ≡ b) × (m ≡ n)
  step-decides s (Feed bytes) a b m n r t h k = feed-decides s bytes a b m n r t h k
  step-decides s BreakOff a b m n r t h k = break-decides s a b m n r t h k
  step-decides s CloseCall a b m n r t h k =
      closes-decide s a b m n (close_said does s a m r h) (close_said does s b n t k)
  step-decides s Begin a b m n r t h k = theirs-decide s Begin a b m n r t h k
  step-decides s (AcceptBegin channel) a b m n r t h k = theirs-decide s (AcceptBegin channel) a b m n r t h k
  step-decides s (End number) a b m n r t h k = theirs-decide s (End number) a b m n r t h k
  step-decides s (IsEnded number) a b m n r t h k = theirs-decide s (IsEnded number) a b m n r t h k
  step-decides s (TryEnd number) a b m n r t h k = theirs-decide s (TryEnd number) a b m n r t h k
  step-decides s (AttachSender session settings) a b m n r t h k =
      theirs-decide s (AttachSender session settings) a b m n r t h k
  step-decides s (AttachReceiver session settings) a b m n r t h k =
      theirs-decide s (AttachReceiver session settings) a b m n r t h k
  step-decides s (Resume link session) a b m n r t h k =
      theirs-decide s (Resume link session) a b m n r t h k
  step-decides s (Detach link) a b m n r t h k =
      theirs-decide s (Detach link) a b m n r t h k
  step-decides s (CloseLink link) a b m n r t h k =
      theirs-decide s (CloseLink link) a b m n r t h k
  step-decides s (Grant link credit) a b m n r t h k =
      theirs-decide s (Grant link credit) a b m n r t h k
  step-decides s (Drain link) a b m n r t h k =
      theirs-decide s (Drain link) a b m n r t h k
  step-decides s (Send link message) a b m n r t h k =
      theirs-decide s (Send link message) a b m n r t h k
  step-decides s (Dispose link message disposal) a b m n r t h k =
      theirs-decide s (Dispose link message disposal) a b m n r t h k
  step-decides s (DisposeAll link messages disposal) a b m n r t h k =
      theirs-decide s (DisposeAll link messages disposal) a b m n r t h k
  step-decides s (Credit link) a b m n r t h k =
      theirs-decide s (Credit link) a b m n r t h k
  step-decides s (HeldBack session) a b m n r t h k =
      theirs-decide s (HeldBack session) a b m n r t h k
  step-decides s (WaitingCall session) a b m n r t h k =
      theirs-decide s (WaitingCall session) a b m n r t h k
  step-decides s call a b m n r t h k = plain-decides s call a b m n tt r t h k

  told-same : (t u : Told) → t.answer ≡ u.answer → t.queued ≡ u.queued → t ≡ u
  told-same t u a b =
      ap (λ x. record { answer = x; queued = t.queued }) a ∙ ap (λ x. record { answer = u.answer; queued = x }) b

  run-decides : (s : State S) (calls : List Call) (ts us : List Told) (m n : State S) → Run does s calls ts m
      → Run does s calls us n → AllHaveMemory ts → AllHaveMemory us → (ts ≡ us) × (m ≡ n)
  run-decides s [] [] [] m n r t h k = (refl, r ∙ sym t)
  run-decides s [] (x ∷ ts) us m n r t h k = absurd r
  run-decides s [] [] (y ∷ us) m n r t h k = absurd t
  run-decides s (call ∷ calls) [] us m n r t h k = absurd r
  run-decides s (call ∷ calls) (x ∷ ts) [] m n r t h k = absurd t
  run-decides s (call ∷ calls) (x ∷ ts) (y ∷ us) m n (mid, one, queued, rest) (mid2, one2, queued2, rest2)
      (h, hs) (k, ks) =
      let (answer, state) = step-decides s call x.answer y.answer mid mid2 one one2 h k in
      let P : State S → Type 0 = λ z. Run does z calls us n in
      let (later, end) = run-decides mid calls ts us m n rest (subst P (sym state) rest2) hs ks in
      let same : x ≡ y = told-same x y answer (queued ∙ ap (λ z. length z.queue) state ∙ sym queued2) in
      (ap (λ z. z ∷ ts) same ∙ ap (λ zs. y ∷ zs) later, end)

  -- runs of the same calls, but for how the bytes of adjacent feeds are cut
  pub recut : (s : State S) (calls calls2 : List Call) (ts us : List Told) (m n : State S) → Run does s calls ts m
      → Run does s calls2 us n → feeds_joined calls ≡ feeds_joined calls2 → AllHaveMemory ts → AllHaveMemory us
      → (told_joined calls ts ≡ told_joined calls2 us) × (m ≡ n)
  recut s calls calls2 ts us m n r t same h k =
      let x : Joined does s (feeds_joined calls) (told_joined calls ts) m = joined-run does s calls ts m r h in
      let y : Joined does s (feeds_joined calls2) (told_joined calls2 us) n = joined-run does s calls2 us n t k in
      let P : List Call → Type 0 = λ z. Run does s z (told_joined calls2 us) n in
      run-decides s (feeds_joined calls) (told_joined calls ts) (told_joined calls2 us) m n x.run
      (subst P (sym same) y.run)
      x.memory y.memory
