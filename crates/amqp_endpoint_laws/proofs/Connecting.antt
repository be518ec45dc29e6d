-- What was pulled of an end of a world, and what was fed to it, since its latest connect.
use Rattle.std.proofs.Common.{◌≡◌, ℕ, Bool, true, false, List, [], ◌∷◌, ◌++◌, Option, Some, None, inl, inr}
use Rattle.std.proofs.Common.{ap, refl, subst, sym, take, ◌∙◌, if◌then◌else◌}
use Rattle.std.proofs.lemmas.List.{append-nil, append_assoc}
use Rattle.amqp_session_frames.specs.Cutting.{joined}
use Rattle.amqp_endpoint_model.specs.declared.call.Call.{Call}
use Rattle.amqp_endpoint_model.specs.declared.call.Call.TheVariants.{Connect, Feed, Pull, Queued, IsIdle, Heartbeat}
use Rattle.amqp_endpoint_model.specs.declared.call.Call.TheVariants.{BreakOff, Close as CloseCall, IsClosed, TryClose}
use Rattle.amqp_endpoint_model.specs.declared.call.Call.TheVariants.{Begin, AcceptBegin, End as EndCall, IsEnded}
use Rattle.amqp_endpoint_model.specs.declared.call.Call.TheVariants.{TryEnd}
use Rattle.amqp_endpoint_model.specs.declared.call.Call.TheVariants.{AttachSender, AttachReceiver, Detach, CloseLink}
use Rattle.amqp_endpoint_model.specs.declared.call.Call.TheVariants.{Grant, Drain, Credit, HeldBack}
use Rattle.amqp_endpoint_model.specs.declared.call.Call.TheVariants.{Waiting as WaitingCall}
use Rattle.amqp_endpoint_model.specs.declared.call.Call.TheVariants.{Resume, Send, Dispose, DisposeAll}
use Rattle.amqp_endpoint_model.specs.declared.error.EndpointError.{EndpointError}
use Rattle.amqp_endpoint_model.specs.declared.error.EndpointError.TheVariants.{AlreadyConnected, NotConnected}
use Rattle.amqp_endpoint_model.specs.declared.event.Event.{Event}
use Rattle.amqp_endpoint_model.specs.declared.phase.Phase.{Phase}
use Rattle.amqp_endpoint_model.specs.declared.phase.Phase.TheVariants.{Unconnected, Greeting, Running, Over}
use Rattle.amqp_endpoint_model.specs.Relay.{Relations}
use Rattle.amqp_endpoint_model.specs.Said.{Said, done, refused, fed, pulled, count, truth, tried_close, session_begun}
use Rattle.amqp_endpoint_model.specs.Said.{tried_end, attaching, link_closed, credit_is, waiting, message_sent, Told}
use Rattle.amqp_endpoint_model.specs.State.{State, is_unconnected}
use Rattle.amqp_endpoint_model.specs.Step.{Ends, FeedsIn, FrontRefused, Greets, Step as EndpointStep}
use Rattle.amqp_endpoint_model.specs.History.{Run, Summary, note as noted, note_fed, summary}
use Rattle.amqp_endpoint_laws.specs.Deeds.{fed_by, fed_since, given_by, note, pulled_since}
use Rattle.amqp_endpoint_core.specs.declared.step.End.{End}
use Rattle.amqp_endpoint_core.specs.declared.step.End.TheVariants.{A, B}
use Rattle.amqp_endpoint_core.specs.declared.step.Step.{Step}
use Rattle.amqp_endpoint_core.specs.declared.step.Step.TheVariants.{Call as CallAt, Move, Break}
use Rattle.amqp_endpoint_core.specs.EndHistory.{break_call, break_told, calls_at, calls_in, feed_call, feed_told}
use Rattle.amqp_endpoint_core.specs.EndHistory.{is_same, pull_calls, pulled_since_break, pulls_told, queued_at}
use Rattle.amqp_endpoint_core.specs.EndHistory.{stream_behind, then_pulled, told_at, told_in}
use Rattle.amqp_endpoint_core.specs.WorldSaid.{WorldSaid, called, moved, broken, WorldTold}
use Rattle.amqp_endpoint_core.specs.WorldState.{WorldState, state_at, stream_to}
use Rattle.amqp_endpoint_core.specs.WorldStep.{CallsAs, WorldRun, WorldStep, finds_none, has_broken_off, is_the_worlds}
use Rattle.amqp_endpoint_core.proofs.EndLaws.{end_run, stream-step}
use Rattle.amqp_endpoint_core.proofs.OnTheWay.{Matched, matched_in, pulled-append}

pub joined-append : (a b : List (List ℕ)) → joined (a ++ b) ≡ joined a ++ joined b
joined-append [] b = refl
joined-append (p ∷ ps) b =
    ap (λ (x : List ℕ). p ++ x) (joined-append ps b) ∙ sym (append_assoc p (joined ps) (joined b))

-- one history behind another
given-append : (g : List (List ℕ)) (calls : List Call) (ts : List Told) (more : List Call) (us : List Told)
    → Matched calls ts → pulled_since g (calls ++ more) (ts ++ us) ≡ pulled_since (pulled_since g calls ts) more us
given-append g [] [] more us m = refl
given-append g [] (t ∷ ts) more us m = absurd m
given-append g (call ∷ calls) [] more us m = absurd m
given-append g (call ∷ calls) (t ∷ ts) more us m = given-append (note given_by g call t.answer) calls ts more us m

-- what a feed takes that finds a connection
noted-fed : (σ : Summary) (bytes : List ℕ) (events : List Event) (fault : Option EndpointError)
    → finds_none fault ≡ false → (note_fed σ bytes events fault).fed ≡ σ.fed ++ bytes
noted-fed σ bytes events (Some NotConnected) found = absurd cc
noted-fed σ bytes events fault found = refl

connects-anew : (b : Bool) → (if b then None else Some AlreadyConnected) ≡ None → b ≡ true
connects-anew true e = refl
connects-anew false e = absurd cc

module _ {S : Type 0} where
  -- there was a connection before a call, unless the call made one
  abbrev HadOne : Call → Said → State S → Type 0
  HadOne Connect done s = Unit {0}
  HadOne call answer s = is_unconnected s.phase ≡ false

  refused-one : (call : Call) (e : EndpointError) (s : State S) → is_unconnected s.phase ≡ false
      → HadOne call (refused e) s
  refused-one Connect e s up = up
  refused-one call e s up = up

  stayed : (old new : State S) → new.phase ≡ old.phase → is_unconnected new.phase ≡ false
      → is_unconnected old.phase ≡ false
  stayed old new same up = sym (ap is_unconnected same) ∙ up

  same-phase : (old new : State S) → new ≡ old → is_unconnected new.phase ≡ false → is_unconnected old.phase ≡ false
  same-phase old new same up = stayed old new (ap (λ (s : State S). s.phase) same) up

  -- the bytes fed since the latest connect are those that a history notes
  abbrev pub Agrees : State S → List ℕ → Summary → Type 0
  Agrees s f σ = is_unconnected s.phase ≡ false → f ≡ σ.fed

  -- the bytes pulled since the latest break are what was pulled since the latest connect
  abbrev pub Gave : State S → List ℕ → List (List ℕ) → Type 0
  Gave s p g = is_unconnected s.phase ≡ false → p ≡ joined g

-- a connect finds nothing pulled
abbrev Fresh : Call → Said → List ℕ → Type 0
Fresh Connect done p = p ≡ []
Fresh call answer p = Unit {0}

abbrev AllFresh : List ℕ → List Call → List Told → Type 0
AllFresh p (call ∷ calls) (t ∷ ts) = Fresh call t.answer p × AllFresh (then_pulled p call t.answer) calls ts
AllFresh p calls ts = Unit {0}

fresh-pulls : (p : List ℕ) (bytes : List (List ℕ)) (n : ℕ) (more : List Call) (us : List Told)
    → ((q : List ℕ) → AllFresh q more us) → AllFresh p (pull_calls bytes ++ more) (pulls_told bytes n ++ us)
fresh-pulls p [] n more us h = h p
fresh-pulls p (first ∷ others) n more us h = (tt, fresh-pulls (p ++ first) others n more us h)

fresh-feed : (p piece : List ℕ) (said : Said) (n : ℕ) (more : List Call) (us : List Told)
    → ((q : List ℕ) → AllFresh q more us) → AllFresh p (feed_call piece said ++ more) (feed_told said n ++ us)
fresh-feed p piece (fed events fault) n more us h = (tt, h p)
fresh-feed p piece said n more us h = h p

fresh-break : (b : Bool) (n : ℕ) (p : List ℕ) → AllFresh p (break_call b) (break_told b n)
fresh-break true n p = (tt, tt)
fresh-break false n p = tt

fresh-moved : (b : Bool) (p : List ℕ) (bytes : List (List ℕ)) (piece : List ℕ) (said : Said) (n : ℕ)
    (more : List Call) (us : List Told) → ((q : List ℕ) → AllFresh q more us)
    → AllFresh p ((if b then pull_calls bytes else feed_call piece said) ++ more)
    ((if b then pulls_told bytes n else feed_told said n) ++ us)
fresh-moved true p bytes piece said n more us h = fresh-pulls p bytes n more us h
fresh-moved false p bytes piece said n more us h = fresh-feed p piece said n more us h

module _ {S : Type 0} (does : Relations S) where
  fed-one : (q : Phase) (old : State S) (bytes : List ℕ) (events : List Event) (fault : Option EndpointError)
      (new : State S) → old.phase ≡ q → FeedsIn does q old bytes events fault new → is_unconnected new.phase ≡ false
      → is_unconnected old.phase ≡ false
  fed-one Unconnected old bytes events fault new is (none, why, same) up = same-phase old new same up
  fed-one Greeting old bytes events fault new is f up = ap is_unconnected is
  fed-one Running old bytes events fault new is f up = ap is_unconnected is
  fed-one Over old bytes events fault new is f up = ap is_unconnected is

  had-one : (call : Call) (answer : Said) (old new : State S) → EndpointStep does old call answer new
      → is_unconnected new.phase ≡ false → HadOne call answer old
  had-one call (refused e) old new (may, same) up = refused-one call e old (same-phase old new same up)
  had-one (Feed bytes) (fed events fault) old new s up = fed-one old.phase old bytes events fault new refl s up
  had-one Connect done old new s up = tt
  had-one Pull (pulled None) old new (empty, same) up = same-phase old new same up
  had-one Pull (pulled (Some text)) old new (first, others, is, said, after) up =
      stayed old new (ap (λ (s : State S). s.phase) after) up
  had-one Queued (count n) old new (is, same) up = same-phase old new same up
  had-one IsIdle (truth b) old new (is, same) up = same-phase old new same up
  had-one Heartbeat done old new (none, after) up = stayed old new (ap (λ (s : State S). s.phase) after) up
  had-one BreakOff done old new (finishes, after) up =
      let clash : true ≡ false = sym (ap (λ (s : State S). is_unconnected s.phase) after) ∙ up in absurd cc
  had-one CloseCall done old new (none, closes, after) up = stayed old new (ap (λ (s : State S). s.phase) after) up
  had-one IsClosed (truth b) old new (is, same) up = same-phase old new same up
  had-one TryClose (tried_close o) old new (is, after) up = stayed old new (ap (λ (s : State S). s.phase) after) up
  had-one Begin (session_begun n) old new s up = stayed old new (ap (λ (x : State S). x.phase) s.queued) up
  had-one (AcceptBegin c) (session_begun n) old new s up = stayed old new (ap (λ (x : State S). x.phase) s.queued) up
  had-one (EndCall n) done old new s up = stayed old new (ap (λ (x : State S). x.phase) s.queued) up
  had-one (TryEnd n) (tried_end o) old new s up = stayed old new (ap (λ (x : State S). x.phase) s.queued) up
  had-one (AttachSender n settings) (attaching link told) old new s up =
      stayed old new (ap (λ (x : State S). x.phase) s.queued) up
  had-one (AttachReceiver n settings) (attaching link told) old new s up =
      stayed old new (ap (λ (x : State S). x.phase) s.queued) up
  had-one (Resume link n) (attaching number told) old new s up =
      stayed old new (ap (λ (x : State S). x.phase) s.queued) up
  had-one (Detach link) done old new s up = stayed old new (ap (λ (x : State S). x.phase) s.queued) up
  had-one (CloseLink link) (link_closed told) old new s up = stayed old new (ap (λ (x : State S). x.phase) s.queued) up
  had-one (Grant link n) (credit_is left) old new s up = stayed old new (ap (λ (x : State S). x.phase) s.queued) up
  had-one (Drain link) done old new s up = stayed old new (ap (λ (x : State S). x.phase) s.queued) up
  had-one (Send link message) (message_sent tag outcome) old new s up =
      stayed old new (ap (λ (x : State S). x.phase) s.queued) up
  had-one (Dispose link message disposal) done old new s up =
      stayed old new (ap (λ (x : State S). x.phase) s.queued) up
  had-one (DisposeAll link messages disposal) done old new s up =
      stayed old new (ap (λ (x : State S). x.phase) s.queued) up
  had-one (IsEnded n) (truth b) old new s up = same-phase old new s.same up
  had-one (Credit link) (credit_is left) old new s up = same-phase old new s.same up
  had-one (HeldBack n) (count m) old new s up = same-phase old new s.same up
  had-one (WaitingCall n) (waiting turn) old new s up = same-phase old new s.same up
  had-one call answer old new s up = absurd s

  -- a feed of a connection finds it
  front-found : (e : EndpointError) (mid : State S) (left : List ℕ) (sessions : S)
      → FrontRefused does mid left e sessions → finds_none (Some e) ≡ false
  front-found NotConnected mid left sessions r = absurd r.0
  front-found e mid left sessions r = refl

  ends-found : (q : Phase) (mid : State S) (left : List ℕ) (fault : Option EndpointError) (new : State S)
      → Ends does mid q left fault new → finds_none fault ≡ false
  ends-found Running mid left None new r = refl
  ends-found Running mid left (Some e) new r = front-found e mid left r.sessions r.refused
  ends-found Over mid left None new r = refl
  ends-found Over mid left (Some e) new r = absurd r
  ends-found q mid left fault new r = absurd r

  greets-found : (old : State S) (bytes : List ℕ) (events : List Event) (fault : Option EndpointError) (new : State S)
      → Greets does old bytes events fault new → finds_none fault ≡ false
  greets-found old bytes events fault new (inl (short, none, clean, after)) = ap finds_none clean
  greets-found old bytes events fault new (inr (inl (long, other, none, why, b))) = ap finds_none why
  greets-found old bytes events fault new (inr (inr (inl (header, r)))) =
      ends-found r.mid.phase r.mid r.left fault new r.ends
  greets-found old bytes events fault new (inr (inr (inr (none, memory, b)))) = ap finds_none memory

  feed-found : (q : Phase) (old : State S) (bytes : List ℕ) (events : List Event) (fault : Option EndpointError)
      (new : State S) → is_unconnected q ≡ false → FeedsIn does q old bytes events fault new → finds_none fault ≡ false
  feed-found Unconnected old bytes events fault new up f = absurd cc
  feed-found Greeting old bytes events fault new up f = greets-found old (old.rest ++ bytes) events fault new f
  feed-found Running old bytes events fault new up r = ends-found r.mid.phase r.mid r.left fault new r.ends
  feed-found Over old bytes events fault new up (none, why, same) = ap finds_none why

  fed-noted : (call : Call) (answer : Said) (old new : State S) (f : List ℕ) (σ : Summary)
      → EndpointStep does old call answer new → HadOne call answer old → Agrees old f σ
      → note fed_by f call answer ≡ (noted σ call answer).fed
  fed-noted Connect done old new f σ s had agrees = refl
  fed-noted (Feed bytes) (fed events fault) old new f σ s had agrees =
      ap (λ (x : List ℕ). x ++ bytes) (agrees had)
      ∙ sym (noted-fed σ bytes events fault (feed-found old.phase old bytes events fault new had s))
  fed-noted call answer old new f σ s had agrees = append-nil f ∙ agrees had

  pub fed-run : (old : State S) (calls : List Call) (ts : List Told) (end : State S) (f : List ℕ) (σ : Summary)
      → Run does old calls ts end → Agrees old f σ → Agrees end (fed_since f calls ts) (summary σ calls ts)
  fed-run old [] [] end f σ same agrees = subst (λ (s : State S). Agrees s f σ) (sym same) agrees
  fed-run old [] (t ∷ ts) end f σ run agrees = absurd run
  fed-run old (call ∷ calls) [] end f σ run agrees = absurd run
  fed-run old (call ∷ calls) (t ∷ ts) end f σ (mid, one, queued, rest) agrees =
      fed-run mid calls ts end (note fed_by f call t.answer) (noted σ call t.answer) rest
      (λ up. fed-noted call t.answer old mid f σ one (had-one call t.answer old mid one up) agrees)

  pulled-noted : (call : Call) (answer : Said) (old new : State S) (p : List ℕ) (g : List (List ℕ))
      → EndpointStep does old call answer new → is_unconnected new.phase ≡ false → HadOne call answer old
      → Fresh call answer p → Gave old p g → then_pulled p call answer ≡ joined (note given_by g call answer)
  pulled-noted Connect done old new p g s up had fresh gave = fresh
  pulled-noted Pull (pulled (Some text)) old new p g s up had fresh gave =
      ap (λ (x : List ℕ). x ++ text) (gave had)
      ∙ sym (joined-append g (text ∷ []) ∙ ap (λ (x : List ℕ). joined g ++ x) (append-nil text))
  pulled-noted BreakOff done old new p g (finishes, after) up had fresh gave =
      let clash : true ≡ false = sym (ap (λ (s : State S). is_unconnected s.phase) after) ∙ up in absurd cc
  pulled-noted call (pulled (Some text)) old new p g s up had fresh gave = absurd s
  pulled-noted call answer old new p g s up had fresh gave = gave had ∙ ap joined (sym (append-nil g))

  pulled-over : (old : State S) (calls : List Call) (ts : List Told) (end : State S) (p : List ℕ)
      (g : List (List ℕ)) → Run does old calls ts end → AllFresh p calls ts → Gave old p g
      → Gave end (pulled_since_break p calls ts) (pulled_since g calls ts)
  pulled-over old [] [] end p g same fresh gave = subst (λ (s : State S). Gave s p g) (sym same) gave
  pulled-over old [] (t ∷ ts) end p g run fresh gave = absurd run
  pulled-over old (call ∷ calls) [] end p g run fresh gave = absurd run
  pulled-over old (call ∷ calls) (t ∷ ts) end p g (mid, one, queued, rest) (first, others) gave =
      pulled-over mid calls ts end (then_pulled p call t.answer) (note given_by g call t.answer) rest others
      (λ up. pulled-noted call t.answer old mid p g one up (had-one call t.answer old mid one up) first gave)

  fresh-call : (call : Call) (said : Said) (old new : State S) (p : List ℕ) → EndpointStep does old call said new
      → (is_unconnected old.phase ≡ true → p ≡ []) → Fresh call said p
  fresh-call Connect done old new p (may, after) none = none (connects-anew (is_unconnected old.phase) may)
  fresh-call call said old new p s none = tt

  fresh-own : (b : Bool) (call : Call) (said : Said) (old new : State S) (n : ℕ) (p : List ℕ)
      → CallsAs does b old call said new → (is_unconnected old.phase ≡ true → p ≡ [])
      → AllFresh p (if b then [] else call ∷ []) (if b then [] else record { answer = said; queued = n } ∷ [])
  fresh-own true call said old new n p s none = tt
  fresh-own false call said old new n p s none = (fresh-call call said old new p s none, tt)

  fresh-in : (end : End) (old : WorldState S) (step : Step) (did : WorldSaid) (n : ℕ) (new : WorldState S) (p : List ℕ)
      → WorldStep does old step did new → (is_unconnected (state_at end old).phase ≡ true → p ≡ [])
      → AllFresh p (calls_in end (stream_to end old) step did) (told_in end step did n)
  fresh-in A old (CallAt A call) (called said) n new p (one, rest) none =
      fresh-own (is_the_worlds call) call said old.a new.a n p one none
  fresh-in A old (CallAt B call) (called said) n new p (one, rest) none = tt
  fresh-in B old (CallAt A call) (called said) n new p (one, rest) none = tt
  fresh-in B old (CallAt B call) (called said) n new p (one, rest) none =
      fresh-own (is_the_worlds call) call said old.b new.b n p one none
  fresh-in end old (Move from most) (moved bytes said) n new p m none =
      let b = has_broken_off said in
      fresh-moved (is_same end from) p bytes (take most (stream_to end old ++ joined bytes)) said n (break_call b)
      (break_told b n) (fresh-break b n)
  fresh-in end old Break broken n new p r none = (tt, tt)
  fresh-in end old step did n new p s none = absurd s

  -- whatever is done, nothing is pulled since the latest break of an end that has no connection then
  abbrev pub NonePulled : End → WorldState S → List ℕ → Type 0
  NonePulled end old p =
      (steps : List Step) (ts : List WorldTold) (there : WorldState S) → WorldRun does old steps ts there
      → is_unconnected (state_at end there).phase ≡ true
      → pulled_since_break p (calls_at end (stream_to end old) steps ts) (told_at end steps ts) ≡ []

  -- an end's own share of a step
  step-run : (end : End) (old : WorldState S) (step : Step) (t : WorldTold) (mid : WorldState S)
      → WorldRun does old (step ∷ []) (t ∷ []) mid
      → Run does (state_at end old) (calls_in end (stream_to end old) step t.did)
      (told_in end step t.did (queued_at end t)) (state_at end mid)
  step-run end old step t mid run =
      let calls = calls_in end (stream_to end old) step t.did in
      let said = told_in end step t.did (queued_at end t) in
      subst (λ (cs : List Call). Run does (state_at end old) cs said (state_at end mid)) (append-nil calls)
      (subst (λ (us : List Told). Run does (state_at end old) (calls ++ []) us (state_at end mid)) (append-nil said)
      (end_run does end old (step ∷ []) (t ∷ []) mid run))

  pub pulled-along : (end : End) (old : WorldState S) (steps : List Step) (ts : List WorldTold) (new : WorldState S)
      (p : List ℕ) (g : List (List ℕ)) → WorldRun does old steps ts new → NonePulled end old p
      → Gave (state_at end old) p g
      → Gave (state_at end new)
      (pulled_since_break p (calls_at end (stream_to end old) steps ts) (told_at end steps ts))
      (pulled_since g (calls_at end (stream_to end old) steps ts) (told_at end steps ts))
  pulled-along end old [] [] new p g same none gave =
      subst (λ (w : WorldState S). Gave (state_at end w) p g) (sym same) gave
  pulled-along end old [] (t ∷ ts) new p g run none gave = absurd run
  pulled-along end old (step ∷ steps) [] new p g run none gave = absurd run
  pulled-along end old (step ∷ steps) (t ∷ ts) new p g (mid, one, a, b, rest) none gave =
      let v = stream_to end old in
      let w = stream_behind end v step t.did in
      let calls = calls_in end v step t.did in
      let said = told_in end step t.did (queued_at end t) in
      let q = pulled_since_break p calls said in
      let h = pulled_since g calls said in
      let m = matched_in end v step t.did (queued_at end t) in
      let stream : stream_to end mid ≡ w = stream-step does end old step t.did mid one in
      let now : Gave (state_at end mid) q h =
      pulled-over (state_at end old) calls said (state_at end mid) p g
      (step-run end old step t mid (mid, one, a, b, refl))
      (fresh-in end old step t.did (queued_at end t) mid p one (none [] [] old refl)) gave in
      let onward : NonePulled end mid q = λ more us there r down.
      ap (λ (s : List ℕ). pulled_since_break q (calls_at end s more us) (told_at end more us)) stream
      ∙ sym (pulled-append p calls said (calls_at end w more us) (told_at end more us) m)
      ∙ none (step ∷ more) (t ∷ us) there (mid, one, a, b, r) down in
      let later = pulled-along end mid steps ts new q h rest onward now in
      λ up.
      pulled-append p calls said (calls_at end w steps ts) (told_at end steps ts) m
      ∙ ap (λ (s : List ℕ). pulled_since_break q (calls_at end s steps ts) (told_at end steps ts)) (sym stream)
      ∙ later up
      ∙ ap joined
      (ap (λ (s : List ℕ). pulled_since h (calls_at end s steps ts) (told_at end steps ts)) stream
      ∙ sym (given-append g calls said (calls_at end w steps ts) (told_at end steps ts) m))
