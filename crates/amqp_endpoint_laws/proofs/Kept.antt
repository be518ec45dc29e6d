-- What sessions keep by all that they do, each run of their endpoint keeps.
use Rattle.std.proofs.Common.{◌≡◌, ℕ, Bool, true, false, List, [], ◌∷◌, ◌++◌, Option, Some, None, inl, inr}
use Rattle.std.proofs.Common.{ap, refl, sym, subst, ◌∙◌}
use Rattle.std.specs.Prelude.{◌⊎◌, ◌&&◌, if◌then◌else◌}
use Rattle.std.proofs.lemmas.List.{append-nil, append_assoc}
use Rattle.std.proofs.lemmas.Option.{none-some}
use Rattle.amqp_session_performatives.specs.declared.open.Open.{Open as OpenFields}
use Rattle.amqp_session_frames.specs.declared.state.ConnectionState.{ConnectionState}
use Rattle.amqp_session_frames.specs.declared.state.ConnectionState.TheVariants.{HeaderExchange, OpenSent}
use Rattle.amqp_session_frames.specs.declared.frame.Frame.{Frame}
use Rattle.amqp_session_frames.specs.declared.frame.FrameBody.{FrameBody}
use Rattle.amqp_session_frames.specs.declared.frame.FrameBody.TheVariants.{Empty, Open, Close}
use Rattle.amqp_session_types.specs.declared.refusals.ConnectionError.TheVariants.{IllegalState as OutOfOrder}
use Rattle.amqp_endpoint_model.specs.declared.call.Call.{Call}
use Rattle.amqp_endpoint_model.specs.declared.call.Call.TheVariants.{Connect, Feed, Pull, Queued, IsIdle, Heartbeat}
use Rattle.amqp_endpoint_model.specs.declared.call.Call.TheVariants.{BreakOff, Close as CloseCall, IsClosed, TryClose}
use Rattle.amqp_endpoint_model.specs.declared.call.Call.TheVariants.{Begin, AcceptBegin, End, IsEnded, TryEnd}
use Rattle.amqp_endpoint_model.specs.declared.call.Call.TheVariants.{AttachSender, AttachReceiver, Detach, CloseLink}
use Rattle.amqp_endpoint_model.specs.declared.call.Call.TheVariants.{Grant, Drain, Credit, HeldBack}
use Rattle.amqp_endpoint_model.specs.declared.call.Call.TheVariants.{Waiting as WaitingCall}
use Rattle.amqp_endpoint_model.specs.declared.call.Call.TheVariants.{Resume, Send, Dispose, DisposeAll}
use Rattle.amqp_endpoint_model.specs.declared.error.EndpointError.{EndpointError}
use Rattle.amqp_endpoint_model.specs.declared.error.EndpointError.TheVariants.{AlreadyConnected, NotConnected}
use Rattle.amqp_endpoint_model.specs.declared.error.EndpointError.TheVariants.{PeerLimitUnder512, Memory}
use Rattle.amqp_endpoint_model.specs.declared.error.EndpointError.TheVariants.{Connection, NumbersUsedUp, Session}
use Rattle.amqp_endpoint_model.specs.declared.event.Event.{Event}
use Rattle.amqp_endpoint_model.specs.declared.phase.Phase.{Phase}
use Rattle.amqp_endpoint_model.specs.declared.phase.Phase.TheVariants.{Unconnected, Greeting, Running, Over}
use Rattle.amqp_endpoint_model.specs.Relay.{Relations}
use Rattle.amqp_endpoint_model.specs.Said.{Said, done, refused, fed, pulled, count, truth, tried_close, session_begun}
use Rattle.amqp_endpoint_model.specs.Said.{tried_end, attaching, link_closed, credit_is, waiting, message_sent, Told}
use Rattle.amqp_endpoint_model.specs.State.{State, is_running, is_unconnected, limit_of}
use Rattle.amqp_endpoint_model.specs.Step.{AfterFault, Breaks, BreaksGreeting, ClosesBoth, ClosesBy, ClosesOwn, Ends}
use Rattle.amqp_endpoint_model.specs.Step.{EndsRunning, FeedsIn, FrontBarred, FrontRefused, Greets}
use Rattle.amqp_endpoint_model.specs.Step.{MovesBy, MovesByOpen, ReadsOn, RefusesBody, SendsClose, Step, TakesAll}
use Rattle.amqp_endpoint_model.specs.Step.{SessionsDo, TakesBody, at_state, condition_of, opened}
use Rattle.amqp_endpoint_model.specs.History.{Run}
use Rattle.amqp_endpoint_laws.specs.CallsDone.{events_of, events_told}
use Rattle.amqp_endpoint_laws.specs.Telling.{tag_given, tags_given}
use Rattle.amqp_endpoint_laws.proofs.Keeping.{IsOfConnection, Keeps, KeepsSilent, MayDo}

module _ {S : Type 0} (does : Relations S) (P : Phase → S → Type 0) (k : KeepsSilent does P) where
  abbrev Holds : State S → Type 0
  Holds s = P s.phase s.sessions

  moves-by : (phase : Phase) (row : ConnectionState → Option ConnectionState) (old new : S) → MovesBy does row old new
      → P phase old → P phase new
  moves-by phase row old new m p =
      subst (P phase) (sym m.is)
      (k.moved phase old (record (does.connection old) { local_state = (does.connection new).local_state }) refl p)

  moves-by-open : (phase : Phase) (o : OpenFields) (old new : S) → MovesByOpen does o old new → P phase old
      → P phase new
  moves-by-open phase o old new m p =
      subst (P phase) (sym m.is)
      (k.moved phase old
      (record (does.connection old) {
        local_state = (does.connection new).local_state;
        remote_channel_max = Some o.channel_max;
      })
      refl p)

  sends-close : (phase : Phase) (own error : Bool) (old new : S) → SendsClose does own error old new → P phase old
      → P phase new
  sends-close phase true error old new same p = subst (P phase) (sym same) p
  sends-close phase false error old new m p = moves-by phase _ old new m p

  closes-both : (phase to : Phase) (own : Bool) (old new : S) → ClosesBoth does own old new → P phase old → P to new
  closes-both phase to own old new c p =
      k.finished phase to c.answered new c.over
      (sends-close phase own false c.taken c.answered c.answers (moves-by phase _ old c.taken c.takes p))

  pub closes-by : (phase to : Phase) (own : Bool) (old new : S) → ClosesBy does own old new → P phase old → P to new
  closes-by phase to own old new c p =
      k.finished phase to c.told new c.over (sends-close phase own true old c.told c.tells p)

  closes-own : (phase : Phase) (old new : S) → ClosesOwn does old new → P phase old → P phase new
  closes-own phase old new c p = k.closed phase c.sent new c.left (moves-by phase _ old c.sent c.sends p)

  breaks : (old new : State S) → Breaks does old new → Holds old → Holds new
  breaks old new (finishes, after) p =
      subst Holds (sym after) (k.finished old.phase Unconnected old.sessions new.sessions finishes p)

  after-fault : (condition : Option (List ℕ)) (s new : State S) → AfterFault does condition s new → Holds s → Holds new
  after-fault None s new b p = breaks s new b p
  after-fault (Some condition) s new (closes, is) p =
      subst Holds (sym is) (closes-by s.phase Over s.own_close s.sessions new.sessions closes p)

  refuses-body : (e : EndpointError) (body : FrameBody) (s : State S) (channel : ℕ) (sessions : S)
      → RefusesBody does s e channel body sessions → Holds s → P s.phase sessions
  refuses-body PeerLimitUnder512 (Open o) s channel sessions (none, least, same) p = subst (P s.phase) (sym same) p
  refuses-body (Connection OutOfOrder) (Open o) s channel sessions (some, same) p = subst (P s.phase) (sym same) p
  refuses-body e body s channel sessions r p =
      k.refused s.phase s.sessions sessions (limit_of s.peer_limit) channel body e r.refuses p

  barred : (e : EndpointError) (s : State S) (left : List ℕ) (sessions : S) → FrontBarred does s left e sessions
      → Holds s → P s.phase sessions
  barred e s left sessions b p = refuses-body e b.frame.body s b.frame.channel sessions b.refuses p

  -- there was no memory for it, or none to tell of a refusal
  unread : (s : State S) (left : List ℕ) (sessions : S)
      → (sessions ≡ s.sessions) ⊎ ((e : EndpointError) × FrontBarred does s left e sessions) → Holds s
      → P s.phase sessions
  unread s left sessions (inl same) p = subst (P s.phase) (sym same) p
  unread s left sessions (inr (e, b)) p = barred e s left sessions b p

  front-refused : (e : EndpointError) (s : State S) (left : List ℕ) (sessions : S)
      → FrontRefused does s left e sessions → Holds s → P s.phase sessions
  front-refused PeerLimitUnder512 s left sessions r p = barred PeerLimitUnder512 s left sessions r p
  front-refused (Connection e) s left sessions r p = barred (Connection e) s left sessions r p
  front-refused (Session e) s left sessions r p = barred (Session e) s left sessions r p
  front-refused NumbersUsedUp s left sessions r p = barred NumbersUsedUp s left sessions r p
  front-refused Memory s left sessions r p = unread s left sessions r p
  front-refused e s left sessions r p = subst (P s.phase) (sym r.1) p

  ends-running : (mid : State S) (left : List ℕ) (fault : Option EndpointError) (new : State S)
      → EndsRunning does mid left fault new → Holds mid → Holds new
  ends-running mid left None new (waits, after) p = subst Holds (sym after) p
  ends-running mid left (Some e) new r p =
      after-fault (condition_of e) (record mid { sessions = r.sessions }) new r.after
      (front-refused e mid left r.sessions r.refused p)

  ends : (phase : Phase) (mid : State S) (left : List ℕ) (fault : Option EndpointError) (new : State S)
      → Ends does mid phase left fault new → Holds mid → Holds new
  ends Running mid left fault new e p = ends-running mid left fault new e p
  ends Over mid left None new e p = subst Holds (sym e) p
  ends Over mid left (Some f) new e p = absurd e
  ends phase mid left fault new e p = absurd e

  breaks-greeting : (old new : State S) → BreaksGreeting does old new → Holds old → Holds new
  breaks-greeting old new (inl b) p = breaks old new b p
  breaks-greeting old new (inr b) p =
      breaks (record old { sessions = at_state does old.sessions HeaderExchange }) new b
      (k.moved old.phase old.sessions
      (record (does.connection old.sessions) { local_state = HeaderExchange }) refl p)

-- the phases in which the endpoint's own refusals allow these calls
unconnected : (phase : Phase) → (if is_unconnected phase then None else Some AlreadyConnected) ≡ None
    → phase ≡ Unconnected
unconnected Unconnected may = refl
unconnected phase may = absurd (none-some _ (sym may))

running : (phase : Phase) (own : Bool) → (if is_running phase && own then None else Some NotConnected) ≡ None
    → phase ≡ Running
running Running own may = refl
running phase own may = absurd (none-some _ (sym may))

-- and this each run keeps, of the sessions and of what was told
module _ {S : Type 0} (does : Relations S) (P : List Event → List (List ℕ) → Phase → S → Type 0) (k : Keeps does P)
  where
    abbrev Was : List Event → List (List ℕ) → State S → Type 0
    Was seen tags s = P seen tags s.phase s.sessions

    untold : (seen events : List Event) (tags : List (List ℕ)) (s : State S) → events ≡ [] → Was seen tags s
        → Was (seen ++ events) tags s
    untold seen events tags s none p =
        subst (λ (es : List Event). Was es tags s) (sym (ap (λ (es : List Event). seen ++ es) none ∙ append-nil seen)) p

    one-told : (seen events : List Event) (tags : List (List ℕ)) (event : Event) (s : State S) → events ≡ event ∷ []
        → IsOfConnection event → Was seen tags s → Was (seen ++ events) tags s
    one-told seen events tags event s is theirs p =
        subst (λ (es : List Event). Was (seen ++ es) tags s) (sym is)
        (k.told seen tags event s.phase s.sessions theirs p)

    untagged : (seen : List Event) (tags : List (List ℕ)) (s : State S) → Was seen tags s → Was seen (tags ++ []) s
    untagged seen tags s p = subst (λ (ts : List (List ℕ)). Was seen ts s) (sym (append-nil tags)) p

    -- an answer without events and tags
    plain : (seen : List Event) (tags : List (List ℕ)) (s : State S) → Was seen tags s → Was (seen ++ []) (tags ++ []) s
    plain seen tags s p = untold seen [] (tags ++ []) s refl (untagged seen tags s p)

    takes-body : (seen : List Event) (tags : List (List ℕ)) (body : FrameBody) (old : State S) (channel : ℕ)
        (events : List Event) (new : State S) → TakesBody does old channel body events new → Was seen tags old
        → Was (seen ++ events) tags new
    takes-body seen tags Empty old channel events new (told, same) p =
        untold seen events tags new told (subst (Was seen tags) (sym same) p)
    takes-body seen tags (Open o) old channel events new (none, least, told, moves, after) p =
        one-told seen events tags _ new told tt
        (subst (Was seen tags) (sym after)
        (moves-by-open does (P seen tags) (k.silent seen tags) old.phase o old.sessions new.sessions moves p))
    takes-body seen tags (Close c) old channel events new (told, closes, after) p =
        one-told seen events tags _ new told tt
        (subst (Was seen tags) (sym after)
        (closes-both does (P seen tags) (k.silent seen tags) old.phase Over old.own_close old.sessions new.sessions
        closes p))
    takes-body seen tags body old channel events new t p =
        subst (Was (seen ++ events) tags) (sym t.queued)
        (k.taken seen tags old.phase old.sessions new.sessions (limit_of old.peer_limit) channel body t.frames events
        t.takes p)

    takes-all : (seen : List Event) (tags : List (List ℕ)) (old : State S) (frames : List Frame) (events : List Event)
        (new : State S) → TakesAll does old frames events new → Was seen tags old → Was (seen ++ events) tags new
    takes-all seen tags old [] events new (none, same) p =
        untold seen events tags new none (subst (Was seen tags) (sym same) p)
    takes-all seen tags old (f ∷ fs) events new (mid, first, others, one, all, split) p =
        subst (λ (es : List Event). Was es tags new)
        (append_assoc seen first others ∙ ap (λ (es : List Event). seen ++ es) (sym split))
        (takes-all (seen ++ first) tags mid fs others new all
        (takes-body seen tags f.body old f.channel first mid one.1 p))

    reads-on : (seen : List Event) (tags : List (List ℕ)) (old : State S) (bytes : List ℕ) (events : List Event)
        (fault : Option EndpointError) (new : State S) → ReadsOn does old bytes events fault new → Was seen tags old
        → Was (seen ++ events) tags new
    reads-on seen tags old bytes events fault new r p =
        ends does (P (seen ++ events) tags) (k.silent (seen ++ events) tags) r.mid.phase r.mid r.left fault new r.ends
        (takes-all seen tags (record old { rest = [] }) r.frames events r.mid r.taken p)

    greets : (seen : List Event) (tags : List (List ℕ)) (old : State S) (bytes : List ℕ) (events : List Event)
        (fault : Option EndpointError) (new : State S) → Greets does old bytes events fault new → Was seen tags old
        → Was (seen ++ events) tags new
    greets seen tags old bytes events fault new (inl (short, none, clean, after)) p =
        untold seen events tags new none (subst (Was seen tags) (sym after) p)
    greets seen tags old bytes events fault new (inr (inl (long, other, none, is, b))) p =
        untold seen events tags new none (breaks does (P seen tags) (k.silent seen tags) old new b p)
    greets seen tags old bytes events fault new (inr (inr (inl (header, r)))) p =
        let silent : KeepsSilent does (P seen tags) = k.silent seen tags in
        reads-on seen tags (opened does old) _ events fault new r
        (silent.runs old.phase (at_state does old.sessions OpenSent)
        (silent.moved old.phase old.sessions
        (record (does.connection old.sessions) { local_state = OpenSent }) refl p))
    greets seen tags old bytes events fault new (inr (inr (inr (none, memory, b)))) p =
        untold seen events tags new none (breaks-greeting does (P seen tags) (k.silent seen tags) old new b p)

    feeds-in : (seen : List Event) (tags : List (List ℕ)) (phase : Phase) (old : State S) (bytes : List ℕ)
        (events : List Event) (fault : Option EndpointError) (new : State S)
        → FeedsIn does phase old bytes events fault new → Was seen tags old → Was (seen ++ events) tags new
    feeds-in seen tags Unconnected old bytes events fault new (none, is, same) p =
        untold seen events tags new none (subst (Was seen tags) (sym same) p)
    feeds-in seen tags Greeting old bytes events fault new g p = greets seen tags old _ events fault new g p
    feeds-in seen tags Running old bytes events fault new r p = reads-on seen tags old _ events fault new r p
    feeds-in seen tags Over old bytes events fault new (none, is, same) p =
        untold seen events tags new none (subst (Was seen tags) (sym same) p)

    -- nothing is told
    stays : (seen : List Event) (tags : List (List ℕ)) (old new : State S) → new ≡ old → Was seen tags old
        → Was (seen ++ []) (tags ++ []) new
    stays seen tags old new same p = plain seen tags new (subst (Was seen tags) (sym same) p)

    -- the sessions do it
    does-call : (seen : List Event) (tags : List (List ℕ)) (old : State S) (call : Call) (answer : Said) (new : State S)
        → MayDo old.phase call → SessionsDo does old call answer new → Was seen tags old
        → Was (seen ++ events_of answer) (tags ++ tag_given answer) new
    does-call seen tags old call answer new may s p =
        subst (Was (seen ++ events_of answer) (tags ++ tag_given answer)) (sym s.queued)
        (k.called seen tags old.phase old.sessions new.sessions (limit_of old.peer_limit) call answer s.frames may
        s.calls p)

    step : (seen : List Event) (tags : List (List ℕ)) (old : State S) (call : Call) (answer : Said) (new : State S)
        → Step does old call answer new → Was seen tags old
        → Was (seen ++ events_of answer) (tags ++ tag_given answer) new
    step seen tags old call (refused e) new (may, same) p = stays seen tags _ new same p
    step seen tags old (Feed bytes) (fed events fault) new s p =
        untagged (seen ++ events) tags new (feeds-in seen tags old.phase old bytes events fault new s p)
    step seen tags old Connect done new (may, after) p =
        plain seen tags new
        (subst (Was seen tags) (sym after)
        ((k.silent seen tags).renewed old.sessions
        (subst (λ (phase : Phase). P seen tags phase old.sessions) (unconnected old.phase may) p)))
    step seen tags old Pull (pulled None) new (empty, same) p = stays seen tags _ new same p
    step seen tags old Pull (pulled (Some bytes)) new (first, others, is, text, after) p =
        stays seen tags _ new after p
    step seen tags old Queued (count n) new (is, same) p = stays seen tags _ new same p
    step seen tags old IsIdle (truth b) new (is, same) p = stays seen tags _ new same p
    step seen tags old Heartbeat done new (none, after) p = stays seen tags _ new after p
    step seen tags old BreakOff done new b p =
        plain seen tags new (breaks does (P seen tags) (k.silent seen tags) old new b p)
    step seen tags old CloseCall done new (none, closes, after) p =
        plain seen tags new
        (subst (Was seen tags) (sym after)
        (closes-own does (P seen tags) (k.silent seen tags) old.phase old.sessions new.sessions closes p))
    step seen tags old IsClosed (truth b) new (is, same) p = stays seen tags _ new same p
    step seen tags old TryClose (tried_close o) new (is, after) p = stays seen tags _ new after p
    step seen tags old Begin (session_begun n) new s p =
        does-call seen tags old Begin (session_begun n) new (running old.phase _ s.allowed) s p
    step seen tags old (AcceptBegin c) (session_begun n) new s p =
        does-call seen tags old (AcceptBegin c) (session_begun n) new (running old.phase _ s.allowed) s p
    step seen tags old (End n) done new s p =
        does-call seen tags old (End n) done new tt s p
    step seen tags old (TryEnd n) (tried_end o) new s p =
        does-call seen tags old (TryEnd n) (tried_end o) new tt s p
    step seen tags old (AttachSender n settings) (attaching link events) new s p =
        does-call seen tags old (AttachSender n settings) (attaching link events) new tt s p
    step seen tags old (AttachReceiver n settings) (attaching link events) new s p =
        does-call seen tags old (AttachReceiver n settings) (attaching link events) new tt s p
    step seen tags old (Resume link n) (attaching number events) new s p =
        does-call seen tags old (Resume link n) (attaching number events) new tt s p
    step seen tags old (Detach link) done new s p =
        does-call seen tags old (Detach link) done new tt s p
    step seen tags old (CloseLink link) (link_closed events) new s p =
        does-call seen tags old (CloseLink link) (link_closed events) new tt s p
    step seen tags old (Grant link n) (credit_is left) new s p =
        does-call seen tags old (Grant link n) (credit_is left) new tt s p
    step seen tags old (Drain link) done new s p =
        does-call seen tags old (Drain link) done new tt s p
    step seen tags old (Send link message) (message_sent tag outcome) new s p =
        does-call seen tags old (Send link message) (message_sent tag outcome) new tt s p
    step seen tags old (Dispose link message disposal) done new s p =
        does-call seen tags old (Dispose link message disposal) done new tt s p
    step seen tags old (DisposeAll link messages disposal) done new s p =
        does-call seen tags old (DisposeAll link messages disposal) done new tt s p
    step seen tags old (IsEnded n) (truth b) new s p = stays seen tags _ new s.same p
    step seen tags old (Credit link) (credit_is left) new s p = stays seen tags _ new s.same p
    step seen tags old (HeldBack n) (count m) new s p = stays seen tags _ new s.same p
    step seen tags old (WaitingCall n) (waiting turn) new s p = stays seen tags _ new s.same p
    step seen tags old call answer new s p = absurd s

    pub run-keeps : (seen : List Event) (tags : List (List ℕ)) (old end : State S) (calls : List Call)
        (told : List Told) → Run does old calls told end → Was seen tags old
        → Was (seen ++ events_told told) (tags ++ tags_given told) end
    run-keeps seen tags old end [] [] same p = stays seen tags _ end same p
    run-keeps seen tags old end [] (t ∷ ts) run p = absurd run
    run-keeps seen tags old end (call ∷ calls) [] run p = absurd run
    run-keeps seen tags old end (call ∷ calls) (t ∷ ts) (mid, one, queued, rest) p =
        let first : Was (seen ++ events_of t.answer) (tags ++ tag_given t.answer) mid =
        step seen tags old call t.answer mid one p in
        let others :
        Was ((seen ++ events_of t.answer) ++ events_told ts) ((tags ++ tag_given t.answer) ++ tags_given ts) end =
        run-keeps (seen ++ events_of t.answer) (tags ++ tag_given t.answer) mid end calls ts rest first in
        let noted : Was (seen ++ events_told (t ∷ ts)) ((tags ++ tag_given t.answer) ++ tags_given ts) end =
        subst (λ (es : List Event). Was es ((tags ++ tag_given t.answer) ++ tags_given ts) end)
        (append_assoc seen (events_of t.answer) (events_told ts)) others in
        subst (λ (all : List (List ℕ)). Was (seen ++ events_told (t ∷ ts)) all end)
        (append_assoc tags (tag_given t.answer) (tags_given ts)) noted
