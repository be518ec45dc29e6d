-- Laws of a feed: frame after frame, and how it ends.
use Rattle.std.proofs.Common.{◌≡◌, ℕ, ◌+◌, ◌≤◌, ◌<◌, ◌⊎◌, inl, inr, List, [], ◌∷◌, ◌++◌, drop, length, Option, Some, None, Bool, true, false, refl, sym, ◌∙◌, ap, arith, subst, length-append, append-nil, append_assoc, if◌then◌else◌}
use Rattle.amqp_session_frames.specs.declared.frame.Frame.{Frame}
use Rattle.amqp_session_frames.specs.declared.frame.FrameBody.{FrameBody}
use Rattle.amqp_session_frames.specs.declared.frame.FrameBody.TheVariants.{Empty, Open, Close}
use Rattle.amqp_session_frames.specs.Cutting.{ReadsAs}
use Rattle.amqp_session_frames.specs.declared.state.ConnectionState.TheVariants.{HeaderExchange}
use Rattle.amqp_endpoint_model.specs.declared.event.Event.{Event}
use Rattle.amqp_endpoint_model.specs.declared.error.EndpointError.{EndpointError}
use Rattle.amqp_endpoint_model.specs.declared.error.EndpointError.TheVariants.{Memory, NumbersUsedUp, ProtocolHeaderMismatch, PeerLimitUnder512, Connection, Session}
use Rattle.amqp_endpoint_model.specs.Relay.{Relations}
use Rattle.amqp_endpoint_model.specs.declared.phase.Phase.{Phase}
use Rattle.amqp_endpoint_model.specs.declared.phase.Phase.TheVariants.{Unconnected, Greeting, Running, Over}
use Rattle.amqp_endpoint_model.specs.declared.settings.Settings.{Settings}
use Rattle.amqp_endpoint_model.specs.State.{State, is_running}
use Rattle.amqp_endpoint_model.specs.Step.{Breaks, BreaksGreeting, Greets, at_state, opened, FrontBarred, FrontRefused, Admits, AfterFault, TakesBody, TakesAll, Waits, Ends, EndsRunning, ReadsOn, condition_of}
use Rattle.amqp_endpoint_model.proofs.Takings.{TakesAll-more}
use Rattle.amqp_endpoint_core.proofs.ReadingLaws.{chosen, refuses_again}
use Rattle.amqp_endpoint_core.specs.Reading.{EndsBy, GreetedOff, HeaderLeft, HeaderRefused, HeaderTaken, SoFar, SoFarBehind, TakesFront, Tells}

module _ {S : Type 0} where
  other : (b : Bool) (x y : State S) → b ≡ false → (if b then x else y) ≡ y
  other false x y e = refl
  other true x y e = absurd (cc)

runs : (p : Phase) → is_running p ≡ true → p ≡ Running
runs Running e = refl
runs Unconnected e = absurd (cc)
runs Greeting e = absurd (cc)
runs Over e = absurd (cc)

-- what taking a body keeps, and which phases it leads to
pub record Keeps {S : Type 0} (s new : State S) : Type 0 where
  pub settings : new.settings ≡ s.settings
  pub rest : new.rest ≡ []
  pub phase : (new.phase ≡ Running) ⊎ (new.phase ≡ Over)

-- one more frame is read
ReadsAs-more : (P : List ℕ → Frame → Type 0) (bytes : List ℕ) (fs : List Frame) (left piece : List ℕ) (f : Frame) (more : List ℕ)
    → ReadsAs P bytes fs left → left ≡ piece ++ more → P piece f → ReadsAs P bytes (fs ++ f ∷ []) more
ReadsAs-more P bytes [] left piece f more r e p = (piece, more, r ∙ e, p, refl)
ReadsAs-more P bytes (g ∷ gs) left piece f more (front, others, whole, q, r) e p = (front, others, whole, q, ReadsAs-more P others gs left piece f more r e p)

module _ {S : Type 0} (does : Relations S) where
  goes_on : (s new now : State S) → s.rest ≡ [] → s.phase ≡ Running → new ≡ now → now.settings ≡ s.settings → now.rest
      ≡ s.rest
      → now.phase ≡ s.phase → Keeps s new
  goes_on s new now none run e settings rest phase =
      record {
        settings = ap (λ (x : State S). x.settings) e ∙ settings;
        rest = ap (λ (x : State S). x.rest) e ∙ (rest ∙ none);
        phase = inl (ap (λ (x : State S). x.phase) e ∙ (phase ∙ run));
      }

  body_keeps : (s : State S) (channel : ℕ) (b : FrameBody) (events : List Event) (new : State S) → s.rest ≡ []
      → s.phase ≡ Running
      → TakesBody does s channel b events new → Keeps s new
  body_keeps s channel Empty events new none run (told, e) = goes_on s new s none run e refl refl refl
  body_keeps s channel (Open o) events new none run (fresh, least, told, moves, e) = goes_on s new _ none run e refl
      refl refl
  body_keeps s channel (Close c) events new none run (told, both, e) =
      record {
        settings = ap (λ (x : State S). x.settings) e;
        rest = ap (λ (x : State S). x.rest) e;
        phase = inr (ap (λ (x : State S). x.phase) e);
      }
  body_keeps s channel b events new none run t = goes_on s new _ none run t.queued refl refl refl

  -- nothing is taken yet
  pub so_far_none : (start : State S) → start.phase ≡ Running → SoFar does start [] start
  so_far_none start run =
      record {
        frames = [];
        left = start.rest;
        mid = record start { rest = [] };
        read = refl;
        taken = (refl, refl);
        is = sym (chosen (is_running start.phase) start (record start { rest = [] }) (ap is_running run));
        settings = refl;
        dropped = refl;
        phase = inl run;
      }

  -- while the connection runs, what is left is what the frames taken have left
  pub record Stands (start now : State S) (events : List Event) (x : SoFar does start events now) : Type 0 where
    pub run : x.mid.phase ≡ Running
    pub now_is : now ≡ record x.mid { rest = x.left }

  stands : (start now : State S) (events : List Event) (x : SoFar does start events now) → is_running now.phase ≡ true
      → Stands start now events x
  stands start now events x run =
      elim x.phase [
        | inl r ↦
            record {
              run = r;
              now_is = x.is ∙ chosen (is_running x.mid.phase) (record x.mid { rest = x.left }) x.mid (ap is_running r);
            }
        | inr o ↦
            let same : now ≡ x.mid =
            x.is ∙ other (is_running x.mid.phase) (record x.mid { rest = x.left }) x.mid (ap is_running o) in
            let wrong : true ≡ false = sym run ∙ ap (λ (s : State S). is_running s.phase) same ∙ ap is_running o in
            absurd (cc)
      ]

  -- the frame in front of it is taken too
  pub so_far_more : (start now : State S) (before more behind : List Event) (new : State S)
      → SoFar does start before now
      → is_running now.phase ≡ true → TakesFront does now more new → behind ≡ before ++ more
      → SoFar does start behind new
  so_far_more start now before more behind new x run t told =
      let at = stands start now before x run in
      let left : now.rest ≡ x.left = ap (λ (s : State S). s.rest) at.now_is in
      let limit : now.settings.max_frame_size ≡ start.settings.max_frame_size =
      ap (λ (s : State S). s.settings.max_frame_size) at.now_is ∙ ap (λ (s : Settings). s.max_frame_size) x.settings in
      let base : record now { rest = [] } ≡ x.mid =
      ap (λ (s : State S). record s { rest = [] }) at.now_is
      ∙ ap (λ (r : List ℕ). record x.mid { rest = r }) (sym x.dropped) in
      let P : State S → Type 0 = λ s. TakesBody does s t.frame.channel t.frame.body more t.mid in
      let takes : TakesBody does x.mid t.frame.channel t.frame.body more t.mid = subst P base t.takes in
      let kept = body_keeps x.mid t.frame.channel t.frame.body more t.mid x.dropped at.run takes in
      let short : length t.piece ≤ start.settings.max_frame_size = omega (arith, t.front.short, limit) in
      let Q : List Event → Type 0 = λ es. TakesAll does (record start { rest = [] }) (x.frames ++ t.frame ∷ []) es
      t.mid in
      record {
        frames = x.frames ++ t.frame ∷ [];
        left = t.front.more;
        mid = t.mid;
        read =
            ReadsAs-more (Admits start.settings.max_frame_size) start.rest x.frames x.left t.piece t.frame
            t.front.more x.read
            (sym left ∙ t.front.whole) (record { text = t.text; short = short });
        taken =
            subst Q (sym told)
            (TakesAll-more does (record start { rest = [] }) x.frames before x.mid t.frame more t.mid x.taken
            (at.run, takes));
        is = t.after;
        settings = kept.settings ∙ x.settings;
        dropped = kept.rest;
        phase = kept.phase;
      }

  -- less is left behind each frame
  pub front_shorter : (s : State S) (events : List Event) (new : State S) → is_running s.phase ≡ true
      → TakesFront does s events new
      → length new.rest < length s.rest
  front_shorter s events new run t =
      let kept =
      body_keeps (record s { rest = [] }) t.frame.channel t.frame.body events t.mid refl (runs s.phase run) t.takes in
      let least : 8 ≤ length t.piece = t.front.piece_is.least in
      let whole : length s.rest ≡ length t.piece + length t.front.more =
      ap length t.front.whole ∙ length-append t.piece t.front.more in
      elim kept.phase [
        | inl r ↦
            let e : new.rest ≡ t.front.more =
            ap (λ (x : State S). x.rest)
            (t.after ∙ chosen (is_running t.mid.phase) (record t.mid { rest = t.front.more }) t.mid (ap is_running r))
            in
            omega (arith, ap length e)
        | inr o ↦
            let e : new.rest ≡ [] =
            ap (λ (x : State S). x.rest)
            (t.after ∙ other (is_running t.mid.phase) (record t.mid { rest = t.front.more }) t.mid (ap is_running o))
            ∙ kept.rest in
            omega (arith, ap length e)
      ]

  -- the bytes end before a frame is whole
  pub ends_waiting : (start now : State S) (events behind : List Event) (new : State S) → SoFar does start events now
      → is_running now.phase ≡ true → Waits now.settings.max_frame_size now.rest → behind ≡ events → new ≡ now
      → ReadsOn does start start.rest behind None new
  ends_waiting start now events behind new x run w told same =
      let at = stands start now events x run in
      let P : State S → Type 0 = λ s. Waits s.settings.max_frame_size s.rest in
      let Q : Phase → Type 0 = λ p. Ends does x.mid p x.left None new in
      let R : List Event → Type 0 = λ es. TakesAll does (record start { rest = [] }) x.frames es x.mid in
      record {
        frames = x.frames;
        left = x.left;
        mid = x.mid;
        read = x.read;
        taken = subst R (sym told) x.taken;
        ends = subst Q (sym at.run) (subst P at.now_is w, same ∙ at.now_is);
      }

  -- the peer's Close was taken
  pub ends_closed : (start now : State S) (events : List Event) → SoFar does start events now → is_running now.phase
      ≡ false
      → ReadsOn does start start.rest events None now
  ends_closed start now events x stopped =
      elim x.phase [
        | inl r ↦
            let same : now ≡ record x.mid { rest = x.left } =
            x.is ∙ chosen (is_running x.mid.phase) (record x.mid { rest = x.left }) x.mid (ap is_running r) in
            let wrong : false ≡ true = sym stopped ∙ ap (λ (s : State S). is_running s.phase) same ∙ ap is_running r in
            absurd (cc)
        | inr o ↦
            let same : now ≡ x.mid =
            x.is ∙ other (is_running x.mid.phase) (record x.mid { rest = x.left }) x.mid (ap is_running o) in
            let Q : Phase → Type 0 = λ p. Ends does x.mid p x.left None now in
            record {
              frames = x.frames;
              left = x.left;
              mid = x.mid;
              read = x.read;
              taken = x.taken;
              ends = subst Q (sym o) same;
            }
      ]

  -- why the frame in front is refused lies in it, and not in what was kept
  barred_again : (m : State S) (r left : List ℕ) (e : EndpointError) (sessions : S)
      → FrontBarred does (record m { rest = r }) left e sessions → FrontBarred does m left e sessions
  barred_again m r left e sessions h =
      record {
        piece = h.piece;
        frame = h.frame;
        front = h.front;
        text = h.text;
        refuses = refuses_again does m r e h.frame.channel h.frame.body sessions h.refuses;
      }

  refused_again : (m : State S) (r left : List ℕ) (e : EndpointError) (sessions : S)
      → FrontRefused does (record m { rest = r }) left e sessions → FrontRefused does m left e sessions
  refused_again m r left PeerLimitUnder512 sessions h = barred_again m r left PeerLimitUnder512 sessions h
  refused_again m r left (Connection e) sessions h = barred_again m r left (Connection e) sessions h
  refused_again m r left (Session e) sessions h = barred_again m r left (Session e) sessions h
  refused_again m r left NumbersUsedUp sessions h = barred_again m r left NumbersUsedUp sessions h
  refused_again m r left Memory sessions (inl same) = inl same
  refused_again m r left Memory sessions (inr (e, h)) = inr (e, barred_again m r left e sessions h)
  refused_again m r left e sessions h = h

  -- there may be no memory to tell of it
  refused_or_memory : (m : State S) (left : List ℕ) (e : EndpointError) (sessions : S)
      → FrontRefused does m left e sessions
      → FrontRefused does m left Memory sessions
  refused_or_memory m left PeerLimitUnder512 sessions h = inr (PeerLimitUnder512, h)
  refused_or_memory m left (Connection e) sessions h = inr (Connection e, h)
  refused_or_memory m left (Session e) sessions h = inr (Session e, h)
  refused_or_memory m left NumbersUsedUp sessions h = inr (NumbersUsedUp, h)
  refused_or_memory m left Memory sessions h = h
  refused_or_memory m left e sessions h = inl h.1

  after_fault-rest : (condition : Option (List ℕ)) (m new : State S) (r : List ℕ)
      → AfterFault does condition (record m { rest = r }) new
      → AfterFault does condition m new
  after_fault-rest None m new r h = h
  after_fault-rest (Some x) m new r h = h

  -- a fault ends it, or want of memory for the Close that tells of it does
  fault_or_memory : (mid m : State S) (left : List ℕ) (e told : EndpointError) (new : State S)
      → FrontRefused does (record mid { rest = left }) left e m.sessions
      → m ≡ record mid { rest = m.rest; sessions = m.sessions } → EndsBy does e told m new
      → EndsRunning does mid left (Some told) new
  fault_or_memory mid m left e told new h cut (inl (is, after)) =
      let P : EndpointError → Type 0 = λ x. EndsRunning does mid left (Some x) new in
      let Q : State S → Type 0 = λ s. AfterFault does (condition_of e) s new in
      subst P (sym is)
      (record {
        sessions = m.sessions;
        refused = refused_again mid left left e m.sessions h;
        after =
            after_fault-rest (condition_of e) (record mid { sessions = m.sessions }) new m.rest (subst Q cut after);
      })
  fault_or_memory mid m left e told new h cut (inr (is, after)) =
      let P : EndpointError → Type 0 = λ x. EndsRunning does mid left (Some x) new in
      let Q : State S → Type 0 = λ s. AfterFault does None s new in
      subst P (sym is)
      (record {
        sessions = m.sessions;
        refused = refused_or_memory mid left e m.sessions (refused_again mid left left e m.sessions h);
        after = after_fault-rest None (record mid { sessions = m.sessions }) new m.rest (subst Q cut after);
      })

  pub ends_by_fault : (start now : State S) (events behind : List Event) (m new : State S) (e told : EndpointError)
      → SoFar does start events now → is_running now.phase ≡ true → FrontRefused does now now.rest e m.sessions
      → behind ≡ events → m ≡ record now { rest = m.rest; sessions = m.sessions } → EndsBy does e told m new
      → ReadsOn does start start.rest behind (Some told) new
  ends_by_fault start now events behind m new e told x run refused same cut ends =
      let at = stands start now events x run in
      let P : State S → Type 0 = λ s. FrontRefused does s s.rest e m.sessions in
      let Q : Phase → Type 0 = λ p. Ends does x.mid p x.left (Some told) new in
      let R : List Event → Type 0 = λ es. TakesAll does (record start { rest = [] }) x.frames es x.mid in
      let cut_mid : m ≡ record x.mid { rest = m.rest; sessions = m.sessions } =
      cut ∙ ap (λ (s : State S). record s { rest = m.rest; sessions = m.sessions }) at.now_is in
      record {
        frames = x.frames;
        left = x.left;
        mid = x.mid;
        read = x.read;
        taken = subst R (sym same) x.taken;
        ends = subst Q (sym at.run) (fault_or_memory x.mid m x.left e told new (subst P at.now_is refused) cut_mid
            ends);
      }

  -- what was kept before makes no difference
  pub reads_again : (old : State S) (r bytes : List ℕ) (events : List Event) (fault : Option EndpointError)
      (new : State S)
      → ReadsOn does (record old { rest = r }) bytes events fault new → ReadsOn does old bytes events fault new
  reads_again old r bytes events fault new x =
      record { frames = x.frames; left = x.left; mid = x.mid; read = x.read; taken = x.taken; ends = x.ends }

  -- they are read behind those that were kept
  pub reads_behind : (old mid new : State S) (r : List ℕ) (events : List Event) (fault : Option EndpointError)
      → mid ≡ record old { rest = r } → ReadsOn does mid mid.rest events fault new → ReadsOn does old r events fault new
  reads_behind old mid new r events fault is x =
      let P : State S → Type 0 = λ s. ReadsOn does s s.rest events fault new in
      reads_again old r r events fault new (subst P is x)

  -- there is no memory for the bytes
  pub feed_off : (old new : State S) (bytes : List ℕ) (events : List Event) (fault : Option EndpointError) → old.phase
      ≡ Running
      → events ≡ [] → fault ≡ Some Memory → Breaks does old new → ReadsOn does old bytes events fault new
  feed_off old new bytes events fault run none is off =
      let E : List Event → Type 0 = λ es. ReadsOn does old bytes es fault new in
      let F : Option EndpointError → Type 0 = λ f. ReadsOn does old bytes [] f new in
      let Q : Phase → Type 0 = λ p. Ends does (record old { rest = [] }) p bytes (Some Memory) new in
      let ended : EndsRunning does (record old { rest = [] }) bytes (Some Memory) new =
      record { sessions = old.sessions; refused = inl refl; after = off } in
      subst E (sym none)
      (subst F (sym is)
      (record {
        frames = [];
        left = bytes;
        mid = record old { rest = [] };
        read = refl;
        taken = (refl, refl);
        ends = subst Q (sym run) ended;
      }))

  -- frames are read behind the header
  pub greets_on : (old : State S) (bytes : List ℕ) (mid new : State S) (events : List Event)
      (fault : Option EndpointError)
      → HeaderTaken does true (record old { rest = bytes }) mid → ReadsOn does mid mid.rest events fault new
      → Greets does old bytes events fault new
  greets_on old bytes mid new events fault (whole, is) reads =
      let P : State S → Type 0 = λ s. ReadsOn does s s.rest events fault new in
      inr (inr (inl (
        whole,
        reads_again (opened does old) (drop 8 bytes) (drop 8 bytes) events fault new
            (subst P is reads),
      )))

  -- the header isn't whole
  pub greets_later : (old : State S) (bytes : List ℕ) (new : State S) (events : List Event)
      (fault : Option EndpointError)
      → HeaderTaken does false (record old { rest = bytes }) new → events ≡ [] → fault ≡ None
      → Greets does old bytes events fault new
  greets_later old bytes new events fault (less, is) none well = inl (less, none, well, is)

  off_again : (old mid new : State S) (r : List ℕ) → mid ≡ record old { rest = r } → Breaks does mid new
      → Breaks does old new
  off_again old mid new r is h =
      let P : State S → Type 0 = λ s. Breaks does s new in
      let at : Breaks does (record old { rest = r }) new = subst P is h in
      at

  exchanged_again : (old mid new : State S) (r : List ℕ)
      → mid ≡ record old { rest = r; sessions = at_state does old.sessions HeaderExchange } → Breaks does mid new
      → Breaks does (record old { sessions = at_state does old.sessions HeaderExchange }) new
  exchanged_again old mid new r is h =
      let P : State S → Type 0 = λ s. Breaks does s new in
      let at : Breaks does (record old { rest = r; sessions = at_state does old.sessions HeaderExchange }) new = subst
      P is h in
      at

  header_off : (old mid new : State S) (r : List ℕ) → GreetedOff does (record old { rest = r }) mid
      → Breaks does mid new
      → BreaksGreeting does old new
  header_off old mid new r (inl same) off = inl (off_again old mid new r same off)
  header_off old mid new r (inr is) off = inr (exchanged_again old mid new r is off)

  refused_off : (old mid new : State S) (bytes : List ℕ) (e : EndpointError) (events : List Event)
      (fault : Option EndpointError)
      → HeaderRefused does (record old { rest = bytes }) e mid → events ≡ [] → fault ≡ Some e → Breaks does mid new
      → Greets does old bytes events fault new
  refused_off old mid new bytes ProtocolHeaderMismatch events fault (long, other, same) none is off =
      inr (inl (long, other, none, is, off_again old mid new bytes same off))
  refused_off old mid new bytes Memory events fault h none is off =
      inr (inr (inr (none, is, header_off old mid new bytes h off)))
  refused_off old mid new bytes e events fault h none is off = absurd h

  -- the header is refused, or there is no memory
  pub greets_off : (old mid new : State S) (bytes : List ℕ) (e : EndpointError) (events : List Event)
      (fault : Option EndpointError)
      → HeaderLeft does old bytes e mid → events ≡ [] → fault ≡ Some e → Breaks does mid new
      → Greets does old (old.rest ++ bytes) events fault new
  greets_off old mid new bytes e events fault (inl h) none is off =
      let P : State S → Type 0 = λ s. Breaks does s new in
      inr (inr (inr (none, is ∙ ap Some h.0, inl (subst P h.1 off))))
  greets_off old mid new bytes e events fault (inr h) none is off =
      refused_off old mid new (old.rest ++ bytes) e events fault h none is off

-- ---- behind the events that were told before

module _ {S : Type 0} (does : Relations S) where
  -- nothing is told yet
  pub behind_none : (start : State S) (before : List Event) → start.phase ≡ Running → SoFarBehind does start before before start
  behind_none start before run =
      record { events = []; is_so = so_far_none does start run; told = sym (append-nil before) }

  -- what a frame tells stands behind it
  pub behind_more : (start now : State S) (before between more behind : List Event) (new : State S)
      → SoFarBehind does start before between now → is_running now.phase ≡ true → TakesFront does now more new
      → behind ≡ between ++ more → SoFarBehind does start before behind new
  behind_more start now before between more behind new x run t told =
      record {
        events = x.events ++ more;
        is_so = so_far_more does start now x.events more (x.events ++ more) new x.is_so run t refl;
        told = told ∙ ap (λ (l : List Event). l ++ more) x.told ∙ append_assoc before x.events more;
      }

  pub behind_waiting : (start now : State S) (before between behind : List Event) (new : State S)
      → SoFarBehind does start before between now → is_running now.phase ≡ true
      → Waits now.settings.max_frame_size now.rest → behind ≡ between → new ≡ now
      → Tells (λ (told : List Event). ReadsOn does start start.rest told None new) before behind
  behind_waiting start now before between behind new x run w told same =
      record {
        events = x.events;
        is_so = ends_waiting does start now x.events x.events new x.is_so run w refl same;
        told = told ∙ x.told;
      }

  pub behind_closed : (start now : State S) (before behind : List Event) → SoFarBehind does start before behind now
      → is_running now.phase ≡ false → Tells (λ (told : List Event). ReadsOn does start start.rest told None now) before behind
  behind_closed start now before behind x stopped =
      record { events = x.events; is_so = ends_closed does start now x.events x.is_so stopped; told = x.told }

  pub behind_fault : (start now : State S) (before between behind : List Event) (m new : State S) (e told : EndpointError)
      → SoFarBehind does start before between now → is_running now.phase ≡ true
      → FrontRefused does now now.rest e m.sessions → behind ≡ between
      → m ≡ record now { rest = m.rest; sessions = m.sessions } → EndsBy does e told m new
      → Tells (λ (events : List Event). ReadsOn does start start.rest events (Some told) new) before behind
  behind_fault start now before between behind m new e told x run refused same cut ends =
      record {
        events = x.events;
        is_so = ends_by_fault does start now x.events x.events m new e told x.is_so run refused refl cut ends;
        told = same ∙ x.told;
      }

-- this is so of what is told, where that is
pub told_where : {P Q : List Event → Type 0} → ((told : List Event) → P told → Q told) → {before behind : List Event}
    → Tells P before behind → Tells Q before behind
told_where so t = record { events = t.events; is_so = so t.events t.is_so; told = t.told }

-- nothing is told
pub told_nothing : {P : List Event → Type 0} (before : List Event) → P [] → Tells P before before
told_nothing before so = record { events = []; is_so = so; told = sym (append-nil before) }
