-- What was fed since the latest connect is frames one behind the other.
use Rattle.std.proofs.Common.{◌≡◌, ◌≢◌, ◌⊎◌, ℕ, ◌≤◌, ◌<◌, Bool, true, false, List, [], ◌++◌, length, drop, refl, sym, ◌∙◌, ap, arith, length-append, subst, Option, Some, None, inl, inr, take-append-drop}
use Rattle.std.specs.Prelude.{◌||◌, is_some}
use Rattle.std.proofs.lemmas.List.{append-nil}
use Rattle.amqp_session_types.specs.declared.refusals.ConnectionError.{ConnectionError}
use Rattle.amqp_session_types.specs.declared.refusals.ConnectionError.TheVariants.{IllegalState as OutOfOrder}
use Rattle.amqp_session_performatives.specs.declared.open.Open.{Open as OpenFields}
use Rattle.amqp_session_frames.specs.declared.frame.Frame.{Frame}
use Rattle.amqp_session_frames.specs.declared.frame.FrameBody.{FrameBody}
use Rattle.amqp_session_frames.specs.declared.frame.FrameBody.TheVariants.{Open}
use Rattle.amqp_session_frames.specs.Cutting.{ReadsAs}
use Rattle.amqp_session_frames.specs.Text.{FrameText}
use Rattle.amqp_session_frames.proofs.CuttingLaws.{said_size-append, reads-append}
use Rattle.amqp_endpoint_model.specs.declared.error.EndpointError.{EndpointError}
use Rattle.amqp_endpoint_model.specs.declared.error.EndpointError.TheVariants.{Memory, NotConnected, NumbersUsedUp, SizeUnder8, SizeOverLimit, PeerLimitUnder512, Frame as FrameFault, Connection, Session}
use Rattle.amqp_endpoint_model.specs.declared.event.Event.{Event}
use Rattle.amqp_endpoint_model.specs.declared.phase.Phase.{Phase}
use Rattle.amqp_endpoint_model.specs.declared.phase.Phase.TheVariants.{Unconnected, Greeting, Running, Over}
use Rattle.amqp_endpoint_model.specs.declared.call.Call.{Call}
use Rattle.amqp_endpoint_model.specs.declared.call.Call.TheVariants.{Connect, Feed, Pull, Queued, IsIdle, Heartbeat}
use Rattle.amqp_endpoint_model.specs.declared.call.Call.TheVariants.{BreakOff, Close as CloseCall, IsClosed, TryClose}
use Rattle.amqp_endpoint_model.specs.declared.call.Call.TheVariants.{Begin, AcceptBegin, End, IsEnded, TryEnd}
use Rattle.amqp_endpoint_model.specs.declared.call.Call.TheVariants.{AttachSender, AttachReceiver, Detach, CloseLink}
use Rattle.amqp_endpoint_model.specs.declared.call.Call.TheVariants.{Grant, Drain, Credit, HeldBack}
use Rattle.amqp_endpoint_model.specs.declared.call.Call.TheVariants.{Waiting as WaitingCall}
use Rattle.amqp_endpoint_model.specs.declared.call.Call.TheVariants.{Resume, Send, Dispose, DisposeAll}
use Rattle.amqp_endpoint_model.specs.Relay.{Relations}
use Rattle.amqp_endpoint_model.specs.Said.{Said, done, refused, pulled, count, truth, tried_close, session_begun}
use Rattle.amqp_endpoint_model.specs.Said.{tried_end, attaching, link_closed, credit_is, waiting, message_sent}
use Rattle.amqp_endpoint_model.specs.State.{State, protocol_header, limit_of}
use Rattle.amqp_endpoint_model.specs.Step.{Admits, Waits, Front, FrontUnread, FrontRefused, SessionsRefuse, RefusesBody, AfterFault, TakesAll, EndsRunning, Ends, ReadsOn, Greets, BreaksGreeting, FeedsIn, SessionsDo, condition_of, cut_off, opened, Step}
use Rattle.amqp_endpoint_model.specs.History.{Summary, nothing, first_fault, note_fed, note, FramesTell, has_open, has_close, CloseIsLast, OpenIsOnce, Next, NextOpen, NextRefused, Stops, Framed, Pieces, judge_limit}
use Rattle.amqp_endpoint_model.proofs.Takings.{same_settings}
use Rattle.amqp_endpoint_model.proofs.Joins.{Front-more, none_later, fault-phase}
use Rattle.amqp_endpoint_model.proofs.JudgeReads.{limit-least, read-limit}
use Rattle.amqp_endpoint_model.proofs.Recuts.{FeedSaid, feed_said}
use Rattle.amqp_endpoint_model.proofs.Stepped.{phase_after, first_limit, or_later, Stepped, stepped, FramesTell-append, first_limit-append, has_open-limit, has_close-append, CloseIsLast-append, OpenIsOnce-append, no_open_behind}

-- a fault stands in front still where more bytes come
pub unread-more : (limit : ℕ) (left more : List ℕ) (e : EndpointError) → FrontUnread limit left e
    → FrontUnread limit (left ++ more) e
unread-more limit left more Memory s = tt
unread-more limit left more SizeUnder8 (four, less) =
    (omega (arith, four, length-append left more), omega (arith, less, said_size-append left more four))
unread-more limit left more SizeOverLimit (four, least, longer) = (
  omega (arith, four, length-append left more),
  omega (arith, least, said_size-append left more four),
  omega (arith, longer, said_size-append left more four),
)
unread-more limit left more (FrameFault e) (piece, front, none) = (piece, Front-more limit left piece more front, none)
unread-more limit left more e s = absurd s

next-more : (limit : ℕ) (left more : List ℕ) (f : Frame) → Next limit left f → Next limit (left ++ more) f
next-more limit left more f next = record {
  piece = next.piece;
  front = Front-more limit left next.piece more next.front;
  text = next.text;
}

next_open-more : (limit : ℕ) (left more : List ℕ) (o : OpenFields) → NextOpen limit left o
    → NextOpen limit (left ++ more) o
next_open-more limit left more o n = record { channel = n.channel; next = next-more limit left more _ n.next }

next_open : (limit : ℕ) (left piece : List ℕ) (f : Frame) (o : OpenFields) → f.body ≡ Open o → Front limit left piece
    → FrameText piece f → NextOpen limit left o
next_open limit left piece f o is front text =
    let P : Frame → Type 0 = λ x. FrameText piece x in
    let same : f ≡ record { channel = f.channel; body = Open o }
    = ap (λ (b : FrameBody). record { channel = f.channel; body = b }) is in
    record { channel = f.channel; next = record { piece = piece; front = front; text = subst P same text } }

or_comm : (a b : Bool) → (a || b) ≡ (b || a)
or_comm true true = refl
or_comm true false = refl
or_comm false true = refl
or_comm false false = refl

running-open : (b : Bool) (p : Phase) → p ≡ phase_after b → p ≡ Running → b ≡ false
running-open true p is e = cc
running-open false p is e = refl

over-closed : (b : Bool) (p : Phase) → p ≡ phase_after b → p ≡ Over → b ≡ true
over-closed true p is e = refl
over-closed false p is e = cc

-- a feed that took its bytes
note-taken : (σ : Summary) (bytes : List ℕ) (es : List Event) (fault : Option EndpointError) → fault ≢ Some NotConnected
    → record { fed = σ.fed ++ bytes; events = σ.events ++ es; fault = first_fault σ.fault fault }
    ≡ note_fed σ bytes es fault
note-taken σ bytes es (Some NotConnected) n = absurd (n refl)
note-taken σ bytes es fault n = refl

-- the limit of written frames is no more than the judge's
pub record Judged (peer_limit : Option ℕ) (σ : Summary) : Type 0 where
  pub no_more : (limit : ℕ) → judge_limit σ.fed limit → limit_of peer_limit ≤ limit

same-judged : (old new : Option ℕ) (σ : Summary) → new ≡ old → Judged old σ → Judged new σ
same-judged old new σ same h = let P : Option ℕ → Type 0 = λ o. Judged o σ in subst P (sym same) h

pub unopened-judged : (peer_limit : Option ℕ) (σ : Summary) → peer_limit ≡ None → Judged peer_limit σ
unopened-judged peer_limit σ is = same-judged None peer_limit σ is (record { no_more = limit-least σ.fed })

read-judged : (most : ℕ) (σ : Summary) (body : List ℕ) (frames : List Frame) (left : List ℕ) (peer_limit : Option ℕ)
    → σ.fed ≡ protocol_header ++ body → ReadsAs (Admits most) body frames left → first_limit frames ≡ peer_limit
    → Judged peer_limit σ
read-judged most σ body frames left peer_limit header read is =
    same-judged (first_limit frames) peer_limit σ (sym is) (record {
      no_more = λ limit j. read-limit most σ.fed body frames left limit header read j;
    })

-- the calls that leave what is read as it is
abbrev IsQuiet : Call → Type 0
IsQuiet Connect = ⊥
IsQuiet (Feed bytes) = ⊥
IsQuiet BreakOff = ⊥
IsQuiet call = Unit {0}

module _ {S : Type 0} (does : Relations S) where
  -- while frames are read
  pub record Reading (limit : ℕ) (rest : List ℕ) (peer_limit : Option ℕ) (σ : Summary) : Type 0 where
    pub body : List ℕ
    pub header : σ.fed ≡ protocol_header ++ body
    pub frames : List Frame
    pub read : ReadsAs (Admits limit) body frames rest
    pub told : FramesTell does frames σ.events
    pub open_yet : has_close frames ≡ false
    pub limit_is : first_limit frames ≡ peer_limit
    pub closes : CloseIsLast frames
    pub once : OpenIsOnce frames
    pub waits : Waits limit rest
    pub well : σ.fault ≡ None

  -- behind a fault or the peer's Close
  pub record Closed (limit : ℕ) (peer_limit : Option ℕ) (σ : Summary) : Type 0 where
    pub framed : Framed does limit σ
    pub why : σ.fault ≡ None → has_close framed.frames ≡ true
    pub limit_is : first_limit framed.frames ≡ peer_limit

  -- what stands in each phase
  abbrev pub Stands : Phase → ℕ → List ℕ → Option ℕ → Summary → Type 0
  Stands Unconnected limit rest peer_limit σ = Pieces does limit σ × Judged peer_limit σ
  Stands Greeting limit rest peer_limit σ =
      (rest ≡ σ.fed) × (length σ.fed < 8) × (σ.events ≡ []) × (σ.fault ≡ None) × (peer_limit ≡ None)
  Stands Running limit rest peer_limit σ = Reading limit rest peer_limit σ
  Stands Over limit rest peer_limit σ = Closed limit peer_limit σ

  abbrev pub StandsAt : ℕ → Summary → State S → Type 0
  StandsAt limit σ s = Stands s.phase limit s.rest s.peer_limit σ

  pub stands-pieces : (p : Phase) (limit : ℕ) (rest : List ℕ) (peer_limit : Option ℕ) (σ : Summary)
      → Stands p limit rest peer_limit σ → Pieces does limit σ
  stands-pieces Unconnected limit rest peer_limit σ h = h.0
  stands-pieces Greeting limit rest peer_limit σ (is, short, none, well, unopened) = inl (short, none, well)
  stands-pieces Running limit rest peer_limit σ h =
      let P : Option EndpointError → Type 0 = λ o. Stops does limit h.frames rest o in
      inr (inr (inr (record {
        body = h.body;
        header = h.header;
        frames = h.frames;
        left = rest;
        read = h.read;
        told = h.told;
        closes = h.closes;
        once = h.once;
        well = λ e. h.well;
        stops = subst P (sym h.well) (inl h.waits);
      })))
  stands-pieces Over limit rest peer_limit σ h = inr (inr (inr h.framed))

  pub stands-judged : (p : Phase) (limit : ℕ) (rest : List ℕ) (peer_limit : Option ℕ) (σ : Summary)
      → Stands p limit rest peer_limit σ → Judged peer_limit σ
  stands-judged Unconnected limit rest peer_limit σ h = h.1
  stands-judged Greeting limit rest peer_limit σ (is, short, none, well, unopened) =
      unopened-judged peer_limit σ unopened
  stands-judged Running limit rest peer_limit σ h =
      read-judged limit σ h.body h.frames rest peer_limit h.header h.read h.limit_is
  stands-judged Over limit rest peer_limit σ h =
      let f : Framed does limit σ = h.framed in
      read-judged limit σ f.body f.frames f.left peer_limit f.header f.read h.limit_is

  next_refused-more : (limit : ℕ) (left more : List ℕ) (e : EndpointError) → NextRefused does limit left e
      → NextRefused does limit (left ++ more) e
  next_refused-more limit left more e n = record {
    frame = n.frame;
    next = next-more limit left more n.frame n.next;
    theirs = n.theirs;
    ends = n.ends;
    before = n.before;
    written = n.written;
    behind = n.behind;
    refuses = n.refuses;
  }

  stops-more : (limit : ℕ) (frames : List Frame) (left more : List ℕ) (fault : Option EndpointError)
      → (fault ≡ None → has_close frames ≡ true) → Stops does limit frames left fault
      → Stops does limit frames (left ++ more) fault
  stops-more limit frames left more None why s = inr (why refl)
  stops-more limit frames left more (Some PeerLimitUnder512) why (o, next, none, less) =
      (o, next_open-more limit left more o next, none, less)
  stops-more limit frames left more (Some (Connection OutOfOrder)) why (o, next, there) =
      (o, next_open-more limit left more o next, there)
  stops-more limit frames left more (Some (Connection e)) why n = next_refused-more limit left more (Connection e) n
  stops-more limit frames left more (Some (Session e)) why n = next_refused-more limit left more (Session e) n
  stops-more limit frames left more (Some NumbersUsedUp) why n = next_refused-more limit left more NumbersUsedUp n
  stops-more limit frames left more (Some e) why s = unread-more limit left more e s

  closed-more : (limit : ℕ) (peer_limit : Option ℕ) (σ : Summary) (bytes : List ℕ) (es : List Event)
      (fault : Option EndpointError) → Closed limit peer_limit σ → es ≡ [] → fault ≡ None
      → Closed limit peer_limit (record {
        fed = σ.fed ++ bytes;
        events = σ.events ++ es;
        fault = first_fault σ.fault fault;
      })
  closed-more limit peer_limit σ bytes es fault c none is =
      let f : Framed does limit σ = c.framed in
      let same : first_fault σ.fault fault ≡ σ.fault = ap (first_fault σ.fault) is ∙ none_later σ.fault None refl in
      let silent : σ.events ++ es ≡ σ.events = ap (λ x. σ.events ++ x) none ∙ append-nil σ.events in
      let P : List Frame → Type 0 = λ x. ReadsAs (Admits limit) (f.body ++ bytes) x (f.left ++ bytes) in
      let Q : Option EndpointError → Type 0 = λ x. Stops does limit f.frames (f.left ++ bytes) x in
      let R : List Event → Type 0 = λ x. FramesTell does f.frames x in
      let read : ReadsAs (Admits limit) (f.body ++ bytes) (f.frames ++ []) (f.left ++ bytes)
      = reads-append (Admits limit) f.body f.frames [] f.left (f.left ++ bytes) bytes f.read refl in
      record {
        framed = record {
          body = f.body ++ bytes;
          header = ap (λ x. x ++ bytes) f.header;
          frames = f.frames;
          left = f.left ++ bytes;
          read = subst P (append-nil f.frames) read;
          told = subst R (sym silent) f.told;
          closes = f.closes;
          once = f.once;
          well = λ e. same ∙ f.well e;
          stops = subst Q (sym same) (stops-more limit f.frames f.left bytes σ.fault c.why f.stops);
        };
        why = λ e. c.why (sym same ∙ e);
        limit_is = c.limit_is;
      }

  stops-small : (limit : ℕ) (s : State S) (frames : List Frame) (left piece : List ℕ) (f : Frame) (body : FrameBody)
      (x : S) → has_open frames ≡ is_some s.peer_limit → f.body ≡ body → Front limit left piece → FrameText piece f
      → RefusesBody does s PeerLimitUnder512 f.channel body x
      → Stops does limit frames left (Some PeerLimitUnder512)
  stops-small limit s frames left piece f (Open o) x opens is front text (none, less, same) =
      (o, next_open limit left piece f o is front text, opens ∙ ap is_some none, less)
  stops-small limit s frames left piece f body x opens is front text r = absurd r.ends

  next_refused : (limit : ℕ) (s : State S) (left piece : List ℕ) (f : Frame) (e : EndpointError) (x : S)
      → Front limit left piece → FrameText piece f → SessionsRefuse does s e f.channel f.body x
      → NextRefused does limit left e
  next_refused limit s left piece f e x front text r = record {
    frame = f;
    next = record { piece = piece; front = front; text = text };
    theirs = r.theirs;
    ends = r.ends;
    before = s.sessions;
    written = limit_of s.peer_limit;
    behind = x;
    refuses = r.refuses;
  }

  stops-out_of_order : (limit : ℕ) (s : State S) (frames : List Frame) (left piece : List ℕ) (f : Frame)
      (body : FrameBody) (x : S) → has_open frames ≡ is_some s.peer_limit → f.body ≡ body → Front limit left piece
      → FrameText piece f → RefusesBody does s (Connection OutOfOrder) f.channel body x
      → Stops does limit frames left (Some (Connection OutOfOrder))
  stops-out_of_order limit s frames left piece f (Open o) x opens is front text (there, same) =
      (o, next_open limit left piece f o is front text, opens ∙ there)
  stops-out_of_order limit s frames left piece f body x opens is front text r = absurd r.ends

  stops-connection : (limit : ℕ) (s : State S) (frames : List Frame) (left piece : List ℕ) (f : Frame)
      (e : ConnectionError) (x : S) → has_open frames ≡ is_some s.peer_limit → Front limit left piece
      → FrameText piece f → RefusesBody does s (Connection e) f.channel f.body x
      → Stops does limit frames left (Some (Connection e))
  stops-connection limit s frames left piece f OutOfOrder x opens front text r =
      stops-out_of_order limit s frames left piece f f.body x opens refl front text r
  stops-connection limit s frames left piece f e x opens front text r =
      next_refused limit s left piece f (Connection e) x front text r

  -- a fault in front stops the reading
  refused-stops : (s : State S) (frames : List Frame) (left : List ℕ) (e : EndpointError) (x : S)
      → has_open frames ≡ is_some s.peer_limit → FrontRefused does s left e x
      → Stops does s.settings.max_frame_size frames left (Some e)
  refused-stops s frames left Memory x opens r = tt
  refused-stops s frames left PeerLimitUnder512 x opens b =
      stops-small s.settings.max_frame_size s frames left b.piece b.frame b.frame.body x opens refl b.front b.text
      b.refuses
  refused-stops s frames left (Connection e) x opens b =
      stops-connection s.settings.max_frame_size s frames left b.piece b.frame e x opens b.front b.text b.refuses
  refused-stops s frames left (Session e) x opens b =
      next_refused s.settings.max_frame_size s left b.piece b.frame (Session e) x b.front b.text b.refuses
  refused-stops s frames left NumbersUsedUp x opens b =
      next_refused s.settings.max_frame_size s left b.piece b.frame NumbersUsedUp x b.front b.text b.refuses
  refused-stops s frames left e x opens r = r.0

  -- how reading frames ended, in one of three ways
  pub data HowEnded (limit : ℕ) (s : State S) (frames : List Frame) (left : List ℕ) (fault : Option EndpointError)
      (new : State S) : Type 0 where
    goes_on : fault ≡ None → Waits limit left → new ≡ record s { rest = left } → HowEnded limit s frames left fault new
    lost : Stops does limit frames left fault → new.phase ≡ Unconnected → new.peer_limit ≡ s.peer_limit
        → HowEnded limit s frames left fault new
    ends : (fault ≡ None → ⊥) → Stops does limit frames left fault → new.phase ≡ Over → new.peer_limit ≡ s.peer_limit
        → HowEnded limit s frames left fault new

  no_none : (e : EndpointError) → Some e ≡ None → ⊥
  no_none e is = cc

  fault-limit : (condition : Option (List ℕ)) (s new : State S) → AfterFault does condition s new
      → new.peer_limit ≡ s.peer_limit
  fault-limit (Some condition) s new (closes, after) = ap (λ x. x.peer_limit) after
  fault-limit None s new (finishes, after) = ap (λ x. x.peer_limit) after

  ended-fault : (limit : ℕ) (s : State S) (frames : List Frame) (left : List ℕ) (e : EndpointError) (new : State S)
      → Stops does limit frames left (Some e) → (new.phase ≡ Over) ⊎ (new.phase ≡ Unconnected)
      → new.peer_limit ≡ s.peer_limit → HowEnded limit s frames left (Some e) new
  ended-fault limit s frames left e new stops (inl over) limit_is = ends (no_none e) stops over limit_is
  ended-fault limit s frames left e new stops (inr none) limit_is = lost stops none limit_is

  ended : (s : State S) (frames : List Frame) (left : List ℕ) (fault : Option EndpointError) (new : State S)
      → has_open frames ≡ is_some s.peer_limit → EndsRunning does s left fault new
      → HowEnded s.settings.max_frame_size s frames left fault new
  ended s frames left None new opens (w, after) = goes_on refl w after
  ended s frames left (Some e) new opens r =
      let t : State S = record s { sessions = r.sessions } in
      ended-fault s.settings.max_frame_size s frames left e new
      (refused-stops s frames left e r.sessions opens r.refused)
      (fault-phase does (condition_of e) t new r.after) (fault-limit (condition_of e) t new r.after)

  -- the frames read since the header
  pub record SoFar (limit : ℕ) (fs : List Frame) (body left : List ℕ) (peer_limit : Option ℕ) (phase : Phase)
      (events : List Event) : Type 0 where
    pub read : ReadsAs (Admits limit) body fs left
    pub told : FramesTell does fs events
    pub closes : CloseIsLast fs
    pub once : OpenIsOnce fs
    pub limit_is : first_limit fs ≡ peer_limit
    pub phase_is : phase ≡ phase_after (has_close fs)

  opens : (fs : List Frame) (peer_limit : Option ℕ) → first_limit fs ≡ peer_limit → has_open fs ≡ is_some peer_limit
  opens fs peer_limit is = has_open-limit fs ∙ ap is_some is

  -- more frames are taken
  all-more : (limit : ℕ) (old mid : State S) (fs gs : List Frame) (body bytes rest left : List ℕ)
      (events es : List Event) → SoFar limit fs body rest old.peer_limit Running events → has_close fs ≡ false
      → ReadsAs (Admits limit) (rest ++ bytes) gs left → old.phase ≡ Running → TakesAll does old gs es mid
      → SoFar limit (fs ++ gs) (body ++ bytes) left mid.peer_limit mid.phase (events ++ es)
  all-more limit old mid fs gs body bytes rest left events es a still read is taken =
      let t : Stepped does false old gs es mid = stepped does false old gs es mid is taken in
      let there : has_open fs ≡ true → is_some old.peer_limit ≡ true
      = λ e. sym (opens fs old.peer_limit a.limit_is) ∙ e in
      record {
        read = reads-append (Admits limit) body fs gs rest left bytes a.read read;
        told = FramesTell-append does fs gs events es a.told t.told;
        closes = CloseIsLast-append fs gs still t.closes;
        once = OpenIsOnce-append fs gs (λ e. no_open_behind does old gs es mid (there e) taken) a.once t.once;
        limit_is = first_limit-append fs gs ∙ ap (λ x. or_later x (first_limit gs)) a.limit_is ∙ sym t.limit;
        phase_is = t.phase ∙ ap phase_after (sym (has_close-append fs gs ∙ ap (λ x. x || has_close gs) still));
      }

  -- frames and what stopped their reading
  abbrev framed-by : (limit : ℕ) (fs : List Frame) (body left : List ℕ) (peer_limit : Option ℕ) (phase : Phase)
      (events : List Event) (fault : Option EndpointError) → SoFar limit fs body left peer_limit phase events
      → (has_close fs ≡ true → fault ≡ None) → Stops does limit fs left fault
      → Framed does limit (record { fed = protocol_header ++ body; events = events; fault = fault })
  framed-by limit fs body left peer_limit phase events fault a well stops = record {
    body = body;
    header = refl;
    frames = fs;
    left = left;
    read = a.read;
    told = a.told;
    closes = a.closes;
    once = a.once;
    well = well;
    stops = stops;
  }

  -- the connection runs: reading goes on, or is lost or ended by a fault
  all-running : (limit : ℕ) (fs : List Frame) (body left : List ℕ) (mid : State S) (events : List Event)
      (fault : Option EndpointError) (new : State S) → SoFar limit fs body left mid.peer_limit mid.phase events
      → mid.phase ≡ Running → HowEnded limit mid fs left fault new
      → StandsAt limit (record { fed = protocol_header ++ body; events = events; fault = fault }) new
  all-running limit fs body left mid events fault new a is (goes_on none w after) =
      let τ : Summary = record { fed = protocol_header ++ body; events = events; fault = fault } in
      let P : State S → Type 0 = λ s. StandsAt limit τ s in
      let Q : Phase → Type 0 = λ q. Stands q limit left mid.peer_limit τ in
      subst P (sym after) (subst Q (sym is) (record {
        body = body;
        header = refl;
        frames = fs;
        read = a.read;
        told = a.told;
        open_yet = running-open (has_close fs) mid.phase a.phase_is is;
        limit_is = a.limit_is;
        closes = a.closes;
        once = a.once;
        waits = w;
        well = none;
      }))
  all-running limit fs body left mid events fault new a is (lost stops none limit_is) =
      let τ : Summary = record { fed = protocol_header ++ body; events = events; fault = fault } in
      let Q : Phase → Type 0 = λ q. Stands q limit new.rest new.peer_limit τ in
      let still : has_close fs ≡ false = running-open (has_close fs) mid.phase a.phase_is is in
      let framed : Framed does limit τ = framed-by limit fs body left mid.peer_limit mid.phase events fault a
      (λ e. absurd (let x : true ≡ false = sym e ∙ still in cc)) stops in
      let judged : Judged new.peer_limit τ
      = read-judged limit τ body fs left new.peer_limit refl a.read (a.limit_is ∙ sym limit_is) in
      subst Q (sym none) (inr (inr (inr framed)), judged)
  all-running limit fs body left mid events fault new a is (ends some stops over limit_is) =
      let τ : Summary = record { fed = protocol_header ++ body; events = events; fault = fault } in
      let Q : Phase → Type 0 = λ q. Stands q limit new.rest new.peer_limit τ in
      let still : has_close fs ≡ false = running-open (has_close fs) mid.phase a.phase_is is in
      subst Q (sym over) (record {
        framed = framed-by limit fs body left mid.peer_limit mid.phase events fault a
            (λ e. absurd (let x : true ≡ false = sym e ∙ still in cc)) stops;
        why = λ e. absurd (some e);
        limit_is = a.limit_is ∙ sym limit_is;
      })

  -- how reading ended gives what stands behind it
  all-ended : (limit : ℕ) (fs : List Frame) (body left : List ℕ) (mid : State S) (events : List Event)
      (fault : Option EndpointError) (new : State S) (p : Phase) → mid.settings.max_frame_size ≡ limit
      → SoFar limit fs body left mid.peer_limit mid.phase events → mid.phase ≡ p → Ends does mid p left fault new
      → StandsAt limit (record { fed = protocol_header ++ body; events = events; fault = fault }) new
  all-ended limit fs body left mid events fault new Unconnected l a is e = absurd e
  all-ended limit fs body left mid events fault new Greeting l a is e = absurd e
  all-ended limit fs body left mid events (Some e) new Over l a is r = absurd r
  all-ended limit fs body left mid events None new Over l a is same =
      let τ : Summary = record { fed = protocol_header ++ body; events = events; fault = None } in
      let P : State S → Type 0 = λ s. StandsAt limit τ s in
      let Q : Phase → Type 0 = λ q. Stands q limit mid.rest mid.peer_limit τ in
      let closed : has_close fs ≡ true = over-closed (has_close fs) mid.phase a.phase_is is in
      subst P (sym same) (subst Q (sym is) (record {
        framed = framed-by limit fs body left mid.peer_limit mid.phase events None a (λ x. refl) (inr closed);
        why = λ x. closed;
        limit_is = a.limit_is;
      }))
  all-ended limit fs body left mid events fault new Running l a is e =
      let P : ℕ → Type 0 = λ n. HowEnded n mid fs left fault new in
      let there : has_open fs ≡ is_some mid.peer_limit = opens fs mid.peer_limit a.limit_is in
      all-running limit fs body left mid events fault new a is (subst P l (ended mid fs left fault new there e))

  reads_on-stands : (limit : ℕ) (old : State S) (fs : List Frame) (body rest bytes : List ℕ) (events es : List Event)
      (fault : Option EndpointError) (new : State S) → old.settings.max_frame_size ≡ limit → old.phase ≡ Running
      → SoFar limit fs body rest old.peer_limit Running events → has_close fs ≡ false
      → ReadsOn does old (rest ++ bytes) es fault new
      → StandsAt limit (record { fed = protocol_header ++ (body ++ bytes); events = events ++ es; fault = fault }) new
  reads_on-stands limit old fs body rest bytes events es fault new l is a still r =
      let start : State S = record old { rest = [] } in
      let P : ℕ → Type 0 = λ n. ReadsAs (Admits n) (rest ++ bytes) r.frames r.left in
      let b : SoFar limit (fs ++ r.frames) (body ++ bytes) r.left r.mid.peer_limit r.mid.phase (events ++ es)
      = all-more limit start r.mid fs r.frames body bytes rest r.left events es a still (subst P l r.read) is r.taken in
      let kept : r.mid.settings ≡ old.settings = same_settings does start r.frames es r.mid r.taken in
      all-ended limit (fs ++ r.frames) (body ++ bytes) r.left r.mid (events ++ es) fault new r.mid.phase
      (ap (λ s. s.max_frame_size) kept ∙ l) b refl r.ends

  running-feed : (limit : ℕ) (σ : Summary) (old : State S) (bytes : List ℕ) (es : List Event)
      (fault : Option EndpointError) (new : State S) → old.settings.max_frame_size ≡ limit → old.phase ≡ Running
      → Reading limit old.rest old.peer_limit σ → ReadsOn does old (old.rest ++ bytes) es fault new
      → StandsAt limit (record { fed = σ.fed ++ bytes; events = σ.events ++ es; fault = first_fault σ.fault fault }) new
  running-feed limit σ old bytes es fault new l is h r =
      let a : SoFar limit h.frames h.body old.rest old.peer_limit Running σ.events = record {
        read = h.read;
        told = h.told;
        closes = h.closes;
        once = h.once;
        limit_is = h.limit_is;
        phase_is = ap phase_after (sym h.open_yet);
      } in
      let s : StandsAt limit (record {
        fed = protocol_header ++ (h.body ++ bytes);
        events = σ.events ++ es;
        fault = fault;
      }) new
      = reads_on-stands limit old h.frames h.body old.rest bytes σ.events es fault new l is a h.open_yet r in
      let P : List ℕ → Type 0 = λ x. StandsAt limit (record { fed = x; events = σ.events ++ es; fault = fault }) new in
      let Q : Option EndpointError → Type 0
      = λ x. StandsAt limit (record { fed = σ.fed ++ bytes; events = σ.events ++ es; fault = x }) new in
      subst Q (ap (λ x. first_fault x fault) (sym h.well)) (subst P (sym (ap (λ x. x ++ bytes) h.header)) s)

  pub greeting_broken : (old new : State S) → BreaksGreeting does old new → new ≡ cut_off old new.sessions
  greeting_broken old new (inl breaks) = breaks.1
  greeting_broken old new (inr breaks) = breaks.1

  greeting-feed : (limit : ℕ) (σ : Summary) (old : State S) (bytes : List ℕ) (es : List Event)
      (fault : Option EndpointError) (new : State S) → old.settings.max_frame_size ≡ limit → old.phase ≡ Greeting
      → σ.events ≡ [] → σ.fault ≡ None → old.peer_limit ≡ None → Greets does old (σ.fed ++ bytes) es fault new
      → StandsAt limit (record { fed = σ.fed ++ bytes; events = σ.events ++ es; fault = first_fault σ.fault fault }) new
  greeting-feed limit σ old bytes es fault new l is none well unopened (inl (short, silent, clean, after)) =
      let τ : Summary = record { fed = σ.fed ++ bytes; events = σ.events ++ es; fault = first_fault σ.fault fault } in
      let P : State S → Type 0 = λ s. StandsAt limit τ s in
      let Q : Phase → Type 0 = λ p. Stands p limit (σ.fed ++ bytes) old.peer_limit τ in
      let no_events : σ.events ++ es ≡ [] = ap (λ x. x ++ es) none ∙ silent in
      let no_fault : first_fault σ.fault fault ≡ None = ap (λ x. first_fault x fault) well ∙ clean in
      subst P (sym after) (subst Q (sym is) (refl, short, no_events, no_fault, unopened))
  greeting-feed limit σ old bytes es fault new l is none well unopened
      (inr (inl (long, other, silent, mismatch, breaks))) =
      let τ : Summary = record { fed = σ.fed ++ bytes; events = σ.events ++ es; fault = first_fault σ.fault fault } in
      let Q : Phase → Type 0 = λ p. Stands p limit new.rest new.peer_limit τ in
      let no_events : σ.events ++ es ≡ [] = ap (λ x. x ++ es) none ∙ silent in
      let phase : Unconnected ≡ new.phase = sym (ap (λ s. s.phase) breaks.1) in
      let no_limit : new.peer_limit ≡ None = ap (λ s. s.peer_limit) breaks.1 ∙ unopened in
      subst Q phase (
        inr (inl (long, other, no_events, ap (λ x. first_fault x fault) well ∙ mismatch)),
        unopened-judged new.peer_limit τ no_limit,
      )
  greeting-feed limit σ old bytes es fault new l is none well unopened (inr (inr (inr (silent, memory, breaks)))) =
      let τ : Summary = record { fed = σ.fed ++ bytes; events = σ.events ++ es; fault = first_fault σ.fault fault } in
      let Q : Phase → Type 0 = λ p. Stands p limit new.rest new.peer_limit τ in
      let no_events : σ.events ++ es ≡ [] = ap (λ x. x ++ es) none ∙ silent in
      let broken = greeting_broken old new breaks in
      let phase : Unconnected ≡ new.phase = sym (ap (λ s. s.phase) broken) in
      let no_limit : new.peer_limit ≡ None = ap (λ s. s.peer_limit) broken ∙ unopened in
      subst Q phase (
        inr (inr (inl (no_events, ap (λ x. first_fault x fault) well ∙ memory))),
        unopened-judged new.peer_limit τ no_limit,
      )
  greeting-feed limit σ old bytes es fault new l is none well unopened (inr (inr (inl (header, r)))) =
      let body : List ℕ = drop 8 (σ.fed ++ bytes) in
      let a : SoFar limit [] [] [] old.peer_limit Running [] = record {
        read = refl;
        told = refl;
        closes = tt;
        once = tt;
        limit_is = sym unopened;
        phase_is = refl;
      } in
      let s : StandsAt limit (record { fed = protocol_header ++ body; events = es; fault = fault }) new
      = reads_on-stands limit (opened does old) [] [] [] body [] es fault new l refl a refl r in
      let P : List ℕ → Type 0 = λ x. StandsAt limit (record { fed = x; events = es; fault = fault }) new in
      let Q : Option EndpointError → Type 0
      = λ x. StandsAt limit (record { fed = σ.fed ++ bytes; events = es; fault = x }) new in
      let R : List Event → Type 0
      = λ x. StandsAt limit (record { fed = σ.fed ++ bytes; events = x; fault = first_fault σ.fault fault }) new in
      let whole : protocol_header ++ body ≡ σ.fed ++ bytes
      = ap (λ x. x ++ body) (sym header) ∙ take-append-drop 8 (σ.fed ++ bytes) in
      subst R (ap (λ x. x ++ es) (sym none)) (subst Q (ap (λ x. first_fault x fault) (sym well)) (subst P whole s))

  fault-connected : (mid : State S) (left : List ℕ) (e : EndpointError) (x : S) → FrontRefused does mid left e x
      → Some e ≢ Some NotConnected
  fault-connected mid left NotConnected x r is = r.0
  fault-connected mid left e x r is = cc

  over-ends : (p : Phase) (mid : State S) (left : List ℕ) (fault : Option EndpointError) (new : State S)
      → Ends does mid p left fault new → fault ≢ Some NotConnected
  over-ends Running mid left None new e is = cc
  over-ends Running mid left (Some why) new e is = fault-connected mid left why e.sessions e.refused is
  over-ends Over mid left None new e is = cc
  over-ends Over mid left (Some other) new e is = e
  over-ends p mid left fault new e is = e

  greets-connected : (old : State S) (bytes : List ℕ) (es : List Event) (fault : Option EndpointError) (new : State S)
      → Greets does old bytes es fault new → fault ≢ Some NotConnected
  greets-connected old bytes es fault new (inl (short, silent, clean, after)) is = cc
  greets-connected old bytes es fault new (inr (inl (long, other, silent, mismatch, after))) is = cc
  greets-connected old bytes es fault new (inr (inr (inl (header, r)))) is =
      over-ends r.mid.phase r.mid r.left fault new r.ends is
  greets-connected old bytes es fault new (inr (inr (inr (silent, memory, after)))) is = cc

  feed-stands : (limit : ℕ) (σ : Summary) (old : State S) (bytes : List ℕ) (es : List Event)
      (fault : Option EndpointError) (new : State S) (p : Phase) → old.settings.max_frame_size ≡ limit → old.phase ≡ p
      → Stands p limit old.rest old.peer_limit σ → FeedsIn does p old bytes es fault new
      → StandsAt limit (note_fed σ bytes es fault) new
  feed-stands limit σ old bytes es fault new Unconnected l is h (none, unconnected, same) =
      let P : State S → Type 0 = λ s. StandsAt limit (note_fed σ bytes es fault) s in
      let Q : Phase → Type 0 = λ q. Stands q limit old.rest old.peer_limit (note_fed σ bytes es fault) in
      let R : Option EndpointError → Type 0
      = λ x. Stands Unconnected limit old.rest old.peer_limit (note_fed σ bytes es x) in
      subst P (sym same) (subst Q (sym is) (subst R (sym unconnected) h))
  feed-stands limit σ old bytes es fault new Greeting l is (rest_is, short, none, well, unopened) f =
      let P : Summary → Type 0 = λ x. StandsAt limit x new in
      let Q : List ℕ → Type 0 = λ x. Greets does old (x ++ bytes) es fault new in
      let n : fault ≢ Some NotConnected = greets-connected old (old.rest ++ bytes) es fault new f in
      subst P (note-taken σ bytes es fault n)
      (greeting-feed limit σ old bytes es fault new l is none well unopened (subst Q rest_is f))
  feed-stands limit σ old bytes es fault new Running l is h f =
      let P : Summary → Type 0 = λ x. StandsAt limit x new in
      let n : fault ≢ Some NotConnected = over-ends f.mid.phase f.mid f.left fault new f.ends in
      subst P (note-taken σ bytes es fault n) (running-feed limit σ old bytes es fault new l is h f)
  feed-stands limit σ old bytes es fault new Over l is h (none, clean, same) =
      let τ : Summary = record { fed = σ.fed ++ bytes; events = σ.events ++ es; fault = first_fault σ.fault fault } in
      let P : Summary → Type 0 = λ x. StandsAt limit x new in
      let Q : State S → Type 0 = λ s. StandsAt limit τ s in
      let R : Phase → Type 0 = λ q. Stands q limit old.rest old.peer_limit τ in
      let h2 : Closed limit old.peer_limit τ = closed-more limit old.peer_limit σ bytes es fault h none clean in
      subst P (note-taken σ bytes es fault (λ e. cc)) (subst Q (sym same) (subst R (sym is) h2))

  record Quiet (σ τ : Summary) (old new : State S) : Type 0 where
    summary_is : τ ≡ σ
    phase : new.phase ≡ old.phase
    rest : new.rest ≡ old.rest
    peer_limit : new.peer_limit ≡ old.peer_limit

  quiet-same : (σ : Summary) (old new : State S) → new ≡ old → Quiet σ σ old new
  quiet-same σ old new same = record {
    summary_is = refl;
    phase = ap (λ s. s.phase) same;
    rest = ap (λ s. s.rest) same;
    peer_limit = ap (λ s. s.peer_limit) same;
  }

  quiet-sessions : (σ : Summary) (old : State S) (call : Call) (answer : Said) (new : State S)
      → SessionsDo does old call answer new → Quiet σ σ old new
  quiet-sessions σ old call answer new d = record {
    summary_is = refl;
    phase = ap (λ s. s.phase) d.queued;
    rest = ap (λ s. s.rest) d.queued;
    peer_limit = ap (λ s. s.peer_limit) d.queued;
  }

  quiet : (σ : Summary) (old : State S) (call : Call) (answer : Said) (new : State S) → IsQuiet call
      → Step does old call answer new → Quiet σ (note σ call answer) old new
  quiet σ old Connect answer new q step = absurd q
  quiet σ old (Feed bytes) answer new q step = absurd q
  quiet σ old BreakOff answer new q step = absurd q
  quiet σ old Pull (refused e) new q (may, same) = quiet-same σ old new same
  quiet σ old Pull (pulled None) new q (empty, same) = quiet-same σ old new same
  quiet σ old Pull (pulled (Some bytes)) new q (first, others, is, text, after) = record {
    summary_is = refl;
    phase = ap (λ s. s.phase) after;
    rest = ap (λ s. s.rest) after;
    peer_limit = ap (λ s. s.peer_limit) after;
  }
  quiet σ old Queued (refused e) new q (may, same) = quiet-same σ old new same
  quiet σ old Queued (count n) new q (is, same) = quiet-same σ old new same
  quiet σ old IsIdle (refused e) new q (may, same) = quiet-same σ old new same
  quiet σ old IsIdle (truth b) new q (is, same) = quiet-same σ old new same
  quiet σ old Heartbeat (refused e) new q (may, same) = quiet-same σ old new same
  quiet σ old Heartbeat done new q (none, after) = record {
    summary_is = refl;
    phase = ap (λ s. s.phase) after;
    rest = ap (λ s. s.rest) after;
    peer_limit = ap (λ s. s.peer_limit) after;
  }
  quiet σ old CloseCall (refused e) new q (may, same) = quiet-same σ old new same
  quiet σ old CloseCall done new q (none, closes, after) = record {
    summary_is = refl;
    phase = ap (λ s. s.phase) after;
    rest = ap (λ s. s.rest) after;
    peer_limit = ap (λ s. s.peer_limit) after;
  }
  quiet σ old IsClosed (refused e) new q (may, same) = quiet-same σ old new same
  quiet σ old IsClosed (truth b) new q (is, same) = quiet-same σ old new same
  quiet σ old TryClose (refused e) new q (may, same) = quiet-same σ old new same
  quiet σ old TryClose (tried_close o) new q (is, after) = record {
    summary_is = refl;
    phase = ap (λ s. s.phase) after;
    rest = ap (λ s. s.rest) after;
    peer_limit = ap (λ s. s.peer_limit) after;
  }
  quiet σ old Begin (refused e) new q (bars, same) = quiet-same σ old new same
  quiet σ old Begin (session_begun number) new q step =
      quiet-sessions σ old Begin (session_begun number) new step
  quiet σ old (AcceptBegin channel) (refused e) new q (bars, same) = quiet-same σ old new same
  quiet σ old (AcceptBegin channel) (session_begun number) new q step =
      quiet-sessions σ old (AcceptBegin channel) (session_begun number) new step
  quiet σ old (End number) (refused e) new q (bars, same) = quiet-same σ old new same
  quiet σ old (End number) done new q step = quiet-sessions σ old (End number) done new step
  quiet σ old (IsEnded number) (refused e) new q (may, same) = quiet-same σ old new same
  quiet σ old (IsEnded number) (truth b) new q step = quiet-same σ old new step.same
  quiet σ old (TryEnd number) (refused e) new q (may, same) = quiet-same σ old new same
  quiet σ old (TryEnd number) (tried_end o) new q step = quiet-sessions σ old (TryEnd number) (tried_end o) new step
  quiet σ old (AttachSender session settings) (refused e) new q (bars, same) = quiet-same σ old new same
  quiet σ old (AttachSender session settings) (attaching link events) new q step =
      quiet-sessions σ old (AttachSender session settings) (attaching link events) new step
  quiet σ old (AttachReceiver session settings) (refused e) new q (bars, same) = quiet-same σ old new same
  quiet σ old (AttachReceiver session settings) (attaching link events) new q step =
      quiet-sessions σ old (AttachReceiver session settings) (attaching link events) new step
  quiet σ old (Resume link session) (refused e) new q (bars, same) = quiet-same σ old new same
  quiet σ old (Resume link session) (attaching number events) new q step =
      quiet-sessions σ old (Resume link session) (attaching number events) new step
  quiet σ old (Detach link) (refused e) new q (bars, same) = quiet-same σ old new same
  quiet σ old (Detach link) done new q step =
      quiet-sessions σ old (Detach link) done new step
  quiet σ old (CloseLink link) (refused e) new q (bars, same) = quiet-same σ old new same
  quiet σ old (CloseLink link) (link_closed events) new q step =
      quiet-sessions σ old (CloseLink link) (link_closed events) new step
  quiet σ old (Grant link credit) (refused e) new q (bars, same) = quiet-same σ old new same
  quiet σ old (Grant link credit) (credit_is left) new q step =
      quiet-sessions σ old (Grant link credit) (credit_is left) new step
  quiet σ old (Drain link) (refused e) new q (bars, same) = quiet-same σ old new same
  quiet σ old (Drain link) done new q step =
      quiet-sessions σ old (Drain link) done new step
  quiet σ old (Send link message) (refused e) new q (bars, same) = quiet-same σ old new same
  quiet σ old (Send link message) (message_sent tag outcome) new q step =
      quiet-sessions σ old (Send link message) (message_sent tag outcome) new step
  quiet σ old (Dispose link message disposal) (refused e) new q (bars, same) = quiet-same σ old new same
  quiet σ old (Dispose link message disposal) done new q step =
      quiet-sessions σ old (Dispose link message disposal) done new step
  quiet σ old (DisposeAll link messages disposal) (refused e) new q (bars, same) = quiet-same σ old new same
  quiet σ old (DisposeAll link messages disposal) done new q step =
      quiet-sessions σ old (DisposeAll link messages disposal) done new step
  quiet σ old (Credit link) (refused e) new q (bars, same) = quiet-same σ old new same
  quiet σ old (Credit link) (credit_is left) new q step = quiet-same σ old new step.same
  quiet σ old (HeldBack session) (refused e) new q (bars, same) = quiet-same σ old new same
  quiet σ old (HeldBack session) (count n) new q step = quiet-same σ old new step.same
  quiet σ old (WaitingCall session) (refused e) new q (bars, same) = quiet-same σ old new same
  quiet σ old (WaitingCall session) (waiting turn) new q step = quiet-same σ old new step.same
  quiet σ old call answer new q step = absurd step

  same-stands : (limit : ℕ) (σ : Summary) (old new : State S) → StandsAt limit σ old → new ≡ old → StandsAt limit σ new
  same-stands limit σ old new h same = let P : State S → Type 0 = λ s. StandsAt limit σ s in subst P (sym same) h

  quiet-stands : (limit : ℕ) (σ τ : Summary) (old new : State S) → StandsAt limit σ old → Quiet σ τ old new
      → StandsAt limit τ new
  quiet-stands limit σ τ old new h q =
      let P : Summary → Type 0 = λ x. StandsAt limit x new in
      let Q : Phase → Type 0 = λ x. Stands x limit old.rest old.peer_limit σ in
      let R : List ℕ → Type 0 = λ x. Stands new.phase limit x old.peer_limit σ in
      let L : Option ℕ → Type 0 = λ x. Stands new.phase limit new.rest x σ in
      subst P (sym q.summary_is) (subst L (sym q.peer_limit) (subst R (sym q.rest) (subst Q (sym q.phase) h)))

  fed-stands : (limit : ℕ) (σ : Summary) (old : State S) (bytes : List ℕ) (answer : Said) (new : State S)
      → old.settings.max_frame_size ≡ limit → StandsAt limit σ old → FeedSaid does old bytes answer new
      → StandsAt limit (note σ (Feed bytes) answer) new
  fed-stands limit σ old bytes answer new l h f =
      let P : Said → Type 0 = λ x. StandsAt limit (note σ (Feed bytes) x) new in
      subst P (sym f.answer_is) (feed-stands limit σ old bytes f.events f.fault new old.phase l refl h f.feeds)

  pub step-stands : (limit : ℕ) (σ : Summary) (old : State S) (call : Call) (answer : Said) (new : State S)
      → old.settings.max_frame_size ≡ limit → StandsAt limit σ old → Step does old call answer new
      → StandsAt limit (note σ call answer) new
  step-stands limit σ old Connect (refused e) new l h (may, same) = same-stands limit σ old new h same
  step-stands limit σ old Connect done new l h (none, after) =
      let P : State S → Type 0 = λ s. StandsAt limit nothing s in
      let short : 0 < 8 = omega arith in
      subst P (sym after) (refl, short, refl, refl, refl)
  step-stands limit σ old Connect answer new l h step = absurd step
  step-stands limit σ old (Feed bytes) answer new l h step =
      fed-stands limit σ old bytes answer new l h (feed_said does old bytes answer new step)
  step-stands limit σ old BreakOff (refused e) new l h (may, same) = same-stands limit σ old new h same
  step-stands limit σ old BreakOff done new l h breaks =
      let Q : Phase → Type 0 = λ p. Stands p limit new.rest new.peer_limit σ in
      let phase : Unconnected ≡ new.phase = sym (ap (λ s. s.phase) breaks.1) in
      let judged : Judged old.peer_limit σ = stands-judged old.phase limit old.rest old.peer_limit σ h in
      subst Q phase (
        stands-pieces old.phase limit old.rest old.peer_limit σ h,
        same-judged old.peer_limit new.peer_limit σ (ap (λ s. s.peer_limit) breaks.1) judged,
      )
  step-stands limit σ old BreakOff answer new l h step = absurd step
  step-stands limit σ old call answer new l h step =
      quiet-stands limit σ (note σ call answer) old new h (quiet σ old call answer new tt step)
