-- What an endpoint's sessions do by a call, or by a frame of the peer's, is read off the frames that pass.
use Rattle.std.proofs.Common.{◌≡◌, ◌≢◌, ◌==◌, ◌⊎◌, inl, inr, ℕ, ◌+◌, Bool, true, false, List, [], ◌∷◌, ◌++◌, Option}
use Rattle.std.proofs.Common.{Some, None, Ok, Err, ap, arith, refl, sym, subst, ◌∙◌}
use Rattle.std.specs.Prelude.{IsSome, if◌then◌else◌, map}
use Rattle.std.specs.FinMap as tables
use Rattle.std.specs.Global.{Box}
use Rattle.std.proofs.lemmas.Bool.Decides.{eqb_tells}
use Rattle.std.proofs.lemmas.Option.{none-some, same_Some}
use Rattle.amqp_session_types.specs.declared.channels.IncomingChannel.{IncomingChannel}
use Rattle.amqp_session_types.specs.declared.channels.OutgoingChannel.{OutgoingChannel}
use Rattle.amqp_session_types.specs.declared.refusals.SessionError.{SessionError}
use Rattle.amqp_session_types.specs.declared.refusals.SessionError.TheVariants.{Memory}
use Rattle.amqp_session_performatives.specs.declared.begin.Begin.{Begin}
use Rattle.amqp_session_performatives.specs.declared.session_frame.SessionFrame.{SessionFrame}
use Rattle.amqp_session_performatives.specs.declared.session_frame.SessionFrameBody.{SessionFrameBody}
use Rattle.amqp_session_performatives.specs.declared.session_frame.SessionFrameBody.TheVariants as session
use Rattle.amqp_session_frames.specs.declared.frame.FrameBody.TheVariants as body
use Rattle.amqp_session_frames.specs.Steps.{named_session}
use Rattle.amqp_session_core.specs.State.{State as SessionState}
use Rattle.amqp_endpoint_links.specs.declared.session.AskedSession.{AskedSession}
use Rattle.amqp_endpoint_links.specs.declared.session.SessionFlow.{SessionFlow}
use Rattle.amqp_endpoint_attached.specs.Linked.{gives}
use Rattle.amqp_endpoint_attached.specs.Links.{attach_frame}
use Rattle.amqp_endpoint_fitting.proofs.Handing.{history-channel}
use Rattle.amqp_endpoint_links.specs.Beginning.{accepted_with}
use Rattle.amqp_endpoint_links.specs.Hearing.{HearsAsked}
use Rattle.amqp_endpoint_links.specs.declared.hearing.LinkPerformative.{LinkPerformative}
use Rattle.amqp_endpoint_links.specs.declared.hearing.LinkPerformative.TheVariants as said
use Rattle.amqp_endpoint_links.proofs.Standing.{accepted-stands, begun-stands}
use Rattle.amqp_endpoint_tables.specs.State.{asked_of, live_of, place_at, reached, with_asked, with_channel}
use Rattle.amqp_endpoint_tables.specs.State.{with_live}
use Rattle.amqp_endpoint_tables.specs.Steps.{ChangesLive}
use Rattle.amqp_endpoint_tables.specs.declared.place.Place.TheVariants.{Asked, Live, Ending, Over}
use Rattle.amqp_endpoint_tables.proofs.Owning.{at}
use Rattle.amqp_endpoint_conversation.specs.Beginning.{BeginDropped, Leads}
use Rattle.amqp_endpoint_conversation.specs.Ending.{end_frame}
use Rattle.amqp_endpoint_conversation.specs.Faults.{fault_error}
use Rattle.amqp_endpoint_conversation.specs.Hearing.{LiveFails, LiveRefuses}
use Rattle.amqp_endpoint_linking.specs.Linking.{Link, Session, Sessions, Stood, Talk}
use Rattle.amqp_endpoint_laws.specs.Beside.{Agrees, AskedOn, Gone, Has, InTables, Nowhere, from, role_of}
use Rattle.amqp_endpoint_laws.specs.Following.{AreFor, AreOf, Follows, IsForReached, IsNoBegin, IsWithin, comes}
use Rattle.amqp_endpoint_laws.specs.Following.{goes}
use Rattle.amqp_endpoint_laws.specs.Reading.{Comes, Goes, Reader, Speaks, Wired, behind, is_of, read_on, whose}
use Rattle.amqp_endpoint_laws.proofs.Seeing.{OnOwn, Sees, sees-accepts, sees-asked, sees-asks, sees-barred}
use Rattle.amqp_endpoint_laws.proofs.Seeing.{sees-begins, sees-begun, sees-comes, sees-ended, sees-ends, sees-free}
use Rattle.amqp_endpoint_laws.proofs.Seeing.{sees-hears, sees-inside, sees-led, sees-none, sees-on, sees-told}
use Rattle.amqp_endpoint_conversation.specs.Inside.{AreOn, Batches, IsPlain}
use Rattle.amqp_endpoint_conversation.specs.Windows.{Came, Passing, body_said, went}
use Rattle.amqp_endpoint_laws.specs.Passed.{begun_by, is_it}
use Rattle.amqp_endpoint_laws.specs.Seen.{AreOnes, IsOnes, passing_in, passing_of}
use Rattle.amqp_endpoint_laws.proofs.PassedHeard.{behind-others}
use Rattle.amqp_endpoint_laws.proofs.PassedJudged.{AllPassedBy, PassedBy, attach-judged, judging, led-by}
use Rattle.amqp_endpoint_laws.proofs.PassedPlaces.{GoesBy, IsGone, Keeping, all-passed, hears}
use Rattle.amqp_endpoint_laws.proofs.PassedSteps.{goes-did}
use Rattle.amqp_endpoint_laws.proofs.PassedWalk.{AttachGoes, Walk}

-- a session that goes on is on the channel on which it hands its frames out
abbrev pub IsOwn : Option Stood → Type 0
IsOwn None = Unit {0}
IsOwn (Some (Asked channel a)) = Unit {0}
IsOwn (Some (Live channel s)) = s.value.session.fields.channel ≡ channel
IsOwn (Some (Ending channel own_end)) = Unit {0}
IsOwn (Some (Over peer_end complete)) = Unit {0}

-- and is so behind what passes in it
abbrev pub StaysOwn : ℕ → Option Stood → List Passing → Option Stood → Type 0
StaysOwn first old ps new = IsOwn old → IsOwn new

gone-own : (o : Option Stood) → IsGone o → IsOwn o
gone-own (Some (Ending channel own_end)) gone = tt
gone-own (Some (Over peer_end complete)) gone = tt
gone-own (Some (Asked channel a)) gone = absurd gone
gone-own (Some (Live channel s)) gone = absurd gone
gone-own None gone = absurd gone

live-own : (first : ℕ) (stood : Stood) (accepted : Batches) (before after : Session) (ps : List Passing) → Unit {0}
    → live_of (Some stood) ≡ Some before → GoesBy accepted before.value.session after.value.session ps
    → StaysOwn first (Some stood) ps (Some (with_live stood after))
live-own first (Live channel s) accepted before after ps any is g own =
    let did = goes-did accepted before.value.session after.value.session ps g in
    history-channel gives did.steps before.value.session after.value.session did.history
    ∙ ap (λ (x : Session). x.value.session.fields.channel) (sym (same_Some s before is)) ∙ own
live-own first (Asked channel a) accepted before after ps any is g own = absurd (none-some before is)
live-own first (Ending channel own_end) accepted before after ps any is g own = absurd (none-some before is)
live-own first (Over peer_end complete) accepted before after ps any is g own = absurd (none-some before is)

told-own : (first : ℕ) (stood : Stood) (before after : Box AskedSession) (it : LinkPerformative)
    → asked_of (Some stood) ≡ Some before → HearsAsked before.value it (Ok tt) after.value
    → IsOwn (Some stood) → IsOwn (Some (with_asked stood after))
told-own first (Asked channel a) before after it is h own = tt
told-own first (Live channel s) before after it is h own = own
told-own first (Ending channel own_end) before after it is h own = tt
told-own first (Over peer_end complete) before after it is h own = tt

accepted-own : (channel : OutgoingChannel) (incoming : IncomingChannel) (begin : Begin) (flow : Option SessionFlow)
    (first window : ℕ)
    → (accepted_with {R = Link} channel incoming begin flow first window).fields.channel ≡ channel
accepted-own channel incoming begin None first window = refl
accepted-own channel incoming begin (Some flow) first window = refl

pub own-channels : Keeping (λ accepted. Unit {0}) StaysOwn
own-channels =
    record {
      quiet = λ accepted up. tt;
      still = λ first old new same own. subst IsOwn (sym same) own;
      on = λ first a b d ps qs j k own. k (j own);
      gone = λ first old new ps gone said own. gone-own new gone;
      free = λ first stood frames said own. own;
      live = λ first stood accepted before after ps any is g asked.
          live-own first stood accepted before after ps any is g;
      fails = λ first stood before after ps qs over is g none gone own. gone-own over gone;
      told = told-own;
      asks = λ first channel asked begin is own. tt;
      begins = λ first window channel s frame b own.
          ap (λ (x : SessionState Link). x.fields.channel) (begun-stands gives channel first window frame s.value b).0;
      accepts = λ first window incoming channel asked outgoing s frame a own.
          ap (λ (x : SessionState Link). x.fields.channel)
          (accepted-stands gives asked.value outgoing channel first window frame s.value a).0
          ∙ accepted-own outgoing channel asked.value.begin asked.value.flow first window;
    }

abbrev owning : Walk (λ accepted. Unit {0}) (PassedBy StaysOwn own-channels) (AllPassedBy StaysOwn own-channels)
owning = judging StaysOwn own-channels

-- so it is with each session
pub is-own : (o : Option Stood) → ((channel : OutgoingChannel) (s : Session) → o ≡ Some (Live channel s)
    → s.value.session.fields.channel ≡ channel) → IsOwn o
is-own None own = tt
is-own (Some (Asked channel a)) own = tt
is-own (Some (Live channel s)) own = own channel s refl
is-own (Some (Ending channel own_end)) own = tt
is-own (Some (Over peer_end complete)) own = tt

own-on : (m : ℕ) (ws : List Wired) (old new : Talk) → PassedBy StaysOwn own-channels m ws old new
    → OnOwn old.sessions → OnOwn new.sessions
own-on m ws old new p own n channel s e =
    subst IsOwn e
    ((all-passed StaysOwn own-channels m (map passing_of ws) old new p).all n
    (is-own (place_at old.sessions n) (own n)))

-- frames of a session's on its channel
plain-on : (it : SessionFrameBody) → IsPlain it → IsNoBegin it
plain-on (session.Begin begin) plain = plain
plain-on (session.Attach attach) plain = absurd plain
plain-on (session.Flow flow) plain = tt
plain-on (session.Transfer transfer payload) plain = tt
plain-on (session.Disposition disposition) plain = tt
plain-on (session.Detach detach) plain = tt
plain-on (session.End end) plain = tt

of-on : (channel : ℕ) (frames : List SessionFrame) → AreOn channel frames → AreOf channel frames
of-on channel [] are = tt
of-on channel (frame ∷ frames) (on, plain, are) = (on, plain-on frame.body plain, of-on channel frames are)

said-within : (it : LinkPerformative) → IsWithin (body_said it)
said-within (said.Attach attach named) = tt
said-within (said.Flow flow) = tt
said-within (said.Transfer transfer payload) = tt
said-within (said.Disposition disposition) = tt
said-within (said.Detach detach) = tt

said-for : (it : LinkPerformative) → IsForReached (body_said it)
said-for (said.Attach attach named) = tt
said-for (said.Flow flow) = tt
said-for (said.Transfer transfer payload) = tt
said-for (said.Disposition disposition) = tt
said-for (said.Detach detach) = tt

-- numbers from here on, and from another on
same-numbers : (base k number : ℕ) → (k == number) ≡ ((base + number) == (base + k))
same-numbers base k number = by (eqb_tells k number) (eqb_tells (base + number) (base + k))
  where
    by : (((k == number) ≡ true) × (k ≡ number)) ⊎ (((k == number) ≡ false) × (k ≢ number))
        → ((((base + number) == (base + k)) ≡ true) × ((base + number) ≡ (base + k)))
        ⊎ ((((base + number) == (base + k)) ≡ false) × ((base + number) ≢ (base + k)))
        → (k == number) ≡ ((base + number) == (base + k))
    by (inl p) (inl q) = p.0 ∙ sym q.0
    by (inl p) (inr q) = absurd (q.1 (ap (λ (n : ℕ). base + n) (sym p.1)))
    by (inr p) (inl q) = absurd (p.1 (omega (arith, q.1)))
    by (inr p) (inr q) = p.0 ∙ sym q.0

of-it : (base m number : ℕ) (o : Option ℕ) → from base o ≡ Some m → is_of o number ≡ ((base + number) == m)
of-it base m number None e = absurd (none-some m e)
of-it base m number (Some k) e =
    same-numbers base k number ∙ ap (λ (n : ℕ). (base + number) == n) (same_Some (base + k) m e)

one-or-none : {X : Type 0} (b : Bool) (x : X) (xs : List X)
    → (if b then x ∷ [] else []) ++ (if b then xs else []) ≡ (if b then x ∷ xs else [])
one-or-none true x xs = refl
one-or-none false x xs = refl

same-or-same : {X : Type 0} (b : Bool) (xs : List X) → xs ≡ (if b then xs else xs)
same-or-same true xs = refl
same-or-same false xs = refl

map-or-none : {X Y : Type 0} (f : X → Y) (b : Bool) (xs : List X)
    → map f (if b then xs else []) ≡ (if b then map f xs else [])
map-or-none f true xs = refl
map-or-none f false xs = refl

-- frames of one session are read in it, and in no other
all-read : (base m number : ℕ) (r : Reader) (ws : List Wired) → AreFor base m r ws
    → read_on number r ws ≡ (if (base + number) == m then ws else [])
all-read base m number r [] are = same-or-same ((base + number) == m) []
all-read base m number r (it ∷ ws) (one, are) =
    ap (λ (b : Bool). (if b then it ∷ [] else []) ++ read_on number (behind r it) ws)
    (of-it base m number (whose r it) one)
    ∙ ap (λ (xs : List Wired). (if (base + number) == m then it ∷ [] else []) ++ xs)
    (all-read base m number (behind r it) ws are)
    ∙ one-or-none ((base + number) == m) it ws

-- in the session to which frames belong they are read
abbrev pub Reads : Option ℕ → List Wired → Talk → Type 0
Reads o ws old =
    (base number : ℕ) (r : Reader) → InTables old.sessions → OnOwn old.sessions → Agrees base r old.sessions → Speaks r
    → passing_in number r ws ≡ (if is_it o (base + number) then map passing_of ws else [])

read-for : (m : ℕ) (ws : List Wired) (old new : Talk) → Sees m ws old.sessions new.sessions → Reads (Some m) ws old
read-for m ws old new sees base number r stands own agrees speaks =
    ap (map passing_of) (all-read base m number r ws (sees.are base r stands own agrees speaks))
    ∙ map-or-none passing_of ((base + number) == m) ws

-- what is read as a session's is one's
some-ones : (base m : ℕ) (o : Option ℕ) → from base o ≡ Some m → IsSome o
some-ones base m None is = absurd (none-some m is)
some-ones base m (Some number) is = refl

one-ones : (base m : ℕ) (r : Reader) (it : Wired) → from base (whose r it) ≡ Some m → IsOnes r it
one-ones base m r (Comes frame) is = tt
one-ones base m r (Goes frame) is = some-ones base m (whose r (Goes frame)) is

for-ones : (base m : ℕ) (r : Reader) (ws : List Wired) → AreFor base m r ws → AreOnes r ws
for-ones base m r [] are = tt
for-ones base m r (it ∷ ws) (one, are) = (one-ones base m r it one, for-ones base m (behind r it) ws are)

-- what is done in the session with this number is read off these frames
pub record SeenIn (m : ℕ) (ws : List Wired) (old new : Talk) : Type 0 where
  pub kept : PassedBy StaysOwn own-channels m ws old new
  pub sees : Sees m ws old.sessions new.sessions

pub record SeenAt (o : Option ℕ) (ws : List Wired) (old new : Talk) : Type 0 where
  pub follows : InTables old.sessions → Follows ws old.sessions new.sessions
  pub reads : Reads o ws old
  pub ones :
      (base : ℕ) (r : Reader) → InTables old.sessions → OnOwn old.sessions → Agrees base r old.sessions → Speaks r
      → AreOnes r ws

seen-at : (m : ℕ) (ws : List Wired) (old new : Talk) → Sees m ws old.sessions new.sessions → SeenAt (Some m) ws old new
seen-at m ws old new sees =
    record {
      follows = sees.follows;
      reads = read-for m ws old new sees;
      ones = λ base r stands own agrees speaks. for-ones base m r ws (sees.are base r stands own agrees speaks);
    }

-- the session that has the channel which the peer's Begin names
has-it : (number channel : ℕ) (o : Option Stood) → role_of o ≡ Has channel → with_channel number o ≡ Some number
has-it number channel (Some (Live own s)) is = refl
has-it number channel (Some (Ending own own_end)) is = refl
has-it number channel None is = let clash : Nowhere ≡ Has channel = is in absurd cc
has-it number channel (Some (Asked own a)) is = let clash : AskedOn own.0 ≡ Has channel = is in absurd cc
has-it number channel (Some (Over peer_end complete)) is = let clash : Gone ≡ Has channel = is in absurd cc

led-it : (old : Talk) (channel : IncomingChannel) (begin : Begin) (number : ℕ) (mid : Sessions)
    (l : Leads gives old channel begin number mid) → InTables old.sessions
    → begun_by old.sessions begin.remote_channel ≡ Some number
led-it old channel begin number mid l stands = by begin.remote_channel refl
  where
    by : (o : Option ℕ) → begin.remote_channel ≡ o → begun_by old.sessions begin.remote_channel ≡ Some number
    by None e = absurd (none-some number (sym (ap (named_session old.sessions.connection) e) ∙ ((l.stepped).0).0))
    by (Some named) e =
        let here : tables.get old.sessions.connection.live named ≡ Some number =
        sym (ap (named_session old.sessions.connection) e) ∙ ((l.stepped).0).0 in
        led-by old channel begin number mid l
        ∙ has-it number named (place_at old.sessions number) (stands.had number named here)

seen-dropped : (channel : IncomingChannel) (begin : Begin) (old new : Talk) → BeginDropped gives old channel begin new
    → SeenAt (begun_by old.sessions begin.remote_channel) (comes channel.0 (body.Begin begin) ∷ []) old new
seen-dropped channel begin old new d =
    let ws : List Wired = comes channel.0 (body.Begin begin) ∷ [] in
    let sees : Sees d.number ws old.sessions new.sessions =
    sees-led gives channel begin d.number old new.sessions d.led in
    record {
      follows = sees.follows;
      reads = λ base number r stands own agrees speaks.
          subst
          (λ (o : Option ℕ).
          passing_in number r ws ≡ (if is_it o (base + number) then map passing_of ws else []))
          (sym (led-it old channel begin d.number new.sessions d.led stands))
          (read-for d.number ws old new sees base number r stands own agrees speaks);
      ones = λ base r stands own agrees speaks. (tt, tt);
    }

-- a session that refuses what it hears stays on its channel
refused-own : (m : ℕ) (it : LinkPerformative) (fault : SessionError) (frames : List SessionFrame)
    (before after : Session) (old mid : Talk) → LiveRefuses gives old [] m before it fault after mid frames
    → OnOwn old.sessions → OnOwn mid.sessions
refused-own m it fault frames before after old mid r own n channel s e = subst IsOwn e (by (n == m) refl)
  where
    by : (b : Bool) → (n == m) ≡ b → IsOwn (place_at mid.sessions n)
    by true this =
        let (stood, was, lives, becomes) =
        (at n old.sessions (ChangesLive m before after) mid.sessions r.hears.stepped).about this in
        subst IsOwn (sym becomes)
        (live-own 0 stood [] before after (Came (body_said it) ∷ went frames) tt lives
        (hears refl it (Err fault) frames before.value after.value
        (λ (same : Err fault ≡ Err Memory). r.is_fault (let x : fault ≡ Memory = cc in x)) r.hears.heard refl refl refl)
        (subst IsOwn was (is-own (place_at old.sessions n) (own n))))
    by false other =
        subst IsOwn (sym ((at n old.sessions (ChangesLive m before after) mid.sessions r.hears.stepped).other other))
        (is-own (place_at old.sessions n) (own n))

-- and ends by its fault
sees-fails : (m channel : ℕ) (it : LinkPerformative) (fault : SessionError) (frames : List SessionFrame)
    (before s : Session) (old new : Talk) → reached old.sessions channel ≡ Some m
    → LiveFails gives old [] m before it fault s new frames
    → Sees m (comes channel (body_said it) ∷ goes frames) old.sessions new.sessions
sees-fails m channel it fault frames before s old new reaches f =
    let end : List SessionFrame = end_frame f.ends.channel (Some (fault_error fault)) ∷ [] in
    let first : List Wired = comes channel (body_said it) ∷ goes f.out_mid in
    subst (λ (fs : List SessionFrame). Sees m (comes channel (body_said it) ∷ goes fs) old.sessions new.sessions)
    (sym f.ends.queued)
    (subst (λ (ws : List Wired). Sees m (comes channel (body_said it) ∷ ws) old.sessions new.sessions)
    (sym (behind-others f.out_mid end))
    (sees-on m first (goes end) old.sessions f.mid.sessions new.sessions
    (refused-own m it fault f.out_mid before s old f.mid f.refuses)
    (sees-hears m channel (body_said it) (said-within it) (said-for it) gives it (Err fault) f.out_mid before s
    old.sessions f.mid.sessions reaches f.refuses.hears)
    (sees-ends m (Some (fault_error fault)) s f.out_mid frames f.mid new f.ends)))

pub attach-seen : AttachGoes SeenIn
attach-seen m attach s talk live =
    record {
      kept = attach-judged StaysOwn own-channels m attach s talk live;
      sees = sees-free m (attach_frame s.value.session attach ∷ []) s (refl, tt, tt) talk.sessions live;
    }

pub seeing : Walk (λ accepted. Unit {0}) SeenIn SeenAt
seeing =
    record {
      quiet = λ accepted up. tt;
      none = λ m old new same. record {
        kept = owning.none m old new same;
        sees = sees-none m old.sessions new.sessions (ap (λ (t : Talk). t.sessions) same);
      };
      on = λ m ws more old mid new p q. record {
        kept = owning.on m ws more old mid new p.kept q.kept;
        sees =
            sees-on m ws more old.sessions mid.sessions new.sessions (own-on m ws old mid p.kept) p.sees q.sees;
      };
      at = λ m ws old new p. seen-at m ws old new p.sees;
      silent = λ o m old new p. record {
        follows = p.sees.follows;
        reads = λ base number r stands own agrees speaks. same-or-same (is_it o (base + number)) [];
        ones = λ base r stands own agrees speaks. tt;
      };
      free = λ m frames s talk live said on. record {
        kept = owning.free m frames s talk live said on;
        sees = sees-free m frames s (of-on _ frames on) talk.sessions live;
      };
      inside = λ m accepted frames before after old new allowed stepped rest d keeps. record {
        kept = owning.inside m accepted frames before after old new allowed stepped rest d keeps;
        sees = sees-inside m frames before (of-on _ frames d.on) after old.sessions new.sessions stepped;
      };
      hears = λ m channel it told frames before after old new reaches h rest. record {
        kept = owning.hears m channel it told frames before after old new reaches h rest;
        sees =
            sees-hears m channel (body_said it) (said-within it) (said-for it) gives it (Ok told) frames before after
            old.sessions new.sessions reaches h;
      };
      fails = λ m channel it fault frames before s old new reaches f. record {
        kept = owning.fails m channel it fault frames before s old new reaches f;
        sees = sees-fails m channel it fault frames before s old new reaches f;
      };
      asked = λ m channel it before old new reaches t. record {
        kept = owning.asked m channel it before old new reaches t;
        sees =
            sees-asked m channel (body_said it) (said-within it) (said-for it) before t.after old.sessions new.sessions
            reaches t.stepped;
      };
      unheard = λ m channel it talk reaches asked live. record {
        kept = owning.unheard m channel it talk reaches asked live;
        sees = sees-comes m channel (body_said it) (said-within it) (said-for it) talk.sessions reaches;
      };
      asks = λ channel begin number old new a. record {
        kept = owning.asks channel begin number old new a;
        sees = sees-asks gives channel begin number old new a;
      };
      begun = λ channel begin number frames old new b. record {
        kept = owning.begun channel begin number frames old new b;
        sees = sees-begun gives channel begin number frames old new b;
      };
      dropped = seen-dropped;
      barred = λ channel begin number error s frames old mid new b e. record {
        kept = owning.barred channel begin number error s frames old mid new b e;
        sees = sees-barred gives channel begin number error s frames old mid new b e;
      };
      ended = λ channel end h frames old new e. record {
        kept = owning.ended channel end h frames old new e;
        sees = sees-ended channel end h frames old new e;
      };
      begins = λ number frames old new b. record {
        kept = owning.begins number frames old new b;
        sees = sees-begins gives number frames old new b;
      };
      accepts = λ channel number frames old new a. record {
        kept = owning.accepts channel number frames old new a;
        sees = sees-accepts gives channel number frames old new a;
      };
      ends = λ number error s out out_new old new e. record {
        kept = owning.ends number error s out out_new old new e;
        sees = sees-ends number error s out out_new old new e;
      };
      told = λ number result old new t rest. record {
        kept = owning.told number result old new t rest;
        sees = sees-told number result old.sessions new.sessions t;
      };
    }
