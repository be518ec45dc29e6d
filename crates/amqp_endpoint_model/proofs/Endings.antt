-- Bytes are read in one way.
use Rattle.std.proofs.Common.{◌≡◌, ◌≢◌, ℕ, ◌+◌, ◌<◌, ◌≤◌, List, [], ◌∷◌, ◌++◌, length, refl, sym, ◌∙◌, ap, arith, length-append, subst, Option, Some, None, inl, inr}
use Rattle.std.specs.Prelude.{IsSome}
use Rattle.std.proofs.lemmas.List.{append-nil}
use Rattle.amqp_session_types.specs.declared.refusals.ConnectionError.{ConnectionError}
use Rattle.amqp_session_types.specs.declared.refusals.ConnectionError.TheVariants.{IllegalState as OutOfOrder}
use Rattle.amqp_session_performatives.specs.declared.open.Open.{Open as OpenFields}
use Rattle.amqp_session_frames.specs.declared.error.Error.{Error as FrameError}
use Rattle.amqp_session_frames.specs.declared.error.Error.TheVariants.{DecodeError, NotImplemented, TooLarge, Memory as FrameMemory}
use Rattle.amqp_session_frames.specs.declared.frame.Frame.{Frame}
use Rattle.amqp_session_frames.specs.declared.frame.FrameBody.{FrameBody}
use Rattle.amqp_session_frames.specs.declared.frame.FrameBody.TheVariants.{Open}
use Rattle.amqp_session_frames.specs.Cutting.{said_size, ReadsAs}
use Rattle.amqp_session_frames.specs.Text.{FrameText, IsOtherType}
use Rattle.amqp_session_frames.proofs.CuttingLaws.{said_size-append}
use Rattle.amqp_session_frames.proofs.FrameLaws.{frame_piece, frame_same}
use Rattle.amqp_endpoint_model.specs.declared.error.EndpointError.{EndpointError}
use Rattle.amqp_endpoint_model.specs.declared.error.EndpointError.TheVariants.{Memory, NumbersUsedUp, SizeUnder8, SizeOverLimit, PeerLimitUnder512, Frame as FrameFault, Connection, Session}
use Rattle.amqp_endpoint_model.specs.declared.event.Event.{Event}
use Rattle.amqp_endpoint_model.specs.declared.phase.Phase.{Phase}
use Rattle.amqp_endpoint_model.specs.declared.phase.Phase.TheVariants.{Running, Over}
use Rattle.amqp_endpoint_model.specs.Relay.{Relations, Decides, IsOfSession}
use Rattle.amqp_endpoint_model.specs.State.{State, limit_of}
use Rattle.amqp_endpoint_model.specs.Step.{Admits, Front, NoFrame, SessionsRefuse, SessionsTake, RefusesBody, FrontRefused, AfterFault, Waits, EndsRunning, Ends, ReadsOn, TakesBody, Takes, TakesAll, condition_of}
use Rattle.amqp_endpoint_model.proofs.Texts.{same_piece, frame_type}
use Rattle.amqp_endpoint_model.proofs.Takings.{same_settings, taken_by_sessions}
use Rattle.amqp_endpoint_model.proofs.Moves.{after_fault-unique, body-unique}

-- a whole piece in front of what is left has the size that is said there
pub record Sized (limit : ℕ) (left : List ℕ) : Type 0 where
  pub four : 4 ≤ length left
  pub least : 8 ≤ said_size left
  pub short : said_size left ≤ limit
  pub whole : said_size left ≤ length left

front-sized : (limit : ℕ) (left piece : List ℕ) → Front limit left piece → Sized limit left
front-sized limit left piece f =
    let n : length left ≡ length piece + length f.more = ap length f.whole ∙ length-append piece f.more in
    let s : said_size left ≡ said_size piece
    = ap (λ (x : List ℕ). said_size x) f.whole ∙ said_size-append piece f.more (omega (arith, f.piece_is.least)) in
    record {
      four = omega (arith, n, f.piece_is.least);
      least = omega (arith, s, f.piece_is.least, f.piece_is.size);
      short = omega (arith, s, f.short, f.piece_is.size);
      whole = omega (arith, n, s, f.piece_is.size);
    }

not_waiting : (limit : ℕ) (left : List ℕ) → Sized limit left → Waits limit left → ⊥
not_waiting limit left s (inl w) = omega (arith, s.four, w)
not_waiting limit left s (inr (a, b, c)) = omega (arith, s.whole, c)

some_none : (o : Option ℕ) → IsSome o → o ≡ None → ⊥
some_none (Some n) is e = cc
some_none None is e = cc

pub admitted-front : (limit : ℕ) (left piece more : List ℕ) (f : Frame) → left ≡ piece ++ more → Admits limit piece f
    → Front limit left piece
admitted-front limit left piece more f whole a = record {
  more = more;
  whole = whole;
  piece_is = frame_piece piece f a.text;
  short = a.short;
}

-- an Open is no performative of a session
no_session-open : (f g : Frame) (o : OpenFields) → f ≡ g → g.body ≡ Open o → IsOfSession f.body → ⊥
no_session-open f g o same is theirs =
    let P : FrameBody → Type 0 = λ x. IsOfSession x in
    subst P (ap (λ (x : Frame). x.body) same ∙ is) theirs

not_memory : (e : EndpointError) → Some e ≢ Some Memory → e ≢ Memory
not_memory e n is = n (ap Some is)

module _ {S : Type 0} (does : Relations S) where
  -- why the piece in front is refused, and the sessions behind the refusal
  pub data Refused (s : State S) (piece : List ℕ) (e : EndpointError) (x : S) : Type 0 where
    other_type : IsOtherType piece → e ≡ FrameFault NotImplemented → x ≡ s.sessions → Refused s piece e x
    no_frame : (IsOtherType piece → ⊥) → ((f : Frame) → FrameText piece f → ⊥) → e ≡ FrameFault DecodeError
        → x ≡ s.sessions → Refused s piece e x
    small : (o : OpenFields) (f : Frame) → FrameText piece f → f.body ≡ Open o → s.peer_limit ≡ None
        → o.max_frame_size < 512 → e ≡ PeerLimitUnder512 → x ≡ s.sessions → Refused s piece e x
    second : (o : OpenFields) (f : Frame) → FrameText piece f → f.body ≡ Open o → IsSome s.peer_limit
        → e ≡ Connection OutOfOrder → x ≡ s.sessions → Refused s piece e x
    barred : (f : Frame) → FrameText piece f → SessionsRefuse does s e f.channel f.body x → Refused s piece e x

  -- why no frame more is taken, and the sessions then
  pub data Ending (s : State S) (left : List ℕ) (fault : Option EndpointError) (x : S) : Type 0 where
    waits : Waits s.settings.max_frame_size left → fault ≡ None → x ≡ s.sessions → Ending s left fault x
    under : 4 ≤ length left → said_size left < 8 → fault ≡ Some SizeUnder8 → x ≡ s.sessions → Ending s left fault x
    over : 4 ≤ length left → 8 ≤ said_size left → s.settings.max_frame_size < said_size left
        → fault ≡ Some SizeOverLimit → x ≡ s.sessions → Ending s left fault x
    front : (piece : List ℕ) (e : EndpointError) → Front s.settings.max_frame_size left piece → Refused s piece e x
        → fault ≡ Some e → Ending s left fault x

  no_frame-refused : (s : State S) (piece : List ℕ) (e : FrameError) (x : S) → NoFrame e piece → x ≡ s.sessions
      → Refused s piece (FrameFault e) x
  no_frame-refused s piece NotImplemented x n same = other_type n refl same
  no_frame-refused s piece DecodeError x n same = no_frame n.0 n.1 refl same
  no_frame-refused s piece TooLarge x n same = absurd n
  no_frame-refused s piece FrameMemory x n same = absurd n

  barred-at : (s : State S) (piece : List ℕ) (f : Frame) (e : EndpointError) (body : FrameBody) (x : S)
      → f.body ≡ body → FrameText piece f → SessionsRefuse does s e f.channel body x → Refused s piece e x
  barred-at s piece f e body x is text r =
      let P : FrameBody → Type 0 = λ b. SessionsRefuse does s e f.channel b x in
      barred f text (subst P (sym is) r)

  small-refused : (s : State S) (piece : List ℕ) (f : Frame) (body : FrameBody) (x : S) → f.body ≡ body
      → FrameText piece f → RefusesBody does s PeerLimitUnder512 f.channel body x → Refused s piece PeerLimitUnder512 x
  small-refused s piece f (Open o) x is text (none, less, same) = small o f text is none less refl same
  small-refused s piece f body x is text r = barred-at s piece f PeerLimitUnder512 body x is text r

  connection-refused : (s : State S) (piece : List ℕ) (f : Frame) (e : ConnectionError) (body : FrameBody) (x : S)
      → f.body ≡ body → FrameText piece f → RefusesBody does s (Connection e) f.channel body x
      → Refused s piece (Connection e) x
  connection-refused s piece f OutOfOrder (Open o) x is text (there, same) = second o f text is there refl same
  connection-refused s piece f e body x is text r = barred-at s piece f (Connection e) body x is text r

  ending : (s : State S) (left : List ℕ) (e : EndpointError) (x : S) → e ≢ Memory → FrontRefused does s left e x
      → Ending s left (Some e) x
  ending s left Memory x n r = absurd (n refl)
  ending s left SizeUnder8 x n ((four, less), same) = under four less refl same
  ending s left SizeOverLimit x n ((four, least, more), same) = over four least more refl same
  ending s left (FrameFault e) x n ((piece, f, none), same) =
      front piece (FrameFault e) f (no_frame-refused s piece e x none same) refl
  ending s left PeerLimitUnder512 x n b =
      front b.piece PeerLimitUnder512 b.front
      (small-refused s b.piece b.frame b.frame.body x refl b.text b.refuses) refl
  ending s left (Connection e) x n b =
      front b.piece (Connection e) b.front
      (connection-refused s b.piece b.frame e b.frame.body x refl b.text b.refuses) refl
  ending s left (Session e) x n b = front b.piece (Session e) b.front (barred b.frame b.text b.refuses) refl
  ending s left NumbersUsedUp x n b = front b.piece NumbersUsedUp b.front (barred b.frame b.text b.refuses) refl
  ending s left e x n r = absurd r.0

  -- the state behind that
  abbrev pub Behind : State S → List ℕ → Option EndpointError → State S → Type 0
  Behind t left None new = new ≡ record t { rest = left }
  Behind t left (Some e) new = AfterFault does (condition_of e) t new

  pub record Ended (s : State S) (left : List ℕ) (fault : Option EndpointError) (new : State S) : Type 0 where
    pub sessions : S
    pub why : Ending s left fault sessions
    pub behind : Behind (record s { sessions = sessions }) left fault new

  ended : (s : State S) (left : List ℕ) (fault : Option EndpointError) (new : State S) → fault ≢ Some Memory
      → EndsRunning does s left fault new → Ended s left fault new
  ended s left None new n (w, after) = record { sessions = s.sessions; why = waits w refl refl; behind = after }
  ended s left (Some e) new n r = record {
    sessions = r.sessions;
    why = ending s left e r.sessions (not_memory e n) r.refused;
    behind = r.after;
  }

  -- what reading some bytes came to
  pub record Read (limit : ℕ) (s : State S) (bytes : List ℕ) (frames : List Frame) (left : List ℕ) (events : List Event)
      (mid : State S) (fault : Option EndpointError) (new : State S) : Type 0 where
    pub read : ReadsAs (Admits limit) bytes frames left
    pub taken : TakesAll does s frames events mid
    pub ends : Ends does mid mid.phase left fault new
    pub memory : fault ≢ Some Memory

  none_read : (s : State S) (bytes left : List ℕ) (mid : State S) (fault : Option EndpointError) (new : State S)
      → bytes ≡ left → mid ≡ s → Ends does mid mid.phase left fault new → Ends does s s.phase bytes fault new
  none_read s bytes left mid fault new b m ends =
      let P : State S → Type 0 = λ x. Ends does x x.phase left fault new in
      let Q : List ℕ → Type 0 = λ x. Ends does s s.phase x fault new in
      subst Q (sym b) (subst P m ends)

pub record SameRead {S : Type 0} (es ds : List Event) (f g : Option EndpointError) (a b : State S) : Type 0 where
  pub events : es ≡ ds
  pub fault : f ≡ g
  pub state : a ≡ b

record SameEnd {S : Type 0} (f g : Option EndpointError) (a b : State S) : Type 0 where
  fault : f ≡ g
  state : a ≡ b

record SameWhy {S : Type 0} (f g : Option EndpointError) (x y : S) : Type 0 where
  fault : f ≡ g
  sessions : x ≡ y

module _ {S : Type 0} (does : Relations S) (law : Decides does) where
  both-barred : (s : State S) (piece : List ℕ) (d e : EndpointError) (x y : S) (f g : Frame) → d ≢ Memory → e ≢ Memory
      → FrameText piece f → FrameText piece g → SessionsRefuse does s d f.channel f.body x
      → SessionsRefuse does s e g.channel g.body y → (d ≡ e) × (x ≡ y)
  both-barred s piece d e x y f g n m text text2 r t =
      let same : f ≡ g = frame_same piece f g text text2 in
      let P : Frame → Type 0 = λ h. does.refuses s.sessions (limit_of s.peer_limit) h.channel h.body e y in
      law.refused s.sessions x y (limit_of s.peer_limit) f.channel f.body d e r.refuses
      (subst P (sym same) t.refuses) n m

  -- a piece is refused for one thing
  refused-unique : (s : State S) (piece : List ℕ) (d e : EndpointError) (x y : S) → d ≢ Memory → e ≢ Memory
      → Refused does s piece d x → Refused does s piece e y → (d ≡ e) × (x ≡ y)
  refused-unique s piece d e x y n m (other_type t is same) (other_type t2 is2 same2) =
      (is ∙ sym is2, same ∙ sym same2)
  refused-unique s piece d e x y n m (other_type t is same) (no_frame t2 none2 is2 same2) =
      absurd (t2 t)
  refused-unique s piece d e x y n m (other_type t is same) (small o2 h2 text2 body2 first2 less2 is2 same2) =
      absurd (frame_type piece h2 text2 t)
  refused-unique s piece d e x y n m (other_type t is same) (second o2 h2 text2 body2 there2 is2 same2) =
      absurd (frame_type piece h2 text2 t)
  refused-unique s piece d e x y n m (other_type t is same) (barred h2 text2 r2) =
      absurd (frame_type piece h2 text2 t)
  refused-unique s piece d e x y n m (no_frame t none is same) (other_type t2 is2 same2) =
      absurd (t t2)
  refused-unique s piece d e x y n m (no_frame t none is same) (no_frame t2 none2 is2 same2) =
      (is ∙ sym is2, same ∙ sym same2)
  refused-unique s piece d e x y n m (no_frame t none is same) (small o2 h2 text2 body2 first2 less2 is2 same2) =
      absurd (none h2 text2)
  refused-unique s piece d e x y n m (no_frame t none is same) (second o2 h2 text2 body2 there2 is2 same2) =
      absurd (none h2 text2)
  refused-unique s piece d e x y n m (no_frame t none is same) (barred h2 text2 r2) =
      absurd (none h2 text2)
  refused-unique s piece d e x y n m (small o h text body first less is same) (other_type t2 is2 same2) =
      absurd (frame_type piece h text t2)
  refused-unique s piece d e x y n m (small o h text body first less is same) (no_frame t2 none2 is2 same2) =
      absurd (none2 h text)
  refused-unique s piece d e x y n m (small o h text body first less is same)
      (small o2 h2 text2 body2 first2 less2 is2 same2) =
      (is ∙ sym is2, same ∙ sym same2)
  refused-unique s piece d e x y n m (small o h text body first less is same)
      (second o2 h2 text2 body2 there2 is2 same2) =
      absurd (some_none s.peer_limit there2 first)
  refused-unique s piece d e x y n m (small o h text body first less is same) (barred h2 text2 r2) =
      absurd (no_session-open h2 h o (frame_same piece h2 h text2 text) body r2.theirs)
  refused-unique s piece d e x y n m (second o h text body there is same) (other_type t2 is2 same2) =
      absurd (frame_type piece h text t2)
  refused-unique s piece d e x y n m (second o h text body there is same) (no_frame t2 none2 is2 same2) =
      absurd (none2 h text)
  refused-unique s piece d e x y n m (second o h text body there is same)
      (small o2 h2 text2 body2 first2 less2 is2 same2) =
      absurd (some_none s.peer_limit there first2)
  refused-unique s piece d e x y n m (second o h text body there is same) (second o2 h2 text2 body2 there2 is2 same2) =
      (is ∙ sym is2, same ∙ sym same2)
  refused-unique s piece d e x y n m (second o h text body there is same) (barred h2 text2 r2) =
      absurd (no_session-open h2 h o (frame_same piece h2 h text2 text) body r2.theirs)
  refused-unique s piece d e x y n m (barred h text r) (other_type t2 is2 same2) =
      absurd (frame_type piece h text t2)
  refused-unique s piece d e x y n m (barred h text r) (no_frame t2 none2 is2 same2) =
      absurd (none2 h text)
  refused-unique s piece d e x y n m (barred h text r) (small o2 h2 text2 body2 first2 less2 is2 same2) =
      absurd (no_session-open h h2 o2 (frame_same piece h h2 text text2) body2 r.theirs)
  refused-unique s piece d e x y n m (barred h text r) (second o2 h2 text2 body2 there2 is2 same2) =
      absurd (no_session-open h h2 o2 (frame_same piece h h2 text text2) body2 r.theirs)
  refused-unique s piece d e x y n m (barred h text r) (barred h2 text2 r2) =
      both-barred s piece d e x y h h2 n m text text2 r r2

  fronts-unique : (s : State S) (left piece piece2 : List ℕ) (d e : EndpointError) (x y : S) → d ≢ Memory → e ≢ Memory
      → Front s.settings.max_frame_size left piece → Front s.settings.max_frame_size left piece2
      → Refused does s piece d x → Refused does s piece2 e y → (d ≡ e) × (x ≡ y)
  fronts-unique s left piece piece2 d e x y n m h h2 r r2 =
      let both : (piece ≡ piece2) × (h.more ≡ h2.more)
      = same_piece piece piece2 h.more h2.more h.piece_is h2.piece_is (sym h.whole ∙ h2.whole) in
      let P : List ℕ → Type 0 = λ p. Refused does s p e y in
      refused-unique s piece d e x y n m r (subst P (sym both.0) r2)

  named : (f : Option EndpointError) (e : EndpointError) → f ≢ Some Memory → f ≡ Some e → e ≢ Memory
  named f e n is memory = n (is ∙ ap Some memory)

  ending-unique : (s : State S) (left : List ℕ) (f g : Option EndpointError) (x y : S) → f ≢ Some Memory
      → g ≢ Some Memory → Ending does s left f x → Ending does s left g y → SameWhy f g x y
  ending-unique s left f g x y n m (waits w is same) (waits w2 is2 same2) =
      record { fault = is ∙ sym is2; sessions = same ∙ sym same2 }
  ending-unique s left f g x y n m (waits (inl w) is same) (under four2 less2 is2 same2) =
      absurd (omega arith)
  ending-unique s left f g x y n m (waits (inr w) is same) (under four2 less2 is2 same2) =
      absurd (omega arith)
  ending-unique s left f g x y n m (waits (inl w) is same) (over four2 least2 more2 is2 same2) =
      absurd (omega arith)
  ending-unique s left f g x y n m (waits (inr w) is same) (over four2 least2 more2 is2 same2) =
      absurd (omega arith)
  ending-unique s left f g x y n m (waits w is same) (front piece2 e2 h2 r2 is2) =
      absurd (not_waiting s.settings.max_frame_size left (front-sized s.settings.max_frame_size left piece2 h2) w)
  ending-unique s left f g x y n m (under four less is same) (waits (inl w2) is2 same2) =
      absurd (omega arith)
  ending-unique s left f g x y n m (under four less is same) (waits (inr w2) is2 same2) =
      absurd (omega arith)
  ending-unique s left f g x y n m (under four less is same) (under four2 less2 is2 same2) =
      record { fault = is ∙ sym is2; sessions = same ∙ sym same2 }
  ending-unique s left f g x y n m (under four less is same) (over four2 least2 more2 is2 same2) =
      absurd (omega arith)
  ending-unique s left f g x y n m (under four less is same) (front piece2 e2 h2 r2 is2) =
      let z : Sized s.settings.max_frame_size left = front-sized s.settings.max_frame_size left piece2 h2 in
      absurd (omega arith)
  ending-unique s left f g x y n m (over four least more is same) (waits (inl w2) is2 same2) =
      absurd (omega arith)
  ending-unique s left f g x y n m (over four least more is same) (waits (inr w2) is2 same2) =
      absurd (omega arith)
  ending-unique s left f g x y n m (over four least more is same) (under four2 less2 is2 same2) =
      absurd (omega arith)
  ending-unique s left f g x y n m (over four least more is same) (over four2 least2 more2 is2 same2) =
      record { fault = is ∙ sym is2; sessions = same ∙ sym same2 }
  ending-unique s left f g x y n m (over four least more is same) (front piece2 e2 h2 r2 is2) =
      let z : Sized s.settings.max_frame_size left = front-sized s.settings.max_frame_size left piece2 h2 in
      absurd (omega arith)
  ending-unique s left f g x y n m (front piece e h r is) (waits w2 is2 same2) =
      absurd (not_waiting s.settings.max_frame_size left (front-sized s.settings.max_frame_size left piece h) w2)
  ending-unique s left f g x y n m (front piece e h r is) (under four2 less2 is2 same2) =
      let z : Sized s.settings.max_frame_size left = front-sized s.settings.max_frame_size left piece h in
      absurd (omega arith)
  ending-unique s left f g x y n m (front piece e h r is) (over four2 least2 more2 is2 same2) =
      let z : Sized s.settings.max_frame_size left = front-sized s.settings.max_frame_size left piece h in
      absurd (omega arith)
  ending-unique s left f g x y n m (front piece e h r is) (front piece2 e2 h2 r2 is2) =
      let both : (e ≡ e2) × (x ≡ y)
      = fronts-unique s left piece piece2 e e2 x y (named f e n is) (named g e2 m is2) h h2 r r2 in
      record { fault = is ∙ ap Some both.0 ∙ sym is2; sessions = both.1 }

  behind-unique : (t : State S) (left : List ℕ) (fault : Option EndpointError) (a b : State S)
      → Behind does t left fault a → Behind does t left fault b → a ≡ b
  behind-unique t left None a b r u = r ∙ sym u
  behind-unique t left (Some e) a b r u = after_fault-unique does law (condition_of e) t a b r u

  ended-unique : (s : State S) (left : List ℕ) (f g : Option EndpointError) (a b : State S) → f ≢ Some Memory
      → g ≢ Some Memory → Ended does s left f a → Ended does s left g b → SameEnd f g a b
  ended-unique s left f g a b n m r t =
      let same : SameWhy f g r.sessions t.sessions = ending-unique s left f g r.sessions t.sessions n m r.why t.why in
      let P : Option EndpointError → Type 0 = λ o. Behind does (record s { sessions = t.sessions }) left o b in
      let Q : S → Type 0 = λ x. Behind does (record s { sessions = x }) left f b in
      let behind : Behind does (record s { sessions = r.sessions }) left f b
      = subst Q (sym same.sessions) (subst P (sym same.fault) t.behind) in
      record {
        fault = same.fault;
        state = behind-unique (record s { sessions = r.sessions }) left f a b r.behind behind;
      }

  ends-unique : (p : Phase) (s : State S) (left : List ℕ) (f g : Option EndpointError) (a b : State S) → f ≢ Some Memory
      → g ≢ Some Memory → Ends does s p left f a → Ends does s p left g b → SameEnd f g a b
  ends-unique Running s left f g a b n m r t =
      ended-unique s left f g a b n m (ended does s left f a n r) (ended does s left g b m t)
  ends-unique Over s left None None a b n m r t = record { fault = refl; state = r ∙ sym t }
  ends-unique Over s left (Some e) g a b n m r t = absurd r
  ends-unique Over s left None (Some e) a b n m r t = absurd t
  ends-unique p s left f g a b n m r t = absurd r

  taken_barred : (s : State S) (piece : List ℕ) (f g : Frame) (es : List Event) (mid : State S) (e : EndpointError)
      (x : S) → e ≢ Memory → FrameText piece f → FrameText piece g → Takes does s f es mid
      → SessionsRefuse does s e g.channel g.body x → ⊥
  taken_barred s piece f g es mid e x n text text2 takes r =
      let same : f ≡ g = frame_same piece f g text text2 in
      let P : FrameBody → Type 0 = λ b. IsOfSession b in
      let Q : Frame → Type 0 = λ h. does.refuses s.sessions (limit_of s.peer_limit) h.channel h.body e x in
      let theirs : IsOfSession f.body = subst P (sym (ap (λ (h : Frame). h.body) same)) r.theirs in
      let t : SessionsTake does s f.channel f.body es mid
      = taken_by_sessions does f.body s f.channel es mid theirs takes.1 in
      law.apart s.sessions mid.sessions x (limit_of s.peer_limit) f.channel f.body t.frames es e t.takes
      (subst Q (sym same) r.refuses) n

  -- a piece whose frame is taken is not refused
  taken_refused : (s : State S) (piece : List ℕ) (f : Frame) (es : List Event) (mid : State S) (e : EndpointError)
      (x : S) → e ≢ Memory → FrameText piece f → Takes does s f es mid → Refused does s piece e x → ⊥
  taken_refused s piece f es mid e x n text takes (other_type t is same) = frame_type piece f text t
  taken_refused s piece f es mid e x n text takes (no_frame t none is same) = none f text
  taken_refused s piece f es mid e x n text takes (small o h text2 body first less is same) =
      let is_open : f.body ≡ Open o = ap (λ (g : Frame). g.body) (frame_same piece f h text text2) ∙ body in
      let P : FrameBody → Type 0 = λ b. TakesBody does s f.channel b es mid in
      let t = subst P is_open takes.1 in
      omega (arith, less, t.1)
  taken_refused s piece f es mid e x n text takes (second o h text2 body there is same) =
      let is_open : f.body ≡ Open o = ap (λ (g : Frame). g.body) (frame_same piece f h text text2) ∙ body in
      let P : FrameBody → Type 0 = λ b. TakesBody does s f.channel b es mid in
      let t = subst P is_open takes.1 in
      some_none s.peer_limit there t.0
  taken_refused s piece f es mid e x n text takes (barred h text2 r) =
      taken_barred s piece f h es mid e x n text text2 takes r

  -- where a frame is taken, reading does not end
  taken_ended : (limit : ℕ) (s : State S) (left piece more : List ℕ) (f : Frame) (es : List Event) (mid : State S)
      (fault : Option EndpointError) (x : S) → fault ≢ Some Memory → s.settings.max_frame_size ≡ limit
      → left ≡ piece ++ more → Admits limit piece f → Takes does s f es mid → Ending does s left fault x → ⊥
  taken_ended limit s left piece more f es mid fault x n l whole a takes (waits w is same) =
      let P : ℕ → Type 0 = λ k. Waits k left in
      let z : Sized limit left = front-sized limit left piece (admitted-front limit left piece more f whole a) in
      not_waiting limit left z (subst P l w)
  taken_ended limit s left piece more f es mid fault x n l whole a takes (under four less is same) =
      let z : Sized limit left = front-sized limit left piece (admitted-front limit left piece more f whole a) in
      omega arith
  taken_ended limit s left piece more f es mid fault x n l whole a takes (over four least longer is same) =
      let z : Sized limit left = front-sized limit left piece (admitted-front limit left piece more f whole a) in
      omega arith
  taken_ended limit s left piece more f es mid fault x n l whole a takes (front other e h r is) =
      let both : (other ≡ piece) × (h.more ≡ more)
      = same_piece other piece h.more more h.piece_is (frame_piece piece f a.text) (sym h.whole ∙ whole) in
      let P : List ℕ → Type 0 = λ p. Refused does s p e x in
      taken_refused s piece f es mid e x (named fault e n is) a.text takes (subst P both.0 r)

  -- while frames are taken, reading has not ended
  running_ended : (limit : ℕ) (s : State S) (left piece more : List ℕ) (f : Frame) (es : List Event) (mid : State S)
      (fault : Option EndpointError) (new : State S) → s.settings.max_frame_size ≡ limit → left ≡ piece ++ more
      → Admits limit piece f → Takes does s f es mid → fault ≢ Some Memory → Ends does s s.phase left fault new → ⊥
  running_ended limit s left piece more f es mid fault new l whole a takes n ends =
      let P : Phase → Type 0 = λ p. Ends does s p left fault new in
      let r : Ended does s left fault new = ended does s left fault new n (subst P takes.0 ends) in
      taken_ended limit s left piece more f es mid fault r.sessions n l whole a takes r.why

  pub read-unique : (limit : ℕ) (s : State S) (bytes : List ℕ) (fs gs : List Frame) (l m : List ℕ) (es ds : List Event)
      (mid mid2 : State S) (f g : Option EndpointError) (a b : State S) → s.settings.max_frame_size ≡ limit
      → Read does limit s bytes fs l es mid f a → Read does limit s bytes gs m ds mid2 g b → SameRead es ds f g a b
  read-unique limit s bytes [] [] l m es ds mid mid2 f g a b lim r t =
      let ends : Ends does s s.phase bytes f a = none_read does s bytes l mid f a r.read r.taken.1 r.ends in
      let ends2 : Ends does s s.phase bytes g b = none_read does s bytes m mid2 g b t.read t.taken.1 t.ends in
      let same : SameEnd f g a b = ends-unique s.phase s bytes f g a b r.memory t.memory ends ends2 in
      record { events = r.taken.0 ∙ sym t.taken.0; fault = same.fault; state = same.state }
  read-unique limit s bytes [] (y ∷ gs) l m es ds mid mid2 f g a b lim r t =
      let (piece, more, whole, admits, others) = t.read in
      let (next, first, later, one, all, split) = t.taken in
      let ends : Ends does s s.phase bytes f a = none_read does s bytes l mid f a r.read r.taken.1 r.ends in
      absurd (running_ended limit s bytes piece more y first next f a lim whole admits one r.memory ends)
  read-unique limit s bytes (x ∷ fs) [] l m es ds mid mid2 f g a b lim r t =
      let (piece, more, whole, admits, others) = r.read in
      let (next, first, later, one, all, split) = r.taken in
      let ends : Ends does s s.phase bytes g b = none_read does s bytes m mid2 g b t.read t.taken.1 t.ends in
      absurd (running_ended limit s bytes piece more x first next g b lim whole admits one t.memory ends)
  read-unique limit s bytes (x ∷ fs) (y ∷ gs) l m es ds mid mid2 f g a b lim r t =
      let (piece, more, whole, admits, others) = r.read in
      let (next, first, later, one, all, split) = r.taken in
      let (piece2, more2, whole2, admits2, others2) = t.read in
      let (next2, first2, later2, one2, all2, split2) = t.taken in
      let both : (piece ≡ piece2) × (more ≡ more2)
      = same_piece piece piece2 more more2 (frame_piece piece x admits.text) (frame_piece piece2 y admits2.text)
      (sym whole ∙ whole2) in
      let P : List ℕ → Type 0 = λ z. FrameText z y in
      let is : x ≡ y = frame_same piece x y admits.text (subst P (sym both.0) admits2.text) in
      let Q : Frame → Type 0 = λ z. TakesBody does s z.channel z.body first2 next2 in
      let same : (first ≡ first2) × (next ≡ next2)
      = body-unique does law x.body s x.channel first first2 next next2 one.1 (subst Q (sym is) one2.1) in
      let R : List ℕ → Type 0 = λ z. ReadsAs (Admits limit) z gs m in
      let T : State S → Type 0 = λ z. TakesAll does z gs later2 mid2 in
      let kept : next.settings ≡ s.settings
      = same_settings does s (x ∷ []) first next (next, first, [], one, (refl, refl), sym (append-nil first)) in
      let on : SameRead later later2 f g a b
      = read-unique limit next more fs gs l m later later2 mid mid2 f g a b (ap (λ z. z.max_frame_size) kept ∙ lim)
      (record { read = others; taken = all; ends = r.ends; memory = r.memory }) (record {
        read = subst R (sym both.1) others2;
        taken = subst T (sym same.1) all2;
        ends = t.ends;
        memory = t.memory;
      }) in
      record {
        events = split ∙ ap (λ z. z ++ later) same.0 ∙ ap (λ z. first2 ++ z) on.events ∙ sym split2;
        fault = on.fault;
        state = on.state;
      }

  pub reads_on-unique : (s : State S) (bytes : List ℕ) (es ds : List Event) (f g : Option EndpointError) (a b : State S)
      → f ≢ Some Memory → g ≢ Some Memory → ReadsOn does s bytes es f a → ReadsOn does s bytes ds g b
      → SameRead es ds f g a b
  reads_on-unique s bytes es ds f g a b n m r t =
      read-unique s.settings.max_frame_size (record s { rest = [] }) bytes r.frames t.frames r.left t.left es ds r.mid
      t.mid f g a b refl
      (record { read = r.read; taken = r.taken; ends = r.ends; memory = n })
      (record { read = t.read; taken = t.taken; ends = t.ends; memory = m })
