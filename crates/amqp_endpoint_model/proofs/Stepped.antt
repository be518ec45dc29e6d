-- What frames that were taken tell, and what they leave.
use Rattle.std.proofs.Common.{◌≡◌, ℕ, Bool, true, false, List, [], ◌∷◌, ◌++◌, refl, sym, ◌∙◌, ap, append_assoc, subst, Option, Some, None}
use Rattle.std.specs.Prelude.{◌||◌, is_some}
use Rattle.amqp_session_frames.specs.declared.frame.Frame.{Frame}
use Rattle.amqp_session_frames.specs.declared.frame.FrameBody.{FrameBody}
use Rattle.amqp_session_frames.specs.declared.frame.FrameBody.TheVariants.{Empty, Open, Close}
use Rattle.amqp_endpoint_model.specs.declared.event.Event.{Event}
use Rattle.amqp_endpoint_model.specs.declared.phase.Phase.{Phase}
use Rattle.amqp_endpoint_model.specs.declared.phase.Phase.TheVariants.{Running, Over}
use Rattle.amqp_endpoint_model.specs.Relay.{Relations, IsOfSession}
use Rattle.amqp_endpoint_model.specs.State.{State, limit_of}
use Rattle.amqp_endpoint_model.specs.Step.{TakesBody, TakesAll}
use Rattle.amqp_endpoint_model.specs.History.{BodyTells, FrameTells, FramesTell, is_open, is_close, has_open, has_close, CloseIsLast, OpenIsTaken, OpenIsOnce}

-- where the connection stands behind these frames
abbrev pub phase_after : Bool → Phase
phase_after true = Over
phase_after false = Running

-- the limit that the first Open among frames says
abbrev pub body_limit : FrameBody → Option ℕ → Option ℕ
body_limit (Open o) later = Some o.max_frame_size
body_limit body later = later

abbrev pub first_limit : List Frame → Option ℕ
first_limit [] = None
first_limit (f ∷ fs) = body_limit f.body (first_limit fs)

abbrev pub or_later : Option ℕ → Option ℕ → Option ℕ
or_later (Some n) later = Some n
or_later None later = later

or_later-none : (o : Option ℕ) → o ≡ or_later o None
or_later-none (Some n) = refl
or_later-none None = refl

or_later-body : (o : Option ℕ) (body : FrameBody) (later : Option ℕ)
    → or_later (or_later o (body_limit body None)) later ≡ or_later o (body_limit body later)
or_later-body (Some n) body later = refl
or_later-body None (Open o) later = refl
or_later-body None body later = refl

body_limit-append : (body : FrameBody) (a b : Option ℕ)
    → body_limit body (or_later a b) ≡ or_later (body_limit body a) b
body_limit-append (Open o) a b = refl
body_limit-append body a b = refl

pub first_limit-append : (a b : List Frame) → first_limit (a ++ b) ≡ or_later (first_limit a) (first_limit b)
first_limit-append [] b = refl
first_limit-append (f ∷ a) b =
    ap (λ x. body_limit f.body x) (first_limit-append a b) ∙ body_limit-append f.body (first_limit a) (first_limit b)

is_open-limit : (body : FrameBody) (o : Option ℕ) → (is_open body || is_some o) ≡ is_some (body_limit body o)
is_open-limit (Open x) o = refl
is_open-limit body o = refl

-- an Open is among frames where one says a limit
pub has_open-limit : (fs : List Frame) → has_open fs ≡ is_some (first_limit fs)
has_open-limit [] = refl
has_open-limit (f ∷ fs) = ap (λ b. is_open f.body || b) (has_open-limit fs) ∙ is_open-limit f.body (first_limit fs)

or-join : (a b c : Bool) → (a || (b || c)) ≡ ((a || b) || c)
or-join true b c = refl
or-join false b c = refl

or-false : (b : Bool) → b ≡ (b || false)
or-false true = refl
or-false false = refl

pub has_open-append : (a b : List Frame) → has_open (a ++ b) ≡ (has_open a || has_open b)
has_open-append [] b = refl
has_open-append (f ∷ a) b =
    ap (λ x. is_open f.body || x) (has_open-append a b) ∙ or-join (is_open f.body) (has_open a) (has_open b)

pub has_close-append : (a b : List Frame) → has_close (a ++ b) ≡ (has_close a || has_close b)
has_close-append [] b = refl
has_close-append (f ∷ a) b =
    ap (λ x. is_close f.body || x) (has_close-append a b) ∙ or-join (is_close f.body) (has_close a) (has_close b)

no_or : (a b : Bool) → (a || b) ≡ false → (a ≡ false) × (b ≡ false)
no_or true b e = cc
no_or false b e = (refl, e)

pub CloseIsLast-append : (a b : List Frame) → has_close a ≡ false → CloseIsLast b → CloseIsLast (a ++ b)
CloseIsLast-append [] b none last = last
CloseIsLast-append (f ∷ a) b none last =
    let (here, later) = no_or (is_close f.body) (has_close a) none in
    (λ e. absurd (let x : true ≡ false = sym e ∙ here in cc), CloseIsLast-append a b later last)

later-open : (a b : List Frame) → has_open a ≡ false → has_open b ≡ false → has_open (a ++ b) ≡ false
later-open a b none still = has_open-append a b ∙ ap (λ x. x || has_open b) none ∙ still

taken-append : (body : FrameBody) (a b : List Frame) → (is_open body ≡ true → has_open b ≡ false) → OpenIsTaken body a
    → OpenIsTaken body (a ++ b)
taken-append (Open o) a b none (least, last) = (least, later-open a b last (none refl))
taken-append body a b none t = tt

or_left : (a b : Bool) → a ≡ true → (a || b) ≡ true
or_left true b e = refl
or_left false b e = cc

or_right : (a b : Bool) → b ≡ true → (a || b) ≡ true
or_right true b e = refl
or_right false b e = e

pub OpenIsOnce-append : (a b : List Frame) → (has_open a ≡ true → has_open b ≡ false) → OpenIsOnce a → OpenIsOnce b
    → OpenIsOnce (a ++ b)
OpenIsOnce-append [] b none x y = y
OpenIsOnce-append (f ∷ a) b none (here, later) y = (
  taken-append f.body a b (λ e. none (or_left (is_open f.body) (has_open a) e)) here,
  OpenIsOnce-append a b (λ e. none (or_right (is_open f.body) (has_open a) e)) later y,
)

module _ {S : Type 0} (does : Relations S) where
  record SteppedOne (old : State S) (f : Frame) (es : List Event) (new : State S) : Type 0 where
    told : FrameTells does f es
    phase : new.phase ≡ phase_after (is_close f.body)
    limit : new.peer_limit ≡ or_later old.peer_limit (body_limit f.body None)

  body-tells : (f : Frame) (body : FrameBody) (old : State S) (es : List Event) (new : State S) → f.body ≡ body
      → TakesBody does old f.channel body es new → BodyTells does body f es
  body-tells f Empty old es new is t = t.0
  body-tells f (Open o) old es new is t = t.2
  body-tells f (Close c) old es new is t = t.0
  body-tells f body old es new is t =
      let limit : ℕ = limit_of old.peer_limit in
      let P : FrameBody → Type 0 = λ b. IsOfSession b in
      let Q : FrameBody → Type 0 = λ b. does.takes old.sessions limit f.channel b t.frames es new.sessions in
      record {
        theirs = subst P (sym is) t.theirs;
        before = old.sessions;
        limit = limit;
        frames = t.frames;
        behind = new.sessions;
        takes = subst Q (sym is) t.takes;
      }

  body-phase : (body : FrameBody) (old : State S) (channel : ℕ) (es : List Event) (new : State S) → old.phase ≡ Running
      → TakesBody does old channel body es new → new.phase ≡ phase_after (is_close body)
  body-phase Empty old channel es new is (told, same) = ap (λ s. s.phase) same ∙ is
  body-phase (Open o) old channel es new is (none, least, told, moves, after) = ap (λ s. s.phase) after ∙ is
  body-phase (Close c) old channel es new is (told, both, after) = ap (λ s. s.phase) after
  body-phase body old channel es new is t = ap (λ s. s.phase) t.queued ∙ is

  body-limit : (body : FrameBody) (old : State S) (channel : ℕ) (es : List Event) (new : State S)
      → TakesBody does old channel body es new → new.peer_limit ≡ or_later old.peer_limit (body_limit body None)
  body-limit Empty old channel es new (told, same) = ap (λ s. s.peer_limit) same ∙ or_later-none old.peer_limit
  body-limit (Open o) old channel es new (none, least, told, moves, after) =
      ap (λ s. s.peer_limit) after ∙ ap (λ x. or_later x (Some o.max_frame_size)) (sym none)
  body-limit (Close c) old channel es new (told, both, after) =
      ap (λ s. s.peer_limit) after ∙ or_later-none old.peer_limit
  body-limit body old channel es new t = ap (λ s. s.peer_limit) t.queued ∙ or_later-none old.peer_limit

  stepped-one : (old : State S) (f : Frame) (es : List Event) (new : State S) → old.phase ≡ Running
      → TakesBody does old f.channel f.body es new → SteppedOne old f es new
  stepped-one old f es new is t = record {
    told = body-tells f f.body old es new refl t;
    phase = body-phase f.body old f.channel es new is t;
    limit = body-limit f.body old f.channel es new t;
  }

  -- behind a Close no frame is taken
  none_behind : (b : Bool) (mid : State S) (fs : List Frame) (es : List Event) (new : State S)
      → mid.phase ≡ phase_after b → TakesAll does mid fs es new → b ≡ true → fs ≡ []
  none_behind true mid [] es new is t e = refl
  none_behind true mid (f ∷ fs) es new is (next, first, others, one, all, split) e =
      absurd (let x : Over ≡ Running = sym is ∙ one.0 in cc)
  none_behind false mid fs es new is t e = cc

  no_open_here : (body : FrameBody) (old : State S) (channel : ℕ) (es : List Event) (mid : State S)
      → is_some old.peer_limit ≡ true → TakesBody does old channel body es mid
      → (is_open body ≡ false) × (mid.peer_limit ≡ old.peer_limit)
  no_open_here Empty old channel es mid there (told, same) = (refl, ap (λ s. s.peer_limit) same)
  no_open_here (Open o) old channel es mid there (none, least, told, moves, after) =
      absurd (let x : true ≡ false = sym there ∙ ap is_some none in cc)
  no_open_here (Close c) old channel es mid there (told, both, after) = (refl, ap (λ s. s.peer_limit) after)
  no_open_here body old channel es mid there t = (refl, ap (λ s. s.peer_limit) t.queued)

  -- behind an Open no other one is taken
  pub no_open_behind : (old : State S) (fs : List Frame) (es : List Event) (new : State S)
      → is_some old.peer_limit ≡ true → TakesAll does old fs es new → has_open fs ≡ false
  no_open_behind old [] es new there t = refl
  no_open_behind old (f ∷ fs) es new there (mid, first, others, one, all, split) =
      let (here, limit_is) = no_open_here f.body old f.channel first mid there one.1 in
      ap (λ b. b || has_open fs) here ∙ no_open_behind mid fs others new (ap is_some limit_is ∙ there) all

  open-taken : (body : FrameBody) (old : State S) (channel : ℕ) (mid : State S) (es first : List Event)
      (fs : List Frame) (new : State S) → TakesBody does old channel body first mid → TakesAll does mid fs es new
      → OpenIsTaken body fs
  open-taken (Open o) old channel mid es first fs new (none, least, told, moves, after) all =
      (least, no_open_behind mid fs es new (ap (λ s. is_some s.peer_limit) after) all)
  open-taken body old channel mid es first fs new t all = tt

  -- what frames tell and leave that are taken behind a Close, if any
  pub record Stepped (closed : Bool) (old : State S) (fs : List Frame) (es : List Event) (new : State S) : Type 0 where
    pub told : FramesTell does fs es
    pub phase : new.phase ≡ phase_after (closed || has_close fs)
    pub closes : CloseIsLast fs
    pub once : OpenIsOnce fs
    pub limit : new.peer_limit ≡ or_later old.peer_limit (first_limit fs)

  pub stepped : (closed : Bool) (old : State S) (fs : List Frame) (es : List Event) (new : State S)
      → old.phase ≡ phase_after closed → TakesAll does old fs es new → Stepped closed old fs es new
  stepped closed old [] es new is (none, same) = record {
    told = none;
    phase = ap (λ s. s.phase) same ∙ is ∙ ap phase_after (or-false closed);
    closes = tt;
    once = tt;
    limit = ap (λ s. s.peer_limit) same ∙ or_later-none old.peer_limit;
  }
  stepped true old (f ∷ fs) es new is (mid, first, others, one, all, split) =
      absurd (let x : Over ≡ Running = sym is ∙ one.0 in cc)
  stepped false old (f ∷ fs) es new is (mid, first, others, one, all, split) =
      let a : SteppedOne old f first mid = stepped-one old f first mid is one.1 in
      let b : Stepped (is_close f.body) mid fs others new = stepped (is_close f.body) mid fs others new a.phase all in
      record {
        told = (first, others, a.told, b.told, split);
        phase = b.phase;
        closes = (none_behind (is_close f.body) mid fs others new a.phase all, b.closes);
        once = (open-taken f.body old f.channel mid others first fs new one.1 all, b.once);
        limit = b.limit ∙ ap (λ x. or_later x (first_limit fs)) a.limit ∙ or_later-body old.peer_limit f.body
            (first_limit fs);
      }

  pub FramesTell-append : (a b : List Frame) (es ds : List Event) → FramesTell does a es → FramesTell does b ds
      → FramesTell does (a ++ b) (es ++ ds)
  FramesTell-append [] b es ds none t =
      let P : List Event → Type 0 = λ x. FramesTell does b (x ++ ds) in
      subst P (sym none) t
  FramesTell-append (f ∷ a) b es ds (first, others, tells, rest, split) t =
      let split2 : es ++ ds ≡ first ++ (others ++ ds) = ap (λ x. x ++ ds) split ∙ append_assoc first others ds in
      (first, others ++ ds, tells, FramesTell-append a b others ds rest t, split2)
