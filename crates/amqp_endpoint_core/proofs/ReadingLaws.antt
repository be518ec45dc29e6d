-- Laws of reading a frame.
use Rattle.std.proofs.Common.{◌≡◌, ◌⊎◌, ℕ, List, [], ◌++◌, length, take, drop, append-nil, Some, inl, inr}
use Rattle.std.proofs.Common.{Bool, true, false, refl, sym, ◌∙◌, ap, arith, subst, if◌then◌else◌}
use Rattle.std.proofs.lemmas.List.{take-take, take-append-drop, length-take-le}
use Rattle.std.specs.Int.{w32, from_be_bytes}
use Rattle.amqp_session_frames.specs.declared.frame.Frame.{Frame}
use Rattle.amqp_session_frames.specs.declared.frame.FrameBody.{FrameBody}
use Rattle.amqp_session_frames.specs.declared.frame.FrameBody.TheVariants.{Empty, Open, Close}
use Rattle.amqp_session_frames.specs.Cutting.{said_size, IsPiece}
use Rattle.amqp_session_frames.specs.Text.{FrameText, empty_on}
use Rattle.amqp_endpoint_model.specs.declared.event.Event.{Event}
use Rattle.amqp_endpoint_model.specs.declared.error.EndpointError.{EndpointError}
use Rattle.amqp_endpoint_model.specs.declared.error.EndpointError.TheVariants.{Memory, NumbersUsedUp, SizeUnder8, SizeOverLimit, PeerLimitUnder512, Frame as FrameFault, Connection, Session}
use Rattle.amqp_session_types.specs.declared.refusals.ConnectionError.TheVariants.{IllegalState as OutOfOrder}
use Rattle.amqp_endpoint_model.specs.Relay.{Relations}
use Rattle.amqp_endpoint_model.specs.declared.phase.Phase.TheVariants.{Running}
use Rattle.amqp_endpoint_model.specs.State.{State, is_running}
use Rattle.amqp_endpoint_model.specs.Step.{Front, FrontBarred, FrontUnread, FrontRefused, RefusesBody, TakesBody, closed}
use Rattle.amqp_endpoint_core.specs.Reading.{PieceOf, NotTaken, SizeRefused, BodyRefused, BodyTaken, FrameSplit, TakesFront}

-- a whole piece stands in front
pub front_piece : (limit : ℕ) (left : List ℕ) (size : ℕ) → PieceOf limit left size → IsPiece (take size left)
front_piece limit left size p =
    let long : length (take size left) ≡ size = length-take-le size left p.there in
    let said : said_size (take size left) ≡ said_size left = ap (from_be_bytes w32) (take-take 4 size left (omega (arith, p.least))) in
    record { least = omega (arith, p.least); size = said ∙ p.said ∙ sym long }

pub front : (limit : ℕ) (left : List ℕ) (size : ℕ) → PieceOf limit left size → Front limit left (take size left)
front limit left size p =
    let long : length (take size left) ≡ size = length-take-le size left p.there in
    record { more = drop size left; whole = sym (take-append-drop size left); piece_is = front_piece limit left size p; short = omega (arith, p.short) }

-- a piece in front that isn't read
pub front_unread : (limit size : ℕ) (left piece : List ℕ) (e : EndpointError) → PieceOf limit left size → piece ≡ take size left → NotTaken piece e → FrontUnread limit left e
front_unread limit size left piece Memory p is h = tt
front_unread limit size left piece (FrameFault e) p is h =
    let P : List ℕ → Type 0 = λ x. NotTaken x (FrameFault e) in
    (take size left, front limit left size p, subst P is h)
front_unread limit size left piece e p is h = absurd h

-- a size in front that may not be
pub front_size : (limit : ℕ) (left : List ℕ) (e : EndpointError) → SizeRefused limit left e → FrontUnread limit left e
front_size limit left SizeUnder8 h = h
front_size limit left SizeOverLimit h = h
front_size limit left e h = absurd h

pub frame_split : {S : Type 0} (s new : State S) (size : ℕ) (piece : List ℕ) (f : Frame)
    → PieceOf s.settings.max_frame_size s.rest size → piece ≡ take size s.rest → FrameText piece f
    → new ≡ record s { rest = drop size s.rest } → FrameSplit s f new
unfolding front
frame_split s new size piece f p is t e =
    let P : List ℕ → Type 0 = λ x. FrameText x f in
    record { piece = take size s.rest; front = front s.settings.max_frame_size s.rest size p; text = subst P is t; after = e }

module _ {S : Type 0} where
  pub chosen : (b : Bool) (x y : State S) → b ≡ true → (if b then x else y) ≡ x
  chosen true x y e = refl
  chosen false x y e = absurd (cc)

module _ {S : Type 0} (does : Relations S) where
  -- what a frame is refused for doesn't lie in the bytes behind it
  pub refuses_again : (s : State S) (r : List ℕ) (e : EndpointError) (channel : ℕ) (b : FrameBody) (sessions : S)
      → RefusesBody does (record s { rest = r }) e channel b sessions → RefusesBody does s e channel b sessions
  refuses_again s r PeerLimitUnder512 channel (Open o) sessions h = h
  refuses_again s r (Connection OutOfOrder) channel (Open o) sessions h = h
  refuses_again s r e channel b sessions h = record { theirs = h.theirs; ends = h.ends; refuses = h.refuses }

  barred : (s m : State S) (f : Frame) (e : EndpointError) (sessions : S) → FrameSplit s f m
      → RefusesBody does m e f.channel f.body sessions → FrontBarred does s s.rest e sessions
  barred s m f e sessions x h =
      let Q : State S → Type 0 = λ y. RefusesBody does y e f.channel f.body sessions in
      record {
        piece = x.piece;
        frame = f;
        front = x.front;
        text = x.text;
        refuses = refuses_again s x.front.more e f.channel f.body sessions (subst Q x.after h);
      }

  for_memory : (s m : State S) (f : Frame) (sessions : S) → FrameSplit s f m
      → (sessions ≡ m.sessions) ⊎ RefusesBody does m Memory f.channel f.body sessions
      → (sessions ≡ s.sessions) ⊎ ((e : EndpointError) × FrontBarred does s s.rest e sessions)
  for_memory s m f sessions x (inl same) = inl (same ∙ ap (λ (y : State S). y.sessions) x.after)
  for_memory s m f sessions x (inr h) = inr (Memory, barred s m f Memory sessions x h)

  -- a frame in front that is refused
  pub front_refused : (s m new : State S) (f : Frame) (e : EndpointError) → FrameSplit s f m
      → BodyRefused does m f.channel f.body e new → FrontRefused does s s.rest e new.sessions
  front_refused s m new f Memory x (h, kept) = for_memory s m f new.sessions x h
  front_refused s m new f PeerLimitUnder512 x ((may, h), kept) = barred s m f PeerLimitUnder512 new.sessions x h
  front_refused s m new f (Connection e) x ((may, h), kept) = barred s m f (Connection e) new.sessions x h
  front_refused s m new f (Session e) x ((may, h), kept) = barred s m f (Session e) new.sessions x h
  front_refused s m new f NumbersUsedUp x ((may, h), kept) = barred s m f NumbersUsedUp new.sessions x h
  front_refused s m new f e x ((may, h), kept) = absurd may

  -- a frame that isn't read is not taken
  pub front_not_read : (s : State S) (e : EndpointError) (sessions : S) → FrontUnread s.settings.max_frame_size s.rest e
      → sessions ≡ s.sessions → FrontRefused does s s.rest e sessions
  front_not_read s PeerLimitUnder512 sessions h same = absurd h
  front_not_read s (Connection e) sessions h same = absurd h
  front_not_read s (Session e) sessions h same = absurd h
  front_not_read s NumbersUsedUp sessions h same = absurd h
  front_not_read s Memory sessions h same = inl same
  front_not_read s e sessions h same = (h, same)

  -- what a frame says is taken behind its bytes as well as before them
  after_body : (s : State S) (more : List ℕ) (channel : ℕ) (b : FrameBody) (events : List Event) (new : State S)
      → s.phase ≡ Running
      → TakesBody does (record s { rest = more }) channel b events new
      → (mid : State S) × TakesBody does (record s { rest = [] }) channel b events mid
      × (new ≡ (if is_running mid.phase then record mid { rest = more } else mid))
  after_body s more channel Empty events new run (none, same) =
      (record s { rest = [] }, (none, refl), same ∙ sym (chosen (is_running s.phase) _ _ (ap is_running run)))
  after_body s more channel (Open o) events new run (fresh, least, told, moves, after) = (
    record s { rest = []; peer_limit = Some o.max_frame_size; sessions = new.sessions },
    (fresh, least, told, moves, refl),
    after ∙ sym (chosen (is_running s.phase) _ _ (ap is_running run)),
  )
  after_body s more channel (Close c) events new run (told, both, after) =
      (closed (record s { rest = [] }) new.sessions, (told, both, refl), after)
  after_body s more channel b events new run t =
      let running : is_running new.phase ≡ true = ap (λ (x : State S). is_running x.phase) t.queued
      ∙ ap is_running run in (
        record new { rest = [] },
        record {
          theirs = t.theirs;
          frames = t.frames;
          takes = t.takes;
          fit = t.fit;
          queued = ap (λ (x : State S). record x { rest = [] }) t.queued;
        },
        t.queued ∙ sym (ap (λ (x : State S). record x { rest = more }) t.queued)
            ∙ sym (chosen (is_running new.phase) (record new { rest = more }) (record new { rest = [] }) running),
      )

  -- the frame in front is taken
  pub front_taken : (s m new : State S) (f : Frame) (before behind : List Event) → s.phase ≡ Running → FrameSplit s f m
      → BodyTaken does m f.channel f.body before behind new
      → (events : List Event) × (behind ≡ before ++ events) × TakesFront does s events new
  front_taken s m new f before behind run x t =
      let P : State S → Type 0 = λ y. TakesBody does y f.channel f.body t.events new in
      let (mid, takes, after) = after_body s x.front.more f.channel f.body t.events new run (subst P x.after t.takes)
      in (
        t.events,
        t.told,
        record {
          piece = x.piece;
          frame = f;
          mid = mid;
          front = x.front;
          text = x.text;
          takes = takes;
          after = after;
        },
      )

  -- an Empty frame in front is skipped
  pub empty_skipped : (s new : State S) (size channel : ℕ) (before : List Event) → s.phase ≡ Running
      → PieceOf s.settings.max_frame_size s.rest size → FrameText (take size s.rest) (empty_on channel)
      → new ≡ record s { rest = drop size s.rest }
      → (events : List Event) × (before ≡ before ++ events) × TakesFront does s events new
  empty_skipped s new size channel before run p t e =
      let m : State S = record s { rest = drop size s.rest } in
      front_taken s m new (empty_on channel) before before run
      (frame_split s m size (take size s.rest) (empty_on channel) p refl t refl)
      (record { events = []; told = sym (append-nil before); takes = (refl, e) })
