-- What comes in a session of one end is a beginning of what went in the session of the other that it belongs to.
use Rattle.std.proofs.Common.{◌≡◌, ◌==◌, ◌&&◌, ℕ, Bool, true, false, List, [], ◌∷◌, ◌++◌, ap, append_assoc, map, refl}
use Rattle.std.proofs.Common.{IsSome, if◌then◌else◌, sym, subst, ◌∙◌}
use Rattle.std.proofs.lemmas.List.{map-append}
use Rattle.amqp_session_performatives.specs.declared.session_frame.SessionFrame.{SessionFrame}
use Rattle.amqp_session_performatives.specs.declared.session_frame.SessionFrameBody.{SessionFrameBody}
use Rattle.amqp_session_performatives.specs.declared.session_frame.SessionFrameBody.TheVariants as session
use Rattle.amqp_session_frames.specs.declared.frame.Frame.{Frame}
use Rattle.amqp_session_frames.specs.declared.frame.FrameBody.{FrameBody}
use Rattle.amqp_session_frames.specs.declared.frame.FrameBody.TheVariants as body
use Rattle.amqp_endpoint_model.specs.State.{body_of, frame_of}
use Rattle.amqp_endpoint_laws.specs.Channel.{AllAnswer, AnswersAsked, Awaits, Behind, ByTurns, Turn, Within}
use Rattle.amqp_endpoint_laws.specs.Channel.{begun_behind, come_on}
use Rattle.amqp_endpoint_laws.specs.Channel.{comings, ended_behind, goings, is_its, is_within, sent_on, turn_come}
use Rattle.amqp_endpoint_laws.specs.Channel.{turn_sent}
use Rattle.amqp_endpoint_laws.specs.Reading.{Comes, Goes, Reader, Wired, behind, goes_for, nothing_read, read_of}
use Rattle.amqp_endpoint_laws.proofs.Coming.{all-come}
use Rattle.amqp_endpoint_laws.proofs.Going.{going-read}
use Rattle.amqp_endpoint_laws.specs.Attachments.{bodies_of}
use Rattle.amqp_endpoint_laws.specs.Paired.{BeginsOn, BegunOn}
use Rattle.amqp_endpoint_laws.specs.Passed.{came_in, sent_in}
use Rattle.amqp_endpoint_laws.specs.Seen.{AreOnes, passing_in, passing_of}

module _ (channel : ℕ) where
  -- what comes first says the same however much comes behind it
  front : (turn : Turn) (xs ys : List Frame)
      → (rest : List Frame) × (come_on channel turn (xs ++ ys) ≡ come_on channel turn xs ++ rest)
  front turn [] ys = (come_on channel turn ys, refl)
  front turn (frame ∷ xs) ys =
      let next : Turn = if frame.channel == channel then turn_come turn frame.body else turn in
      let its : List Frame = if frame.channel == channel && is_its turn frame.body then frame ∷ [] else [] in
      let (rest, is) = front next xs ys in
      (rest, ap (λ (fs : List Frame). its ++ fs) is ∙ sym (append_assoc its (come_on channel next xs) rest))

  -- behind a session nothing is its own
  over-its : (it : FrameBody) → is_its Behind it ≡ false
  over-its body.Empty = refl
  over-its (body.Open opening) = refl
  over-its (body.Close closing) = refl
  over-its (body.Begin begin) = refl
  over-its it = refl

  over-turn : (it : FrameBody) → turn_come Behind it ≡ Behind
  over-turn (body.Begin begin) = refl
  over-turn (body.End end) = refl
  over-turn it = refl

  over-one : (on : Bool) (frame : Frame) (fs : List Frame)
      → (come_on channel Behind fs ≡ [])
      → (if on && is_its Behind frame.body then frame ∷ [] else [])
      ++ come_on channel (if on then turn_come Behind frame.body else Behind) fs
      ≡ []
  over-one true frame fs rest =
      ap
      (λ (b : Bool). (if b then frame ∷ [] else []) ++ come_on channel (turn_come Behind frame.body) fs)
      (over-its frame.body)
      ∙ ap (λ (turn : Turn). come_on channel turn fs) (over-turn frame.body) ∙ rest
  over-one false frame fs rest = rest

  over : (fs : List Frame) → come_on channel Behind fs ≡ []
  over [] = refl
  over (frame ∷ fs) = over-one (frame.channel == channel) frame fs (over fs)

  -- a session's frames come as they went, up to its End
  abbrev Fronts : Turn → List SessionFrame → Type 0
  Fronts turn gs =
      (rest : List Frame) × (map frame_of (sent_on channel turn gs) ≡ come_on channel turn (map frame_of gs) ++ rest)

  included : (b : Bool) (f : SessionFrame) (sent : List SessionFrame) (come rest : List Frame)
      → map frame_of sent ≡ come ++ rest
      → map frame_of ((if b then f ∷ [] else []) ++ sent) ≡ ((if b then frame_of f ∷ [] else []) ++ come) ++ rest
  included true f sent come rest is = ap (λ (fs : List Frame). frame_of f ∷ fs) is
  included false f sent come rest is = is

  module _ (f : SessionFrame) (gs : List SessionFrame) (later : (turn : Turn) → Fronts turn gs) where
    -- it is one that goes on the channel
    abbrev FrontsBy : Turn → SessionFrameBody → Type 0
    FrontsBy turn it =
        (rest : List Frame)
        × (map frame_of
        ((if is_within (turn_sent turn it) then f ∷ [] else []) ++ sent_on channel (turn_sent turn it) gs)
        ≡ ((if is_its turn (body_of it) then frame_of f ∷ [] else [])
        ++ come_on channel (turn_come turn (body_of it)) (map frame_of gs))
        ++ rest)

    goes-on : (b : Bool) (turn : Turn)
        → (rest : List Frame)
        × (map frame_of ((if b then f ∷ [] else []) ++ sent_on channel turn gs)
        ≡ ((if b then frame_of f ∷ [] else []) ++ come_on channel turn (map frame_of gs)) ++ rest)
    goes-on b turn =
        let (rest, is) = later turn in
        (rest, included b f (sent_on channel turn gs) (come_on channel turn (map frame_of gs)) rest is)

    ends-there : (turn : Turn)
        → (rest : List Frame)
        × (map frame_of ((if is_within turn then f ∷ [] else []) ++ sent_on channel turn gs)
        ≡ ((if is_within turn then frame_of f ∷ [] else []) ++ come_on channel (ended_behind turn) (map frame_of gs))
        ++ rest)
    ends-there (Awaits others) = goes-on false (Awaits others)
    ends-there Behind = goes-on false Behind
    ends-there Within =
        let rest : List Frame = map frame_of (sent_on channel Within gs) in
        (rest, ap (λ (fs : List Frame). frame_of f ∷ fs ++ rest) (sym (over (map frame_of gs))))

    by-body : (turn : Turn) (it : SessionFrameBody) → FrontsBy turn it
    by-body turn (session.Begin begin) = goes-on (is_within (begun_behind turn)) (begun_behind turn)
    by-body turn (session.Attach attach) = goes-on (is_within turn) turn
    by-body turn (session.Flow flow) = goes-on (is_within turn) turn
    by-body turn (session.Transfer transfer payload) = goes-on (is_within turn) turn
    by-body turn (session.Disposition disposition) = goes-on (is_within turn) turn
    by-body turn (session.Detach detach) = goes-on (is_within turn) turn
    by-body turn (session.End end) = ends-there turn

    by-channel : (on : Bool) (turn : Turn)
        → (rest : List Frame)
        × (map frame_of
        ((if on && is_within (if on then turn_sent turn f.body else turn) then f ∷ [] else [])
        ++ sent_on channel (if on then turn_sent turn f.body else turn) gs)
        ≡ ((if on && is_its turn (body_of f.body) then frame_of f ∷ [] else [])
        ++ come_on channel (if on then turn_come turn (body_of f.body) else turn) (map frame_of gs))
        ++ rest)
    by-channel true turn = by-body turn f.body
    by-channel false turn = later turn

  fronts : (gs : List SessionFrame) (turn : Turn) → Fronts turn gs
  fronts [] turn = ([], refl)
  fronts (f ∷ gs) turn = by-channel f gs (fronts gs) (f.channel == channel) turn

-- what passes is told from what is read
goings-sent : (ws : List Wired) → sent_in (map passing_of ws) ≡ goings ws
goings-sent [] = refl
goings-sent (Goes frame ∷ ws) = ap (λ (fs : List SessionFrame). frame ∷ fs) (goings-sent ws)
goings-sent (Comes frame ∷ ws) = goings-sent ws

abbrev body_in : Frame → FrameBody
body_in frame = frame.body

comings-came : (ws : List Wired) → came_in (map passing_of ws) ≡ map body_in (comings ws)
comings-came [] = refl
comings-came (Comes frame ∷ ws) = ap (λ (xs : List FrameBody). frame.body ∷ xs) (comings-came ws)
comings-came (Goes frame ∷ ws) = comings-came ws

bodies-framed : (gs : List SessionFrame) → bodies_of gs ≡ map body_in (map frame_of gs)
bodies-framed [] = refl
bodies-framed (g ∷ gs) = ap (λ (xs : List FrameBody). body_of g.body ∷ xs) (bodies-framed gs)

module _ (here there channel others : ℕ) (ours theirs : List Wired) (more : List Frame)
    (b : BeginsOn here channel others ours) (c : BegunOn there channel others theirs)
    (order : map frame_of (goings ours) ≡ comings theirs ++ more) where
  went : goings (read_of here ours) ≡ sent_on channel (Awaits others) (goings ours)
  went =
      subst (λ (ws : List Wired). goings (read_of here ws) ≡ sent_on channel (Awaits others) (goings ws)) (sym b.are)
      (going-read here channel b.first b.later b.frame b.begin b.on b.is b.its
      ∙ ap (λ (n : ℕ). sent_on channel (Awaits n) (goings (b.first ++ Goes b.frame ∷ b.later))) b.counted)

  came : comings (read_of there theirs) ≡ come_on channel (Awaits others) (comings theirs)
  came =
      subst (λ (ws : List Wired). comings (read_of there ws) ≡ come_on channel (Awaits others) (comings ws))
      (sym c.are)
      (all-come there channel c.first c.later c.frame c.begin c.on c.is c.its c.before c.behind_it
      (subst (λ (ws : List Wired). ByTurns channel false (comings ws)) c.are c.by_turns)
      (subst (λ (ws : List Wired). AllAnswer nothing_read ws) c.are c.answers)
      ∙ ap (λ (n : ℕ). come_on channel (Awaits n) (comings (c.first ++ Comes c.frame ∷ c.later))) c.counted)

  framed : (rest : List Frame)
      × (map frame_of (goings (read_of here ours)) ≡ comings (read_of there theirs) ++ rest)
  framed =
      let (behind, alike) = fronts channel (goings ours) (Awaits others) in
      let (later, begins) = front channel (Awaits others) (comings theirs) more in (
        later ++ behind,
        ap (λ (fs : List SessionFrame). map frame_of fs) went ∙ alike
            ∙ ap (λ (fs : List Frame). come_on channel (Awaits others) fs ++ behind) order
            ∙ ap (λ (fs : List Frame). fs ++ behind) begins
            ∙ append_assoc (come_on channel (Awaits others) (comings theirs)) later behind
            ∙ ap (λ (fs : List Frame). fs ++ (later ++ behind)) (sym came),
      )

  pub paired : (rest : List FrameBody)
      × (bodies_of (sent_in (passing_in here nothing_read ours))
      ≡ came_in (passing_in there nothing_read theirs) ++ rest)
  paired =
      let (rest, is) = framed in (
        map body_in rest,
        ap bodies_of (goings-sent (read_of here ours)) ∙ bodies-framed (goings (read_of here ours))
            ∙ ap (λ (fs : List Frame). map body_in fs) is ∙ map-append body_in (comings (read_of there theirs)) rest
            ∙ ap (λ (xs : List FrameBody). xs ++ map body_in rest) (sym (comings-came (read_of there theirs))),
      )

-- where each frame that goes is read as a session's, each own Begin that names a channel answers one that is asked for
pub ones-answer : (ws : List Wired) (r : Reader) → AreOnes r ws → AllAnswer r ws
ones-answer [] r are = tt
ones-answer (Comes frame ∷ ws) r (one, are) = (tt, ones-answer ws (behind r (Comes frame)) are)
ones-answer (Goes frame ∷ ws) r (one, are) = (by frame.body one, ones-answer ws (behind r (Goes frame)) are)
  where
    by : (it : SessionFrameBody) → IsSome (goes_for r frame.channel it) → AnswersAsked r it
    by (session.Begin begin) some = some
    by it some = tt
