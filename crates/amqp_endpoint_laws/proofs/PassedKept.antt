-- What is kept by all that a session does is kept by all that an endpoint does.
use Rattle.std.proofs.Common.{◌≡◌, ◌<◌, ◌⊎◌, inl, inr, ℕ, zero, suc, Bool, true, false, List, [], ◌∷◌, ◌++◌, Option}
use Rattle.std.proofs.Common.{Some, None, Ok, Err, ap, arith, length, refl, slice_get, sym, subst, ◌∙◌, ◌==◌}
use Rattle.std.specs.Prelude.{Result}
use Rattle.std.specs.Global.{Box}
use Rattle.std.proofs.lemmas.Option.{none-some, slice_get_within}
use Rattle.amqp_session_types.specs.declared.channels.IncomingChannel.{IncomingChannel}
use Rattle.amqp_session_types.specs.declared.channels.OutgoingChannel.{OutgoingChannel}
use Rattle.amqp_session_performatives.specs.declared.begin.Begin.{Begin}
use Rattle.amqp_session_performatives.specs.declared.end.End.{End}
use Rattle.amqp_session_performatives.specs.declared.session_frame.SessionFrame.{SessionFrame}
use Rattle.amqp_session_types.specs.declared.refusals.ConnectionError.{ConnectionError}
use Rattle.amqp_session_types.specs.declared.refusals.ConnectionError.TheVariants as connection
use Rattle.amqp_session_types.specs.declared.refusals.SessionError.TheVariants.{IllegalState}
use Rattle.amqp_session_frames.specs.declared.frame.Frame.{Frame}
use Rattle.amqp_session_frames.specs.declared.frame.FrameBody.{FrameBody}
use Rattle.amqp_session_frames.specs.declared.frame.FrameBody.TheVariants as body
use Rattle.amqp_endpoint_links.specs.declared.session.AskedSession.{AskedSession}
use Rattle.amqp_endpoint_attached.specs.Linked.{gives}
use Rattle.amqp_endpoint_conversation.specs.Beginning.{BeginAnswered}
use Rattle.amqp_endpoint_conversation.specs.Ending.{EndAnswered}
use Rattle.amqp_endpoint_conversation.specs.Hearing.{Answered, AnsweredAt, AnsweredIn, LiveAnswered}
use Rattle.amqp_endpoint_conversation.specs.declared.beginning.BeginRefusal.{BeginRefusal}
use Rattle.amqp_endpoint_conversation.specs.declared.beginning.BeginRefusal.TheVariants as begin_refused
use Rattle.amqp_endpoint_conversation.specs.declared.hearing.HearRefusal.TheVariants as refused
use Rattle.amqp_endpoint_conversation.specs.declared.hearing.Heard.TheVariants as heard
use Rattle.amqp_endpoint_links.specs.declared.hearing.LinkPerformative.{LinkPerformative}
use Rattle.amqp_endpoint_laws.specs.Deeds.{AreDone, Closes, Deed, Does, EndsBy, Finishes, Hears, IsDeed, Moves}
use Rattle.amqp_endpoint_laws.specs.Deeds.{MovesByFrame, Queues, Refuses, Renews, Takes}
use Rattle.amqp_endpoint_link_hearing.specs.Saying.{LinkHeard, LinkRefusal, RefusesSaid}
use Rattle.amqp_endpoint.specs.Does.{linked}
use Rattle.amqp_endpoint.specs.Hearing.{RefusesBody}
use Rattle.amqp_endpoint.specs.declared.linked.LinkedSessions.{LinkedSessions}
use Rattle.amqp_endpoint_linking.specs.Ending.{FinishesFirst, LeavesFirst}
use Rattle.amqp_endpoint_linking.specs.Hearing.{RefusesBegin}
use Rattle.amqp_endpoint_linking.specs.Linking.{Links, Session, Sessions, Stood, Talk}
use Rattle.amqp_endpoint_model.specs.Relay.{IsNew}
use Rattle.amqp_endpoint_model.specs.Said.{Said}
use Rattle.amqp_endpoint_model.specs.Step.{SendsClose}
use Rattle.amqp_endpoint_model.specs.declared.call.Call.{Call}
use Rattle.amqp_endpoint_model.specs.declared.error.EndpointError.{EndpointError}
use Rattle.amqp_endpoint_model.specs.declared.event.Event.{Event}
use Rattle.amqp_endpoint_model.specs.declared.settings.Settings.{Settings}
use Rattle.amqp_endpoint_tables.specs.Own.{PlaceHistory, PlaceStep, steps_of}
use Rattle.amqp_endpoint_tables.specs.State.{finished_place, place_at, reached}
use Rattle.amqp_endpoint_tables.specs.Steps.{Accepts, Asks, Begins}
use Rattle.amqp_endpoint_tables.specs.Steps.{ChangesAsked, ChangesConnection, ChangesLive, Ends}
use Rattle.amqp_endpoint_tables.specs.Steps.{EndSent, Finished, Finishes as FinishesStep, TakesBegin, TakesEnd}
use Rattle.amqp_endpoint_tables.specs.Steps.{TellsEnd}
use Rattle.amqp_endpoint_tables.specs.declared.place.Place.TheVariants.{Asked, Live, Ending, Over}
use Rattle.amqp_endpoint_tables.proofs.Owning.{at, other_number, own, same_number}
use Rattle.amqp_endpoint_conversation.specs.Inside.{Batches}
use Rattle.amqp_endpoint_conversation.specs.Windows.{Came, Passing, went}
use Rattle.amqp_endpoint_laws.specs.Conversing.{SessionsAct}
use Rattle.amqp_endpoint_laws.specs.Passed.{PassesIn, called_in, passes_in, session_taking}
use Rattle.amqp_endpoint_laws.proofs.PassedCalled.{MaySend, called}
use Rattle.amqp_endpoint_laws.proofs.PassedHeard.{IsFlow, frame-heard}
use Rattle.amqp_endpoint_laws.proofs.PassedJudged.{AllPassedBy, PassedBy, attach-judged, coming-judged}
use Rattle.amqp_endpoint_laws.proofs.PassedJudged.{going-judged, judging}
use Rattle.amqp_endpoint_laws.proofs.PassedPlaces.{AllPassed, IsGone, Keeping, eq-same}
use Rattle.amqp_endpoint_laws.proofs.RoomMade.{RoomMade, room-made}
use Rattle.amqp_endpoint_laws.proofs.SessionsGoing.{Go}
use Rattle.amqp_endpoint_laws.proofs.SessionsHeard.{refused-goes}

finished-gone : (stood : Stood) → IsGone (Some (finished_place stood))
finished-gone (Asked channel a) = tt
finished-gone (Live channel s) = tt
finished-gone (Ending channel own_end) = tt
finished-gone (Over peer_end complete) = tt

-- a session stays, or is ending or over then
abbrev pub Wanes : Sessions → Sessions → ℕ → Type 0
Wanes old new n = (place_at new n ≡ place_at old n) ⊎ IsGone (place_at new n)

wanes-on : (old mid new : Sessions) (n : ℕ) → Wanes old mid n → Wanes mid new n → Wanes old new n
wanes-on old mid new n w (inr gone) = inr gone
wanes-on old mid new n (inl same) (inl is) = inl (is ∙ same)
wanes-on old mid new n (inr gone) (inl is) = inr (subst IsGone (sym is) gone)

-- by a step that is about one session, which is gone behind it
by-about : (number : ℕ) (old new : Sessions) (n : ℕ) → ((n == number) ≡ false → place_at new n ≡ place_at old n)
    → IsGone (place_at new number) → Wanes old new n
by-about number old new n other gone = by (n == number) refl
  where
    by : (b : Bool) → (n == number) ≡ b → Wanes old new n
    by true e = inr (subst (λ (k : ℕ). IsGone (place_at new k)) (sym (same_number n number e)) gone)
    by false e = inl (other e)

end-sent : (old new : Sessions) (number : ℕ) (left : Option (OutgoingChannel × Session))
    → EndSent false old number left new
    → (n : ℕ) → Wanes old new n
end-sent old new number None e n = inl (ap (λ (s : Sessions). place_at s n) e.1)
end-sent old new number (Some given) e n =
    let (was, is) = (at number old (Ends number given.0 given.1 false) new e).about (eq-same number) in
    by-about number old new n (λ other. (at n old (Ends number given.0 given.1 false) new e).other other)
    (subst IsGone (sym is) tt)

pub left-first : (count : ℕ) (old new : Sessions) (links links_new : Links) → LeavesFirst count old links new links_new
    → (n : ℕ) → Wanes old new n
left-first zero old new links links_new l n = inl (ap (λ (s : Sessions). place_at s n) l.0)
left-first (suc count) old new links links_new (mid, links_mid, first, one) n =
    wanes-on old mid new n (left-first count old mid links links_mid first n) (end-sent mid new count one.left
    one.sent n)

finished : (old new : Sessions) (number : ℕ) (stood : Option Stood) → Finished old number stood new → (n : ℕ)
    → Wanes old new n
finished old new number None f n = inl (ap (λ (s : Sessions). place_at s n) f.1)
finished old new number (Some stood) f n =
    let (was, is) = (at number old (FinishesStep number stood) new f).about (eq-same number) in
    by-about number old new n (λ other. (at n old (FinishesStep number stood) new f).other other)
    (subst IsGone (sym is) (finished-gone stood))

pub finished-first : (count : ℕ) (old new : Sessions) (links links_new : Links)
    → FinishesFirst count old links new links_new → (n : ℕ) → Wanes old new n
finished-first zero old new links links_new f n = inl (ap (λ (s : Sessions). place_at s n) f.0)
finished-first (suc count) old new links links_new (mid, links_mid, first, one) n =
    wanes-on old mid new n (finished-first count old mid links links_mid first n)
    (finished mid new count one.stood one.finished n)

-- once the connection of each session is over none goes on
abbrev pub IsOver : Sessions → ℕ → Type 0
IsOver s n = IsGone (place_at s n) ⊎ (place_at s n ≡ None)

over-on : (old new : Sessions) (n : ℕ) → IsOver old n → Wanes old new n → IsOver new n
over-on old new n o (inr gone) = inl gone
over-on old new n (inl gone) (inl same) = inl (subst IsGone (sym same) gone)
over-on old new n (inr none) (inl same) = inr (same ∙ none)

finished-one : (old new : Sessions) (number : ℕ) (stood : Option Stood) → Finished old number stood new
    → IsOver new number
finished-one old new number None f = inr (ap (λ (s : Sessions). place_at s number) f.1 ∙ f.0)
finished-one old new number (Some stood) f =
    let (was, is) = (at number old (FinishesStep number stood) new f).about (eq-same number) in
    inl (subst IsGone (sym is) (finished-gone stood))

over-step : (count n : ℕ) (mid new : Sessions) (stood : Option Stood) → Finished mid count stood new
    → (n < count → IsOver mid n) → n < suc count → IsOver new n
over-step count n mid new stood f before below = by (n == count) refl
  where
    by : (b : Bool) → (n == count) ≡ b → IsOver new n
    by true e =
        subst (λ (k : ℕ). IsOver new k) (sym (same_number n count e)) (finished-one mid new count stood f)
    by false e =
        over-on mid new n (before (omega (arith, below, other_number n count e))) (finished mid new count stood f n)

all-over : (count : ℕ) (old new : Sessions) (links links_new : Links) → FinishesFirst count old links new links_new
    → (n : ℕ) → n < count → IsOver new n
all-over zero old new links links_new f n below = absurd (omega (arith, below))
all-over (suc count) old new links links_new (mid, links_mid, first, one) n below =
    over-step count n mid new one.stood one.finished (all-over count old mid links links_mid first n) below

pub over-at : (o : Option Stood) (old new : Sessions) (links links_new : Links) (n : ℕ) → place_at old n ≡ o
    → FinishesFirst (length old.places) old links new links_new → IsOver new n
over-at (Some stood) old new links links_new n e f =
    all-over (length old.places) old new links links_new f n (slice_get_within old.places n stood e)
over-at None old new links links_new n e f =
    over-on old new n (inr e) (finished-first (length old.places) old new links links_new f n)

-- no session vanishes
kept-there : (step : SessionsAct) (a : Option Stood) (mid : Option Stood) → PlaceStep a step mid → mid ≡ None → ⊥
kept-there (ChangesConnection before after) a mid s none = s
kept-there (Begins number channel session) a mid s none = none-some _ (sym none ∙ s.1)
kept-there (Asks number channel asked) a mid s none = none-some _ (sym none ∙ s.1)
kept-there (Accepts number incoming asked outgoing session) a mid s none = none-some _ (sym none ∙ s.1)
kept-there (TakesBegin number channel begin) a mid s none = s
kept-there (TakesEnd number channel end stood) a mid s none = none-some _ (sym none ∙ s.1)
kept-there (Ends number channel session own_end) a mid s none = none-some _ (sym none ∙ s.1)
kept-there (FinishesStep number stood) a mid s none = none-some _ (sym none ∙ s.1)
kept-there (TellsEnd number) a mid (stood, was, came, is) none = none-some _ (sym none ∙ is)
kept-there (ChangesAsked number before after) a mid (stood, was, lives, is) none = none-some _ (sym none ∙ is)
kept-there (ChangesLive number before after) a mid (stood, was, lives, is) none = none-some _ (sym none ∙ is)

never-was : (steps : List SessionsAct) (a : Option Stood) (end : Option Stood) → PlaceHistory a steps end
    → end ≡ None → a ≡ None
never-was [] a end same none = sym same ∙ none
never-was (step ∷ steps) a end (mid, one, rest) none =
    absurd (kept-there step a mid one (never-was steps mid end rest none))

never-there : (old new : Sessions) → Go old new → (n : ℕ) → place_at new n ≡ None → place_at old n ≡ None
never-there old new g n none =
    never-was (steps_of n g.steps) (place_at old n) (place_at new n) (own n old g.steps new g.history) none

-- what the sessions refuse leaves the number of the first transfer
abbrev Firsts : Talk → Talk → Type 0
Firsts old new = new.first_transfer_number ≡ old.first_transfer_number

first-same : (old new : Talk) → new ≡ old → Firsts old new
first-same old new same = ap (λ (t : Talk). t.first_transfer_number) same

first-rest : (old new : Talk) → new ≡ record old { sessions = new.sessions } → Firsts old new
first-rest old new rest = ap (λ (t : Talk). t.first_transfer_number) rest

first-live : (old : Talk) (number : ℕ) (before : Session) (it : LinkPerformative) (r : Result LinkHeard LinkRefusal)
    (new : Talk) (frames : List SessionFrame) → LiveAnswered gives old [] number before it r new frames
    → Firsts old new
first-live old number before it (Ok (heard.Live n t)) new frames a = first-rest old new (a.1).rest
first-live old number before it (Ok (heard.Asked n)) new frames a = absurd a
first-live old number before it (Ok (heard.Dropped n)) new frames a = absurd a
first-live old number before it (Err refused.Memory) new frames (inl a) = first-same old new a.1
first-live old number before it (Err refused.Memory) new frames (inr a) = first-rest old new (a.refuses).rest
first-live old number before it (Err (refused.Session n fault session)) new frames (same, f) =
    first-rest f.mid new (f.ends).rest ∙ first-rest old f.mid (f.refuses).rest
first-live old number before it (Err refused.NotFound) new frames a = absurd a
first-live old number before it (Err (refused.Asked n fault)) new frames a = absurd a

first-at : (asked : Option (Box AskedSession)) (live : Option Session) (old : Talk) (number : ℕ)
    (it : LinkPerformative) (r : Result LinkHeard LinkRefusal) (new : Talk) (frames : List SessionFrame)
    → AnsweredAt gives asked live old [] number it r new frames → Firsts old new
first-at (Some asked) live old number it (Ok (heard.Asked n)) new frames (a, none) = first-rest old new (a.1).rest
first-at (Some asked) live old number it (Ok (heard.Live n t)) new frames (a, none) = absurd a
first-at (Some asked) live old number it (Ok (heard.Dropped n)) new frames (a, none) = absurd a
first-at (Some asked) live old number it (Err refused.Memory) new frames (a, none) = first-same old new a.1
first-at (Some asked) live old number it (Err (refused.Asked n e)) new frames (a, none) = first-same old new (a.2).1
first-at (Some asked) live old number it (Err refused.NotFound) new frames (a, none) = absurd a
first-at (Some asked) live old number it (Err (refused.Session n e s)) new frames (a, none) = absurd a
first-at None (Some session) old number it r new frames a = first-live old number session it r new frames a
first-at None None old number it r new frames (is, same, none) = first-same old new same

first-in : (number : Option ℕ) (old : Talk) (it : LinkPerformative) (r : Result LinkHeard LinkRefusal) (new : Talk)
    (frames : List SessionFrame) → AnsweredIn gives number old [] it r new frames → Firsts old new
first-in None old it r new frames (is, same, none) = first-same old new same
first-in (Some number) old it r new frames a = first-at _ _ old number it r new frames a

first-answered : (old : Talk) (channel : IncomingChannel) (it : LinkPerformative) (r : Result LinkHeard LinkRefusal)
    (new : Talk) (frames : List SessionFrame) → Answered gives old [] channel it r new frames → Firsts old new
first-answered old channel it r new frames a = first-in (reached old.sessions channel.0) old it r new frames a

first-said : (old : Talk) (channel : IncomingChannel) (it : LinkPerformative) (e : EndpointError) (new : Talk)
    → RefusesSaid old channel it e new → Firsts old new
first-said old channel it e new (inl b) = first-answered old channel it (Err b.refusal) new b.frames b.answered
first-said old channel it e new (inr u) = first-same old new u.1

first-begin : (old : Talk) (channel : IncomingChannel) (begin : Begin) (r : BeginRefusal) (new : Talk)
    → BeginAnswered gives old [] channel begin (Err r) new [] → Firsts old new
first-begin old channel begin (begin_refused.Connection connection.Memory) new (none, inl same) =
    first-same old new same
first-begin old channel begin (begin_refused.Connection connection.Memory) new (none, inr (number, l)) =
    first-rest old new l.rest
first-begin old channel begin (begin_refused.Connection e) new a = first-same old new a.1
first-begin old channel begin (begin_refused.Session number IllegalState) new (b, none) = first-rest old new b.rest
first-begin old channel begin (begin_refused.Session number e) new a = absurd a

first-begins : (old : Talk) (channel : IncomingChannel) (begin : Begin) (e : EndpointError) (new : Talk)
    → RefusesBegin old channel begin e new → Firsts old new
first-begins old channel begin e new (inl b) =
    first-begin old channel begin (begin_refused.Connection b.refusal) new b.answered
first-begins old channel begin e new (inr (inl (memory, u))) =
    first-begin old channel begin (begin_refused.Session u.number u.fault) new u.refused
first-begins old channel begin e new (inr (inr u)) = first-same old new u.1

first-end : (old : Talk) (channel : IncomingChannel) (end : End) (r : ConnectionError) (new : Talk)
    → EndAnswered old [] channel end (Err r) new [] → Firsts old new
first-end old channel end connection.NotFound new a = first-same old new a.1
first-end old channel end connection.Memory new a = first-same old new a.0
first-end old channel end e new a = absurd a

first-room : (old : Talk) (channel : IncomingChannel) (new : Talk) → RoomMade old channel new → Firsts old new
first-room old channel new (inl same) = first-same old new same
first-room old channel new (inr m) = first-rest old new m.made.rest

first-body : (it : FrameBody) (old new : Talk) (links : Links) (given limit : ℕ) (channel : IncomingChannel)
    (e : EndpointError) → RefusesBody old links given limit channel it e new → Firsts old new
first-body (body.Begin begin) old new links given limit channel e r = first-begins old channel begin e new r
first-body (body.Attach attach) old new links given limit channel e (inl b) =
    first-answered b.ready channel _ (Err b.bars.refusal) new b.bars.frames b.bars.answered
    ∙ first-room old channel b.ready (room-made b.named old channel b.ready b.makes_room)
first-body (body.Attach attach) old new links given limit channel e (inr u) = first-same old new u.1
first-body (body.Flow flow) old new links given limit channel e (inl b) =
    first-answered b.ready channel _ (Err b.bars.refusal) new b.bars.frames b.bars.answered
    ∙ first-room old channel b.ready b.makes_room
first-body (body.Flow flow) old new links given limit channel e (inr u) = first-same old new u.1
first-body (body.Transfer transfer payload) old new links given limit channel e (inl u) = first-same old new u.stays
first-body (body.Transfer transfer payload) old new links given limit channel e (inr (inl r)) =
    first-said old channel _ e new r
first-body (body.Transfer transfer payload) old new links given limit channel e (inr (inr u)) =
    first-rest u.mid new (u.back.back).rest ∙ first-answered old channel _ (Ok u.heard) u.mid [] u.answered
first-body (body.Disposition disposition) old new links given limit channel e r = first-said old channel _ e new r
first-body (body.Detach detach) old new links given limit channel e r = first-said old channel _ e new r
first-body (body.End end) old new links given limit channel e (inl b) =
    first-end old channel end b.refusal new b.answered
first-body (body.End end) old new links given limit channel e (inr u) = first-same old new u.1
first-body it old new links given limit channel e r = absurd r

-- the connection alone goes on
abbrev pub AreStill : LinkedSessions → LinkedSessions → Type 0
AreStill old new = (new.talk.sessions.places ≡ old.talk.sessions.places) × Firsts old.talk new.talk

-- as a frame of its own says
pub by-frame-still : (it : FrameBody) (old new : LinkedSessions) → MovesByFrame linked it old new → AreStill old new
by-frame-still body.Empty old new same = subst (AreStill old) (sym same) (refl, refl)
by-frame-still (body.Open peer) old new m = subst (AreStill old) (sym m.is) (refl, refl)
by-frame-still (body.Close close) old new m = subst (AreStill old) (sym m.is) (refl, refl)
by-frame-still it old new m = absurd m

-- it is over behind a frame that was refused
closed-still : (own : Bool) (old told : LinkedSessions) → SendsClose linked own true old told → AreStill old told
closed-still true old told same = subst (AreStill old) (sym same) (refl, refl)
closed-still false old told m = subst (AreStill old) (sym m.is) (refl, refl)

-- a deed by which a message is sent, or may be sent on
abbrev pub IsSending : Deed → Type 0
IsSending (Does limit it answer frames) = MaySend it
IsSending (Takes limit frame frames events) = IsFlow frame.body
IsSending deed = ⊥

module _ {Allows : Batches → Type 0} (J : ℕ → Option Stood → List Passing → Option Stood → Type 0)
    (k : Keeping Allows J) where
  judges-wane : (first : ℕ) (old new : Sessions) (n : ℕ) → Wanes old new n
      → J first (place_at old n) [] (place_at new n)
  judges-wane first old new n (inl same) = k.still first (place_at old n) (place_at new n) same
  judges-wane first old new n (inr gone) = k.gone first (place_at old n) (place_at new n) [] gone refl

  over-judges : (first : ℕ) (old refused told new : Sessions) (n : ℕ) → Go old refused → told.places ≡ refused.places
      → IsOver new n → Wanes told new n → J first (place_at old n) [] (place_at new n)
  over-judges first old refused told new n g places (inl gone) w =
      k.gone first (place_at old n) (place_at new n) [] gone refl
  over-judges first old refused told new n g places (inr none) (inr gone) =
      absurd (subst IsGone none gone)
  over-judges first old refused told new n g places (inr none) (inl same) =
      let before : place_at refused n ≡ None =
      sym (ap (λ (ps : List Stood). slice_get ps n) places) ∙ sym same ∙ none in
      k.still first (place_at old n) (place_at new n) (none ∙ sym (never-there old refused g n before))

  module _ (limit : ℕ) (f : Frame) (error : EndpointError) (own_close : Bool) (old new : LinkedSessions)
      (e : EndsBy linked old limit f error own_close new) where
    ends-judges : (n : ℕ)
        → J old.talk.first_transfer_number (place_at old.talk.sessions n) [] (place_at new.talk.sessions n)
    ends-judges n =
        let told = e.closes.told in
        let (places, first) = closed-still own_close e.refused told e.closes.tells in
        let over = ((e.closes.over).0).each in
        over-judges old.talk.first_transfer_number old.talk.sessions e.refused.talk.sessions told.talk.sessions
        new.talk.sessions n
        (refused-goes f.body old.talk e.refused.talk old.links old.given limit (record { 0 = f.channel }) error
        ((e.refuses).0).refuses)
        places
        (over-at (place_at told.talk.sessions n) told.talk.sessions new.talk.sessions told.links new.links n refl over)
        (finished-first (length told.talk.sessions.places) told.talk.sessions new.talk.sessions told.links new.links
        over
        n)

    ends-first : Firsts old.talk new.talk
    ends-first =
        let told = e.closes.told in
        let (places, first) = closed-still own_close e.refused told e.closes.tells in
        first-rest told.talk new.talk ((e.closes.over).0).rest ∙ first
        ∙ first-body f.body old.talk e.refused.talk old.links old.given limit (record { 0 = f.channel }) error
        ((e.refuses).0).refuses

  still-judges : (old new : LinkedSessions) (n : ℕ) → new.talk.sessions.places ≡ old.talk.sessions.places
      → J old.talk.first_transfer_number (place_at old.talk.sessions n) [] (place_at new.talk.sessions n)
  still-judges old new n same = k.still _ _ _ (ap (λ (ps : List Stood). slice_get ps n) same)

  taken-judges : (limit : ℕ) (f : Frame) (frames : List SessionFrame) (events : List Event) (old new : LinkedSessions)
      → (IsFlow f.body → (accepted : Batches) → Allows accepted)
      → linked.takes old limit f.channel f.body frames events new
      → AllPassed J k (session_taking old f.channel f.body) (Came f.body ∷ went frames) old.talk new.talk
  taken-judges limit f frames events old new may h =
      coming-judged J k (session_taking old f.channel f.body) frames old.talk new.talk f.channel f.body
      (frame-heard (PassedBy J k) (AllPassedBy J k) (judging J k) f.body old new limit (record { 0 = f.channel }) frames
      events may h.0)

  call-judges : (limit : ℕ) (it : Call) (answer : Said) (frames : List SessionFrame) (old new : LinkedSessions)
      → (MaySend it → (accepted : Batches) → Allows accepted) → linked.calls old limit it answer frames new
      → AllPassed J k (called_in old it answer) (went frames) old.talk new.talk
  call-judges limit it answer frames old new may c =
      going-judged J k (called_in old it answer) frames old.talk new.talk
      (called (PassedBy J k) (AllPassedBy J k) (judging J k) it answer old new limit frames may
      (λ attaches. attach-judged J k) c.0)

  pub deed-judges : (deed : Deed) (old new : LinkedSessions)
      → (IsSending deed → (accepted : Batches) → Allows accepted) → IsDeed linked old deed new → (n : ℕ)
      → J old.talk.first_transfer_number (place_at old.talk.sessions n) (passes_in n old deed)
      (place_at new.talk.sessions n)
  deed-judges (Queues it) old new may same n =
      still-judges old new n (ap (λ (s : LinkedSessions). s.talk.sessions.places) same)
  deed-judges (Hears frame events) old new may (moves, told) n =
      still-judges old new n (by-frame-still frame.body old new moves).0
  deed-judges (Takes limit f frames events) old new may h n =
      (taken-judges limit f frames events old new may h).all n
  deed-judges (Refuses limit f error own_close) old new may e n =
      ends-judges limit f error own_close old new e n
  deed-judges (Does limit it answer frames) old new may c n =
      (call-judges limit it answer frames old new may c).all n
  deed-judges (Moves connection) old new may m n =
      still-judges old new n (ap (λ (s : LinkedSessions). s.talk.sessions.places) m.1)
  deed-judges Renews old new may is n =
      still-judges old new n (ap (λ (s : LinkedSessions). s.talk.sessions.places) is)
  deed-judges Closes old new may l n =
      judges-wane _ old.talk.sessions new.talk.sessions n
      (left-first _ old.talk.sessions new.talk.sessions old.links new.links (l.0).each n)
  deed-judges Finishes old new may f n =
      judges-wane _ old.talk.sessions new.talk.sessions n
      (finished-first _ old.talk.sessions new.talk.sessions old.links new.links (f.0).each n)

  pub deed-first : (deed : Deed) (old new : LinkedSessions)
      → (IsSending deed → (accepted : Batches) → Allows accepted) → IsDeed linked old deed new
      → Firsts old.talk new.talk
  deed-first (Queues it) old new may same = ap (λ (s : LinkedSessions). s.talk.first_transfer_number) same
  deed-first (Hears frame events) old new may (moves, told) = (by-frame-still frame.body old new moves).1
  deed-first (Takes limit f frames events) old new may h =
      (taken-judges limit f frames events old new may h).first
  deed-first (Refuses limit f error own_close) old new may e = ends-first limit f error own_close old new e
  deed-first (Does limit it answer frames) old new may c = (call-judges limit it answer frames old new may c).first
  deed-first (Moves connection) old new may m = ap (λ (s : LinkedSessions). s.talk.first_transfer_number) m.1
  deed-first Renews old new may is = ap (λ (s : LinkedSessions). s.talk.first_transfer_number) is
  deed-first Closes old new may l = first-rest old.talk new.talk (l.0).rest
  deed-first Finishes old new may f = first-rest old.talk new.talk (f.0).rest

  -- so it is by all of them
  pub deeds-judge : ((accepted : Batches) → Allows accepted) → (deeds : List Deed) (n : ℕ) (old new : LinkedSessions)
      (passings : List Passing)
      → PassesIn n old deeds new passings
      → J old.talk.first_transfer_number (place_at old.talk.sessions n) passings (place_at new.talk.sessions n)
  deeds-judge may [] n old new passings (same, none) =
      subst
      (λ (ps : List Passing).
      J old.talk.first_transfer_number (place_at old.talk.sessions n) ps (place_at new.talk.sessions n))
      (sym none)
      (k.still _ _ _ (ap (λ (s : LinkedSessions). place_at s.talk.sessions n) same))
  deeds-judge may (deed ∷ deeds) n old new passings (mid, later, one, rest, is) =
      let first : ℕ = old.talk.first_transfer_number in
      subst (λ (ps : List Passing). J first (place_at old.talk.sessions n) ps (place_at new.talk.sessions n)) (sym is)
      (k.on first (place_at old.talk.sessions n) (place_at mid.talk.sessions n) (place_at new.talk.sessions n)
      (passes_in n old deed) later (deed-judges deed old mid (λ sends. may) one n)
      (subst (λ (f : ℕ). J f (place_at mid.talk.sessions n) later (place_at new.talk.sessions n))
      (deed-first deed old mid (λ sends. may) one) (deeds-judge may deeds n mid new later rest)))

  -- from new sessions on
  pub new-judges : ((accepted : Batches) → Allows accepted) → (sessions end : LinkedSessions) (settings : Settings)
      (deeds : List Deed) (n : ℕ)
      (passings : List Passing) → IsNew linked settings sessions → PassesIn n sessions deeds end passings
      → J settings.first_transfer_number None passings (place_at end.talk.sessions n)
  new-judges may sessions end settings deeds n passings new p =
      subst
      (λ (s : LinkedSessions).
      J s.talk.first_transfer_number (place_at s.talk.sessions n) passings (place_at end.talk.sessions n))
      new.is (deeds-judge may deeds n sessions end passings p)

-- something passes in each session, or nothing
pub some-passes : (deeds : List Deed) (n : ℕ) (old new : LinkedSessions) → AreDone linked old deeds new
    → (passings : List Passing) × PassesIn n old deeds new passings
some-passes [] n old new same = ([], (same, refl))
some-passes (deed ∷ deeds) n old new (mid, one, rest) =
    let (later, p) = some-passes deeds n mid new rest in
    (passes_in n old deed ++ later, (mid, later, one, p, refl))
