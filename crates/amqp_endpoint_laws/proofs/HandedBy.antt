-- One deed after the other, what a receiving link hands out is what the transfers say that reach it.
use Rattle.std.proofs.Common.{◌≡◌, ◌==◌, ◌&&◌, ◌⊎◌, inl, inr, ℕ, Bool, true, false, List, [], ◌∷◌, ◌++◌, Option}
use Rattle.std.proofs.Common.{None, Some, Ok, Err, ap, refl, sym, subst, ◌∙◌, if◌then◌else◌, map, arith, append_assoc}
use Rattle.std.proofs.lemmas.List.{append-nil}
use Rattle.std.proofs.lemmas.Option.{none-some}
use Rattle.std.specs.Global.{Box}
use Rattle.amqp_session_types.specs.declared.channels.IncomingChannel.{IncomingChannel}
use Rattle.amqp_session_types.specs.declared.handles.OutputHandle.{OutputHandle}
use Rattle.amqp_session_types.specs.declared.refusals.SessionError.{SessionError}
use Rattle.amqp_session_performatives.specs.declared.session_frame.SessionFrame.{SessionFrame}
use Rattle.amqp_session_performatives.specs.declared.transfer.Transfer.{Transfer}
use Rattle.amqp_session_frames.specs.declared.frame.Frame.{Frame}
use Rattle.amqp_session_frames.specs.declared.frame.FrameBody.{FrameBody}
use Rattle.amqp_session_frames.specs.declared.frame.FrameBody.TheVariants as body
use Rattle.amqp_session_core.specs.declared.incoming.TransferTaken.{TransferTaken}
use Rattle.amqp_link_base.specs.Readings.{Piece, Reading, readings}
use Rattle.amqp_link_receiver.specs.Deliveries.{Delivery}
use Rattle.amqp_link_receiver.specs.Readings.{held_said}
use Rattle.amqp_link_receiver.specs.declared.answer.Told.{Told}
use Rattle.amqp_endpoint_links.specs.declared.session.AskedSession.{AskedSession}
use Rattle.amqp_endpoint_attached.specs.Linked.{gives}
use Rattle.amqp_endpoint_conversation.specs.Hearing.{Answered, AnsweredAt, AnsweredIn, AskedAnswered, LiveAnswered}
use Rattle.amqp_endpoint_conversation.specs.declared.hearing.HearRefusal.TheVariants as refused
use Rattle.amqp_endpoint_conversation.specs.declared.hearing.Heard.TheVariants as heard_as
use Rattle.amqp_endpoint_laws.specs.Deeds.{Closes, Deed, Does, Finishes, Hears, IsDeed, Moves, MovesByFrame, Queues}
use Rattle.amqp_endpoint_laws.specs.Deeds.{Refuses, Renews, Takes, told_by, told_in}
use Rattle.amqp_endpoint_link_hearing.specs.Naming.{link_in}
use Rattle.amqp_endpoint_link_hearing.specs.Saying.{LinkHeard}
use Rattle.amqp_endpoint_link_hearing.specs.Transferring.{Becomes, Comes, HearsTransfer, transfer_of}
use Rattle.amqp_endpoint_link_hearing.proofs.Heard.{IsTaken as IsHeard, taken-in}
use Rattle.amqp_endpoint.specs.Does.{linked}
use Rattle.amqp_endpoint.specs.Hearing.{Hears as HearsFrame}
use Rattle.amqp_endpoint.specs.declared.linked.LinkedSessions.{LinkedSessions}
use Rattle.amqp_endpoint_linking.specs.Linking.{Link, Links, Session, Talk}
use Rattle.amqp_endpoint_links.specs.declared.hearing.LinkPerformative.TheVariants as said
use Rattle.amqp_endpoint_links.specs.declared.hearing.PerformativeTaken.TheVariants as taken
use Rattle.amqp_endpoint_model.specs.declared.event.Event.{Event}
use Rattle.amqp_endpoint_model.specs.History.{BodyTells}
use Rattle.amqp_endpoint_tables.specs.State.{asked_at, live_at, live_of, reached}
use Rattle.amqp_endpoint_tables.specs.Steps.{Ends}
use Rattle.amqp_endpoint_tables.proofs.Owning.{at, same_number}
use Rattle.amqp_endpoint_laws.specs.Handed.{Handed, IsReceiving, NoneResumes, ReachIn, handed_as, handed_by}
use Rattle.amqp_endpoint_laws.specs.Handed.{leads_there}
use Rattle.amqp_endpoint_laws.specs.Handed.{piece_of, pieces_in}
use Rattle.amqp_endpoint_laws.specs.Life.{StaysSomewhere}
use Rattle.amqp_endpoint_laws.specs.Passed.{is_it}
use Rattle.amqp_endpoint_laws.specs.Telling.{numbers_told}
use Rattle.amqp_endpoint_laws.proofs.Counted.{answer-unnumbered}
use Rattle.amqp_endpoint_laws.proofs.HandedOut.{HearsOne, IsTold, LeadsLessAt, Receives, Says, StandsAlone, each-hears}
use Rattle.amqp_endpoint_laws.proofs.HandedOut.{each-leads, each-still, goes-same}
use Rattle.amqp_endpoint_laws.proofs.HandedOut.{handed-both, hands-out, none-handed, none-resume, readings-both}
use Rattle.amqp_endpoint_laws.proofs.HandedOut.{receives-holds, says-none, says-so}
use Rattle.amqp_endpoint_laws.proofs.HoldingDeeds.{GoesBy, IsNotTransfer, TakesNoTransfer, deed-goes}
use Rattle.amqp_endpoint_laws.proofs.HoldingEnds.{Holding, Stays}
use Rattle.amqp_endpoint_laws.proofs.HoldingTalk.{AllRest, EachAt, EachOf, LeadsStillAt, fails-stay, held_in}
use Rattle.amqp_endpoint_laws.proofs.HoldingTalk.{leads_in, still-same}
use Rattle.amqp_endpoint_laws.proofs.Numbered.{GivesNext, gives-next}
use Rattle.amqp_endpoint_laws.proofs.PassedPlaces.{eq-same}
use Rattle.amqp_endpoint_laws.proofs.Unnumbered.{Unnumbered}

-- a session that goes on has the link that receives
has-session : (o : Option Session) (own : OutputHandle) (link : Link) → link_in o own ≡ Some link → o ≡ None → ⊥
has-session None own link is none = none-some link is
has-session (Some session) own link is none = none-some session (sym none)

-- a transfer that no link takes: its session is ending, and stays
record IsDropped (old : Talk) (channel : IncomingChannel) (mid : Talk) : Type 0 where
  number : ℕ
  reaches : reached old.sessions channel.0 ≡ Some number
  dead : live_at old.sessions number ≡ None
  same : mid ≡ old

-- or its session ends by its fault
record IsEnded (old : Talk) (channel : IncomingChannel) (new : Talk) : Type 0 where
  number : ℕ
  reaches : reached old.sessions channel.0 ≡ Some number
  dead : live_at new.sessions number ≡ None

module _ (old : Talk) (channel : IncomingChannel) (it : Transfer) (payload : List ℕ) (new : Talk)
    (frames : List SessionFrame) where
  abbrev IsUntaken : LinkHeard → Type 0
  IsUntaken (heard_as.Live n t) = ⊥
  IsUntaken h = Unit {0}

  asked-drops : (number : ℕ) (asked : Box AskedSession) (h : LinkHeard) → IsUntaken h
      → AskedAnswered old number asked (said.Transfer it payload) (Ok h) new → ⊥
  asked-drops number asked (heard_as.Asked n) untaken (same, t) = let clash = t.heard.0 in absurd cc
  asked-drops number asked (heard_as.Live n told) untaken a = a
  asked-drops number asked (heard_as.Dropped n) untaken a = a

  live-drops : (number : ℕ) (before : Session) (h : LinkHeard) → IsUntaken h
      → LiveAnswered gives old [] number before (said.Transfer it payload) (Ok h) new frames → ⊥
  live-drops number before (heard_as.Asked n) untaken a = a
  live-drops number before (heard_as.Live n told) untaken a = untaken
  live-drops number before (heard_as.Dropped n) untaken a = a

  drops-at : (asked : Option (Box AskedSession)) (live : Option Session) (number : ℕ) (h : LinkHeard) → IsUntaken h
      → reached old.sessions channel.0 ≡ Some number → live_at old.sessions number ≡ live
      → AnsweredAt gives asked live old [] number (said.Transfer it payload) (Ok h) new frames
      → IsDropped old channel new
  drops-at (Some asked) live number h untaken reaches is (t, none) = absurd (asked-drops number asked h untaken t)
  drops-at None (Some before) number h untaken reaches is t = absurd (live-drops number before h untaken t)
  drops-at None None number h untaken reaches is (dropped, same, none) =
      record { number = number; reaches = reaches; dead = is; same = same }

  drops-in : (number : Option ℕ) (h : LinkHeard) → IsUntaken h → reached old.sessions channel.0 ≡ number
      → AnsweredIn gives number old [] (said.Transfer it payload) (Ok h) new frames → IsDropped old channel new
  drops-in None h untaken reaches (wrong, same, none) = let clash = wrong in absurd cc
  drops-in (Some number) h untaken reaches t =
      drops-at (asked_at old.sessions number) (live_at old.sessions number) number h untaken reaches refl t

  drops : (h : LinkHeard) → IsUntaken h → Answered gives old [] channel (said.Transfer it payload) (Ok h) new frames
      → IsDropped old channel new
  drops h untaken t = drops-in (reached old.sessions channel.0) h untaken refl t

  module _ (n : ℕ) (fault : SessionError) (session : Session) where
    ended-at : (asked : Option (Box AskedSession)) (live : Option Session) (number : ℕ)
        → reached old.sessions channel.0 ≡ Some number
        → AnsweredAt gives asked live old [] number (said.Transfer it payload) (Err (refused.Session n fault session))
        new frames
        → IsEnded old channel new
    ended-at (Some asked) live number reaches t = absurd t.0
    ended-at None (Some before) number reaches (same, f) =
        let (was, is) =
        (at number f.mid.sessions (Ends number f.ends.channel session true) new.sessions f.ends.stepped).about
        (eq-same number) in
        record { number = number; reaches = reaches; dead = ap live_of is }
    ended-at None None number reaches (is, same, none) = let clash = is in absurd cc

    ended-in : (number : Option ℕ) → reached old.sessions channel.0 ≡ number
        → AnsweredIn gives number old [] (said.Transfer it payload) (Err (refused.Session n fault session)) new frames
        → IsEnded old channel new
    ended-in None reaches (wrong, same, none) = let clash = wrong in absurd cc
    ended-in (Some number) reaches t =
        ended-at (asked_at old.sessions number) (live_at old.sessions number) number reaches t

-- a Transfer is heard
module _ (old new : LinkedSessions) (channel : IncomingChannel) (it : Transfer) (payload : List ℕ)
    (frames : List SessionFrame) (events : List Event) where
  -- by a link
  record ByLink : Type 0 where
    mid : Talk
    session : ℕ
    took : TransferTaken Told
    own : List SessionFrame
    heard : IsHeard old.talk channel [] (said.Transfer it payload) session (taken.Transfer took) mid []
    comes : Comes took.told old.talk old.given it session mid own events new.talk new.given

  -- or by none, where its session is ending
  record ByNone : Type 0 where
    dropped : IsDropped old.talk channel new.talk
    untold : events ≡ []

  -- or its session ends by its fault
  record ByFault : Type 0 where
    ended : IsEnded old.talk channel new.talk
    stays : AllRest old.talk.sessions new.talk.sessions
    untold : (link : ℕ) → handed_by link events ≡ []

  abbrev HeardBy : Type 0
  HeardBy = ByLink ⊎ (ByNone ⊎ ByFault)

  by-none : (mid : Talk) (h : LinkHeard)
      → Answered gives old.talk [] channel (said.Transfer it payload) (Ok h) mid []
      → IsUntaken old.talk channel it payload mid [] h → events ≡ [] → new.talk ≡ mid → HeardBy
  by-none mid h answered untaken silent stays =
      let d = drops old.talk channel it payload mid [] h untaken answered in
      inr (inl (record {
        dropped = record { number = d.number; reaches = d.reaches; dead = d.dead; same = stays ∙ d.same };
        untold = silent;
      }))

  by-link : (h : LinkHeard) (mid : Talk)
      → Answered gives old.talk [] channel (said.Transfer it payload) (Ok h) mid []
      → Becomes (transfer_of h) old.talk old.given it mid frames events new.talk new.given → HeardBy
  by-link (heard_as.Live session (taken.Transfer took)) mid answered b =
      inl (record {
        mid = mid;
        session = session;
        took = took;
        own = b.own;
        heard = taken-in old.talk channel [] (said.Transfer it payload) session (taken.Transfer took) mid [] answered;
        comes = b.comes;
      })
  by-link (heard_as.Asked k) mid answered b = by-none mid (heard_as.Asked k) answered tt b.untold b.stays
  by-link (heard_as.Dropped k) mid answered b = by-none mid (heard_as.Dropped k) answered tt b.untold b.stays
  by-link (heard_as.Live session (taken.Attach t)) mid answered b =
      absurd
      (taken-in old.talk channel [] (said.Transfer it payload) session (taken.Attach t) mid []
      answered).takes.hears.heard.0
  by-link (heard_as.Live session taken.Flow) mid answered b =
      absurd
      (taken-in old.talk channel [] (said.Transfer it payload) session taken.Flow mid [] answered).takes.hears.heard.0
  by-link (heard_as.Live session (taken.Disposition back runs)) mid answered b =
      absurd
      (taken-in old.talk channel [] (said.Transfer it payload) session (taken.Disposition back runs) mid []
      answered).takes.hears.heard.0
  by-link (heard_as.Live session (taken.Detach t)) mid answered b =
      absurd
      (taken-in old.talk channel [] (said.Transfer it payload) session (taken.Detach t) mid []
      answered).takes.hears.heard.0

  heard-so : HearsTransfer old.talk old.links old.given channel it payload frames events new.talk new.links new.given
      → HeardBy
  heard-so (inl t) = by-link t.heard t.mid t.answered t.becomes
  heard-so (inr f) =
      inr (inr (record {
        ended =
            ended-in old.talk channel it payload new.talk frames f.fails.number f.fails.fault f.fails.session
            (reached old.talk.sessions channel.0) refl f.fails.answered;
        stays =
            fails-stay (said.Transfer it payload) old.talk new.talk f.fails.number f.fails.fault f.fails.session frames
            channel f.fails.answered;
        untold = λ link. ap (handed_by link) f.fails.told;
      }))

  -- what links hold goes on so
  heard-moves : HeardBy → EachOf HearsOne old.talk.sessions new.talk.sessions
  heard-moves (inl b) =
      each-hears old new b.mid channel it payload b.session b.took b.own events b.heard b.comes
  heard-moves (inr (inl b)) =
      λ m h. inr (inl (ap (λ (t : Talk). held_in (live_at t.sessions m) h) b.dropped.same))
  heard-moves (inr (inr b)) = λ m h. inr ((b.stays m).holds h)

  heard-leads : HeardBy → (n : ℕ) → LeadsLessAt (live_at old.talk.sessions n) (live_at new.talk.sessions n)
  heard-leads (inl b) n input h there =
      each-leads old new b.mid channel it payload b.session b.took b.own events b.heard b.comes n input h there
  heard-leads (inr (inl b)) n input h there =
      sym (ap (λ (t : Talk). leads_in (live_at t.sessions n) input) b.dropped.same) ∙ there
  heard-leads (inr (inr b)) n input h there = (b.stays n).leads input h there

  heard-still : HeardBy → (n : ℕ) → LeadsStillAt (live_at old.talk.sessions n) (live_at new.talk.sessions n)
  heard-still (inl b) n =
      each-still old new b.mid channel it payload b.session b.took b.own events b.heard b.comes n
  heard-still (inr (inl b)) n =
      still-same (live_at old.talk.sessions n) (live_at new.talk.sessions n)
      (ap (λ (t : Talk). live_at t.sessions n) b.dropped.same)
  heard-still (inr (inr b)) n = (b.stays n).keeps

  -- and what is handed out is so by a link that stays attached
  heard-hands : (link : ℕ) → HeardBy → (handed_by link events ≡ []) ⊎ StaysSomewhere old new link
  heard-hands link (inl b) =
      hands-out old new b.mid channel it payload b.session b.took b.own events b.heard b.comes link
  heard-hands link (inr (inl b)) = inl (ap (handed_by link) b.untold)
  heard-hands link (inr (inr b)) = inl (b.untold link)

  module _ (link n : ℕ) (own : OutputHandle) (reading : Reading) (later : Option Delivery)
      (r : Receives old link n own (held_said reading.held)) (q : Receives new link n own later)
      (alone : StandsAlone old link n own.0) where
    abbrev pieces : List Piece
    pieces = piece_of old n own channel.0 (body.Transfer it payload)

    -- it reaches no link of this session
    no-pieces : (number : ℕ) → reached old.talk.sessions channel.0 ≡ Some number → (number ≡ n → ⊥) → pieces ≡ []
    no-pieces number reaches other = by (n == number) refl
      where
        by : (b : Bool) → (n == number) ≡ b → pieces ≡ []
        by true e = absurd (other (sym (same_number n number e)))
        by false e =
            ap
            (λ (b : Bool).
            if b && leads_there (live_at old.talk.sessions n) it.handle.0 own
            then record { performative = it; payload = payload } ∷ [] else [])
            (ap (λ (o : Option ℕ). is_it o n) reaches ∙ e)

    stayed : EachOf Stays old.talk.sessions new.talk.sessions → later ≡ held_said reading.held
    stayed stays =
        goes-same (held_in (live_at old.talk.sessions n) own.0) (held_in (live_at new.talk.sessions n) own.0) link
        (held_said reading.held) later (inr (stays n own.0))
        (receives-holds old link n own (held_said reading.held) r) (receives-holds new link n own later q)

    heard-says : HeardBy → NoneResumes pieces → Says own reading pieces (handed_by link events) later
    heard-says (inl b) none =
        says-so old new b.mid channel it payload b.session b.took b.own events b.heard b.comes link n own reading later
        r q alone none
    heard-says (inr (inl b)) none =
        let d = b.dropped in
        says-none own reading pieces (handed_by link events) later
        (no-pieces d.number d.reaches
        (λ same.
        has-session (live_at old.talk.sessions n) own _ r.there
        (ap (λ (k : ℕ). live_at old.talk.sessions k) (sym same) ∙ d.dead)))
        (ap (handed_by link) b.untold)
        (stayed (λ m h. inl (ap (λ (t : Talk). held_in (live_at t.sessions m) h) d.same)))
    heard-says (inr (inr b)) none =
        let e = b.ended in
        says-none own reading pieces (handed_by link events) later
        (no-pieces e.number e.reaches
        (λ same.
        has-session (live_at new.talk.sessions n) own _ q.there
        (ap (λ (k : ℕ). live_at new.talk.sessions k) (sym same) ∙ e.dead)))
        (b.untold link) (stayed (λ m h. (b.stays m).holds h))

-- no other frame hands a message out
uncounted : (it : FrameBody) → IsNotTransfer it → (old new : Talk) (links links_new : Links)
    (given given_new limit : ℕ) (channel : IncomingChannel) (frames : List SessionFrame) (events : List Event)
    → HearsFrame old links given limit channel it frames events new links_new given_new → given_new ≡ given
uncounted (body.Begin begin) other old new links links_new given given_new limit channel frames events (h, g) = g
uncounted (body.Attach attach) other old new links links_new given given_new limit channel frames events (h, g) = g
uncounted (body.Flow flow) other old new links links_new given given_new limit channel frames events (h, g) = g
uncounted (body.Transfer transfer payload) other old new links links_new given given_new limit channel frames events
    h =
    absurd other
uncounted (body.Disposition disposition) other old new links links_new given given_new limit channel frames events
    (h, g) =
    g
uncounted (body.Detach detach) other old new links links_new given given_new limit channel frames events (h, g) = g
uncounted (body.End end) other old new links links_new given given_new limit channel frames events (h, g) = g
uncounted it other old new links links_new given given_new limit channel frames events h = absurd h

next-none : (events : List Event) (given given_new : ℕ) → GivesNext events given given_new → given_new ≡ given
    → Unnumbered events
next-none events given given_new (inl (none, same)) is = none
next-none events given given_new (inr (next, more)) is = absurd (omega (arith, more, is))

frame-none : (it : FrameBody) → IsNotTransfer it → (old new : LinkedSessions) (limit : ℕ) (channel : IncomingChannel)
    (frames : List SessionFrame) (events : List Event)
    → HearsFrame old.talk old.links old.given limit channel it frames events new.talk new.links new.given
    → Unnumbered events
frame-none it other old new limit channel frames events h =
    next-none events old.given new.given
    (gives-next it old.talk new.talk old.links new.links old.given new.given limit channel frames events h)
    (uncounted it other old.talk new.talk old.links new.links old.given new.given limit channel frames events h)

-- a frame of the connection's own tells of no message
own-none : (it : FrameBody) (f : Frame) (events : List Event) (old new : LinkedSessions)
    → MovesByFrame linked it old new → BodyTells linked it f events → Unnumbered events
own-none body.Empty f events old new moves told = ap (λ (es : List Event). numbers_told es) told
own-none (body.Open o) f events old new moves told = ap (λ (es : List Event). numbers_told es) told
own-none (body.Close c) f events old new moves told = ap (λ (es : List Event). numbers_told es) told
own-none it f events old new moves told = absurd moves

deed-none : (deed : Deed) → TakesNoTransfer deed → (old new : LinkedSessions) → IsDeed linked old deed new
    → Unnumbered (told_in deed)
deed-none (Takes limit f frames events) other old new h =
    frame-none f.body other old new limit (record { 0 = f.channel }) frames events h.0
deed-none (Does limit it answer frames) other old new c = answer-unnumbered it answer old new limit frames c.0
deed-none (Queues it) other old new d = refl
deed-none (Hears frame events) other old new (moves, told) = own-none frame.body frame events old new moves told
deed-none (Refuses limit f error own_close) other old new d = refl
deed-none (Moves connection) other old new d = refl
deed-none Renews other old new d = refl
deed-none Closes other old new d = refl
deed-none Finishes other old new d = refl

-- what a link holds that hears a transfer goes on, or all that is held does as by any other deed
abbrev pub MovesBy : Deed → LinkedSessions → LinkedSessions → Holding → Holding → Type 0
MovesBy deed old new was is = IsTold was is ⊎ GoesBy deed old new was is

frame-moves : (it : FrameBody) (limit channel : ℕ) (frames : List SessionFrame) (events : List Event)
    (old new : LinkedSessions)
    → IsDeed linked old (Takes limit (record { channel = channel; body = it }) frames events) new
    → EachOf (MovesBy (Takes limit (record { channel = channel; body = it }) frames events) old new) old.talk.sessions
    new.talk.sessions
frame-moves (body.Transfer transfer payload) limit channel frames events old new d n h =
    by (heard-moves old new (record { 0 = channel }) transfer payload frames events
    (heard-so old new (record { 0 = channel }) transfer payload frames events d.0) n h)
  where
    by : HearsOne (held_in (live_at old.talk.sessions n) h) (held_in (live_at new.talk.sessions n) h)
        → MovesBy
        (Takes limit (record { channel = channel; body = body.Transfer transfer payload }) frames events) old new
        (held_in (live_at old.talk.sessions n) h) (held_in (live_at new.talk.sessions n) h)
    by (inl t) = inl t
    by (inr stays) = inr (inr (inr stays))
frame-moves it limit channel frames events old new d n h =
    inr (deed-goes (Takes limit (record { channel = channel; body = it }) frames events) tt old new d n h)

-- and the peer's handles lead so
pub record HearsAt (old new : Option Session) : Type 0 where
  pub hears : EachAt HearsOne old new
  pub leads : LeadsLessAt old new
  pub keeps : LeadsStillAt old new

pub frame-leads : (transfer : Transfer) (payload : List ℕ) (limit channel : ℕ) (frames : List SessionFrame)
    (events : List Event) (old new : LinkedSessions)
    → IsDeed linked old
    (Takes limit (record { channel = channel; body = body.Transfer transfer payload }) frames events) new
    → (n : ℕ) → HearsAt (live_at old.talk.sessions n) (live_at new.talk.sessions n)
frame-leads transfer payload limit channel frames events old new d n =
    let heard = heard-so old new (record { 0 = channel }) transfer payload frames events d.0 in
    record {
      hears = heard-moves old new (record { 0 = channel }) transfer payload frames events heard n;
      leads = heard-leads old new (record { 0 = channel }) transfer payload frames events heard n;
      keeps = heard-still old new (record { 0 = channel }) transfer payload frames events heard n;
    }

pub deed-moves : (deed : Deed) (old new : LinkedSessions) → IsDeed linked old deed new
    → EachOf (MovesBy deed old new) old.talk.sessions new.talk.sessions
deed-moves (Takes limit f frames events) old new d n h =
    frame-moves f.body limit f.channel frames events old new d n h
deed-moves deed old new d n h = inr (deed-goes deed tt old new d n h)

-- what a deed hands out by a link it does so while that is attached
frame-hands : (it : FrameBody) (limit channel : ℕ) (frames : List SessionFrame) (events : List Event)
    (old new : LinkedSessions)
    → IsDeed linked old (Takes limit (record { channel = channel; body = it }) frames events) new
    → (link : ℕ) → (handed_by link events ≡ []) ⊎ StaysSomewhere old new link
frame-hands (body.Transfer transfer payload) limit channel frames events old new d link =
    heard-hands old new (record { 0 = channel }) transfer payload frames events link
    (heard-so old new (record { 0 = channel }) transfer payload frames events d.0)
frame-hands it limit channel frames events old new d link =
    inl (none-handed link events
    (deed-none (Takes limit (record { channel = channel; body = it }) frames events) tt old new d))

pub deed-hands : (deed : Deed) (old new : LinkedSessions) (link : ℕ) → IsDeed linked old deed new
    → (handed_by link (told_in deed) ≡ []) ⊎ StaysSomewhere old new link
deed-hands (Takes limit f frames events) old new link d =
    frame-hands f.body limit f.channel frames events old new d link
deed-hands deed old new link d = inl (none-handed link (told_in deed) (deed-none deed tt old new d))

by-same : (deed : Deed) (old new : LinkedSessions) (a b : Holding) (link : ℕ) (held later : Option Delivery)
    → GoesBy deed old new a b → a ≡ Some (link, (true, held)) → b ≡ Some (link, (true, later)) → later ≡ held
by-same deed old new a b link held later (inl e) first is = absurd (none-some _ (sym e.vacant ∙ first))
by-same deed old new a b link held later (inr g) first is = goes-same a b link held later g first is

module _ (link n : ℕ) (own : OutputHandle) where
  -- one deed
  frame-pieces : (it : FrameBody) → IsNotTransfer it → (old : LinkedSessions) (channel : ℕ)
      → piece_of old n own channel it ≡ []
  frame-pieces (body.Transfer transfer payload) other old channel = absurd other
  frame-pieces it other old channel = refl

  no-transfer : (deed : Deed) → TakesNoTransfer deed → (old : LinkedSessions) → pieces_in n own old deed ≡ []
  no-transfer (Takes limit f frames events) other old = frame-pieces f.body other old f.channel
  no-transfer (Does limit it answer frames) other old = refl
  no-transfer (Queues it) other old = refl
  no-transfer (Hears frame events) other old = refl
  no-transfer (Refuses limit f error own_close) other old = refl
  no-transfer (Moves connection) other old = refl
  no-transfer Renews other old = refl
  no-transfer Closes other old = refl
  no-transfer Finishes other old = refl

  other-says : (deed : Deed) → TakesNoTransfer deed → (old new : LinkedSessions) → IsDeed linked old deed new
      → (reading : Reading) (later : Option Delivery) → Receives old link n own (held_said reading.held)
      → Receives new link n own later
      → Says own reading (pieces_in n own old deed) (handed_by link (told_in deed)) later
  other-says deed other old new d reading later r q =
      says-none own reading (pieces_in n own old deed) (handed_by link (told_in deed)) later
      (no-transfer deed other old) (none-handed link (told_in deed) (deed-none deed other old new d))
      (by-same deed old new (held_in (live_at old.talk.sessions n) own.0)
      (held_in (live_at new.talk.sessions n) own.0) link
      (held_said reading.held) later (deed-goes deed other old new d n own.0)
      (receives-holds old link n own (held_said reading.held) r) (receives-holds new link n own later q))

  frame-says : (it : FrameBody) (limit channel : ℕ) (frames : List SessionFrame) (events : List Event)
      (old new : LinkedSessions)
      → IsDeed linked old (Takes limit (record { channel = channel; body = it }) frames events)
      new
      → (reading : Reading) (later : Option Delivery) → Receives old link n own (held_said reading.held)
      → Receives new link n own later → StandsAlone old link n own.0 → NoneResumes (piece_of old n own channel it)
      → Says own reading (piece_of old n own channel it) (handed_by link events) later
  frame-says (body.Transfer transfer payload) limit channel frames events old new d reading later r q alone none =
      heard-says old new (record { 0 = channel }) transfer payload frames events link n own reading later r q alone
      (heard-so old new (record { 0 = channel }) transfer payload frames events d.0) none
  frame-says it limit channel frames events old new d reading later r q alone none =
      other-says (Takes limit (record { channel = channel; body = it }) frames events) tt old new d reading later r q

  pub deed-says : (deed : Deed) (old new : LinkedSessions) → IsDeed linked old deed new → (reading : Reading)
      (later : Option Delivery) → Receives old link n own (held_said reading.held) → Receives new link n own later
      → StandsAlone old link n own.0 → NoneResumes (pieces_in n own old deed)
      → Says own reading (pieces_in n own old deed) (handed_by link (told_in deed)) later
  deed-says (Takes limit f frames events) old new d reading later r q alone none =
      frame-says f.body limit f.channel frames events old new d reading later r q alone none
  deed-says (Does limit it answer frames) old new d reading later r q alone none =
      other-says (Does limit it answer frames) tt old new d reading later r q
  deed-says (Queues it) old new d reading later r q alone none = other-says (Queues it) tt old new d reading later r q
  deed-says (Hears frame events) old new d reading later r q alone none =
      other-says (Hears frame events) tt old new d reading later r q
  deed-says (Refuses limit f error own_close) old new d reading later r q alone none =
      other-says (Refuses limit f error own_close) tt old new d reading later r q
  deed-says (Moves connection) old new d reading later r q alone none =
      other-says (Moves connection) tt old new d reading later r q
  deed-says Renews old new d reading later r q alone none = other-says Renews tt old new d reading later r q
  deed-says Closes old new d reading later r q alone none = other-says Closes tt old new d reading later r q
  deed-says Finishes old new d reading later r q alone none = other-says Finishes tt old new d reading later r q

  -- a link that holds that holds what is equal to it
  receives-as : (s : LinkedSessions) (held other : Option Delivery) → held ≡ other → IsReceiving s link n own held
      → IsReceiving s link n own other
  receives-as s held other is r =
      record { numbered = r.numbered; end = r.end; there = r.there; attached = r.attached; holds = r.holds ∙ is }

  -- what a link that receives stands by, where sessions and links agree
  pub record Stands (s : LinkedSessions) (held : Option Delivery) : Type 0 where
    pub receives : Receives s link n own held
    pub alone : StandsAlone s link n own.0

  -- one after the other, where what makes links stand so is kept
  module _ (Kept : LinkedSessions → Type 0)
      (stands : (s : LinkedSessions) (held : Option Delivery) → Kept s → IsReceiving s link n own held
      → Stands s held)
      (keeps : (deed : Deed) (old new : LinkedSessions) → IsDeed linked old deed new → (held : Option Delivery)
      → Kept old → IsReceiving old link n own held → Kept new) where
    pub deeds-say : (deeds : List Deed) (old new : LinkedSessions) (pieces : List Piece) (reading : Reading) → Kept old
        → IsReceiving old link n own (held_said reading.held) → ReachIn link n own old deeds new pieces
        → NoneResumes pieces
        → (map (handed_as own) (readings reading pieces).messages ≡
        map (handed_as own) reading.messages ++ handed_by link (told_by deeds))
        × IsReceiving new link n own (held_said (readings reading pieces).held)
    deeds-say [] old new pieces reading k r (same, is) none = (
      ap (λ (ps : List Piece). map (handed_as own) (readings reading ps).messages) is
          ∙ sym (append-nil (map (handed_as own) reading.messages)),
      subst (λ (s : LinkedSessions). IsReceiving s link n own (held_said (readings reading pieces).held)) (sym same)
          (receives-as old (held_said reading.held) (held_said (readings reading pieces).held)
          (sym (ap (λ (ps : List Piece). held_said (readings reading ps).held) is)) r),
    )
    deeds-say (deed ∷ deeds) old new pieces reading k r (mid, held, later, d, q, rest, is) none =
        let ps : List Piece = pieces_in n own old deed in
        let (first, more) = none-resume ps later (subst NoneResumes is none) in
        let was = stands old (held_said reading.held) k r in
        let kept = keeps deed old mid d (held_said reading.held) k r in
        let one =
        deed-says deed old mid d reading held was.receives (stands mid held kept q).receives was.alone first in
        let (messages, receives) =
        deeds-say deeds mid new later (readings reading ps) kept
        (receives-as mid held (held_said (readings reading ps).held) one.holds q) rest more in
        let same : readings reading pieces ≡ readings (readings reading ps) later =
        ap (λ (qs : List Piece). readings reading qs) is ∙ readings-both reading ps later in (
          ap (λ (x : Reading). map (handed_as own) x.messages) same ∙ messages
              ∙ ap (λ (hs : List Handed). hs ++ handed_by link (told_by deeds)) one.messages
              ∙ append_assoc (map (handed_as own) reading.messages) (handed_by link (told_in deed))
              (handed_by link (told_by deeds))
              ∙ ap (λ (hs : List Handed). map (handed_as own) reading.messages ++ hs)
              (sym (handed-both link (told_in deed) (told_by deeds))),
          receives-as new _ _ (sym (ap (λ (x : Reading). held_said x.held) same)) receives,
        )
