-- What passes in a session as its peer says something in it.
use Rattle.std.proofs.Common.{◌≡◌, ◌⊎◌, inl, inr, ℕ, Bool, true, false, List, [], ◌∷◌, ◌++◌, Option, Some, None}
use Rattle.std.proofs.Common.{Ok, Err, ap, append-nil, refl, sym, subst, ◌∙◌}
use Rattle.std.specs.Prelude.{if◌then◌else◌, option_to_list}
use Rattle.std.specs.Global.{Box}
use Rattle.std.proofs.lemmas.List.{map-append}
use Rattle.std.proofs.lemmas.Option.{none-some, same_Some}
use Rattle.amqp_session_types.specs.declared.channels.IncomingChannel.{IncomingChannel}
use Rattle.amqp_session_types.specs.declared.handles.OutputHandle.{OutputHandle}
use Rattle.amqp_session_types.specs.declared.refusals.SessionError.{SessionError}
use Rattle.amqp_session_types.specs.declared.refusals.SessionError.TheVariants.{IllegalState}
use Rattle.amqp_session_performatives.specs.declared.attach.Attach.{Attach}
use Rattle.amqp_session_performatives.specs.declared.begin.Begin.{Begin}
use Rattle.amqp_session_performatives.specs.declared.detach.Detach.{Detach}
use Rattle.amqp_session_performatives.specs.declared.disposition.Disposition.{Disposition}
use Rattle.amqp_session_performatives.specs.declared.end.End.{End}
use Rattle.amqp_session_performatives.specs.declared.session_frame.SessionFrame.{SessionFrame}
use Rattle.amqp_session_performatives.specs.declared.transfer.Transfer.{Transfer}
use Rattle.amqp_session_frames.specs.declared.frame.FrameBody.{FrameBody}
use Rattle.amqp_session_frames.specs.declared.frame.FrameBody.TheVariants as body
use Rattle.amqp_session_core.specs.Frames.{session_flow}
use Rattle.amqp_session_core.specs.State.{link_at, reached as link_reached}
use Rattle.amqp_session_core.specs.Told.{TransferAt}
use Rattle.amqp_session_core.specs.declared.fields.SessionFields.{SessionFields}
use Rattle.amqp_session_core.specs.declared.incoming.TransferTaken.{TransferTaken}
use Rattle.amqp_link_receiver.specs.declared.answer.Told.{Told}
use Rattle.amqp_link_receiver.specs.declared.answer.Told.TheVariants as told
use Rattle.amqp_endpoint_links.specs.declared.session.AskedSession.{AskedSession}
use Rattle.amqp_endpoint_attached.specs.Linked.{Linked, gives}
use Rattle.amqp_endpoint_links.specs.declared.asking.DetachTaken.TheVariants as detach_answer
use Rattle.amqp_endpoint_links.specs.declared.hearing.LinkPerformative.{LinkPerformative}
use Rattle.amqp_endpoint_links.specs.declared.hearing.LinkPerformative.TheVariants as said
use Rattle.amqp_endpoint_links.specs.declared.hearing.PerformativeTaken.TheVariants as taken
use Rattle.amqp_endpoint_tables.specs.State.{asked_at, live_at, live_of, reached, with_live}
use Rattle.amqp_endpoint_tables.specs.Steps.{ChangesLive, Step}
use Rattle.amqp_endpoint_tables.specs.declared.place.Place.TheVariants.{Asked, Live, Ending, Over}
use Rattle.amqp_endpoint_tables.proofs.Owning.{at}
use Rattle.amqp_endpoint_conversation.specs.declared.beginning.BeginHeard.{BeginHeard}
use Rattle.amqp_endpoint_conversation.specs.declared.beginning.BeginHeard.TheVariants as begin_heard
use Rattle.amqp_endpoint_conversation.specs.declared.beginning.BeginRefusal.TheVariants as begin_refused
use Rattle.amqp_endpoint_conversation.specs.declared.hearing.HearRefusal.TheVariants as refused
use Rattle.amqp_endpoint_conversation.specs.declared.hearing.Heard.TheVariants as heard
use Rattle.amqp_endpoint_conversation.specs.Beginning.{BeginAnswered}
use Rattle.amqp_endpoint_conversation.specs.Hearing.{Answered, AnsweredAt, AnsweredIn, AskedAnswered, LiveAnswered}
use Rattle.amqp_endpoint_conversation.specs.Hearing.{LiveFails}
use Rattle.amqp_endpoint_model.specs.declared.event.Event.{Event}
use Rattle.amqp_endpoint_linking.specs.Hearing.{HearsBegin, TakesEnd as EndTaken}
use Rattle.amqp_endpoint_linking.specs.Linking.{Links, Session, Sessions, Stood, Talk}
use Rattle.amqp_endpoint_link_hearing.specs.Attaching.{HearsAttach, HearsReady, opened_in}
use Rattle.amqp_endpoint_link_hearing.specs.Detaching as detaching
use Rattle.amqp_endpoint_link_hearing.specs.Disposing as disposing
use Rattle.amqp_endpoint_link_hearing.specs.Disposing.{runs_of}
use Rattle.amqp_endpoint_link_hearing.specs.Flowing.{HearsCredited, HearsFlow, LetsGo}
use Rattle.amqp_endpoint_link_hearing.specs.Heard.{attach_of, detach_of, session_of}
use Rattle.amqp_endpoint_link_hearing.specs.InSession.{GoesOn}
use Rattle.amqp_endpoint_link_hearing.specs.Saying.{LinkHeard}
use Rattle.amqp_endpoint_messages.specs.MadeReady.{MadeRoom}
use Rattle.amqp_endpoint_link_hearing.specs.Transferring as transferring
use Rattle.amqp_endpoint_link_hearing.specs.Transferring.{Comes, RemembersUnless, transfer_of}
use Rattle.amqp_endpoint_link_hearing.proofs.Inside.{closes-inside, leave-inside, remembers-inside, tells-echoes-inside}
use Rattle.amqp_endpoint_link_hearing.proofs.Inside.{tells-parts-inside, told-inside}
use Rattle.amqp_endpoint_link_hearing.proofs.Barrings.{refuses-by}
use Rattle.amqp_endpoint.specs.Hearing.{Hears as HearsFrame}
use Rattle.amqp_endpoint.specs.declared.linked.LinkedSessions.{LinkedSessions}
use Rattle.amqp_endpoint_laws.specs.Following.{comes, goes}
use Rattle.amqp_endpoint_laws.specs.Reading.{Goes, Wired}
use Rattle.amqp_endpoint_conversation.specs.Inside.{AreOn, Batches, DoneInside, accepted_of, said_in}
use Rattle.amqp_endpoint_conversation.specs.Windows.{body_said}
use Rattle.amqp_endpoint_conversation.proofs.Inside.{alike-inside, both-on, said-both}
use Rattle.amqp_endpoint_laws.specs.Passed.{begun_by, session_taking}
use Rattle.amqp_endpoint_laws.proofs.AskedCameInside.{behind-keeps, closes-keeps, echoes-keep, leave-keeps, parts-keep}
use Rattle.amqp_endpoint_laws.proofs.AskedCameInside.{remembers-keeps, told-keeps}
use Rattle.amqp_endpoint_laws.proofs.Behind.{FollowsBy, behind-inside, goes-so, room-behind}
use Rattle.amqp_endpoint_laws.proofs.BehindAttach.{Behind, Follows, becomes-behind, behind-gives-up, number_of}
use Rattle.amqp_endpoint_laws.proofs.BehindFlow.{Any, SendsOrNot, flow-sends, sends-behind}
use Rattle.amqp_endpoint_laws.proofs.FlowStays.{FlowStays, flow-stays}
use Rattle.amqp_endpoint_laws.proofs.PassedJudged.{live-begun}
use Rattle.amqp_endpoint_laws.proofs.PassedPlaces.{KeepsAsked, eq-same}
use Rattle.amqp_endpoint_laws.proofs.PassedWalk.{Walk}
use Rattle.amqp_session_performatives.specs.declared.flow.Flow.{Flow}
use Rattle.amqp_endpoint_laws.proofs.RoomMade.{RoomMade, room-made, room-reached}

-- frames by which no link says anything are to go in a session that goes on, on its channel
record Due (talk : Talk) (n : ℕ) (frames : List SessionFrame) : Type 0 where
  session : Session
  live : live_at talk.sessions n ≡ Some session
  free : said_in frames ≡ []
  on : AreOn session.value.session.fields.channel.0 frames

-- a Flow that is due is such
due-free : (due : Bool) (f : SessionFields) (number : ℕ)
    → said_in (option_to_list (if due then Some (session_flow f number) else None)) ≡ []
due-free true f number = refl
due-free false f number = refl

due-on : (due : Bool) (f : SessionFields) (number : ℕ)
    → AreOn (f.channel).0 (option_to_list (if due then Some (session_flow f number) else None))
due-on true f number = (refl, tt, tt)
due-on false f number = tt

-- the Flow of a session that a Transfer makes due
due-at-link : (it : Transfer) (payload : List ℕ) (o : Option ℕ) (before after : Linked) (t : TransferTaken Told)
    → TransferAt gives before.session it payload o (Ok t) after.session
    → (said_in (option_to_list t.flow) ≡ []) × AreOn after.session.fields.channel.0 (option_to_list t.flow)
due-at-link it payload None before after t h = absurd h
due-at-link it payload (Some handle) before after t h = (
  ap (λ (f : Option SessionFrame). said_in (option_to_list f)) ((h.stepped).2).told ∙ due-free _ _ _,
  subst (λ (f : Option SessionFrame). AreOn after.session.fields.channel.0 (option_to_list f))
      (sym ((h.stepped).2).told) (due-on _ after.session.fields _),
)

live-behind : (stood : Stood) (before after : Session) → live_of (Some stood) ≡ Some before
    → live_of (Some (with_live stood after)) ≡ Some after
live-behind (Live channel s) before after is = refl
live-behind (Asked channel a) before after is = absurd (none-some before is)
live-behind (Ending channel own_end) before after is = absurd (none-some before is)
live-behind (Over peer_end complete) before after is = absurd (none-some before is)

changed-live : (number : ℕ) (before after : Session) (old new : Sessions)
    → Step old (ChangesLive number before after) new → live_at new number ≡ Some after
changed-live number before after old new s =
    let (stood, was, lives, becomes) =
    (at number old (ChangesLive number before after) new s).about (eq-same number) in
    ap live_of becomes ∙ live-behind stood before after lives

due-live : (it : Transfer) (payload : List ℕ) (old : Talk) (number n : ℕ) (before : Session) (t : TransferTaken Told)
    (frames : List SessionFrame) (new : Talk)
    → LiveAnswered gives old [] number before (said.Transfer it payload) (Ok (heard.Live n (taken.Transfer t))) new
    frames → Due new n (option_to_list t.flow)
due-live it payload old number n before t frames new (same, l) =
    let (free, on) =
    due-at-link it payload (link_reached before.value.session it.handle.0) before.value l.after.value t
    (((l.hears).heard).0).0 in
    subst (λ (k : ℕ). Due new k (option_to_list t.flow)) (sym same)
    (record {
      session = l.after;
      live = changed-live number before l.after old.sessions new.sessions (l.hears).stepped;
      free = free;
      on = on;
    })

due-at : (asked : Option (Box AskedSession)) (live : Option Session) (it : Transfer) (payload : List ℕ) (old : Talk)
    (number n : ℕ) (t : TransferTaken Told) (frames : List SessionFrame) (new : Talk)
    → AnsweredAt gives asked live old [] number (said.Transfer it payload) (Ok (heard.Live n (taken.Transfer t))) new
    frames → Due new n (option_to_list t.flow)
due-at (Some asked) live it payload old number n t frames new a = absurd a.0
due-at None (Some before) it payload old number n t frames new a =
    due-live it payload old number n before t frames new a
due-at None None it payload old number n t frames new (is, same, none) = let clash = is in absurd cc

due-in : (number : Option ℕ) (it : Transfer) (payload : List ℕ) (old : Talk) (n : ℕ) (t : TransferTaken Told)
    (frames : List SessionFrame) (new : Talk)
    → AnsweredIn gives number old [] (said.Transfer it payload) (Ok (heard.Live n (taken.Transfer t))) new frames
    → Due new n (option_to_list t.flow)
due-in None it payload old n t frames new (wrong, same, none) = let clash = wrong in absurd cc
due-in (Some number) it payload old n t frames new a = due-at _ _ it payload old number n t frames new a

-- frames behind others
pub behind-others : (frames more : List SessionFrame) → goes (frames ++ more) ≡ goes frames ++ goes more
behind-others frames more = map-append Goes frames more

-- they go behind what is done inside of a session
module _ (old new : Linked) (frames more : List SessionFrame) where
  more-inside : said_in more ≡ [] → AreOn old.session.fields.channel.0 more
      → DoneInside gives old.session frames new.session → DoneInside gives old.session (frames ++ more) new.session
  more-inside free on d =
      alike-inside gives old.session new.session frames (frames ++ more)
      (said-both frames more ∙ ap (λ (fs : List SessionFrame). said_in frames ++ fs) free
      ∙ append-nil (said_in frames))
      (both-on old.session.fields.channel.0 frames more d.on on) d

-- a frame by which messages may be sent on
abbrev pub IsFlow : FrameBody → Type 0
IsFlow (body.Flow flow) = Unit {0}
IsFlow it = ⊥

module _ {Allows : Batches → Type 0} (P : ℕ → List Wired → Talk → Talk → Type 0)
    (Q : Option ℕ → List Wired → Talk → Talk → Type 0) (w : Walk Allows P Q) where
  -- what the session that a channel reaches hears passes there
  pub record HeardThere (old : Talk) (channel : ℕ) (it : FrameBody) (session : ℕ) (frames : List SessionFrame)
      (new : Talk)
      : Type 0 where
    pub reaches : reached old.sessions channel ≡ Some session
    pub passed : P session (comes channel it ∷ goes frames) old new

  module _ (old : Talk) (channel : ℕ) (it : LinkPerformative) where
    abbrev There : ℕ → List SessionFrame → Talk → Type 0
    There session frames new = HeardThere old channel (body_said it) session frames new

    silently : (number : ℕ) (frames : List SessionFrame) (new : Talk) → frames ≡ []
        → P number (comes channel (body_said it) ∷ []) old new
        → P number (comes channel (body_said it) ∷ goes frames) old new
    silently number frames new none p =
        subst (λ (fs : List SessionFrame). P number (comes channel (body_said it) ∷ goes fs) old new) (sym none) p

    asked-ok : (number : ℕ) (before : Box AskedSession) (h : LinkHeard) (frames : List SessionFrame) (new : Talk)
        → reached old.sessions channel ≡ Some number → frames ≡ [] → AskedAnswered old number before it (Ok h) new
        → There (number_of h) frames new
    asked-ok number before (heard.Asked n) frames new reaches none (same, t) =
        subst (λ (k : ℕ). There k frames new) (sym same)
        (record {
          reaches = reaches;
          passed = silently number frames new none (w.asked number channel it before old new reaches t);
        })
    asked-ok number before (heard.Live n told_so) frames new reaches none a = absurd a
    asked-ok number before (heard.Dropped n) frames new reaches none a = absurd a

    live-ok : (number : ℕ) (before : Session) (h : LinkHeard) (frames : List SessionFrame) (new : Talk)
        → reached old.sessions channel ≡ Some number → LiveAnswered gives old [] number before it (Ok h) new frames
        → There (number_of h) frames new
    live-ok number before (heard.Live n told_so) frames new reaches (same, t) =
        subst (λ (k : ℕ). There k frames new) (sym same)
        (record {
          reaches = reaches;
          passed = w.hears number channel it told_so frames before t.after old new reaches t.hears t.rest;
        })
    live-ok number before (heard.Asked n) frames new reaches a = absurd a
    live-ok number before (heard.Dropped n) frames new reaches a = absurd a

    dropped-ok : (number : ℕ) (h : LinkHeard) (frames : List SessionFrame) (new : Talk)
        → asked_at old.sessions number ≡ None → live_at old.sessions number ≡ None
        → reached old.sessions channel ≡ Some number → h ≡ heard.Dropped number → new ≡ old → frames ≡ []
        → There (number_of h) frames new
    dropped-ok number h frames new asked live reaches is same none =
        subst (λ (k : LinkHeard). There (number_of k) frames new) (sym is)
        (record {
          reaches = reaches;
          passed =
              silently number frames new none
              (subst (λ (t : Talk). P number (comes channel (body_said it) ∷ []) old t) (sym same)
              (w.unheard number channel it old reaches asked live));
        })

    ok-at : (asked : Option (Box AskedSession)) (live : Option Session) (number : ℕ) (h : LinkHeard)
        (frames : List SessionFrame) (new : Talk) → asked_at old.sessions number ≡ asked
        → live_at old.sessions number ≡ live → reached old.sessions channel ≡ Some number
        → AnsweredAt gives asked live old [] number it (Ok h) new frames → There (number_of h) frames new
    ok-at (Some asked) live number h frames new a l reaches (t, none) =
        asked-ok number asked h frames new reaches none t
    ok-at None (Some session) number h frames new a l reaches t = live-ok number session h frames new reaches t
    ok-at None None number h frames new a l reaches (is, same, none) =
        dropped-ok number h frames new a l reaches (let at : h ≡ heard.Dropped number = cc in at) same none

    ok-in : (number : Option ℕ) (h : LinkHeard) (frames : List SessionFrame) (new : Talk)
        → reached old.sessions channel ≡ number → AnsweredIn gives number old [] it (Ok h) new frames
        → There (number_of h) frames new
    ok-in None h frames new reaches (wrong, same, none) = let clash = wrong in absurd cc
    ok-in (Some number) h frames new reaches t = ok-at _ _ number h frames new refl refl reaches t

    -- it ends by its fault
    live-fails : (number n : ℕ) (before : Session) (fault : SessionError) (session : Session)
        (frames : List SessionFrame) (new : Talk) → reached old.sessions channel ≡ Some number → n ≡ number
        → LiveFails gives old [] number before it fault session new frames → There n frames new
    live-fails number n before fault session frames new reaches same f =
        subst (λ (k : ℕ). There k frames new) (sym same)
        (record {
          reaches = reaches;
          passed = w.fails number channel it fault frames before session old new reaches f;
        })

    fails-at : (asked : Option (Box AskedSession)) (live : Option Session) (number n : ℕ) (fault : SessionError)
        (session : Session) (frames : List SessionFrame) (new : Talk) → reached old.sessions channel ≡ Some number
        → AnsweredAt gives asked live old [] number it (Err (refused.Session n fault session)) new frames
        → There n frames new
    fails-at (Some asked) live number n fault session frames new reaches t = absurd t.0
    fails-at None (Some before) number n fault session frames new reaches (same, f) =
        live-fails number n before fault session frames new reaches same f
    fails-at None None number n fault session frames new reaches (is, same, none) = let clash = is in absurd cc

    fails-in : (number : Option ℕ) (n : ℕ) (fault : SessionError) (session : Session) (frames : List SessionFrame)
        (new : Talk) → reached old.sessions channel ≡ number
        → AnsweredIn gives number old [] it (Err (refused.Session n fault session)) new frames → There n frames new
    fails-in None n fault session frames new reaches (wrong, same, none) = let clash = wrong in absurd cc
    fails-in (Some number) n fault session frames new reaches t =
        fails-at _ _ number n fault session frames new reaches t

  module _ (old : Talk) (channel : IncomingChannel) (it : LinkPerformative) where
    pub heard-ok : (h : LinkHeard) (frames : List SessionFrame) (new : Talk)
        → Answered gives old [] channel it (Ok h) new frames
        → HeardThere old channel.0 (body_said it) (number_of h) frames new
    heard-ok h frames new t = ok-in old channel.0 it (reached old.sessions channel.0) h frames new refl t

    pub heard-fails : (n : ℕ) (fault : SessionError) (session : Session) (frames : List SessionFrame) (new : Talk)
        → Answered gives old [] channel it (Err (refused.Session n fault session)) new frames
        → HeardThere old channel.0 (body_said it) n frames new
    heard-fails n fault session frames new t =
        fails-in old channel.0 it (reached old.sessions channel.0) n fault session frames new refl t

  -- what comes of it in the session
  goes-passed : (Does : Linked → Linked → Type 0) (old : Talk) (session : ℕ) (new : Talk) (frames : List SessionFrame)
      → ((before after : Linked) → Does before after → DoneInside gives before.session frames after.session)
      → ((before after : Linked) → Does before after → KeepsAsked before after)
      → GoesOn Does old session new → P session (goes frames) old new
  goes-passed Does old session new frames inside keeps g =
      w.inside session [] frames g.before g.after old new (w.quiet [] tt) g.stepped g.rest
      (inside g.before.value g.after.value g.done) (keeps g.before.value g.after.value g.done)

  -- and what is due goes behind it
  due-passed : (Does : Linked → Linked → Type 0) (old : Talk) (session : ℕ) (new : Talk)
      (frames more : List SessionFrame) → Due old session more
      → ((before after : Linked) → Does before after → DoneInside gives before.session frames after.session)
      → ((before after : Linked) → Does before after → KeepsAsked before after)
      → GoesOn Does old session new → P session (goes (frames ++ more)) old new
  due-passed Does old session new frames more due inside keeps g =
      let same : due.session ≡ g.before = same_Some due.session g.before (sym due.live ∙ (g.stepped).0) in
      w.inside session [] (frames ++ more) g.before g.after old new (w.quiet [] tt) g.stepped g.rest
      (more-inside g.before.value g.after.value frames more due.free
      (subst (λ (s : Session). AreOn s.value.session.fields.channel.0 more) same due.on)
      (inside g.before.value g.after.value g.done))
      (keeps g.before.value g.after.value g.done)

  alone-passed : (session : ℕ) (old new : Talk) (frames more : List SessionFrame) → Due old session more → frames ≡ []
      → new ≡ old → P session (goes (frames ++ more)) old new
  alone-passed session old new frames more due none same =
      subst (λ (fs : List SessionFrame). P session (goes (fs ++ more)) old new) (sym none)
      (subst (λ (t : Talk). P session (goes more) old t) (sym same)
      (w.free session more due.session old due.live due.free due.on))

  silent-passed : (m : ℕ) (frames : List SessionFrame) (old new : Talk) → frames ≡ [] → P m [] old new
      → P m (goes frames) old new
  silent-passed m frames old new none p =
      subst (λ (fs : List SessionFrame). P m (goes fs) old new) (sym none) p

  nothing-passed : (m : ℕ) (frames : List SessionFrame) (old new : Talk) → frames ≡ [] → new ≡ old
      → P m (goes frames) old new
  nothing-passed m frames old new none same = silent-passed m frames old new none (w.none m old new same)

  -- an Attach, behind which a link goes on
  behind-passed : (old : Talk) (session : ℕ) (new : Talk) (frames : List SessionFrame)
      → GoesOn (Behind frames) old session new → P session (goes frames) old new
  behind-passed old session new frames g =
      let before : Linked = g.before.value in
      let after : Linked = g.after.value in
      let done = g.done.done in
      w.inside session (accepted_of done.steps) frames g.before g.after old new
      (w.quiet (accepted_of done.steps) (behind-gives-up before.session frames after.session done)) g.stepped g.rest
      (behind-inside before.session frames after.session done) (behind-keeps frames before after g.done)

  attach-follows : (it : LinkHeard) (frames : List SessionFrame) (old new : Talk) → Follows it frames old new
      → P (number_of it) (goes frames) old new
  attach-follows it frames old new (inl (none, same)) = nothing-passed (number_of it) frames old new none same
  attach-follows it frames old new (inr g) = behind-passed old (number_of it) new frames g

  -- a Flow lets links leave
  flow-comes : (h : LinkHeard) (frames : List SessionFrame) (mid new : Talk) (links links_new : Links)
      → LetsGo (session_of h) frames mid links new links_new → P (number_of h) [] mid new
  flow-comes (heard.Asked n) frames mid new links links_new l = w.none n mid new l.0
  flow-comes (heard.Dropped n) frames mid new links links_new l = w.none n mid new l.0
  flow-comes (heard.Live n told_so) frames mid new links links_new g =
      goes-passed _ mid n new [] (λ a b l. leave-inside frames a links b links_new l)
      (λ a b l. leave-keeps frames a links b links_new l) g

  -- a Transfer, behind which a Flow may be due
  remembered : (settled : Bool) (handle : OutputHandle) (tag : List ℕ) (number : ℕ) (old : Talk) (session : ℕ)
      (new : Talk) (frames more : List SessionFrame) → Due old session more → frames ≡ []
      → RemembersUnless settled handle tag number old session new → P session (goes (frames ++ more)) old new
  remembered true handle tag number old session new frames more due none same =
      alone-passed session old new frames more due none same
  remembered false handle tag number old session new frames more due none g =
      subst (λ (fs : List SessionFrame). P session (goes (fs ++ more)) old new) (sym none)
      (due-passed _ old session new [] more due (λ a b r. remembers-inside handle tag number a b r)
      (λ a b r. remembers-keeps handle tag number a b r) g)

  transfer-tells : (it_told : Told) (old mid new : Talk) (given session : ℕ) (it : Transfer)
      (frames more : List SessionFrame) (events : List Event) (given_new : ℕ) → Due mid session more
      → Comes it_told old given it session mid frames events new given_new → P session (goes (frames ++ more)) mid new
  transfer-tells (told.Message message) old mid new given session it frames more events given_new due c =
      remembered message.settled c.handle message.delivery_tag given mid session new frames more due c.silent
      c.remembers
  transfer-tells (told.Refused error) old mid new given session it frames more events given_new due (c, g) =
      due-passed _ mid session new frames more due (λ a b d. closes-inside _ c.handle frames a b d)
      (λ a b d. closes-keeps _ c.handle frames a b d) c.closes
  transfer-tells other old mid new given session it frames more events given_new due c =
      alone-passed session mid new frames more due c.silent c.stays

  module _ (old : Talk) (channel : IncomingChannel) (it : Transfer) (payload : List ℕ) (mid new : Talk) (given : ℕ)
      (frames : List SessionFrame) (events : List Event) (given_new : ℕ) where
    transfer-comes : (h : LinkHeard) → Answered gives old [] channel (said.Transfer it payload) (Ok h) mid []
        → transferring.Becomes (transfer_of h) old given it mid frames events new given_new
        → P (number_of h) (goes frames) mid new
    transfer-comes (heard.Live n (taken.Transfer t)) a b =
        subst (λ (fs : List SessionFrame). P n (goes fs) mid new) (sym b.sent)
        (transfer-tells t.told old mid new given n it b.own (option_to_list t.flow) events given_new
        (due-in (reached old.sessions channel.0) it payload old n t [] mid a) b.comes)
    transfer-comes (heard.Asked n) a c = nothing-passed n frames mid new c.silent c.stays
    transfer-comes (heard.Dropped n) a c = nothing-passed n frames mid new c.silent c.stays
    transfer-comes (heard.Live n (taken.Attach t)) a c = nothing-passed n frames mid new c.silent c.stays
    transfer-comes (heard.Live n taken.Flow) a c = nothing-passed n frames mid new c.silent c.stays
    transfer-comes (heard.Live n (taken.Disposition back runs)) a c = nothing-passed n frames mid new c.silent c.stays
    transfer-comes (heard.Live n (taken.Detach t)) a c = nothing-passed n frames mid new c.silent c.stays

  -- one thing after another
  both-pass : (m : ℕ) (frames more : List SessionFrame) (old mid new : Talk) → P m (goes frames) old mid
      → P m (goes more) mid new → P m (goes (frames ++ more)) old new
  both-pass m frames more old mid new a b =
      subst (λ (ws : List Wired). P m ws old new) (sym (behind-others frames more))
      (w.on m (goes frames) (goes more) old mid new a b)

  -- a Disposition
  disposition-comes : (h : LinkHeard) (limit : ℕ) (old mid new : Talk) (it : Disposition) (frames : List SessionFrame)
      (events : List Event) → disposing.Follows (runs_of h) limit old it mid frames events new
      → P (number_of h) (goes frames) mid new
  disposition-comes (heard.Live n (taken.Disposition back runs)) limit old mid new it frames events d =
      let t = d.done in
      subst (λ (fs : List SessionFrame). P n (goes fs) mid new) (sym t.frames_are)
      (both-pass n t.sent t.closed mid t.mid new
      (goes-passed _ mid n t.mid t.sent (λ a b e. tells-echoes-inside d.deliveries _ _ t.sent t.told a b e)
      (λ a b e. echoes-keep d.deliveries _ _ t.sent t.told a b e) t.echoes)
      (refuses-by (λ fs a b. P n (goes fs) a b) n (λ a b same. nothing-passed n [] a b refl same)
      (λ fs more a b c x y. both-pass n fs more a b c x y)
      (λ handle fs a b g. goes-passed _ a n b fs (λ x y c. closes-inside _ handle fs x y c)
      (λ x y c. closes-keeps _ handle fs x y c) g)
      (λ count handle a b g. goes-passed _ a n b []
      (λ x y s. told-inside count handle (link_at x.session handle.0) x.session y.session s.tells)
      (λ x y s. told-keeps count handle x y s) g)
      _ d.deliveries _ t.mid new t.closed t.ended t.refuses))
  disposition-comes (heard.Asked n) limit old mid new it frames events r =
      nothing-passed n frames mid new r.silent r.stays
  disposition-comes (heard.Dropped n) limit old mid new it frames events r =
      nothing-passed n frames mid new r.silent r.stays
  disposition-comes (heard.Live n (taken.Attach t)) limit old mid new it frames events r =
      nothing-passed n frames mid new r.silent r.stays
  disposition-comes (heard.Live n taken.Flow) limit old mid new it frames events r =
      nothing-passed n frames mid new r.silent r.stays
  disposition-comes (heard.Live n (taken.Transfer t)) limit old mid new it frames events r =
      nothing-passed n frames mid new r.silent r.stays
  disposition-comes (heard.Live n (taken.Detach t)) limit old mid new it frames events r =
      nothing-passed n frames mid new r.silent r.stays

  -- a Detach
  detach-comes : (h : LinkHeard) (limit : ℕ) (old mid new : Talk) (links links_new : Links) (it : Detach)
      (frames : List SessionFrame) (events : List Event)
      → detaching.Becomes (detach_of h) limit old links it mid frames events new links_new
      → P (number_of h) (goes frames) mid new
  detach-comes (heard.Live n (taken.Detach (detach_answer.ByLink told_so))) limit old mid new links links_new it frames
      events b =
      goes-passed _ mid n new frames (λ a c t. tells-parts-inside _ b.handle _ _ _ b.left frames a c t)
      (λ a c t. parts-keep _ b.handle _ _ _ b.left frames a c t) b.parts
  detach-comes (heard.Live n (taken.Detach detach_answer.Withdrawn)) limit old mid new links links_new it frames
      events w =
      nothing-passed n frames mid new w.silent w.stays
  detach-comes (heard.Asked n) limit old mid new links links_new it frames events w =
      nothing-passed n frames mid new w.silent w.stays
  detach-comes (heard.Dropped n) limit old mid new links links_new it frames events w =
      nothing-passed n frames mid new w.silent w.stays
  detach-comes (heard.Live n (taken.Attach t)) limit old mid new links links_new it frames events w =
      nothing-passed n frames mid new w.silent w.stays
  detach-comes (heard.Live n taken.Flow) limit old mid new links links_new it frames events w =
      nothing-passed n frames mid new w.silent w.stays
  detach-comes (heard.Live n (taken.Transfer t)) limit old mid new links links_new it frames events w =
      nothing-passed n frames mid new w.silent w.stays
  detach-comes (heard.Live n (taken.Disposition back runs)) limit old mid new links links_new it frames events w =
      nothing-passed n frames mid new w.silent w.stays

  -- first it is heard, and then something comes of it
  there-on : (old : Talk) (channel : ℕ) (it : FrameBody) (session : ℕ) (frames more : List SessionFrame)
      (mid new : Talk)
      → HeardThere old channel it session frames mid → P session (goes more) mid new
      → HeardThere old channel it session (frames ++ more) new
  there-on old channel it session frames more mid new h p =
      record {
        reaches = h.reaches;
        passed =
            subst (λ (ws : List Wired). P session (comes channel it ∷ ws) old new) (sym (behind-others frames more))
            (w.on session (comes channel it ∷ goes frames) (goes more) old mid new h.passed p);
      }

  taken-there : (old : Talk) (channel : ℕ) (it : FrameBody) (session : ℕ) (frames : List SessionFrame) (new : Talk)
      → HeardThere old channel it session frames new
      → Q (reached old.sessions channel) (comes channel it ∷ goes frames) old new
  taken-there old channel it session frames new h =
      subst (λ (o : Option ℕ). Q o (comes channel it ∷ goes frames) old new) (sym h.reaches)
      (w.at session (comes channel it ∷ goes frames) old new h.passed)

  -- room is made before an Attach is heard
  room-passed : (old : Talk) (channel : IncomingChannel) (ready : Talk) (session : ℕ) → RoomMade old channel ready
      → reached old.sessions channel.0 ≡ Some session → P session [] old ready
  room-passed old channel ready session (inl same) reaches = w.none session old ready same
  room-passed old channel ready session (inr m) reaches =
      subst (λ (n : ℕ). P n [] old ready) (same_Some m.number session (sym m.reaches ∙ reaches))
      (behind-passed old m.number ready []
      (goes-so MadeRoom (Behind []) (λ a b r. room-behind a b r) old m.number ready m.made))

  room-there : (old : Talk) (channel : IncomingChannel) (ready : Talk) (it : FrameBody) (session : ℕ)
      (frames : List SessionFrame) (new : Talk) → RoomMade old channel ready
      → HeardThere ready channel.0 it session frames new → HeardThere old channel.0 it session frames new
  room-there old channel ready it session frames new made h =
      let reaches : reached old.sessions channel.0 ≡ Some session =
      sym (room-reached old channel ready made channel.0) ∙ h.reaches in
      record {
        reaches = reaches;
        passed =
            w.on session [] (comes channel.0 it ∷ goes frames) old ready new
            (room-passed old channel ready session made reaches) h.passed;
      }

  attach-heard : (old : Talk) (links : Links) (limit : ℕ) (channel : IncomingChannel) (attach : Attach)
      (frames : List SessionFrame) (events : List Event) (new : Talk) (links_new : Links)
      → HearsAttach old links limit channel attach frames events new links_new
      → Q (reached old.sessions channel.0) (comes channel.0 (body.Attach attach) ∷ goes frames) old new
  attach-heard old links limit channel attach frames events new links_new a = by a.hears
    where
      made : RoomMade old channel a.ready
      made = room-made a.named old channel a.ready a.makes_room

      so : (session : ℕ) → HeardThere a.ready channel.0 (body.Attach attach) session frames new
          → Q (reached old.sessions channel.0) (comes channel.0 (body.Attach attach) ∷ goes frames) old new
      so session h =
          taken-there old channel.0 (body.Attach attach) session frames new
          (room-there old channel a.ready (body.Attach attach) session frames new made h)

      by : HearsReady a.named a.ready links limit channel attach frames events new links_new
          → Q (reached old.sessions channel.0) (comes channel.0 (body.Attach attach) ∷ goes frames) old new
      by (inl t) =
          so (number_of t.heard)
          (there-on a.ready channel.0 (body.Attach attach) (number_of t.heard) [] frames t.mid new
          (heard-ok a.ready channel (said.Attach attach a.named) t.heard [] t.mid t.answered)
          (attach-follows t.heard frames t.mid new
          (becomes-behind limit (opened_in a.ready (attach_of t.heard) a.named) t.heard a.named t.mid attach frames
          events new t.becomes)))
      by (inr f) =
          so f.number
          (heard-fails a.ready channel (said.Attach attach a.named) f.number f.fault f.session frames new f.answered)

  -- the peer's Begin
  module _ (old : Talk) (channel : IncomingChannel) (begin : Begin) (frames : List SessionFrame) (new : Talk) where
    abbrev TakenBegin : Type 0
    TakenBegin =
        Q (begun_by old.sessions begin.remote_channel) (comes channel.0 (body.Begin begin) ∷ goes frames) old new

    begin-passed : (number : ℕ) → P number (comes channel.0 (body.Begin begin) ∷ goes frames) old new
        → begun_by old.sessions begin.remote_channel ≡ Some number → TakenBegin
    begin-passed number p is =
        subst (λ (o : Option ℕ). Q o (comes channel.0 (body.Begin begin) ∷ goes frames) old new) (sym is)
        (w.at number (comes channel.0 (body.Begin begin) ∷ goes frames) old new p)

    begin-ok : (h : BeginHeard) → BeginAnswered gives old [] channel begin (Ok h) new frames → TakenBegin
    begin-ok (begin_heard.Asked number) (a, none) =
        begin-passed number
        (subst (λ (fs : List SessionFrame). P number (comes channel.0 (body.Begin begin) ∷ goes fs) old new) (sym none)
        (w.asks channel begin number old new a))
        (ap (begun_by old.sessions) a.names_none ∙ ap Some (sym (a.stepped).1))
    begin-ok (begin_heard.Begun number) b =
        begin-passed number (w.begun channel begin number frames old new b)
        (live-begun old channel begin number b.mid b.takes.before b.led ((b.takes).stepped).0)
    begin-ok begin_heard.Dropped (d, none) =
        subst
        (λ (fs : List SessionFrame).
        Q (begun_by old.sessions begin.remote_channel) (comes channel.0 (body.Begin begin) ∷ goes fs) old new)
        (sym none) (w.dropped channel begin old new d)

    begin-heard : (links links_new : Links) (events : List Event)
        → HearsBegin old links channel begin frames events new links_new → TakenBegin
    begin-heard links links_new events (inl t) = begin-ok t.heard t.answered
    begin-heard links links_new events (inr f) = by f.fault f.refused
      where
        by : (fault : SessionError)
            → BeginAnswered gives old [] channel begin (Err (begin_refused.Session f.number fault)) f.mid []
            → TakenBegin
        by IllegalState (b, none) =
            begin-passed f.number
            (w.barred channel begin f.number _ f.fails.session frames old f.mid new b f.fails.ends)
            (live-begun old channel begin f.number f.mid.sessions b.session b.led b.live)
        by e r = absurd r

  end-heard : (old : Talk) (links : Links) (channel : IncomingChannel) (end : End) (frames : List SessionFrame)
      (events : List Event) (new : Talk) (links_new : Links)
      → EndTaken old links channel end frames events new links_new
      → Q (reached old.sessions channel.0) (comes channel.0 (body.End end) ∷ goes frames) old new
  end-heard old links channel end frames events new links_new t =
      taken-there old channel.0 (body.End end) t.heard.number frames new
      (record {
        reaches = ((t.answered).stepped).0;
        passed = w.ended channel end t.heard frames old new t.answered;
      })

  -- a Flow, behind which a link may send messages on
  flow-follows : (number : ℕ) (frames : List SessionFrame) (old new : Talk)
      → ((accepted : Batches) → Allows accepted) → FollowsBy Any number frames old new
      → P number (goes frames) old new
  flow-follows number frames old new may (inl (none, same)) = nothing-passed number frames old new none same
  flow-follows number frames old new may (inr g) =
      let before : Linked = g.before.value in
      let after : Linked = g.after.value in
      let done = g.done.done in
      w.inside number (accepted_of done.steps) frames g.before g.after old new (may (accepted_of done.steps)) g.stepped
      g.rest (behind-inside before.session frames after.session done) (behind-keeps frames before after g.done)

  -- what the session that heard it does before that, with what passes
  pub record FlowThere (old : Talk) (limit : ℕ) (channel : IncomingChannel) (flow : Flow) (frames : List SessionFrame)
      (new : Talk) : Type 0 where
    pub heard : LinkHeard
    pub first : List SessionFrame
    pub left : Talk
    pub there : HeardThere old channel.0 (body.Flow flow) (number_of heard) first left
    pub behind : List SessionFrame
    pub sends : SendsOrNot limit (number_of heard) flow.handle left behind new
    pub stays : FlowStays old channel flow left (number_of heard)
    pub frames_are : frames ≡ first ++ behind

  -- or it ends by its fault
  abbrev pub FlowParts : Talk → ℕ → IncomingChannel → Flow → List SessionFrame → Talk → Type 0
  FlowParts old limit channel flow frames new =
      FlowThere old limit channel flow frames new
      ⊎ ((session : ℕ) × HeardThere old channel.0 (body.Flow flow) session frames new)

  pub flow-parts : (old : Talk) (links : Links) (limit : ℕ) (channel : IncomingChannel) (flow : Flow)
      (frames : List SessionFrame) (events : List Event) (new : Talk) (links_new : Links)
      → HearsFlow old links limit channel flow frames events new links_new
      → FlowParts old limit channel flow frames new
  flow-parts old links limit channel flow frames events new links_new h = by h.hears
    where
      by : HearsCredited h.ready links limit channel flow frames events new links_new
          → FlowParts old limit channel flow frames new
      by (inl t) =
          let n : ℕ = number_of t.heard in
          let first : HeardThere h.ready channel.0 (body.Flow flow) n (t.first ++ []) t.left =
          there-on h.ready channel.0 (body.Flow flow) n t.first [] t.mid t.left
          (heard-ok h.ready channel (said.Flow flow) t.heard t.first t.mid t.answered)
          (flow-comes t.heard t.first t.mid t.left links links_new t.leave) in
          inl (record {
            heard = t.heard;
            first = t.first;
            left = t.left;
            there =
                room-there old channel h.ready (body.Flow flow) n t.first t.left h.makes_room
                (subst (λ (fs : List SessionFrame). HeardThere h.ready channel.0 (body.Flow flow) n fs t.left)
                (append-nil t.first) first);
            behind = t.behind;
            sends = flow-sends limit t.heard flow.handle t.left t.behind events new t.sends_on;
            stays =
                flow-stays old links channel flow h.ready h.makes_room t.heard t.first t.mid t.answered t.left
                links_new t.leave;
            frames_are = t.frames_are;
          })
      by (inr f) =
          inr (
            f.number,
            room-there old channel h.ready (body.Flow flow) f.number frames new h.makes_room
                (heard-fails h.ready channel (said.Flow flow) f.number f.fault f.session frames new f.answered),
          )

  flow-heard : (old : Talk) (links : Links) (limit : ℕ) (channel : IncomingChannel) (flow : Flow)
      (frames : List SessionFrame) (events : List Event) (new : Talk) (links_new : Links)
      → ((accepted : Batches) → Allows accepted) → HearsFlow old links limit channel flow frames events new links_new
      → Q (reached old.sessions channel.0) (comes channel.0 (body.Flow flow) ∷ goes frames) old new
  flow-heard old links limit channel flow frames events new links_new may h =
      by (flow-parts old links limit channel flow frames events new links_new h)
    where
      by : FlowParts old limit channel flow frames new
          → Q (reached old.sessions channel.0) (comes channel.0 (body.Flow flow) ∷ goes frames) old new
      by (inl t) =
          let n : ℕ = number_of t.heard in
          taken-there old channel.0 (body.Flow flow) n frames new
          (subst (λ (fs : List SessionFrame). HeardThere old channel.0 (body.Flow flow) n fs new) (sym t.frames_are)
          (there-on old channel.0 (body.Flow flow) n t.first t.behind t.left new t.there
          (flow-follows n t.behind t.left new may (sends-behind limit n flow.handle t.left t.behind new t.sends))))
      by (inr (session, there)) = taken-there old channel.0 (body.Flow flow) session frames new there

  -- whatever the peer says
  pub frame-heard : (it : FrameBody) (old new : LinkedSessions) (limit : ℕ) (channel : IncomingChannel)
      (frames : List SessionFrame) (events : List Event) → (IsFlow it → (accepted : Batches) → Allows accepted)
      → HearsFrame old.talk old.links old.given limit channel it frames events new.talk new.links new.given
      → Q (session_taking old channel.0 it) (comes channel.0 it ∷ goes frames) old.talk new.talk
  frame-heard (body.Begin begin) old new limit channel frames events may (b, g) =
      begin-heard old.talk channel begin frames new.talk old.links new.links events b
  frame-heard (body.Attach attach) old new limit channel frames events may (a, g) =
      attach-heard old.talk old.links limit channel attach frames events new.talk new.links a
  frame-heard (body.Flow flow) old new limit channel frames events may (h, g) =
      flow-heard old.talk old.links limit channel flow frames events new.talk new.links (may tt) h
  frame-heard (body.Transfer transfer payload) old new limit channel frames events may (inl t) =
      taken-there old.talk channel.0 (body.Transfer transfer payload) (number_of t.heard) frames new.talk
      (there-on old.talk channel.0 (body.Transfer transfer payload) (number_of t.heard) [] frames t.mid new.talk
      (heard-ok old.talk channel (said.Transfer transfer payload) t.heard [] t.mid t.answered)
      (transfer-comes old.talk channel transfer payload t.mid new.talk old.given frames events new.given t.heard
      t.answered t.becomes))
  frame-heard (body.Transfer transfer payload) old new limit channel frames events may (inr f) =
      taken-there old.talk channel.0 (body.Transfer transfer payload) f.fails.number frames new.talk
      (heard-fails old.talk channel (said.Transfer transfer payload) f.fails.number f.fails.fault f.fails.session frames
      new.talk f.fails.answered)
  frame-heard (body.Disposition disposition) old new limit channel frames events may (inl t, g) =
      taken-there old.talk channel.0 (body.Disposition disposition) (number_of t.heard) frames new.talk
      (there-on old.talk channel.0 (body.Disposition disposition) (number_of t.heard) [] frames t.mid new.talk
      (heard-ok old.talk channel (said.Disposition disposition) t.heard [] t.mid t.answered)
      (disposition-comes t.heard limit old.talk t.mid new.talk disposition frames events t.follows))
  frame-heard (body.Disposition disposition) old new limit channel frames events may (inr f, g) =
      taken-there old.talk channel.0 (body.Disposition disposition) f.number frames new.talk
      (heard-fails old.talk channel (said.Disposition disposition) f.number f.fault f.session frames new.talk
      f.answered)
  frame-heard (body.Detach detach) old new limit channel frames events may (inl t, g) =
      taken-there old.talk channel.0 (body.Detach detach) (number_of t.heard) frames new.talk
      (there-on old.talk channel.0 (body.Detach detach) (number_of t.heard) [] frames t.mid new.talk
      (heard-ok old.talk channel (said.Detach detach) t.heard [] t.mid t.answered)
      (detach-comes t.heard limit old.talk t.mid new.talk old.links new.links detach frames events t.becomes))
  frame-heard (body.Detach detach) old new limit channel frames events may (inr f, g) =
      taken-there old.talk channel.0 (body.Detach detach) f.number frames new.talk
      (heard-fails old.talk channel (said.Detach detach) f.number f.fault f.session frames new.talk f.answered)
  frame-heard (body.End end) old new limit channel frames events may (t, g) =
      end-heard old.talk old.links channel end frames events new.talk new.links t
  frame-heard it old new limit channel frames events may h = absurd h
