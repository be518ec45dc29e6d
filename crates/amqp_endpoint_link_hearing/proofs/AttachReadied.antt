-- What is made ready for the link that waits for the peer's Attach, and what is done with it.
use Rattle.std.proofs.Common.{◌≡◌, ◌≤◌, inl, inr, ℕ, Bool, true, false, List, [], ◌++◌, Option, Some, None, Result, Ok}
use Rattle.std.proofs.Common.{Err, refl, sym, ap, subst, ◌∙◌, append_assoc, arith, length, drop}
use Rattle.std.specs.Prelude.{◌<◌, ◌^◌, All, IsSome}
use Rattle.std.specs.Box.{with_value}
use Rattle.std.proofs.lemmas.Option.{none-some, same_Some}
use Rattle.amqp_session_types.specs.declared.channels.IncomingChannel.{IncomingChannel}
use Rattle.amqp_session_types.specs.declared.error.Error.{Error}
use Rattle.amqp_session_types.specs.declared.handles.OutputHandle.{OutputHandle}
use Rattle.amqp_session_performatives.specs.declared.attach.Attach.{Attach}
use Rattle.amqp_session_performatives.specs.declared.session_frame.SessionFrame.{SessionFrame}
use Rattle.amqp_link.specs.declared.end.End.{End}
use Rattle.amqp_link.specs.declared.relay.AttachTold.{AttachTold}
use Rattle.amqp_link_sender.specs.declared.attaching.Attaching.{Attaching}
use Rattle.amqp_link_types.specs.declared.link_error.LinkError.{LinkError}
use Rattle.amqp_link_unsettled.specs.declared.exchanging.Abort.{Abort}
use Rattle.amqp_endpoint_fitting.specs.Read.{IsRead}
use Rattle.amqp_endpoint_links.specs.declared.asking.NamedLink.{NamedLink}
use Rattle.amqp_endpoint_links.specs.declared.asking.NamedLink.TheVariants.{Absent, Attached, Waiting}
use Rattle.amqp_endpoint_model.specs.declared.error.EndpointError.TheVariants.{Link as LinkFault}
use Rattle.amqp_endpoint_model.specs.declared.event.Event.{Event}
use Rattle.amqp_endpoint_model.specs.State.{error_of, fits, frame_of}
use Rattle.amqp_endpoint_model.specs.Step.{not_allowed}
use Rattle.amqp_endpoint_tables.specs.State.{live_at, reached}
use Rattle.amqp_endpoint_conversation.specs.Going.{Goes, Rests}
use Rattle.amqp_endpoint_attached.specs.Detaching.{own_detach}
use Rattle.amqp_endpoint_attached.specs.Linked.{Linked, LinksIn, end_at, end_in}
use Rattle.amqp_endpoint_messages.specs.All.{open_count}
use Rattle.amqp_endpoint_messages.specs.GivingUp.{ClosedFor, DoesClosedFor, IsBare, attached_told, planned_at}
use Rattle.amqp_endpoint_messages.specs.GoingOn.{AreOnReady, AreTagged, AttachedAt, DoesAttached, HasCreditThen}
use Rattle.amqp_endpoint_messages.specs.GoingOn.{HasRoomToSend, IsReadyWith}
use Rattle.amqp_endpoint_messages.specs.MadeReady.{HasPlaceToClose, IsClosing, IsMadeReady, MadeRoom}
use Rattle.amqp_endpoint_messages.specs.declared.giving_up.Closing.{Closing}
use Rattle.amqp_endpoint_messages.specs.declared.going_on.AttachReady.{AttachReady}
use Rattle.amqp_endpoint_messages.specs.declared.going_on.OnReady.{OnReady}
use Rattle.amqp_endpoint_messages.proofs.AttachDone.{Stepped, closed-for, not-allowed-fits}
use Rattle.amqp_endpoint_messages.proofs.GoingDone.{attached-at}
use Rattle.amqp_endpoint_linking.specs.Linking.{Session, Talk}
use Rattle.amqp_endpoint_linking.specs.Handed.{Hands, Tells}
use Rattle.amqp_endpoint_link_hearing.specs.Attaching.{ByLink, IsAttached, LinkTakes, MakesRoom}
use Rattle.amqp_endpoint_link_hearing.specs.Attaching.{outcome_of}
use Rattle.amqp_endpoint_link_hearing.specs.InSession.{GoesOn}
use Rattle.amqp_endpoint_link_hearing.specs.Leaving.{detach_frame}
use Rattle.amqp_endpoint_link_hearing.specs.Naming.{link_in, link_of}
use Rattle.amqp_endpoint_link_hearing.specs.Readied.{ClosesIn, ClosesOn, HasItsPlace, HasPlaceIn, IsReady, NoneWaits}
use Rattle.amqp_endpoint_link_hearing.specs.Readied.{Readies, ReadyFor, ServesItsOwn, WaitsOn, count_in}
use Rattle.amqp_endpoint_link_hearing.proofs.Doing.{done-goes, done-rests}
use Rattle.amqp_endpoint_link_hearing.proofs.Lending.{lives}
use Rattle.amqp_endpoint_link_hearing.proofs.Reached.{reached-alike}
use Rattle.amqp_endpoint_link_hearing.proofs.Lent.{behind-talk}
use Rattle.amqp_endpoint_link_hearing.proofs.Takes.{IsNumbered}

-- whether a link waits for it
abbrev waits : NamedLink → Bool
waits Absent = false
waits Attached = false
waits (Waiting handle) = true

-- where none does nothing is made ready
pub unwaited : (talk : Talk) (channel : IncomingChannel) (named other : NamedLink) → named ≡ other
    → waits other ≡ false → NoneWaits talk channel named
unwaited talk channel named other is not handle number s waiting reaches live =
    let clash : true ≡ false = ap (λ (n : NamedLink). waits n) (sym waiting ∙ is) ∙ not in absurd cc

-- and none where the channel reaches no session that has begun
module _ (talk : Talk) (channel : IncomingChannel) (named : NamedLink) where
  pub unreached : None ≡ reached talk.sessions channel.0 → NoneWaits talk channel named
  unreached none handle number s waiting reaches live = absurd (none-some _ (none ∙ reaches))

  pub unlived : (number : ℕ) → Some number ≡ reached talk.sessions channel.0 → None ≡ live_at talk.sessions number
      → NoneWaits talk channel named
  unlived number is none handle n s waiting reaches live =
      let same : n ≡ number = same_Some _ _ (sym reaches ∙ sym is) in
      absurd (none-some _ (none ∙ subst (λ (k : ℕ). live_at talk.sessions k ≡ Some s) same live))

  -- where one waits this is what it is closed with
  pub closes-on : (number : ℕ) (lent : Session) (handle : OutputHandle) (closing : Closing)
      → named ≡ Waiting handle → Some number ≡ reached talk.sessions channel.0
      → Some lent ≡ live_at talk.sessions number
      → IsClosing lent.value number handle (open_count (end_at lent.value handle)) closing
      → WaitsOn talk channel named closing
  closes-on number lent handle closing waiting reaches live is =
      let under : closing.handle ≡ handle = ap (λ (c : Closing). c.handle) is.is in
      let held : closing.session ≡ number = ap (λ (c : Closing). c.session) is.is in
      let made : ℕ → OutputHandle → Closing = λ n h.
      record {
        session = n;
        handle = h;
        count = open_count (end_at lent.value h);
        why = error_of not_allowed;
        place = closing.place;
      } in
      record {
        waits = waiting ∙ ap (λ (h : OutputHandle). Waiting h) (sym under);
        reaches = sym reaches ∙ ap (λ (n : ℕ). Some n) (sym held);
        session = lent;
        live = ap (λ (n : ℕ). live_at talk.sessions n) held ∙ sym live;
        is =
            record {
              is =
                  is.is
                  ∙ ap (λ (n : ℕ). made n handle) (sym held)
                  ∙ ap (λ (h : OutputHandle). made closing.session h) (sym under);
              place = is.place;
            };
      }

  -- so there is a place for its Detach
  pub placed-on : (closing : Option Closing) → ClosesOn talk channel named closing → HasItsPlace talk closing
  placed-on None none = tt
  placed-on (Some closing) w = record { session = w.session; live = w.live; place = (w.is).place }

-- where none waits nothing is made ready
readies-none : (limit : ℕ) (s : Linked) (number : ℕ) (named : NamedLink) (it : Attach) (len capacity : ℕ)
    → ((handle : OutputHandle) → named ≡ Waiting handle → ⊥) → ReadyFor limit s number named it len capacity None
readies-none limit s number Absent it len capacity none = tt
readies-none limit s number Attached it len capacity none = tt
readies-none limit s number (Waiting handle) it len capacity none = none handle refl

pub none-readied : (limit : ℕ) (talk : Talk) (channel : IncomingChannel) (named : NamedLink) (it : Attach)
    (len capacity : ℕ) → NoneWaits talk channel named → Readies limit talk channel named it len capacity None
none-readied limit talk channel named it len capacity none n s r l =
    readies-none limit s.value n named it len capacity (λ handle waiting. none handle n s waiting r l)

made-same : (named : NamedLink) (talk : Talk) (channel : IncomingChannel) → MakesRoom named talk channel talk
made-same Absent talk channel = refl
made-same Attached talk channel = refl
made-same (Waiting handle) talk channel = inl refl

-- whichever was found to be made ready
module _ (talk : Talk) (channel : IncomingChannel) (named : NamedLink) (closing : Option Closing)
    (closes : ClosesOn talk channel named closing) where
  pub none-made : closing ≡ None → MakesRoom named talk channel talk
  none-made none = made-same named talk channel

  pub unready-none : (limit : ℕ) (it : Attach) (len capacity : ℕ) → closing ≡ None
      → Readies limit talk channel named it len capacity None
  unready-none limit it len capacity none =
      none-readied limit talk channel named it len capacity
      (subst (λ (o : Option Closing). ClosesOn talk channel named o) none closes)

-- the session in which the link waits is lent, with a place for its Detach
module _ (talk : Talk) (closing : Option Closing) (place : HasItsPlace talk closing) (with : Closing)
    (some : closing ≡ Some with) where
  placed-in : HasPlaceIn talk with
  placed-in = subst (λ (o : Option Closing). HasItsPlace talk o) some place

  pub none-lives : None ≡ live_at talk.sessions with.session → ⊥
  none-lives none = none-some _ (none ∙ placed-in.live)

  pub place-lent : (lent : Session) (before : Linked) → Some lent ≡ live_at talk.sessions with.session
      → before ≡ lent.value → HasPlaceToClose before with
  place-lent lent before live same =
      let is : placed-in.session ≡ lent = same_Some _ _ (sym placed-in.live ∙ sym live) in
      subst (λ (s : Linked). HasPlaceToClose s with) (ap (λ (s : Session). s.value) is ∙ sym same) placed-in.place

-- it is made ready in the session that the channel reaches
module _ (limit : ℕ) (old : Talk) (channel : IncomingChannel) (named : NamedLink) (it : Attach) (len capacity : ℕ)
    (closing : Option Closing) (closes : ClosesOn old channel named closing) (with : Closing)
    (some : closing ≡ Some with) (lent : Session) (before after : Linked)
    (live : Some lent ≡ live_at old.sessions with.session) (same : before ≡ lent.value) (made : MadeRoom before after)
  where
    abbrev Behind : Talk
    Behind = behind-talk old with.session lent after

    waits-on : WaitsOn old channel named with
    waits-on = subst (λ (o : Option Closing). ClosesOn old channel named o) some closes

    -- the links stay as room is made
    alike : (handle : OutputHandle) → end_at before handle ≡ end_at after handle
    alike handle = sym (ap (λ (s : LinksIn). end_in s handle) (made.made).reserves.1)

    lent-is : waits-on.session ≡ lent
    lent-is = same_Some _ _ (sym waits-on.live ∙ sym live)

    opened : end_at (waits-on.session).value with.handle ≡ end_at after with.handle
    opened =
        ap (λ (s : Session). end_at s.value with.handle) lent-is
        ∙ ap (λ (s : Linked). end_at s with.handle) (sym same)
        ∙ alike with.handle

    abbrev with_these : ℕ → ℕ → ℕ → Closing
    with_these number count place =
        record {
          session = number;
          handle = with.handle;
          count = count;
          why = error_of not_allowed;
          place = place;
        }

    pub readied : (ready : AttachReady)
        → IsReadyWith limit (planned_at (end_at before with.handle) it) [] with ready
        → HasRoomToSend ready after len capacity → All IsBare ready.giving.batches.items → ready.on ≡ None
        → Readies limit Behind channel named it len capacity (Some ready)
    readied ready is sends bare none n t r l =
        let still : reached Behind.sessions channel.0 ≡ reached old.sessions channel.0 =
        reached-alike with.session lent (with_value lent after) old.sessions Behind.sessions (sym live, refl) channel.0
        in
        let this : n ≡ with.session = same_Some _ _ (sym r ∙ still ∙ waits-on.reaches) in
        let here : live_at Behind.sessions with.session ≡ Some t =
        subst (λ (k : ℕ). live_at Behind.sessions k ≡ Some t) this l in
        let stands : live_at Behind.sessions with.session ≡ Some (with_value lent after) =
        lives old.sessions with.session (with_value lent after) lent (sym live) in
        let so : t ≡ with_value lent after = same_Some _ _ (sym here ∙ stands) in
        let there : IsReady limit after n with.handle it len capacity ready =
        record {
          closing =
              record {
                is =
                    is.closing
                    ∙ (waits-on.is).is
                    ∙ ap (λ (k : ℕ). with_these k (open_count (end_at (waits-on.session).value with.handle)) with.place)
                    (sym this)
                    ∙ ap (λ (o : Option End). with_these n (open_count o) with.place) opened
                    ∙ ap (λ (c : Closing). with_these n (open_count (end_at after with.handle)) c.place)
                    (sym is.closing);
                place = sends.place;
              };
          giving =
              subst (λ (o : Option End). IsMadeReady limit with.handle (planned_at o it) ready.giving)
              (alike with.handle) is.giving;
          sends = sends;
          bare = bare;
          none = none;
        } in
        subst (λ (a : Session). ReadyFor limit a.value n named it len capacity (Some ready)) (sym so)
        (subst (λ (k : NamedLink). ReadyFor limit after n k it len capacity (Some ready)) (sym waits-on.waits) there)

    pub room-made : MakesRoom named old channel Behind
    room-made =
        let one : MakesRoom (Waiting with.handle) old channel Behind =
        inr (record {
          number = with.session;
          reaches = waits-on.reaches;
          made =
              record {
                before = lent;
                after = with_value lent after;
                done = subst (λ (s : Linked). MadeRoom s after) same made;
                stepped = (sym live, refl);
                rest = refl;
              };
        }) in
        subst (λ (k : NamedLink). MakesRoom k old channel Behind) (sym waits-on.waits) one

-- as many messages are open as were counted
pub counted : (with : Closing) (closing : Option Closing) → closing ≡ Some with → (ready : AttachReady)
    → ready.closing ≡ with → ready.closing.count ≡ count_in closing
counted with closing some ready is =
    ap (λ (c : Closing). c.count) is ∙ ap (λ (o : Option Closing). count_in o) (sym some)

-- a session that has a link has begun
live-there : (talk : Talk) (session : ℕ) (handle : OutputHandle) → IsSome (link_of talk session handle)
    → (s : Session) × (live_at talk.sessions session ≡ Some s)
live-there talk session handle there = by (live_at talk.sessions session) refl there
  where
    by : (o : Option Session) → live_at talk.sessions session ≡ o → IsSome (link_in o handle)
        → (s : Session) × (live_at talk.sessions session ≡ Some s)
    by None is there = absurd cc
    by (Some s) is there = (s, is)

-- what was made ready serves where the link is closed
pub closes-in : (talk : Talk) (len capacity : ℕ) (ready : AttachReady) → ServesItsOwn talk len capacity ready
    → ClosesIn talk len capacity ready.closing
closes-in talk len capacity ready serves =
    record {
      there = serves.there;
      place = λ s live. (serves.sends s live).place;
      spare =
          let s : Session = (live-there talk ready.closing.session ready.closing.handle serves.there).0 in
          let live : live_at talk.sessions ready.closing.session ≡ Some s =
          (live-there talk ready.closing.session ready.closing.handle serves.there).1 in
          let room = serves.sends s live in omega (arith, room.spare);
      why = serves.why;
    }

-- where no message goes on, none wants credit or a tag
module _ (ready : AttachReady) (none : ready.on ≡ None) where
  pub ready-alone : (limit : ℕ) (aborts : List Abort) → IsMadeReady limit ready.closing.handle aborts ready.giving
      → IsReadyWith limit aborts [] ready.closing ready
  ready-alone limit aborts made =
      record {
        closing = refl;
        giving = made;
        on = subst (λ (o : Option OnReady). AreOnReady limit ready.closing.handle [] o) (sym none) refl;
      }

  pub credit-alone : (s : Linked) → HasCreditThen None ready.closing.handle ready.on s
  credit-alone s = subst (λ (o : Option OnReady). HasCreditThen None ready.closing.handle o s) (sym none) tt

  pub tagged-alone : AreTagged ready.on
  tagged-alone = subst (λ (o : Option OnReady). AreTagged o) (sym none) tt

-- what is done in a session that is lent, and tells
module _ (Does : List SessionFrame → List Event → Linked → Linked → Type 0) (old : Talk) (session : ℕ) (lent : Session)
    (live : Some lent ≡ live_at old.sessions session) (before after : Linked) (same : before ≡ lent.value)
    (out out_new : List SessionFrame) (told told_new : List Event) where
  abbrev Told : Type 0
  Told =
      Tells (λ (frames : List SessionFrame) (events : List Event).
      GoesOn (Does frames events) old session (behind-talk old session lent after)) out told out_new told_new

  pub tells-on : (frames : List SessionFrame) (events : List Event) → Does frames events before after
      → out_new ≡ out ++ frames → told_new ≡ told ++ events → Told
  tells-on frames events does queued are =
      record {
        frames = frames;
        events = events;
        is_so =
            record {
              before = lent;
              after = with_value lent after;
              done = subst (λ (s : Linked). Does frames events s after) same does;
              stepped = (sym live, refl);
              rest = refl;
            };
        queued = queued;
        are_told = are;
      }

-- what is handed out of it fits
module _ (limit session count : ℕ) (handle : OutputHandle) (aborts : List Abort) (old new : Talk)
    (out out_new : List SessionFrame) (told told_new : List Event) where
  abbrev why : Error
  why = error_of not_allowed

  abbrev FitsIn : Linked → Type 0
  FitsIn s = fits limit (frame_of (detach_frame s.session.fields.channel (own_detach handle true (Some why)))) ≡ true

  abbrev AttachedSo : Type 0
  AttachedSo =
      Tells (λ (frames : List SessionFrame) (events : List Event).
      GoesOn (AttachedAt limit session count handle why aborts None [] frames events) old session new) out told out_new
      told_new

  pub attached-goes : (from : ℕ) → (t : AttachedSo) → ((s : Linked) → FitsIn s) → from ≡ length out
      → All IsRead (drop from out_new) → Goes limit old new out out_new
  attached-goes from t fit is reads =
      let before : Linked = ((t.is_so).before).value in
      let after : Linked = ((t.is_so).after).value in
      let Does : List SessionFrame → Linked → Linked → Type 0 = λ frames.
      AttachedAt limit session count handle why aborts None [] frames t.events in
      let h : Hands (λ (frames : List SessionFrame). GoesOn (Does frames) old session new) out out_new =
      record { frames = t.frames; is_so = t.is_so; queued = t.queued } in
      let s : Stepped limit before t.frames after =
      attached-at limit session count handle why aborts None [] t.frames t.events before after (fit before)
      (t.is_so).done in
      done-goes Does old session new out out_new h limit from is reads s.done

  pub attached-rests : AttachedSo → Rests old new out out_new
  attached-rests t =
      let Does : List SessionFrame → Linked → Linked → Type 0 = λ frames.
      AttachedAt limit session count handle why aborts None [] frames t.events in
      done-rests Does old session new out out_new
      (record { frames = t.frames; is_so = t.is_so; queued = t.queued })

  module _ (error : LinkError) where
    abbrev ClosedSo : Type 0
    ClosedSo =
        Tells (λ (frames : List SessionFrame) (events : List Event).
        GoesOn (ClosedFor session (LinkFault error) count handle why frames events) old session new) out told out_new
        told_new

    pub closed-goes : (from : ℕ) → (t : ClosedSo) → ((s : Linked) → FitsIn s) → from ≡ length out
        → All IsRead (drop from out_new) → Goes limit old new out out_new
    closed-goes from t fit is reads =
        let before : Linked = ((t.is_so).before).value in
        let after : Linked = ((t.is_so).after).value in
        let Does : List SessionFrame → Linked → Linked → Type 0 = λ frames.
        ClosedFor session (LinkFault error) count handle why frames t.events in
        let h : Hands (λ (frames : List SessionFrame). GoesOn (Does frames) old session new) out out_new =
        record { frames = t.frames; is_so = t.is_so; queued = t.queued } in
        let s : Stepped limit before t.frames after =
        closed-for limit session (LinkFault error) count handle why t.frames t.events before after (fit before)
        (t.is_so).done in
        done-goes Does old session new out out_new h limit from is reads s.done

    pub closed-rests : ClosedSo → Rests old new out out_new
    closed-rests t =
        let Does : List SessionFrame → Linked → Linked → Type 0 = λ frames.
        ClosedFor session (LinkFault error) count handle why frames t.events in
        done-rests Does old session new out out_new
        (record { frames = t.frames; is_so = t.is_so; queued = t.queued })

-- its closing Detach fits each peer's limit
pub closing-fits : (limit : ℕ) (handle : OutputHandle) → handle.0 < 2 ^ 32 → 512 ≤ limit → (s : Linked)
    → fits limit
    (frame_of (detach_frame s.session.fields.channel (own_detach handle true (Some (error_of not_allowed))))) ≡ true
closing-fits limit handle small least s = not-allowed-fits limit s handle small least

-- it is done in a session that is lent
module _ (session count : ℕ) (handle : OutputHandle) (says : Error) (is : says ≡ error_of not_allowed) (old : Talk)
    (lent : Session) (live : Some lent ≡ live_at old.sessions session) (before after : Linked)
    (same : before ≡ lent.value) (out out_new : List SessionFrame) (told told_new : List Event) where
  pub attached-on : (limit : ℕ) (aborts : List Abort)
      → DoesAttached limit session count handle says aborts None [] before out told after out_new told_new
      → AttachedSo limit session count handle aborts old (behind-talk old session lent after) out out_new told told_new
  attached-on limit aborts d =
      let Does : List SessionFrame → List Event → Linked → Linked → Type 0 = λ frames events.
      AttachedAt limit session count handle (error_of not_allowed) aborts None [] frames events in
      tells-on Does old session lent live before after same out out_new told told_new d.frames d.events
      (subst (λ (w : Error). AttachedAt limit session count handle w aborts None [] d.frames d.events before after) is
      d.does)
      d.queued d.are_told

  pub closed-on : (error : LinkError)
      → DoesClosedFor session (LinkFault error) count handle says before out told after out_new told_new
      → ClosedSo 0 session count handle [] old (behind-talk old session lent after) out out_new told told_new error
  closed-on error d =
      let Does : List SessionFrame → List Event → Linked → Linked → Type 0 = λ frames events.
      ClosedFor session (LinkFault error) count handle (error_of not_allowed) frames events in
      tells-on Does old session lent live before after same out out_new told told_new d.frames d.events
      (subst (λ (w : Error). ClosedFor session (LinkFault error) count handle w d.frames d.events before after) is
      d.does)
      d.queued d.are_told

-- the link took the Attach
module _ (limit count : ℕ) (old : Talk) (session : ℕ) (handle : OutputHandle) (number : ℕ)
    (n : IsNumbered old session handle number) (answer : AttachTold) (new : Talk) (out out_new : List SessionFrame)
    (events mid events_new : List Event) where
  abbrev Takes : Type 0
  Takes =
      Tells (λ (frames : List SessionFrame) (told : List Event).
      ByLink limit count old session handle answer frames told new) out events out_new events_new

  pub link-attached : (attaching : Attaching) → Ok attaching ≡ outcome_of answer
      → mid ≡ events ++ attached_told number attaching.exchange
      → Tells (λ (frames : List SessionFrame) (told : List Event).
      GoesOn (AttachedAt limit session count handle (error_of not_allowed) attaching.aborts None [] frames told) old
      session
      new)
      out mid out_new events_new → Takes
  link-attached attaching is are t =
      let told : List Event = attached_told number attaching.exchange ++ t.events in
      let so : IsAttached limit session count handle attaching n.link old t.frames told new =
      record {
        behind = t.events;
        goes = t.is_so;
        told = ap (λ (k : ℕ). attached_told k attaching.exchange ++ t.events) n.is;
      } in
      record {
        frames = t.frames;
        events = told;
        is_so =
            record {
              link = n.link;
              there = n.there;
              takes =
                  subst
                  (λ (o : Result Attaching LinkError).
                  LinkTakes o limit session count handle n.link old t.frames told new)
                  is so;
            };
        queued = t.queued;
        are_told =
            t.are_told
            ∙ ap (λ (es : List Event). es ++ t.events) are
            ∙ append_assoc events (attached_told number attaching.exchange) t.events;
      }

  pub link-refused : (error : LinkError) → Err error ≡ outcome_of answer
      → Tells (λ (frames : List SessionFrame) (told : List Event).
      GoesOn (ClosedFor session (LinkFault error) count handle (error_of not_allowed) frames told) old session new)
      out events out_new events_new → Takes
  link-refused error is t =
      record {
        frames = t.frames;
        events = t.events;
        is_so =
            record {
              link = n.link;
              there = n.there;
              takes =
                  subst
                  (λ (o : Result Attaching LinkError).
                  LinkTakes o limit session count handle n.link old t.frames t.events new)
                  is t.is_so;
            };
        queued = t.queued;
        are_told = t.are_told;
      }
