-- What is made ready for the link that a Flow names, and what is done with it.
use Rattle.std.proofs.Common.{◌≡◌, ◌≤◌, ◌+◌, inr, ℕ, Bool, true, false, List, [], ◌∷◌, Option, Some, None}
use Rattle.std.proofs.Common.{refl, sym, ap, subst, ◌∙◌, append-nil, arith, length, drop, IfOk, Result, Ok, Err}
use Rattle.std.specs.Prelude.{◌≢◌, All}
use Rattle.std.specs.Box.{with_value}
use Rattle.std.proofs.lemmas.Option.{none-some, same_Some}
use Rattle.amqp_session_types.specs.declared.channels.IncomingChannel.{IncomingChannel}
use Rattle.amqp_session_types.specs.declared.error.Error.{Error}
use Rattle.amqp_session_types.specs.declared.handles.Handle.{Handle}
use Rattle.amqp_session_types.specs.declared.handles.OutputHandle.{OutputHandle}
use Rattle.amqp_session_performatives.specs.declared.flow.Flow.{Flow}
use Rattle.amqp_session_performatives.specs.declared.link_flow.LinkFlow.{LinkFlow}
use Rattle.amqp_session_performatives.specs.declared.session_frame.SessionFrame.{SessionFrame}
use Rattle.amqp_session_outgoing.specs.Frames.{HaveTags}
use Rattle.amqp_session_outgoing.specs.Queues.{frames_in, room_behind}
use Rattle.amqp_session_outgoing.specs.State as sending
use Rattle.amqp_session_outgoing.specs.declared.frames.Outbound.{Outbound}
use Rattle.amqp_session_core.specs.State.{link_at}
use Rattle.amqp_session_core.specs.declared.batch.BehindFrame.{BehindFrame}
use Rattle.amqp_session_core.specs.declared.batch.TransferFrame.{TransferFrame}
use Rattle.amqp_link_sender.specs.declared.sending_on.PreparedSendOn.{PreparedSendOn}
use Rattle.amqp_link.specs.GoingOn.{sends_on_by}
use Rattle.amqp_link.specs.declared.end.End.{End}
use Rattle.amqp_endpoint_fitting.specs.Read.{IsRead}
use Rattle.amqp_endpoint_model.specs.State.{error_of, fits, frame_of}
use Rattle.amqp_endpoint_model.specs.Step.{not_allowed}
use Rattle.amqp_endpoint_model.specs.declared.event.Event.{Event}
use Rattle.amqp_endpoint_tables.specs.State.{live_at, reached}
use Rattle.amqp_endpoint_conversation.specs.Going.{Goes, Rests}
use Rattle.amqp_endpoint_attached.specs.Detaching.{own_detach}
use Rattle.amqp_endpoint_attached.specs.Linked.{Linked, LinksIn}
use Rattle.amqp_endpoint_messages.specs.All.{open_count}
use Rattle.amqp_endpoint_messages.specs.MadeReady.{HasPlaceToClose, IsClosing, MadeRoom}
use Rattle.amqp_endpoint_messages.specs.SendingOn.{AreReadyOn, CreditedAt, DoesCredited, HasRoomToGoOn, IsOn}
use Rattle.amqp_endpoint_messages.specs.SendingOn.{goes_on_at}
use Rattle.amqp_endpoint_messages.specs.declared.giving_up.Closing.{Closing}
use Rattle.amqp_endpoint_messages.specs.declared.sending_on.FlowReady.{FlowReady}
use Rattle.amqp_endpoint_messages.proofs.AttachDone.{Stepped}
use Rattle.amqp_endpoint_messages.proofs.CreditDone.{credited-at}
use Rattle.amqp_endpoint_links.specs.declared.asking.NamedLink.TheVariants.{Waiting}
use Rattle.amqp_endpoint_linking.specs.Linking.{Link, Session, Talk}
use Rattle.amqp_endpoint_linking.specs.Handed.{Hands, Tells}
use Rattle.amqp_endpoint_link_hearing.specs.Flowing.{IsDeepClosing, LetsGoOn, MayMakeRoom, NoneGoesOn, NonePlanned}
use Rattle.amqp_endpoint_link_hearing.specs.Flowing.{Plans}
use Rattle.amqp_endpoint_link_hearing.specs.Flowing.{PlansIn, PlansOn, SendsOnAt, SendsOnBy, SendsOnWith, end_of}
use Rattle.amqp_endpoint_link_hearing.specs.Flowing.{goes_on_by, named_in, named_under, said_of_link, unless_asked}
use Rattle.amqp_endpoint_link_hearing.specs.InSession.{GoesOn}
use Rattle.amqp_endpoint_link_hearing.specs.Leaving.{detach_frame}
use Rattle.amqp_endpoint_link_hearing.specs.Naming.{link_of}
use Rattle.amqp_endpoint_link_hearing.specs.Reached.{link_under}
use Rattle.amqp_endpoint_link_hearing.specs.ReadyOn.{AreToGoOn, CanBeReadied, CanBeReadiedIn, IsReadied}
use Rattle.amqp_endpoint_link_hearing.specs.ReadyOn.{IsToGoOn, ServesOn, ServesToGoOn, count_in}
use Rattle.amqp_endpoint_link_hearing.specs.declared.flowing.Planned.{Planned}
use Rattle.amqp_endpoint_link_hearing.proofs.Attaches.{room-goes, room-rests}
use Rattle.amqp_endpoint_link_hearing.proofs.Doing.{done-goes, done-rests}
use Rattle.amqp_endpoint_link_hearing.proofs.Lending.{lives}
use Rattle.amqp_endpoint_link_hearing.proofs.Lent.{behind-talk}
use Rattle.amqp_endpoint_link_hearing.proofs.OnBehind.{are-on, room-most}
use Rattle.amqp_endpoint_link_hearing.proofs.Reached.{reached-alike}

-- what the link is closed with, with room for its Detach behind whatever waits
pub deep-closing : (s : Linked) (number : ℕ) (handle : OutputHandle) (count : ℕ) (closing deep : Closing) (place : ℕ)
    → deep ≡ record closing { place = place } → IsClosing s number handle count closing
    → frames_in s.session.outgoing.queues + 2 ≤ place → IsDeepClosing s number handle count deep
deep-closing s number handle count closing deep place becomes is enough =
    subst (λ (c : Closing). IsDeepClosing s number handle count c) (sym becomes)
    (record {
      is =
          record {
            is = ap (λ (c : Closing). record c { place = place }) is.is;
            place =
                record {
                  some = omega (arith, enough);
                  serves =
                      subst (λ (h : OutputHandle). room_behind h.0 1 s.session.outgoing.queues ≤ place) (sym under)
                      (omega (arith, enough, room-most handle.0 0 s.session.outgoing.queues));
                };
          };
      deep = enough;
    })
  where
    under : closing.handle ≡ handle
    under = ap (λ (c : Closing). c.handle) is.is

-- which link a Flow names
pub named-of : (asked : Bool) (own : Option ℕ) → asked ≡ false → unless_asked asked own ≡ own
named-of true own is = absurd cc
named-of false own is = refl

pub named-none : (asked : Bool) (own : Option ℕ) → asked ≡ true → None ≡ unless_asked asked own
named-none true own is = refl
named-none false own is = absurd cc

-- in a session nothing goes on
module _ (s : Linked) (number : ℕ) (it : LinkFlow) where
  pub unnamed : named_under s it.handle.0 ≡ None → NoneGoesOn s it
  unnamed none = ap (λ (o : Option ℕ). goes_on_by (link_under s o) it) none

  module _ (handle : OutputHandle) (own : named_under s it.handle.0 ≡ Some handle.0) where
    pub unlinked : link_at s.session handle.0 ≡ None → NoneGoesOn s it
    unlinked none =
        ap (λ (o : Option ℕ). goes_on_by (link_under s o) it) own ∙ ap (λ (o : Option Link). goes_on_by o it) none

    pub none-on : (link : Link) → link_at s.session handle.0 ≡ Some link → sends_on_by link.link it ≡ []
        → NoneGoesOn s it
    none-on link there none =
        ap (λ (o : Option ℕ). goes_on_by (link_under s o) it) own
        ∙ ap (λ (o : Option Link). goes_on_by o it) there
        ∙ none

    -- or the link sends some on
    pub lets-go-on : (link : Link) → link_at s.session handle.0 ≡ Some link → (planned : Planned)
        → planned.ons.items ≡ sends_on_by link.link it → planned.ons.items ≢ []
        → IsDeepClosing s number handle (open_count (Some link.link)) planned.closing → LetsGoOn s number it planned
    lets-go-on link there planned ons some closing =
        let under : planned.closing.handle ≡ handle = ap (λ (c : Closing). c.handle) (closing.is).is in
        record {
          own = own ∙ ap (λ (h : OutputHandle). Some h.0) (sym under);
          link = link;
          there = ap (λ (h : OutputHandle). link_at s.session h.0) under ∙ there;
          ons = ons;
          some = some;
          closing =
              subst
              (λ (h : OutputHandle).
              IsDeepClosing s number h (open_count (Some link.link)) planned.closing)
              (sym under) closing;
        }

-- in the session that the channel reaches, if that has begun
module _ (talk : Talk) (channel : IncomingChannel) (flow : Flow) where
  pub without-handle : None ≡ flow.handle → NonePlanned talk channel flow
  without-handle none named number session names reaches live = absurd (none-some _ (none ∙ names))

  pub without-session : None ≡ reached talk.sessions channel.0 → NonePlanned talk channel flow
  without-session none named number session names reaches live = absurd (none-some _ (none ∙ reaches))

  module _ (number : ℕ) (reaches : Some number ≡ reached talk.sessions channel.0) where
    pub without-live : None ≡ live_at talk.sessions number → NonePlanned talk channel flow
    without-live none named n session names is live =
        let same : n ≡ number = same_Some _ _ (sym is ∙ sym reaches) in
        absurd (none-some _ (none ∙ subst (λ (k : ℕ). live_at talk.sessions k ≡ Some session) same live))

    unplanned : (named : Handle) → Some named ≡ flow.handle → (session : Session)
        → Some session ≡ live_at talk.sessions number → NoneGoesOn session.value (said_of_link flow named)
        → NonePlanned talk channel flow
    unplanned named names session live none other n s says is alive =
        let this : n ≡ number = same_Some _ _ (sym is ∙ sym reaches) in
        let one : named ≡ other = same_Some _ _ (names ∙ says) in
        let here : session ≡ s =
        same_Some _ _ (live ∙ subst (λ (k : ℕ). live_at talk.sessions k ≡ Some s) this alive) in
        subst (λ (t : Session). NoneGoesOn t.value (said_of_link flow other)) here
        (subst (λ (h : Handle). NoneGoesOn session.value (said_of_link flow h)) one none)

    pub plans-in : (named : Handle) → Some named ≡ flow.handle → (session : Session) (before : Linked)
        → Some session ≡ live_at talk.sessions number → before ≡ session.value → (planned : Option Planned)
        → PlansIn before number (said_of_link flow named) planned → Plans talk channel flow planned
    plans-in named names session before live same None p =
        unplanned named names session live
        (subst (λ (t : Linked). NoneGoesOn t (said_of_link flow named)) same p)
    plans-in named names session before live same (Some planned) p =
        record {
          named = named;
          names = sym names;
          number = number;
          reaches = sym reaches;
          session = session;
          live = sym live;
          plans = subst (λ (t : Linked). LetsGoOn t number (said_of_link flow named) planned) same p;
        }

    -- or there is no memory
    pub plans-of : {E : Type 0} (named : Handle) → Some named ≡ flow.handle → (session : Session) (before : Linked)
        → Some session ≡ live_at talk.sessions number → before ≡ session.value → (said : LinkFlow)
        → said ≡ said_of_link flow named → (r : Result (Option Planned) E) → IfOk r (PlansIn before number said)
        → IfOk r (Plans talk channel flow)
    plans-of named names session before live same said is (Ok planned) p =
        plans-in named names session before live same planned
        (subst (λ (it : LinkFlow). PlansIn before number it planned) is p)
    plans-of named names session before live same said is (Err e) p = tt

-- what goes on can be made ready
pub can-be-readied : (talk : Talk) (channel : IncomingChannel) (flow : Flow) (planned : Option Planned)
    → Plans talk channel flow planned → CanBeReadied talk planned
can-be-readied talk channel flow None p = tt
can-be-readied talk channel flow (Some planned) p =
    let g = p.plans in
    let held : planned.closing.session ≡ p.number = ap (λ (c : Closing). c.session) ((g.closing).is).is in
    record {
      session = p.session;
      live = ap (λ (n : ℕ). live_at talk.sessions n) held ∙ p.live;
      place = ((g.closing).is).place;
      are = subst (λ (ons : List PreparedSendOn). All IsOn ons) (sym g.ons)
          (are-on (g.link).link (said_of_link flow p.named));
    }

-- the session in which it goes on is lent
module _ (talk : Talk) (planned : Option Planned) (can : CanBeReadied talk planned) (with : Planned)
    (some : planned ≡ Some with) where
  can-in : CanBeReadiedIn talk with
  can-in = subst (λ (o : Option Planned). CanBeReadied talk o) some can

  pub none-lives : None ≡ live_at talk.sessions with.closing.session → ⊥
  none-lives none = none-some _ (none ∙ can-in.live)

  pub place-lent : (lent : Session) (before : Linked) → Some lent ≡ live_at talk.sessions with.closing.session
      → before ≡ lent.value → HasPlaceToClose before with.closing
  place-lent lent before live same =
      let is : can-in.session ≡ lent = same_Some _ _ (sym can-in.live ∙ sym live) in
      subst (λ (s : Linked). HasPlaceToClose s with.closing) (ap (λ (s : Session). s.value) is ∙ sym same) can-in.place

  pub each-on : All IsOn with.ons.items
  each-on = can-in.are

-- where nothing goes on nothing is made ready
module _ (talk : Talk) (channel : IncomingChannel) (flow : Flow) (planned : Option Planned)
    (plans : Plans talk channel flow planned) where
  pub unready : planned ≡ None → NonePlanned talk channel flow
  unready none = subst (λ (o : Option Planned). Plans talk channel flow o) none plans

-- it is made ready in the session that the channel reaches
module _ (old : Talk) (channel : IncomingChannel) (flow : Flow) (planned : Option Planned)
    (plans : Plans old channel flow planned) (with : Planned) (some : planned ≡ Some with) (lent : Session)
    (before after : Linked) (live : Some lent ≡ live_at old.sessions with.closing.session) (same : before ≡ lent.value)
    (made : MadeRoom before after) where
  abbrev Behind : Talk
  Behind = behind-talk old with.closing.session lent after

  on : PlansOn old channel flow with
  on = subst (λ (o : Option Planned). Plans old channel flow o) some plans

  number-is : with.closing.session ≡ on.number
  number-is = ap (λ (c : Closing). c.session) (((on.plans).closing).is).is

  lent-is : on.session ≡ lent
  lent-is =
      same_Some _ _ (sym on.live ∙ ap (λ (n : ℕ). live_at old.sessions n) (sym number-is) ∙ sym live)

  value-is : on.session.value ≡ before
  value-is = ap (λ (s : Session). s.value) lent-is ∙ sym same

  lets : LetsGoOn before on.number (said_of_link flow on.named) with
  lets = subst (λ (s : Linked). LetsGoOn s on.number (said_of_link flow on.named) with) value-is on.plans

  -- links, routes, and what is asked for stay, as does what waits
  after-is : after ≡ record before { session = record before.session { outgoing = after.session.outgoing } }
  after-is = made.rest ∙ ap (λ (s : LinksIn). record before { session = s }) (made.made).reserves.1

  own-still : named_under after (said_of_link flow on.named).handle.0 ≡ Some with.closing.handle.0
  own-still = ap (λ (s : Linked). named_under s on.named.0) after-is ∙ lets.own

  link-still : link_at after.session with.closing.handle.0 ≡ Some lets.link
  link-still = ap (λ (s : Linked). link_at s.session with.closing.handle.0) after-is ∙ lets.there

  queues-still : after.session.outgoing.queues ≡ before.session.outgoing.queues
  queues-still =
      ap (λ (o : sending.State TransferFrame BehindFrame). o.queues) (made.made).reserves.0

  pub readied : (limit len capacity : ℕ) (ready : FlowReady) → ready.closing ≡ with.closing
      → AreReadyOn limit with.closing.handle with.ons.items ready.sending
      → All HaveTags ready.sending.batches.items → HasRoomToGoOn ready 2 after len capacity
      → IsReadied limit Behind channel flow len capacity ready
  readied limit len capacity ready is ons tagged room =
      let still : reached Behind.sessions channel.0 ≡ reached old.sessions channel.0 =
      reached-alike with.closing.session lent (with_value lent after) old.sessions Behind.sessions (sym live, refl)
      channel.0 in
      let stands : live_at Behind.sessions with.closing.session ≡ Some (with_value lent after) =
      lives old.sessions with.closing.session (with_value lent after) lent (sym live) in
      let these : AreReadyOn limit with.closing.handle (sends_on_by (lets.link).link (said_of_link flow on.named))
      ready.sending =
      subst (λ (xs : List PreparedSendOn). AreReadyOn limit with.closing.handle xs ready.sending) lets.ons ons in
      let deep : frames_in after.session.outgoing.queues + 2 ≤ with.closing.place =
      subst
      (λ (qs : List (ℕ × List (Outbound TransferFrame BehindFrame))). frames_in qs + 2 ≤ with.closing.place)
      (sym queues-still) (lets.closing).deep in
      record {
        named = on.named;
        names = on.names;
        reaches =
            still ∙ on.reaches ∙ ap (λ (n : ℕ). Some n) (sym number-is)
            ∙ ap (λ (c : Closing). Some c.session) (sym is);
        session = with_value lent after;
        live = ap (λ (c : Closing). live_at Behind.sessions c.session) is ∙ stands;
        own = own-still ∙ ap (λ (c : Closing). Some c.handle.0) (sym is);
        link = lets.link;
        there = ap (λ (c : Closing). link_at after.session c.handle.0) is ∙ link-still;
        on =
            subst
            (λ (c : Closing).
            AreReadyOn limit c.handle (sends_on_by (lets.link).link (said_of_link flow on.named)) ready.sending)
            (sym is) these;
        some = λ none. lets.some (lets.ons ∙ none);
        tagged = tagged;
        count =
            ap (λ (c : Closing). c.count) is ∙ ap (λ (c : Closing). c.count) ((lets.closing).is).is;
        why = ap (λ (c : Closing). c.why) is ∙ ap (λ (c : Closing). c.why) ((lets.closing).is).is;
        room = room;
        deep =
            subst (λ (c : Closing). frames_in after.session.outgoing.queues + 2 ≤ c.place) (sym is) deep;
      }

  pub room-made : MayMakeRoom old channel Behind
  room-made =
      inr (record {
        number = with.closing.session;
        reaches = on.reaches ∙ ap (λ (n : ℕ). Some n) (sym number-is);
        made =
            record {
              before = lent;
              after = with_value lent after;
              done = subst (λ (s : Linked). MadeRoom s after) same made;
              stepped = (sym live, refl);
              rest = refl;
            };
      })

-- as many messages are open as were counted
pub counted-on : (with : Planned) (planned : Option Planned) → planned ≡ Some with → (ready : FlowReady)
    → ready.closing ≡ with.closing → ready.closing.count ≡ count_in planned
counted-on with planned some ready is =
    ap (λ (c : Closing). c.count) is ∙ ap (λ (o : Option Planned). count_in o) (sym some)

-- whatever was made ready is what goes on
module _ (talk : Talk) (len capacity : ℕ) (ready : Option FlowReady) (serves : ServesToGoOn talk len capacity ready)
    (with : FlowReady) (some : ready ≡ Some with) where
  pub serves-on : ServesOn talk len capacity with
  serves-on = subst (λ (o : Option FlowReady). ServesToGoOn talk len capacity o) some serves

  pub none-serves : None ≡ live_at talk.sessions with.closing.session → ⊥
  none-serves none = none-some _ (none ∙ serves-on.live)

  -- in the session that is lent
  pub lent-value : (lent : Session) (before : Linked) → Some lent ≡ live_at talk.sessions with.closing.session
      → before ≡ lent.value → serves-on.session.value ≡ before
  lent-value lent before live same =
      ap (λ (s : Session). s.value) (same_Some _ _ (sym serves-on.live ∙ sym live)) ∙ sym same

module _ (limit : ℕ) (session : Option ℕ) (named : Option Handle) (talk : Talk) (ready : Option FlowReady)
    (to : AreToGoOn limit talk session named ready) where
  -- nothing is
  pub none-goes-on : ready ≡ None → (out : List SessionFrame) (told : List Event)
      → Tells (λ (frames : List SessionFrame) (events : List Event).
      SendsOnBy limit session named talk frames events talk) out told out told
  none-goes-on none out told =
      record {
        frames = [];
        events = [];
        is_so = subst (λ (o : Option FlowReady). AreToGoOn limit talk session named o) none to;
        queued = sym (append-nil out);
        are_told = sym (append-nil told);
      }

  module _ (with : FlowReady) (some : ready ≡ Some with) where
    pub is-to-go-on : IsToGoOn limit talk session named with
    is-to-go-on = subst (λ (o : Option FlowReady). AreToGoOn limit talk session named o) some to

    abbrev Ons : List PreparedSendOn
    Ons = is-to-go-on.first ∷ is-to-go-on.others

    abbrev Credits : List SessionFrame → List Event → Linked → Linked → Type 0
    Credits frames events old new =
        CreditedAt limit with.closing.session with.closing.count with.closing.handle (error_of not_allowed) Ons frames
        events old new

    -- it is sent on
    module _ (lent : Session) (before after : Linked)
        (live : Some lent ≡ live_at talk.sessions with.closing.session) (same : before ≡ lent.value)
        (out out_new : List SessionFrame) (told told_new : List Event)
        (does : DoesCredited limit with.closing.session with.closing.count with.closing.handle with.closing.why Ons
        before out told after out_new told_new) where
      abbrev BehindOn : Talk
      BehindOn = behind-talk talk with.closing.session lent after

      credits : Credits does.frames does.events before after
      credits =
          subst
          (λ (why : Error).
          CreditedAt limit with.closing.session with.closing.count with.closing.handle why Ons does.frames
          does.events before after)
          is-to-go-on.why does.does

      goes-there : GoesOn (Credits does.frames does.events) talk with.closing.session BehindOn
      goes-there =
          record {
            before = lent;
            after = with_value lent after;
            done = subst (λ (s : Linked). Credits does.frames does.events s after) same credits;
            stepped = (sym live, refl);
            rest = refl;
          }

      abbrev Held : Option End
      Held = end_of (link_of talk with.closing.session with.closing.handle)

      sends-with : SendsOnWith (goes_on_at Held) limit with.closing.session (open_count Held) with.closing.handle talk
          does.frames does.events BehindOn
      sends-with =
          subst
          (λ (xs : List PreparedSendOn).
          SendsOnWith xs limit with.closing.session (open_count Held) with.closing.handle talk does.frames
          does.events BehindOn)
          (sym is-to-go-on.ons)
          (subst
          (λ (n : ℕ).
          SendsOnWith Ons limit with.closing.session n with.closing.handle talk does.frames does.events BehindOn)
          is-to-go-on.count goes-there)

      sends-at : SendsOnAt limit with.closing.session (named_in talk with.closing.session named) talk does.frames
          does.events BehindOn
      sends-at =
          subst
          (λ (o : Option ℕ). SendsOnAt limit with.closing.session o talk does.frames does.events BehindOn)
          (sym is-to-go-on.own) sends-with

      pub sends-on-by : Tells (λ (frames : List SessionFrame) (events : List Event).
          SendsOnBy limit session named talk frames events BehindOn) out told out_new told_new
      sends-on-by =
          record {
            frames = does.frames;
            events = does.events;
            is_so =
                subst (λ (o : Option ℕ). SendsOnBy limit o named talk does.frames does.events BehindOn)
                (sym is-to-go-on.taken) sends-at;
            queued = does.queued;
            are_told = does.are_told;
          }

      abbrev HandsOn : Type 0
      HandsOn =
          Hands (λ (frames : List SessionFrame).
          GoesOn (Credits frames does.events) talk with.closing.session BehindOn) out out_new

      handed : HandsOn
      handed = record { frames = does.frames; is_so = goes-there; queued = does.queued }

      -- what is handed out of it fits
      pub sent-goes : (from : ℕ)
          → ((s : Linked) → fits limit
          (frame_of
          (detach_frame s.session.fields.channel
          (own_detach with.closing.handle true (Some (error_of not_allowed)))))
          ≡ true)
          → from ≡ length out → All IsRead (drop from out_new) → Goes limit talk BehindOn out out_new
      unfolding handed goes-there
      sent-goes from fit is reads =
          let Does : List SessionFrame → Linked → Linked → Type 0 = λ frames. Credits frames does.events in
          let s : Stepped limit lent.value does.frames after =
          credited-at limit with.closing.session with.closing.count with.closing.handle (error_of not_allowed) Ons
          does.frames does.events lent.value after (fit lent.value)
          (subst (λ (s : Linked). Credits does.frames does.events s after) same credits) in
          done-goes Does talk with.closing.session BehindOn out out_new handed limit from is reads s.done

      pub sent-rests : Rests talk BehindOn out out_new
      sent-rests =
          let Does : List SessionFrame → Linked → Linked → Type 0 = λ frames. Credits frames does.events in
          done-rests Does talk with.closing.session BehindOn out out_new handed

-- where nothing is made ready nothing changes
pub may-goes : (limit : ℕ) (old : Talk) (channel : IncomingChannel) (new : Talk) (out out_new : List SessionFrame)
    → out_new ≡ out → MayMakeRoom old channel new → Goes limit old new out out_new
may-goes limit old channel new out out_new same m =
    room-goes limit (Waiting (record { 0 = 0 })) old channel new out out_new same m

pub may-rests : (old : Talk) (channel : IncomingChannel) (new : Talk) (out out_new : List SessionFrame)
    → out_new ≡ out → MayMakeRoom old channel new → Rests old new out out_new
may-rests old channel new out out_new same m =
    room-rests (Waiting (record { 0 = 0 })) old channel new out out_new same m
