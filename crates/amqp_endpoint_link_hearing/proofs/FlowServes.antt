-- What was made ready for the link that a Flow names serves once its session took the Flow, and links left it.
use Rattle.std.proofs.Common.{◌≡◌, ◌⊎◌, ◌≤◌, ◌+◌, inl, inr, ℕ, Bool, true, false, List, [], ◌∷◌, Option, Some, None, Ok}
use Rattle.std.proofs.Common.{refl, sym, ap, subst, ◌∙◌, arith}
use Rattle.std.specs.Prelude.{◌≢◌, is_some, option_map}
use Rattle.std.specs.FinMap as map
use Rattle.std.proofs.lemmas.Option.{none-some, same_Some}
use Rattle.amqp_session_types.specs.declared.channels.IncomingChannel.{IncomingChannel}
use Rattle.amqp_session_types.specs.declared.handles.Handle.{Handle}
use Rattle.amqp_session_types.specs.declared.handles.OutputHandle.{OutputHandle}
use Rattle.amqp_session_performatives.specs.declared.flow.Flow.{Flow}
use Rattle.amqp_session_performatives.specs.declared.session_frame.SessionFrame.{SessionFrame}
use Rattle.amqp_session_outgoing.specs.Queues.{frames_in}
use Rattle.amqp_session_core.specs.State.{link_at, reached as reached_own}
use Rattle.amqp_link_sender.specs.declared.sending_on.PreparedSendOn.{PreparedSendOn}
use Rattle.amqp_link.specs.GoingOn.{goes_on, sends_on_by}
use Rattle.amqp_link.specs.declared.end.End.{End}
use Rattle.amqp_endpoint_links.specs.Asked.{Asked}
use Rattle.amqp_endpoint_links.specs.declared.hearing.LinkPerformative.TheVariants as said
use Rattle.amqp_endpoint_tables.specs.State.{live_at, reached}
use Rattle.amqp_endpoint_conversation.specs.Hearing.{Answered, KeepsRoom}
use Rattle.amqp_endpoint_conversation.specs.declared.hearing.Heard.TheVariants.{Asked as AskedHeard, Live, Dropped}
use Rattle.amqp_endpoint_attached.specs.Linked.{Linked, gives}
use Rattle.amqp_endpoint_messages.specs.All.{open_count}
use Rattle.amqp_endpoint_messages.specs.SendingOn.{AreCutOn, AreReadyOn, HasRoomToGoOn, MayGoOn, goes_on_at}
use Rattle.amqp_endpoint_messages.specs.SendingOn.{transfers_in}
use Rattle.amqp_endpoint_messages.specs.declared.sending_on.FlowReady.{FlowReady}
use Rattle.amqp_endpoint_linking.specs.Linking.{Link, Links, Session, Sessions, Talk}
use Rattle.amqp_endpoint_link_hearing.specs.Flowing.{LetsGo, NoneGoesOn, NonePlanned, SendsOnAt, SendsOnBy}
use Rattle.amqp_endpoint_link_hearing.specs.Flowing.{SendsOnWith, end_of, ended_link, goes_on_by, named_in}
use Rattle.amqp_endpoint_link_hearing.specs.Flowing.{named_under, named_within, said_of_link, unless_asked}
use Rattle.amqp_endpoint_link_hearing.specs.Heard.{session_of}
use Rattle.amqp_endpoint_link_hearing.specs.Naming.{link_in, link_of}
use Rattle.amqp_endpoint_link_hearing.specs.Reached.{link_under}
use Rattle.amqp_endpoint_link_hearing.specs.ReadyOn.{AreReadied, AreToGoOn, IsReadied, IsToGoOn, ServesOn, ServesToGoOn}
use Rattle.amqp_endpoint_link_hearing.specs.Saying.{LinkHeard}
use Rattle.amqp_endpoint_link_hearing.proofs.FlowHeard.{AskedTook, LinkTook, TookIt, flow-took, live-is, live-there}
use Rattle.amqp_endpoint_link_hearing.proofs.FlowHeard.{took-in, took-it}
use Rattle.amqp_endpoint_link_hearing.proofs.FlowLeft.{Held, all-left}
use Rattle.amqp_endpoint_link_hearing.proofs.FlowReadied.{named-of}
use Rattle.amqp_endpoint_link_hearing.proofs.Heard.{taken-in}
use Rattle.amqp_endpoint_link_hearing.proofs.Lending.{lives}
use Rattle.amqp_endpoint_link_hearing.proofs.OnBehind.{credit-for, not-ended, on-behind, open-behind, room-most}

-- what names a link
named-reaches : (asked : Bool) (own : Option ℕ) (handle : ℕ) → unless_asked asked own ≡ Some handle
    → (asked ≡ false) × (own ≡ Some handle)
named-reaches true own handle is = absurd (none-some _ is)
named-reaches false own handle is = (refl, is)

pub named-route : (s : Linked) (input handle : ℕ) → named_under s input ≡ Some handle
    → (is_some (map.get s.asked input) ≡ false) × (map.get s.session.routes input ≡ Some handle)
named-route s input handle is =
    let (unasked, own) =
    named-reaches (is_some (map.get s.asked input)) (reached_own s.session input) handle is in
    (unasked, live-is s.session.links (map.get s.session.routes input) handle own)

-- a link that is led to is named, where none is asked for
route-named : (s : Linked) (input handle : ℕ) (link : Link) → is_some (map.get s.asked input) ≡ false
    → map.get s.session.routes input ≡ Some handle → link_at s.session handle ≡ Some link
    → named_under s input ≡ Some handle
route-named s input handle link unasked route there =
    named-of (is_some (map.get s.asked input)) (reached_own s.session input) unasked
    ∙ live-there s.session.links (map.get s.session.routes input) handle link route there

-- a list that isn't empty
pub record Filled {X : Type 0} (xs : List X) : Type 0 where
  pub first : X
  pub others : List X
  pub is : xs ≡ first ∷ others

filled : {X : Type 0} (xs : List X) → xs ≢ [] → Filled xs
filled [] some = absurd (some refl)
filled (x ∷ xs) some = record { first = x; others = xs; is = refl }

-- a session took a Flow, and links left it behind that
module _ (before after left : Linked) (flow : Flow) (named : Handle) (held : Held after left) where
  -- of the link that took it so much goes on as was to go on
  goes-so : (t : LinkTook before after flow named)
      → goes_on (t.link).link ≡ sends_on_by (t.had).link (said_of_link flow named)
  goes-so t = on-behind flow named (t.had).link t.told (t.link).link (t.took).0

  -- nothing was to go on, and nothing does
  module _ (none : NoneGoesOn before (said_of_link flow named)) (handle : ℕ)
      (is : named_under left named.0 ≡ Some handle) where
    none-by : (t : LinkTook before after flow named) → goes_on (t.link).link ≡ []
    none-by t =
        goes-so t
        ∙ sym (ap (λ (o : Option Link). goes_on_by o (said_of_link flow named)) t.was)
        ∙ sym
        (ap (λ (o : Option ℕ). goes_on_by (link_under before o) (said_of_link flow named))
        (route-named before named.0 t.handle t.had t.unasked t.route t.was))
        ∙ none

    none-at : (t : LinkTook before after flow named) (o : Option Link) → link_at left.session handle ≡ o
        → goes_on_at (end_of o) ≡ []
    none-at t None there = refl
    none-at t (Some link) there =
        let route : map.get after.session.routes named.0 ≡ Some handle =
        held.led named.0 handle (named-route left named.0 handle is).1 in
        let one : handle ≡ t.handle = same_Some _ _ (sym route ∙ t.route_still) in
        let was : link_at after.session handle ≡ Some link = held.were handle link there in
        let same : link ≡ t.link =
        same_Some _ _ (sym was ∙ ap (λ (h : ℕ). link_at after.session h) one ∙ t.there) in
        ap (λ (l : Link). goes_on l.link) same ∙ none-by t

    pub none-there : AskedTook before after named ⊎ LinkTook before after flow named
        → goes_on_at (end_of (link_at left.session handle)) ≡ []
    none-there (inl t) =
        let asked : is_some (map.get left.asked named.0) ≡ true =
        ap (λ (a : Asked). is_some (map.get a named.0)) held.asked ∙ t.is in
        let clash : true ≡ false = sym asked ∙ (named-route left named.0 handle is).0 in absurd cc
    none-there (inr t) = none-at t (link_at left.session handle) refl

  -- some were to go on
  module _ (handle : ℕ) (own : named_under before named.0 ≡ Some handle) (link : Link)
      (there : link_at before.session handle ≡ Some link)
      (some : sends_on_by link.link (said_of_link flow named) ≢ []) where
    pub record StandsOn : Type 0 where
      pub named_still : named_under left named.0 ≡ Some handle
      pub link_now : Link
      pub stands : link_at left.session handle ≡ Some link_now
      pub goes : goes_on link_now.link ≡ sends_on_by link.link (said_of_link flow named)
      pub opened : open_count (Some link_now.link) ≡ open_count (Some link.link)

    by-link : LinkTook before after flow named → StandsOn
    by-link t =
        let one : t.handle ≡ handle = same_Some _ _ (sym t.route ∙ (named-route before named.0 handle own).1) in
        let had : t.had ≡ link =
        same_Some _ _ (sym t.was ∙ ap (λ (h : ℕ). link_at before.session h) one ∙ there) in
        let goes : goes_on (t.link).link ≡ sends_on_by link.link (said_of_link flow named) =
        goes-so t ∙ ap (λ (l : Link). sends_on_by l.link (said_of_link flow named)) had in
        let not : ended_link (Some t.link) ≡ None =
        not-ended (t.link).link (t.link).number (λ none. some (sym goes ∙ none)) in
        let here : link_at after.session handle ≡ Some t.link =
        ap (λ (h : ℕ). link_at after.session h) (sym one) ∙ t.there in
        let stands : link_at left.session handle ≡ Some t.link = held.stays handle t.link here not in
        let led : map.get left.session.routes named.0 ≡ Some handle =
        held.leads named.0 handle t.link (t.route_still ∙ ap (λ (h : ℕ). Some h) one) here not in
        let unasked : is_some (map.get left.asked named.0) ≡ false =
        ap (λ (a : Asked). is_some (map.get a named.0)) held.asked ∙ t.still in
        record {
          named_still = route-named left named.0 handle t.link unasked led stands;
          link_now = t.link;
          stands = stands;
          goes = goes;
          opened =
              open-behind flow named (t.had).link t.told (t.link).link (t.took).0
              ∙ ap (λ (l : Link). open_count (Some l.link)) had;
        }

    pub stands-on : AskedTook before after named ⊎ LinkTook before after flow named → StandsOn
    stands-on (inl t) =
        let clash : true ≡ false = sym t.was ∙ (named-route before named.0 handle own).0 in absurd cc
    stands-on (inr t) = by-link t

-- where nothing goes on of what a link has nothing is sent on
sends-none : (limit session : ℕ) (own : Option ℕ) (talk : Talk)
    → ((handle : ℕ) → own ≡ Some handle → goes_on_at (end_of (link_of talk session (record { 0 = handle }))) ≡ [])
    → SendsOnAt limit session own talk [] [] talk
sends-none limit session None talk none = (refl, refl, refl)
sends-none limit session (Some own) talk none =
    let handle : OutputHandle = record { 0 = own } in
    let link : Option End = end_of (link_of talk session handle) in
    subst (λ (xs : List PreparedSendOn). SendsOnWith xs limit session (open_count link) handle talk [] [] talk)
    (sym (none own refl)) (refl, refl, refl)

-- links left the session that took it
module _ (frames : List SessionFrame) (mid left : Talk) (links links_new : Links) (number : ℕ)
    (go : LetsGo (Some number) frames mid links left links_new) where
  left-lives : live_at left.sessions number ≡ Some go.after
  left-lives = ap (λ (s : Sessions). live_at s number) (go.stepped).1
      ∙ lives mid.sessions number go.after go.before (go.stepped).0

  left-held : (after : Session) → live_at mid.sessions number ≡ Some after → Held after.value (go.after).value
  left-held after stands =
      let same : go.before ≡ after = same_Some _ _ (sym (go.stepped).0 ∙ stands) in
      subst (λ (s : Session). Held s.value (go.after).value) same
      (all-left frames (go.before).value (go.after).value links links_new go.done)

-- what is behind it
module _ (old : Talk) (channel : IncomingChannel) (out : List SessionFrame) (flow : Flow) (mid : Talk)
    (out_mid : List SessionFrame) (heard : LinkHeard)
    (answered : Answered gives old out channel (said.Flow flow) (Ok heard) mid out_mid) (frames : List SessionFrame)
    (left : Talk) (links links_new : Links) where
  abbrev Lets : Option ℕ → Type 0
  Lets took = LetsGo took frames mid links left links_new

  -- nothing was to go on
  module _ (limit : ℕ) (none : NonePlanned old channel flow) where
    none-named : (number : ℕ) (before : Session) → reached old.sessions channel.0 ≡ Some number
        → live_at old.sessions number ≡ Some before
        → (t : TookIt old channel out flow mid out_mid number before heard) → (go : Lets (Some number))
        → (named : Option Handle) → flow.handle ≡ named
        → SendsOnAt limit number (named_in left number named) left [] [] left
    none-named number before reaches live t go None names = (refl, refl, refl)
    none-named number before reaches live t go (Some named) names =
        let now : Session = go.after in
        let lives_now : live_at left.sessions number ≡ Some now =
        left-lives frames mid left links links_new number go in
        let held : Held (t.after).value now.value =
        left-held frames mid left links links_new number go t.after t.stands in
        let took =
        flow-took before.value (t.after).value out out_mid flow named names t.took in
        sends-none limit number (named_within (live_at left.sessions number) named.0) left
        (λ handle is.
        ap (λ (o : Option Session). goes_on_at (end_of (link_in o (record { 0 = handle })))) lives_now
        ∙ none-there before.value (t.after).value now.value flow named held
        (none named number before names reaches live) handle
        (ap (λ (o : Option Session). named_within o named.0) (sym lives_now) ∙ is) took)

    none-in : (number : ℕ) (before : Session) → reached old.sessions channel.0 ≡ Some number
        → live_at old.sessions number ≡ Some before
        → TookIt old channel out flow mid out_mid number before heard → Lets (Some number)
        → SendsOnBy limit (Some number) flow.handle left [] [] left
    none-in number before reaches live t go = none-named number before reaches live t go flow.handle refl

  -- some were
  module _ (limit len capacity : ℕ) (ready : FlowReady)
      (is : IsReadied limit old channel flow len capacity ready) where
    took : TookIt old channel out flow mid out_mid ready.closing.session is.session heard
    took = took-it old channel out flow mid out_mid ready.closing.session is.session is.live heard is.reaches answered

    pub session-is : session_of heard ≡ Some ready.closing.session
    session-is = ap (λ (h : LinkHeard). session_of h) took.heard_is

    module _ (go : Lets (session_of heard)) where
      here : Lets (Some ready.closing.session)
      here = subst (λ (o : Option ℕ). Lets o) session-is go

      lives_now : live_at left.sessions ready.closing.session ≡ Some here.after
      lives_now = left-lives frames mid left links links_new ready.closing.session here

      held : Held (took.after).value (here.after).value
      held = left-held frames mid left links links_new ready.closing.session here took.after took.stands

      standing : StandsOn (is.session).value (took.after).value (here.after).value flow is.named held
          ready.closing.handle.0 is.own is.link is.there is.some
      standing =
          stands-on (is.session).value (took.after).value (here.after).value flow is.named held
          ready.closing.handle.0 is.own is.link is.there is.some
          (flow-took (is.session).value (took.after).value out out_mid flow is.named is.names took.took)

      linked-now : link_of left ready.closing.session ready.closing.handle ≡ Some standing.link_now
      linked-now =
          ap (λ (o : Option Session). link_in o ready.closing.handle) lives_now ∙ standing.stands

      ends-now : end_of (link_of left ready.closing.session ready.closing.handle) ≡ Some (standing.link_now).link
      ends-now = ap (λ (o : Option Link). end_of o) linked-now

      ons : Filled (sends_on_by (is.link).link (said_of_link flow is.named))
      ons = filled (sends_on_by (is.link).link (said_of_link flow is.named)) is.some

      pub some-to-go : IsToGoOn limit left (session_of heard) flow.handle ready
      some-to-go =
          record {
            taken = session-is;
            own =
                ap (λ (h : Option Handle). named_in left ready.closing.session h) is.names
                ∙ ap (λ (o : Option Session). named_within o (is.named).0) lives_now
                ∙ standing.named_still;
            first = ons.first;
            others = ons.others;
            ons = ap goes_on_at ends-now ∙ standing.goes ∙ ons.is;
            on =
                subst (λ (xs : List PreparedSendOn). AreReadyOn limit ready.closing.handle xs ready.sending) ons.is
                is.on;
            count = is.count ∙ sym standing.opened ∙ ap (λ (o : Option End). open_count o) (sym ends-now);
            why = is.why;
          }

      may-go : MayGoOn ready (here.after).value
      may-go =
          record {
            link = (standing.link_now).link;
            there = ap (λ (o : Option Link). option_map (λ (n : Link). n.link) o) standing.stands;
            credit =
                credit-for limit ready.closing.handle (standing.link_now).link ready.sending.batches.items
                ready.sending.all_fit
                (subst
                (λ (xs : List PreparedSendOn).
                AreCutOn limit ready.closing.handle xs ready.sending.batches.items ready.sending.all_fit)
                (sym standing.goes) (is.on).cut);
            tagged = is.tagged;
          }

      module _ (len_mid capacity_mid : ℕ) (more : len ≤ len_mid) (larger : capacity ≤ capacity_mid)
          (keeps : KeepsRoom old.sessions len heard mid.sessions len_mid) where
        keeps-here : (len_mid + frames_in (took.after).value.session.outgoing.queues
            ≤ len + frames_in (is.session).value.session.outgoing.queues + 1)
            × ((took.after).value.session.outgoing.room ≡ (is.session).value.session.outgoing.room)
        keeps-here =
            let k : KeepsRoom old.sessions len (Live ready.closing.session took.told) mid.sessions len_mid =
            subst (λ (h : LinkHeard). KeepsRoom old.sessions len h mid.sessions len_mid) took.heard_is keeps in
            k is.session took.after is.live took.stands

        few : frames_in (here.after).value.session.outgoing.queues
            ≡ frames_in (took.after).value.session.outgoing.queues
        few = ap frames_in held.queues

        room-now : (here.after).value.session.outgoing.room ≡ (is.session).value.session.outgoing.room
        room-now = held.room ∙ keeps-here.1

        has-room : HasRoomToGoOn ready 1 (here.after).value len_mid capacity_mid
        has-room =
            record {
              room =
                  subst (λ (r : ℕ). transfers_in ready.sending.batches.items ≤ r) (sym room-now) (is.room).room;
              spare = omega (arith, (is.room).spare, keeps-here.0, few, room-now, more, larger);
              place =
                  record {
                    some = ((is.room).place).some;
                    serves =
                        omega (
                          arith,
                          is.deep,
                          keeps-here.0,
                          few,
                          more,
                          room-most ready.closing.handle.0 0 (here.after).value.session.outgoing.queues,
                        );
                  };
            }

        pub some-serves : ServesOn left len_mid capacity_mid ready
        some-serves = record { session = here.after; live = lives_now; may = may-go; room = has-room }

-- whatever was made ready, of whatever was heard
module _ (old : Talk) (channel : IncomingChannel) (out : List SessionFrame) (flow : Flow) (mid : Talk)
    (out_mid : List SessionFrame) (frames : List SessionFrame) (left : Talk) (links links_new : Links) where
  none-heard : (limit : ℕ) (heard : LinkHeard)
      → Answered gives old out channel (said.Flow flow) (Ok heard) mid out_mid
      → LetsGo (session_of heard) frames mid links left links_new → NonePlanned old channel flow
      → SendsOnBy limit (session_of heard) flow.handle left [] [] left
  none-heard limit (AskedHeard n) answered go none = (refl, refl, refl)
  none-heard limit (Dropped n) answered go none = (refl, refl, refl)
  none-heard limit (Live n told) answered go none =
      let t = taken-in old channel out (said.Flow flow) n told mid out_mid answered in
      none-in old channel out flow mid out_mid (Live n told) answered frames left links links_new limit none n t.before
      t.reaches t.live (took-in old channel out flow mid out_mid n told t) go

  module _ (limit len capacity : ℕ) (heard : LinkHeard) (took : Option ℕ) (is : took ≡ session_of heard)
      (answered : Answered gives old out channel (said.Flow flow) (Ok heard) mid out_mid)
      (go : LetsGo took frames mid links left links_new) where
    gone : LetsGo (session_of heard) frames mid links left links_new
    gone = subst (λ (o : Option ℕ). LetsGo o frames mid links left links_new) is go

    pub to-go-on : (ready : Option FlowReady) → AreReadied limit old channel flow len capacity ready
        → AreToGoOn limit left took flow.handle ready
    to-go-on None none =
        subst (λ (o : Option ℕ). SendsOnBy limit o flow.handle left [] [] left) (sym is)
        (none-heard limit heard answered gone none)
    to-go-on (Some ready) so =
        subst (λ (o : Option ℕ). IsToGoOn limit left o flow.handle ready) (sym is)
        (some-to-go old channel out flow mid out_mid heard answered frames left links links_new limit len capacity ready
        so gone)

    pub serves-behind : (ready : Option FlowReady) → AreReadied limit old channel flow len capacity ready
        → (len_mid capacity_mid : ℕ) → len ≤ len_mid → capacity ≤ capacity_mid
        → KeepsRoom old.sessions len heard mid.sessions len_mid → ServesToGoOn left len_mid capacity_mid ready
    serves-behind None none len_mid capacity_mid more larger keeps = tt
    serves-behind (Some ready) so len_mid capacity_mid more larger keeps =
        some-serves old channel out flow mid out_mid heard answered frames left links links_new limit len capacity ready
        so gone len_mid capacity_mid more larger keeps
