-- Behind a Flow the link that it names stands as before, but for its credit: what it has to send on then is what the
-- Flow lets go on (part 2, 2.6.7, 2.6.13).
use Rattle.std.proofs.Common.{◌≡◌, ◌⊎◌, inl, inr, ℕ, true, false, List, [], Option, Some, None, Result, Ok}
use Rattle.std.proofs.Common.{ap, refl, subst, sym, ◌∙◌}
use Rattle.std.specs.Prelude.{is_some}
use Rattle.std.specs.FinMap as map
use Rattle.std.specs.Global.{Box}
use Rattle.std.proofs.lemmas.Option.{none-some, same_Some}
use Rattle.amqp_session_types.specs.declared.channels.IncomingChannel.{IncomingChannel}
use Rattle.amqp_session_types.specs.declared.handles.Handle.{Handle}
use Rattle.amqp_session_performatives.specs.declared.flow.Flow.{Flow}
use Rattle.amqp_session_performatives.specs.declared.session_frame.SessionFrame.{SessionFrame}
use Rattle.amqp_session_core.specs.State.{link_at, reached as link_reached}
use Rattle.amqp_link.specs.GoingOn.{goes_on, sends_on_by}
use Rattle.amqp_link.specs.declared.relay.AttachTold.{AttachTold}
use Rattle.amqp_link_base.specs.declared.detached.Detached.{Detached}
use Rattle.amqp_link_receiver.specs.declared.answer.Told.{Told}
use Rattle.amqp_endpoint_links.specs.Asked.{Asked as AskedLinks}
use Rattle.amqp_endpoint_links.specs.declared.hearing.LinkPerformative.TheVariants as said
use Rattle.amqp_endpoint_links.specs.declared.hearing.PerformativeTaken.{PerformativeTaken}
use Rattle.amqp_endpoint_links.specs.declared.session.AskedSession.{AskedSession}
use Rattle.amqp_endpoint_tables.specs.State.{asked_of, live_at, live_of, reached, with_asked}
use Rattle.amqp_endpoint_tables.specs.Steps.{ChangesAsked}
use Rattle.amqp_endpoint_tables.specs.declared.place.Place.TheVariants.{Asked, Live, Ending, Over}
use Rattle.amqp_endpoint_tables.proofs.Owning.{at}
use Rattle.amqp_endpoint_attached.specs.Linked.{Linked, LinksIn, gives}
use Rattle.amqp_endpoint_conversation.specs.Hearing.{AnsweredAt, AnsweredIn, AskedTakes}
use Rattle.amqp_endpoint_conversation.specs.declared.hearing.Heard.TheVariants as heard
use Rattle.amqp_endpoint_link_hearing.specs.Flowing.{LetsGo, MayMakeRoom, named_in, named_under, named_within}
use Rattle.amqp_endpoint_link_hearing.specs.Flowing.{said_of_link}
use Rattle.amqp_endpoint_link_hearing.specs.Heard.{session_of}
use Rattle.amqp_endpoint_link_hearing.specs.Naming.{link_in, link_of}
use Rattle.amqp_endpoint_link_hearing.specs.Reached.{link_among, link_below, link_on, link_under, link_within}
use Rattle.amqp_endpoint_link_hearing.specs.Saying.{Answers, LinkHeard, LinkRefusal}
use Rattle.amqp_endpoint_link_hearing.proofs.FlowHeard.{AskedTook, LinkTook, TookIt, flow-took, live-there, took-in}
use Rattle.amqp_endpoint_link_hearing.proofs.FlowLeft.{Held, all-left}
use Rattle.amqp_endpoint_link_hearing.proofs.FlowServes.{named-route}
use Rattle.amqp_endpoint_link_hearing.proofs.Heard.{IsTaken, taken-in}
use Rattle.amqp_endpoint_link_hearing.proofs.OnBehind.{on-behind}
use Rattle.amqp_endpoint_linking.specs.Linking.{Link, Links, Session, Stood, Talk}
use Rattle.amqp_endpoint_laws.proofs.BehindAttach.{number_of}
use Rattle.amqp_endpoint_laws.proofs.HoldingTalk.{changed-live}
use Rattle.amqp_endpoint_laws.proofs.PassedPlaces.{eq-same}
use Rattle.amqp_endpoint_laws.proofs.RoomMade.{HasRoom, room-alike, room-links, room-reached}

-- the link with this own handle is the one that the Flow named, and has to send on what the Flow lets it
pub record NamedBy (old : Talk) (channel : IncomingChannel) (flow : Flow) (session own : ℕ) (link : Link) : Type 0
  where
    pub named : Handle
    pub names : flow.handle ≡ Some named
    pub before : Link
    pub was : link_on old channel named.0 ≡ Some before
    pub stood : link_of old session (record { 0 = own }) ≡ Some before
    pub ons : goes_on link.link ≡ sends_on_by before.link (said_of_link flow named)

abbrev pub FlowStays : Talk → IncomingChannel → Flow → Talk → ℕ → Type 0
FlowStays old channel flow left session =
    (own : ℕ) (link : Link) → named_in left session flow.handle ≡ Some own
    → link_of left session (record { 0 = own }) ≡ Some link → NamedBy old channel flow session own link

-- a session that is only asked for has no links, nor has one that is ending
asked-behind : (stood : Stood) (before after : Box AskedSession) → asked_of (Some stood) ≡ Some before
    → live_of (Some (with_asked stood after)) ≡ None
asked-behind (Asked channel a) before after is = refl
asked-behind (Live channel s) before after is = absurd (none-some before is)
asked-behind (Ending channel own_end) before after is = absurd (none-some before is)
asked-behind (Over peer_end complete) before after is = absurd (none-some before is)

asked-takes : (old : Talk) (number : ℕ) (before : Box AskedSession) (flow : Flow) (new : Talk)
    → AskedTakes old number before (said.Flow flow) new → live_at new.sessions number ≡ None
asked-takes old number before flow new t =
    let (stood, was, is, becomes) =
    (at number old.sessions (ChangesAsked number before t.after) new.sessions t.stepped).about (eq-same number) in
    ap live_of becomes ∙ asked-behind stood before t.after is

-- the session of which what was said comes to nothing
abbrev dropped : ℕ → Result LinkHeard LinkRefusal
dropped n = Ok (heard.Dropped n)

abbrev dropped-of : ℕ → LinkHeard → ℕ
dropped-of other (heard.Dropped k) = k
dropped-of other it = other

abbrev dropped-in-ok : ℕ → Result LinkHeard LinkRefusal → ℕ
dropped-in-ok other (Ok it) = dropped-of other it
dropped-in-ok other it = other

dropped-number : (n number : ℕ) → dropped n ≡ dropped number → n ≡ number
dropped-number n number is = ap (λ (r : Result LinkHeard LinkRefusal). dropped-in-ok n r) is

module _ (ready : Talk) (channel : IncomingChannel) (flow : Flow) (first : List SessionFrame) (mid : Talk) where
  asked-none : (asked : Option (Box AskedSession)) (live : Option Session) (number n : ℕ)
      → AnsweredAt gives asked live ready [] number (said.Flow flow) (Ok (heard.Asked n)) mid first
      → live_at mid.sessions n ≡ None
  asked-none (Some before) live number n ((same, t), none) =
      ap (λ (k : ℕ). live_at mid.sessions k) same ∙ asked-takes ready number before flow mid t
  asked-none None (Some session) number n t = absurd t
  asked-none None None number n (is, same, none) = let clash = is in absurd cc

  asked-in : (number : Option ℕ) (n : ℕ)
      → AnsweredIn gives number ready [] (said.Flow flow) (Ok (heard.Asked n)) mid first
      → live_at mid.sessions n ≡ None
  asked-in None n (wrong, same, none) = let clash = wrong in absurd cc
  asked-in (Some number) n t = asked-none _ _ number n t

  dropped-none : (asked : Option (Box AskedSession)) (live : Option Session) (number n : ℕ)
      → live_at ready.sessions number ≡ live
      → AnsweredAt gives asked live ready [] number (said.Flow flow) (Ok (heard.Dropped n)) mid first
      → live_at mid.sessions n ≡ None
  dropped-none (Some before) live number n is (t, none) = absurd t
  dropped-none None (Some session) number n is t = absurd t
  dropped-none None None number n is (one, same, none) =
      ap (λ (k : ℕ). live_at mid.sessions k) (dropped-number n number one)
      ∙ ap (λ (t : Talk). live_at t.sessions number) same ∙ is

  dropped-in : (number : Option ℕ) (n : ℕ)
      → AnsweredIn gives number ready [] (said.Flow flow) (Ok (heard.Dropped n)) mid first
      → live_at mid.sessions n ≡ None
  dropped-in None n (wrong, same, none) = let clash = wrong in absurd cc
  dropped-in (Some number) n t = dropped-none _ _ number n refl t

  -- no link is named in such a session
  none-named : (n own : ℕ) (named : Option Handle) → live_at mid.sessions n ≡ None → named_in mid n named ≡ Some own → ⊥
  none-named n own None none is = none-some own is
  none-named n own (Some handle) none is =
      none-some own (sym (ap (λ (o : Option Session). named_within o handle.0) none) ∙ is)

-- room is made in a session: a link that is reached there was reached
module _ (old : Talk) (channel : IncomingChannel) (ready : Talk) (made : MayMakeRoom old channel ready) where
  under : (a b : Linked) (o : Option ℕ) → ((h : ℕ) → link_at a.session h ≡ link_at b.session h)
      → link_under a o ≡ link_under b o
  under a b None same = refl
  under a b (Some handle) same = same handle

  below : (input : ℕ) (before after : Session) → HasRoom before after
      → link_within (Some after) input ≡ link_within (Some before) input
  below input before after is =
      ap (λ (o : Option ℕ). link_under after.value o) (ap (λ (x : LinksIn). link_reached x input) is)
      ∙ under after.value before.value (link_reached before.value.session input)
      (λ h. ap (λ (x : LinksIn). link_at x h) is)

  room-on : (input : ℕ) → link_on ready channel input ≡ link_on old channel input
  room-on input =
      ap (λ (o : Option ℕ). link_among ready o input) (room-reached old channel ready made channel.0)
      ∙ by (reached old.sessions channel.0)
    where
      by : (o : Option ℕ) → link_among ready o input ≡ link_among old o input
      by None = refl
      by (Some n) =
          room-alike old channel ready (λ (o : Option Session). link_within o input) (below input) made n

  -- the session that the channel reaches takes a Flow, and links leave it
  module _ (flow : Flow) (first : List SessionFrame) (mid left : Talk) where
    module _ (n own : ℕ) (link : Link) (named : Handle) (names : flow.handle ≡ Some named) (before : Session)
        (reaches : reached ready.sessions channel.0 ≡ Some n) (live : live_at ready.sessions n ≡ Some before)
        (after : Linked) (gone : Session) (stands : live_at left.sessions n ≡ Some gone)
        (held : Held after gone.value) (is : named_under gone.value named.0 ≡ Some own)
        (there : link_of left n (record { 0 = own }) ≡ Some link) where
      link-named : LinkTook before.value after flow named → NamedBy old channel flow n own link
      link-named t =
          let route = held.led named.0 own (named-route gone.value named.0 own is).1 in
          let one : own ≡ t.handle = same_Some own t.handle (sym route ∙ t.route_still) in
          let here : link_at gone.value.session own ≡ Some link =
          sym (ap (λ (o : Option Session). link_in o (record { 0 = own })) stands) ∙ there in
          let same : link ≡ t.link =
          same_Some link t.link
          (sym (held.were own link here) ∙ ap (λ (h : ℕ). link_at after.session h) one ∙ t.there) in
          let reached-there : link_below before.value named.0 ≡ Some t.had =
          ap (λ (o : Option ℕ). link_under before.value o)
          (live-there before.value.session.links _ t.handle t.had t.route t.was)
          ∙ t.was in
          let was-on : link_on ready channel named.0 ≡ Some t.had =
          ap (λ (o : Option ℕ). link_among ready o named.0) reaches
          ∙ ap (λ (o : Option Session). link_within o named.0) live ∙ reached-there in
          let was-of : link_of ready n (record { 0 = own }) ≡ Some t.had =
          ap (λ (o : Option Session). link_in o (record { 0 = own })) live
          ∙ ap (λ (h : ℕ). link_at before.value.session h) one ∙ t.was in
          record {
            named = named;
            names = names;
            before = t.had;
            was = sym (room-on named.0) ∙ was-on;
            stood = sym (room-links old channel ready made n (record { 0 = own })) ∙ was-of;
            ons =
                ap (λ (l : Link). goes_on l.link) same
                ∙ on-behind flow named (t.had).link t.told (t.link).link (t.took).0;
          }

      took-named : AskedTook before.value after named ⊎ LinkTook before.value after flow named
          → NamedBy old channel flow n own link
      took-named (inl t) =
          let asked : is_some (map.get gone.value.asked named.0) ≡ true =
          ap (λ (a : AskedLinks). is_some (map.get a named.0)) held.asked ∙ t.is in
          let clash : true ≡ false = sym asked ∙ (named-route gone.value named.0 own is).0 in absurd cc
      took-named (inr t) = link-named t

    live-stays : (links links_new : Links) (n : ℕ) (told : PerformativeTaken AttachTold Told Detached)
        → Answers ready channel (said.Flow flow) (Ok (heard.Live n told)) first mid
        → LetsGo (Some n) first mid links left links_new → (named : Option Handle) → flow.handle ≡ named → (own : ℕ)
        → named_in left n named ≡ Some own → (link : Link) → link_of left n (record { 0 = own }) ≡ Some link
        → NamedBy old channel flow n own link
    live-stays links links_new n told answered leave None names own is link there = absurd (none-some own is)
    live-stays links links_new n told answered leave (Some named) names own is link there =
        let t : IsTaken ready channel [] (said.Flow flow) n told mid first =
        taken-in ready channel [] (said.Flow flow) n told mid first answered in
        let k : TookIt ready channel [] flow mid first n t.before (heard.Live n told) =
        took-in ready channel [] flow mid first n told t in
        let stands : live_at left.sessions n ≡ Some leave.after =
        changed-live n leave.before leave.after mid.sessions left.sessions leave.stepped in
        let same : leave.before ≡ k.after = same_Some leave.before k.after (sym leave.stepped.0 ∙ k.stands) in
        took-named n own link named names t.before t.reaches t.live k.after.value leave.after stands
        (subst (λ (s : Session). Held s.value leave.after.value) same
        (all-left first leave.before.value leave.after.value links links_new leave.done))
        (sym (ap (λ (o : Option Session). named_within o named.0) stands) ∙ is) there
        (flow-took t.before.value k.after.value [] first flow named names k.took)

pub flow-stays : (old : Talk) (links : Links) (channel : IncomingChannel) (flow : Flow) (ready : Talk)
    → MayMakeRoom old channel ready → (it : LinkHeard) (first : List SessionFrame) (mid : Talk)
    → Answers ready channel (said.Flow flow) (Ok it) first mid → (left : Talk) (links_new : Links)
    → LetsGo (session_of it) first mid links left links_new → FlowStays old channel flow left (number_of it)
flow-stays old links channel flow ready made (heard.Live n told) first mid answered left links_new leave own link is
    there =
    live-stays old channel ready made flow first mid left links links_new n told answered leave flow.handle refl own is
    link there
flow-stays old links channel flow ready made (heard.Asked n) first mid answered left links_new (same, kept) own link is
    there =
    absurd
    (none-named ready channel flow first mid n own flow.handle
    (asked-in ready channel flow first mid (reached ready.sessions channel.0) n answered)
    (sym (ap (λ (t : Talk). named_in t n flow.handle) same) ∙ is))
flow-stays old links channel flow ready made (heard.Dropped n) first mid answered left links_new (same, kept) own link
    is there =
    absurd
    (none-named ready channel flow first mid n own flow.handle
    (dropped-in ready channel flow first mid (reached ready.sessions channel.0) n answered)
    (sym (ap (λ (t : Talk). named_in t n flow.handle) same) ∙ is))
