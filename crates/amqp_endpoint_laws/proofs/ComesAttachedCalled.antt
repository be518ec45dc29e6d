-- Behind the call by which a receiving link attaches it is attached at once only where it answers one that the peer
-- asks for; and by no other call does a link come to be attached.
use Rattle.std.proofs.Common.{◌≡◌, ◌≢◌, ◌==◌, ◌⊎◌, inl, inr, ℕ, Bool, true, false, List, [], Option, Some}
use Rattle.std.proofs.Common.{None, ap, cond, if◌then◌else◌, refl, sym, true≢false, ◌∙◌}
use Rattle.std.proofs.lemmas.Option.{none-some, same_Some}
use Rattle.std.specs.FinMap as map
use Rattle.amqp_session_types.specs.declared.handles.InputHandle.{InputHandle}
use Rattle.amqp_session_types.specs.declared.handles.OutputHandle.{OutputHandle}
use Rattle.amqp_session_types.specs.declared.modes.Role.TheVariants as role
use Rattle.amqp_session_performatives.specs.declared.session_frame.SessionFrame.{SessionFrame}
use Rattle.amqp_session_core.specs.State.{link_at}
use Rattle.amqp_session_core.specs.Tables.{RouteTable}
use Rattle.amqp_link.specs.Ends.{state_of, with_handle}
use Rattle.amqp_link.specs.declared.end.End.{End}
use Rattle.amqp_link_receiver.specs.Deliveries.{Delivery}
use Rattle.amqp_session_types.proofs.Tables.{get-put}
use Rattle.amqp_endpoint_links.specs.Asked.{Asked as AskedLinks}
use Rattle.amqp_endpoint_links.specs.declared.links.AskedLink.{AskedLink}
use Rattle.amqp_endpoint_attached.specs.Linked.{LinksIn}
use Rattle.amqp_endpoint_attached.specs.Links.{attach_sent, receiver_by, sender_by, with_number}
use Rattle.amqp_endpoint_laws.specs.Deeds.{Deed, Does, IsDeed, Takes}
use Rattle.amqp_endpoint_link_calls.specs.Attaching.{AttachedBy}
use Rattle.amqp_endpoint_link_calls.specs.Naming.{Meets}
use Rattle.amqp_endpoint.specs.Attaching.{LinkAttached}
use Rattle.amqp_endpoint.specs.Does.{linked}
use Rattle.amqp_endpoint.specs.declared.linked.LinkedSessions.{LinkedSessions}
use Rattle.amqp_endpoint_linking.specs.Linking.{Link, Session, Stood}
use Rattle.amqp_endpoint_model.specs.Said.{Said, attaching}
use Rattle.amqp_endpoint_model.specs.declared.call.Call.{Call}
use Rattle.amqp_endpoint_model.specs.declared.call.Call.TheVariants as call
use Rattle.amqp_endpoint_model.specs.declared.event.Event.{Event}
use Rattle.amqp_endpoint_tables.specs.State.{live_at, live_of, place_at}
use Rattle.amqp_endpoint_tables.specs.Steps.{ChangesLive}
use Rattle.amqp_endpoint_tables.specs.declared.place.Place.TheVariants.{Asked, Live, Ending, Over}
use Rattle.amqp_endpoint_tables.proofs.Owning.{at, same_number}
use Rattle.amqp_endpoint_model.specs.declared.link.LinkSettings.{LinkSettings}
use Rattle.amqp_endpoint_laws.specs.Agreeing.{Agree}
use Rattle.amqp_endpoint_laws.specs.Handed.{IsReceiving, leads_there}
use Rattle.amqp_endpoint_laws.specs.Held.{number_at}
use Rattle.amqp_endpoint_laws.specs.Passed.{is_it}
use Rattle.amqp_endpoint_laws.specs.Taken.{asked_in}
use Rattle.amqp_endpoint_laws.proofs.AttachedBehind.{allocates, goes}
use Rattle.amqp_endpoint_laws.proofs.Behind.{behind-routes}
use Rattle.amqp_endpoint_laws.proofs.ComesAttachedHeard.{reaches-link}
use Rattle.amqp_endpoint_laws.proofs.ComesAttachedHeld.{end-held, received-before, receiving-holds}
use Rattle.amqp_endpoint_laws.proofs.HeldKept.{agree-kept}
use Rattle.amqp_endpoint_laws.proofs.HoldingDeeds.{attached-enters, deed-rests}
use Rattle.amqp_endpoint_laws.proofs.HoldingEnds.{Part, Stays, attached-so, held_end, held_link, stands_so}
use Rattle.amqp_endpoint_laws.proofs.HoldingEnds.{stays-still}
use Rattle.amqp_endpoint_laws.proofs.HoldingTalk.{EntersAt, changed-live, each-same, held_in}
use Rattle.amqp_endpoint_laws.proofs.HoldingWaits.{IsUnattached, unattached}
use Rattle.amqp_endpoint_laws.proofs.LifePlace.{CameBy, IsUnentered, came-so, unentered-none}
use Rattle.amqp_endpoint_tables.specs.LinkState.{held_at}
use Rattle.amqp_endpoint_laws.proofs.PassedPlaces.{eq-same}
use Rattle.amqp_endpoint_laws.proofs.Placing.{IsPlaced, is-again, is-new, link-entered}

-- behind the call by which a link attaches, one that is attached is this one, in its place, or was so before
module _ (old new : LinkedSessions) (limit number : ℕ) (it : End) (link : ℕ) (events : List Event)
    (frames : List SessionFrame)
    (a : IsPlaced old.talk old.links limit number it link events frames new.talk new.links)
    (fresh : IsUnattached it) (agree : Agree new) where
  abbrev own_handle : ℕ
  own_handle = a.placed.handle.0

  stands-there : number_at new.talk.sessions number own_handle ≡ Some link
  stands-there =
      agree.held link number a.placed.handle
      (ap (held_at new.links) a.numbered ∙ a.held)

  pub enters-or-was : (other session : ℕ) (own : OutputHandle) (held : Option Delivery)
      → IsReceiving new other session own held
      → ((other ≡ link) × (own.0 ≡ own_handle)) ⊎ IsReceiving old other session own held
  enters-or-was other session own held r = by (session == number) refl
    where
      apart : (own.0 == own_handle) ≡ false
          → EntersAt own_handle (live_at old.talk.sessions session) (live_at new.talk.sessions session)
          → Stays (held_in (live_at old.talk.sessions session) own.0)
          (held_in (live_at new.talk.sessions session) own.0)
      apart e (inl rests) = rests.holds own.0
      apart e (inr f) = f.others own.0 e

      here : session ≡ number → (c : Bool) → (own.0 == own_handle) ≡ c
          → ((other ≡ link) × (own.0 ≡ own_handle)) ⊎ IsReceiving old other session own held
      here same true e =
          let by_it : own.0 ≡ own_handle = same_number own.0 own_handle e in
          inl (
            same_Some other link
                (sym r.numbered ∙ ap (λ (n : ℕ). number_at new.talk.sessions n own.0) same
                ∙ ap (λ (h : ℕ). number_at new.talk.sessions number h) by_it ∙ stands-there),
            by_it,
          )
      here same false e =
          inr (received-before old new other session own held
          (apart e
          (attached-enters old.talk new.talk old.links new.links limit number it link events frames fresh a session))
          r)

      by : (b : Bool) → (session == number) ≡ b
          → ((other ≡ link) × (own.0 ≡ own_handle)) ⊎ IsReceiving old other session own held
      by true e = here (same_number session number e) (own.0 == own_handle) refl
      by false e =
          let i = a.attaches.attaches in
          inr (received-before old new other session own held
          (each-same Stays stays-still (live_at old.talk.sessions session) (live_at new.talk.sessions session)
          (ap live_of
          ((at session old.talk.sessions (ChangesLive number i.before i.after) new.talk.sessions i.stepped).other e))
          own.0)
          r)

-- a link that attaches of itself waits
sent-waits : (its : LinkSettings) (handle : OutputHandle) (incomplete : Bool) (new : End)
    → attach_sent (with_handle (receiver_by its) handle) incomplete ≡ Some new → stands_so (state_of new) ≡ Some false
sent-waits its handle false new is = ap (λ (e : End). stands_so (state_of e)) (sym (same_Some _ new is))
sent-waits its handle true new is = ap (λ (e : End). stands_so (state_of e)) (sym (same_Some _ new is))

waiting-apart : (number : ℕ) (e : End) (link : ℕ) (held : Option Delivery) → stands_so (state_of e) ≡ Some false
    → held_end number e ≡ Some (link, (true, held)) → ⊥
waiting-apart number e link held waits is =
    let it = end-held number e link held is in
    true≢false
    (same_Some true false
    (sym (attached-so it.receiver.base.local_state it.attached) ∙ ap (λ (x : End). stands_so (state_of x)) (sym it.is)
    ∙ waits))

-- a link that is held is there
held-there : (o : Option Link) (x : ℕ × Part) → held_link o ≡ Some x → (link : Link) × (o ≡ Some link)
held-there None x is = absurd (none-some x is)
held-there (Some link) x is = (link, refl)

-- the links that are asked for in a session that goes on
asked-live : (o : Option Stood) (session : Session) → live_of o ≡ Some session → asked_in o ≡ session.value.asked
asked-live (Some (Live channel s)) session live = ap (λ (x : Session). x.value.asked) (same_Some s session live)
asked-live (Some (Asked channel a)) session live = absurd (none-some session live)
asked-live (Some (Ending channel own_end)) session live = absurd (none-some session live)
asked-live (Some (Over peer_end complete)) session live = absurd (none-some session live)
asked-live None session live = absurd (none-some session live)

-- a link answers one that the peer asked for in this session: that had its name, and the peer sends; the peer's handle
-- leads to it from then on, and it holds nothing
pub record AnswersAsked (old new : LinkedSessions) (number : ℕ) (its : LinkSettings) (own : OutputHandle)
    (held : Option Delivery) : Type 0 where
  pub theirs : ℕ
  pub asked : AskedLink
  pub there : map.get (asked_in (place_at old.talk.sessions number)) theirs ≡ Some asked
  pub named : asked.attach.name ≡ its.name
  pub sends : asked.attach.role ≡ role.Sender
  pub leads : leads_there (live_at new.talk.sessions number) theirs own ≡ true
  pub empty : held ≡ None

module _ (old new : LinkedSessions) (limit number : ℕ) (its : LinkSettings) (link : ℕ) (events : List Event)
    (frames : List SessionFrame)
    (d : IsDeed linked old (Does limit (call.AttachReceiver number its) (attaching link events) frames) new)
    (agree : Agree old) (own : OutputHandle) (held : Option Delivery) (r : IsReceiving new link number own held) where
  abbrev a : LinkAttached old.talk old.links limit number (receiver_by its) link events frames new.talk new.links
  a = d.0

  abbrev before : Session
  before = a.attaches.attaches.before

  abbrev after : Session
  after = a.attaches.attaches.after

  is-held : held_in (live_at new.talk.sessions number) own.0 ≡ Some (link, (true, held))
  is-held = receiving-holds new link number own held r

  unentered : IsUnentered link old
  unentered =
      record {
        agrees = agree;
        none = (link-entered old new limit number (receiver_by its) link events frames a).0;
      }

  its-handle : own.0 ≡ a.placed.handle.0
  its-handle =
      elim
      (enters-or-was old new limit number (receiver_by its) link events frames
      (is-new old.talk new.talk old.links new.links limit number (receiver_by its) link events frames a) refl
      (agree-kept old new (Does limit (call.AttachReceiver number its) (attaching link events) frames) d agree) link
      number own held r) [
        | inl (same, by_it) ↦ by_it
        | inr was ↦
            absurd
            (unentered-none link old unentered number own.0 (true, held)
            (receiving-holds old link number own held was))
      ]

  holds-none : held ≡ None
  holds-none =
      by
      (came-so link (Does limit (call.AttachReceiver number its) (attaching link events) frames) old new d (λ is. is)
      number own.0 (true, held) is-held)
    where
      by : CameBy link old new (held_in (live_at old.talk.sessions number) own.0) (true, held) → held ≡ None
      by (inl there) = absurd (unentered-none link old unentered number own.0 (true, held) there)
      by (inr (inl s)) = absurd (unentered-none link old unentered number own.0 s.part s.there)
      by (inr (inr e)) = e.empty

  stands : live_at new.talk.sessions number ≡ Some after
  stands = changed-live number before after old.talk.sessions new.talk.sessions a.attaches.attaches.stepped

  its-held : held_link (link_at after.value.session a.placed.handle.0) ≡ Some (link, (true, held))
  its-held =
      sym (ap (λ (o : Option Session). held_in o a.placed.handle.0) stands)
      ∙ ap (λ (h : ℕ). held_in (live_at new.talk.sessions number) h) (sym its-handle) ∙ is-held

  by-input : (input : Option InputHandle) → Meets before.value.asked (receiver_by its) input
      → AttachedBy input before.value [] limit (receiver_by its) a.placed after.value a.attaches.frames
      → AnswersAsked old new number its own held
  by-input None m (s, told) =
      absurd
      (waiting-apart a.placed.link s.attaching link held
      (sent-waits its a.placed.handle s.attach.incomplete_unsettled s.attaching s.sends.sent)
      (sym (ap held_link
      (s.allocates.3 a.placed.handle.0
      ∙ ap
      (λ (b : Bool).
      if b then Some (with_number a.placed.link s.attaching)
      else link_at before.value.session a.placed.handle.0)
      (eq-same a.placed.handle.0)))
      ∙ its-held))
  by-input (Some input) m s =
      let it = receiver_by its in
      let got = allocates before.value after.value limit it a.placed a.attaches.frames input s in
      let behind = goes before.value after.value limit it a.placed a.attaches.frames input s in
      let (it_stands, is_there) =
      held-there (link_at after.value.session a.placed.handle.0) (link, (true, held)) its-held in
      record {
        theirs = input.0;
        asked = m.link;
        there =
            ap (λ (t : AskedLinks). map.get t input.0)
            (asked-live (place_at old.talk.sessions number) before a.attaches.attaches.stepped.0)
            ∙ m.there;
        named = m.named;
        sends = m.has_role;
        leads =
            ap (λ (o : Option Session). leads_there o input.0 own) stands
            ∙ ap (λ (o : Option ℕ). is_it o own.0)
            (reaches-link after.value.session input.0 a.placed.handle.0 it_stands
            (ap (λ (r : RouteTable). map.get r input.0) (behind-routes s.frames s.mid after.value behind)
            ∙ ap (λ (x : LinksIn). map.get x.routes input.0) got.5
            ∙ get-put (s.ready).session.routes input.0 input.0 a.placed.handle.0
            ∙ ap
            (λ (b : Bool). cond b (Some a.placed.handle.0) (map.get (s.ready).session.routes input.0))
            (eq-same input.0))
            is_there)
            ∙ ap (λ (h : ℕ). h == a.placed.handle.0) its-handle ∙ eq-same a.placed.handle.0;
        empty = holds-none;
      }

  answers-asked : AnswersAsked old new number its own held
  answers-asked =
      let one = a.attaches.attaches.attached in by-input one.input one.meets one.attached

-- behind the call by which a receiving link attaches it is attached only where it answers an asked one
pub call-attaches : (limit number : ℕ) (its : LinkSettings) (link : ℕ) (events : List Event)
    (frames : List SessionFrame) (old new : LinkedSessions)
    → IsDeed linked old (Does limit (call.AttachReceiver number its) (attaching link events) frames) new → Agree old
    → (own : OutputHandle) (held : Option Delivery) → IsReceiving new link number own held
    → AnswersAsked old new number its own held
call-attaches limit number its link events frames old new d agree own held r =
    answers-asked old new limit number its link events frames d agree own held r

-- by a call another link than this is to attach, or none is
abbrev pub AttachesOther : ℕ → Call → Said → Type 0
AttachesOther link (call.AttachSender number its) (attaching other events) = link ≢ other
AttachesOther link (call.AttachReceiver number its) (attaching other events) = link ≢ other
AttachesOther link (call.Resume other number) (attaching one events) = link ≢ other
AttachesOther link it answer = Unit {0}

-- and no frame is taken in a deed
abbrev pub IsApart : ℕ → Deed → Type 0
IsApart link (Takes limit f frames events) = ⊥
IsApart link (Does limit it answer frames) = AttachesOther link it answer
IsApart link deed = Unit {0}

module _ (link session : ℕ) (own : OutputHandle) (held : Option Delivery) (old new : LinkedSessions) where
  attached-apart : (limit number : ℕ) (it : End) (other : ℕ) (events : List Event) (frames : List SessionFrame)
      → IsUnattached it → IsPlaced old.talk old.links limit number it other events frames new.talk new.links
      → Agree new → link ≢ other → IsReceiving new link session own held → IsReceiving old link session own held
  attached-apart limit number it other events frames fresh a agree apart r =
      elim (enters-or-was old new limit number it other events frames a fresh agree link session own held r) [
        | inl (same, by_it) ↦ absurd (apart same)
        | inr was ↦ was
      ]

  call-apart : (it : Call) (answer : Said) (limit : ℕ) (frames : List SessionFrame)
      → IsDeed linked old (Does limit it answer frames) new → Agree new → AttachesOther link it answer
      → IsReceiving new link session own held → IsReceiving old link session own held
  call-apart (call.AttachSender number its) (attaching other events) limit frames d agree apart r =
      attached-apart limit number (sender_by its) other events frames tt
      (is-new old.talk new.talk old.links new.links limit number (sender_by its) other events frames d.0) agree apart r
  call-apart (call.AttachReceiver number its) (attaching other events) limit frames d agree apart r =
      attached-apart limit number (receiver_by its) other events frames refl
      (is-new old.talk new.talk old.links new.links limit number (receiver_by its) other events frames d.0) agree apart
      r
  call-apart (call.Resume other number) (attaching one events) limit frames d agree apart r =
      attached-apart limit number d.0.resumes.link other events frames
      (unattached d.0.resumes.link d.0.resumes.may.state)
      (is-again old.talk new.talk old.links new.links limit number other one events frames d.0) agree apart r
  call-apart (call.AttachSender number its) answer limit frames d agree apart r = absurd d.0
  call-apart (call.AttachReceiver number its) answer limit frames d agree apart r = absurd d.0
  call-apart (call.Resume other number) answer limit frames d agree apart r = absurd d.0
  call-apart it answer limit frames d agree apart r =
      received-before old new link session own held
      ((deed-rests (Does limit it answer frames) tt old new d session).holds own.0) r

  -- by any other deed than these no link comes to be attached
  pub other-calls : (deed : Deed) → IsDeed linked old deed new → Agree old → IsApart link deed
      → IsReceiving new link session own held → IsReceiving old link session own held
  other-calls (Takes limit f frames events) d agree apart r = absurd apart
  other-calls (Does limit it answer frames) d agree apart r =
      call-apart it answer limit frames d (agree-kept old new (Does limit it answer frames) d agree) apart r
  other-calls deed d agree apart r =
      received-before old new link session own held ((deed-rests deed tt old new d session).holds own.0) r
